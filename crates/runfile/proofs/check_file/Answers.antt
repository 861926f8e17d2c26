-- `check_file` meets its contract: a file that is long enough is refused by its head, or its head is lawful and the body decides.
use mathlib.Core.Path.{sym}
use borrow.Author.Tests.{le-ltb}
use lib.ListN.{length}
use mathlib.Core.List.{List}
use native.Mathlib.Omega.{arith}
use Prim.Native.Nat.{ℕ}
use Rattle.std.proofs.lemmas.Result.{err_from_is_err_and}
use Rattle.runfile.specs.Layout.{header_in}
use Rattle.runfile.specs.Lawful.{lawful_head, longest_any}
use Rattle.runfile.specs.Order.{passes, stops, accepts}
use Rattle.runfile.specs.Refusals.{found, no_room, head_checks, body_checks, file_refusal}
use Rattle.runfile.proofs.check_file.Goals as goal

pub returns-in_err-check_head : goal.returns-in_err-check_head
unfolding file_refusal
returns-in_err-check_head c =
    let f : List ℕ = c.args.file.now in
    let checked = sym (rw c.header_of-header.ensures at c.in_err-check_head.ensures) in
    let p = err_from_is_err_and c.from_residual.result c.from_residual.ensures.1 in rw (p.1, p.2) (sym (rw (le-ltb (length f) 11 (omega arith)) (stops (found (header_in f) f no_room) _ head_checks body_checks _ checked)))

pub check_body-requires : goal.check_body-requires
check_body-requires c =
    let f : List ℕ = c.args.file.now in
    let checked = sym (rw c.header_of-header.ensures at c.in_ok-check_head.ensures) in
    let h = accepts (found (header_in f) f no_room) (header_in f) head_checks _ checked in
    let l = lawful_head (header_in f) f no_room h.1 in
    rw c.header_of-header.ensures (l.exact, longest_any (header_in f) f l)

pub returns : goal.returns
unfolding file_refusal
returns c =
    let f : List ℕ = c.args.file.now in
    let checked = sym (rw c.header_of-header.ensures at c.in_ok-check_head.ensures) in
    sym (rw (le-ltb (length f) 11 (omega arith), passes (found (header_in f) f no_room) _ head_checks body_checks _ checked) (sym (rw c.header_of-header.ensures at c.check_body.ensures)))
