-- `check` meets `Decides`: refusals 1 to 12 and 16 look at no buffer, so what `check_file` refuses is refused, then the first idle byte, and else 13
-- to 15 decide.
use Rattle.std.proofs.Common.{rules, ◌≡◌, List, ℕ, ◌≤◌, ◌-◌, length}
use mathlib.Core.Path.{sym, ◌∙◌}
use native.Mathlib.Omega.{arith}
use lib.ListN.{take, drop, length-drop}
use lib.Seq.{take_all}
use Rattle.std.proofs.lemmas.Result.{err_from_is_err_and}
use Rattle.runfile.specs.Layout.{header_in, schedule_start, schedule_in}
use Rattle.runfile.specs.Lawful.{longest_any}
use Rattle.runfile.proofs.Lawful.{lawful_file}
use Rattle.runfile.specs.Order.{passes, stops, accepts}
use Rattle.runfile.specs.Refusals.{found, first_byte, first_of, file_checks, later_checks, file_refusal, refusal_of}
use Rattle.runfile.specs.Ups.{idles}
use Rattle.std.specs.Prelude.{Option, Ok}
use Rattle.runfile.specs.declared.Header.{Header}
use Rattle.runfile.specs.declared.Room.{Room}
use Rattle.runfile.proofs.check.Goals as goal

-- where `check_file` has accepted, no check of the file found anything, whatever the buffers, and the header is the file's
clear : (f : List ℕ) (room : Room) (h : Header) → file_refusal f ≡ Ok h → first_of (found (header_in f) f room) file_checks (header_in f) ≡ Ok h
unfolding file_refusal
clear f room h e = e

is_head : (f : List ℕ) (room : Room) (h : Header) → file_refusal f ≡ Ok h → header_in f ≡ h
is_head f room h e = (accepts (found (header_in f) f room) (header_in f) file_checks _ (clear f room h e)).0

-- the schedule is handed on as the file's part from its start to the end
part_found : (f : List ℕ) (g h : Header) (start : ℕ) (r : Option ℕ) → g ≡ h → start ≡ schedule_start h → r ≡ first_byte start idles (take (length f - start) (drop start f)) → first_byte (schedule_start g) idles (schedule_in g f) ≡ r
part_found f g h start r same begins e = rw (same, e, begins, take_all (length f - schedule_start h) (drop (schedule_start h) f) (simp length-drop (omega arith)))

within : (f : List ℕ) (h : Header) (start : ℕ) → file_refusal f ≡ Ok h → start ≡ schedule_start h → start ≤ length f
within f h start e b = let x = (lawful_file f h e).head.exact in omega arith

pub returns-in_err-header : goal.returns-in_err-header
unfolding file_refusal refusal_of
returns-in_err-header c =
    let f = c.args.file.now in
    record { result = let p = err_from_is_err_and c.from_residual.result c.from_residual.ensures.1 in rw (p.1, p.2) (sym (stops (found (header_in f) f c.args.room) _ file_checks later_checks _ (sym c.in_err-header.ensures))) }

pub slice_bounds-first_idle-count : goal.slice_bounds-first_idle-count
slice_bounds-first_idle-count c = within _ _ _ (sym c.in_ok-header.ensures) c.schedule_start-start.ensures.0

pub slice_bounds-first_idle-start : goal.slice_bounds-first_idle-start
slice_bounds-first_idle-start c = let w = within _ _ _ (sym c.in_ok-header.ensures) c.schedule_start-start.ensures.0 in search rules

pub first_idle-requires : goal.first_idle-requires
first_idle-requires c =
    let l = lawful_file _ _ (sym c.in_ok-header.ensures) in
    let w = within _ _ _ (sym c.in_ok-header.ensures) c.schedule_start-start.ensures.0 in
    let m = longest_any _ _ l.head in
    search rules

pub returns-in-Some : goal.returns-in-Some
unfolding refusal_of
returns-in-Some c =
    let f = c.args.file.now in
    let finds = found (header_in f) f c.args.room in
    let accepted = sym c.in_ok-header.ensures in
    let idle_found = part_found f _ _ _ _ (is_head f c.args.room _ accepted) c.schedule_start-start.ensures.0 c.first_idle.ensures in
    record { result = sym (passes finds _ file_checks later_checks _ (clear f c.args.room _ accepted) ∙ rw (idle_found ∙ c.in-Some.is)) }

pub returns : goal.returns
unfolding refusal_of
returns c =
    let f = c.args.file.now in
    let finds = found (header_in f) f c.args.room in
    let accepted = sym c.in_ok-header.ensures in
    let same = is_head f c.args.room _ accepted in
    let idle_found = part_found f _ _ _ _ same c.schedule_start-start.ensures.0 c.first_idle.ensures in
    record { result = sym (passes finds _ file_checks later_checks _ (clear f c.args.room _ accepted) ∙ rw (idle_found ∙ c.in_default.is) (sym (rw (sym same) at (c.check_room.ensures f)))) }
