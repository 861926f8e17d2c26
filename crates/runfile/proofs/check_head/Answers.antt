-- `check_head` meets its contract: the mark, then the counts as one part of the list of checks, then the length.
use Rattle.std.proofs.Common.{[], ◌∷◌}
use mathlib.Core.Path.{sym, ◌∙◌}
use borrow.Author.Tests.{eq-eqb, ne_eqb}
use Rattle.std.proofs.lemmas.Result.{err_from_is_err_and}
use Rattle.runfile.specs.Order.{passes, stops}
use Rattle.runfile.specs.Refusals.{found, no_room, count_checks}
use Rattle.runfile.specs.declared.Refusal.TheVariants as refusal
use Rattle.runfile.proofs.check_head.Goals as goal

pub returns-in_err-check_counts : goal.returns-in_err-check_counts
returns-in_err-check_counts c =
    let finds = found c.args.header c.args.file.now no_room in
    let is_marked = sym c.has_mark.ensures ∙ c.if-not-has_mark.false in
    let p = err_from_is_err_and c.from_residual.result c.from_residual.ensures.1 in rw (p.1, p.2) (sym (rw is_marked (stops finds _ count_checks (refusal.Length ∷ []) _ (sym (c.in_err-check_counts.ensures c.args.file.now)))))

pub returns-then-file-length_given : goal.returns-then-file-length_given
returns-then-file-length_given c =
    let finds = found c.args.header c.args.file.now no_room in
    let is_marked = sym c.has_mark.ensures ∙ c.if-not-has_mark.false in
    rw c.whole-then-file-length_given.ensures (sym (rw (is_marked, passes finds _ count_checks (refusal.Length ∷ []) _ (sym (c.in_ok-check_counts.ensures c.args.file.now)), ne_eqb _ _ (rw c.length_given.ensures at c.if-file-length_given.true))))

pub returns : goal.returns
returns c =
    let finds = found c.args.header c.args.file.now no_room in
    let is_marked = sym c.has_mark.ensures ∙ c.if-not-has_mark.false in
    sym (rw (is_marked, passes finds _ count_checks (refusal.Length ∷ []) _ (sym (c.in_ok-check_counts.ensures c.args.file.now)), eq-eqb _ _ (rw c.length_given.ensures at c.if-file-length_given.false)))
