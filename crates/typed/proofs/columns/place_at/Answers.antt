-- `place_at` meets its contract. Invariant: the place is that of the index, in the characters in front of the one that is asked for.
use mathlib.Core.Path.{refl, ◌∙◌}
use Rattle.std.proofs.Common.{rules}
use Rattle.typed.specs.Places.{place_at, behind}
use Rattle.typed.proofs.Counting.{down, right, counted_all}
use Rattle.typed.proofs.columns.place_at.Goals.{then-c-eq10, else-c-eq10}
use Rattle.typed.proofs.columns.place_at.Goals as goal

pub loop-c-init : goal.loop-c-init
unfolding place_at behind
loop-c-init c = record { few_lines = search rules; few_columns = search rules; is = refl }

pub loop-c-preserved : goal.loop-c-preserved
loop-c-preserved c =
    let k = c.loop-c.invariant in
    elim c.if-c-eq10.branch [
      | then-c-eq10 w ↦ down k c.loop-c-test.true w.if-c-eq10.true w.place-is
      | else-c-eq10 w ↦ right k c.loop-c-test.true w.if-c-eq10.false w.place-is
    ]

pub returns : goal.returns
returns c = c.loop-c.invariant.is ∙ counted_all _ _ _ c.loop-c-test.false
