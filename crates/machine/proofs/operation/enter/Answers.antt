-- `enter` meets its contract: by the answer, nothing is entered, or one row is.
use Rattle.std.specs.Prelude.{Some}
use Rattle.std.proofs.Common.{inl, inr}
use mathlib.Core.Path.{ap, ◌∙◌}
use Rattle.machine.proofs.Entering.{enter_none, enter_true, enter_was, enter_value, enter_false}
use Rattle.machine.proofs.operation.enter.Goals as goal

pub returns-in_default-clause-entered : goal.returns-in_default-clause-entered
returns-in_default-clause-entered c = enter_none _ _ _ _ _ c.requires.looked.rows c.in_default.is

pub returns-in-True-clause-entered : goal.returns-in-True-clause-entered
returns-in-True-clause-entered c =
    elim c.in-True.is [
      | inl e ↦ enter_true _ _ _ _ _ c.requires.looked.rows (c.in-Some.is ∙ ap Some e)
      | inr p ↦ enter_was _ _ _ _ _ c.requires.looked.rows p.0 (c.in-Some.is ∙ ap Some p.1)
    ]

pub returns-in-Value-clause-entered : goal.returns-in-Value-clause-entered
returns-in-Value-clause-entered c = enter_value _ _ _ _ _ _ (c.in-Some.is ∙ ap Some c.in-Value.is) _ _ _ _ c.insert.ensures.counted c.from-at.ensures c.entry_of-read.ensures c.insert.ensures.inserted

pub returns-in-False-clause-entered : goal.returns-in-False-clause-entered
returns-in-False-clause-entered c =
    enter_false _ _ _ _ _ (c.in-Some.is ∙ ap Some c.in-False.is) _ _ _ _ c.insert-in-False.ensures.counted (rw (c.rows.ensures.same_count, c.rows.ensures.same_numbers) at c.false_at-at.ensures) c.entry_of-lost.ensures c.insert-in-False.ensures.inserted
