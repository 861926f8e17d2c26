-- `row_size` meets its contract: the sizes by version are those of Format.
use Rattle.runfile.specs.Format.{row_size, row-narrow, row_wide}
use borrow.Author.Tests.{eq-eqb, ne_eqb}
use Rattle.runfile.proofs.format.row_size.Goals as goal

pub returns-then-version-eq1 : goal.returns-then-version-eq1
unfolding row_size
returns-then-version-eq1 c = (simp (eq-eqb _ _ c.if-version-eq1.true), row-narrow)

pub returns-else-version-eq1 : goal.returns-else-version-eq1
unfolding row_size
returns-else-version-eq1 c = (simp (ne_eqb _ _ c.if-version-eq1.false), row_wide)
