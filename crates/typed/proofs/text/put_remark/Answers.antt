-- `put_remark` meets its contract. Invariant: what is still to be put of the comment, from here on, gives the whole behind `# `.
use mathlib.Core.Path.{◌∙◌}
use Rattle.typed.proofs.Putting.{opened, lined_more, ended}
use Rattle.typed.proofs.text.put_remark.Goals as goal

pub loop-i-preserved : goal.loop-i-preserved
loop-i-preserved c = lined_more _ _ _ _ _ c.loop-i-test.true c.one_line.ensures c.loop-i.invariant

pub returns : goal.returns
returns c = ended _ _ _ _ c.loop-i.auto.i-end c.loop-i-test.false c.loop-i.invariant ∙ opened _ _
