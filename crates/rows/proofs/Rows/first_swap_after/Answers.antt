-- `first_swap_after` meets its contract. Invariant: what the search finds from row i on is what the whole search finds.
use Rattle.rows.proofs.First.{hit, miss, over}
use Rattle.rows.proofs.Rows.first_swap_after.Goals as goal

pub returns-then-is_swap_after : goal.returns-then-is_swap_after
returns-then-is_swap_after c = hit _ _ _ _ _ _ _ _ c.loop-i.invariant _ c.loop-i-test.true c.is_swap_after.ensures c.if-is_swap_after.true

pub loop-i-preserved : goal.loop-i-preserved
loop-i-preserved c =
    miss _ _ _ _ _ _ _ _ c.loop-i.invariant _ c.loop-i-test.true c.is_swap_after.ensures c.if-is_swap_after.false

pub returns : goal.returns
returns c = over _ _ _ _ _ _ _ _ c.loop-i.invariant c.loop-i-test.false
