-- `fill` meets its contract. Invariant: the bytes of the items left, put from here on, give what all bytes put from the front on give.
use Rattle.typed.proofs.Scanning.{filled}
use Rattle.typed.proofs.scan.fill.Goals as goal

pub returns : goal.returns
returns c = filled _ _ c.loop-i.i-iterator.a c.loop-i.i-iterator.b c.loop-i.invariant.0 c.loop-i.invariant.1 c.in-None.ensures.steps
