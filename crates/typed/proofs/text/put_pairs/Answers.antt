-- `put_pairs` meets its contract. Invariant: the bytes still to be put, from here on, give the whole.
use Rattle.typed.proofs.Putting.{one_more, done}
use Rattle.typed.proofs.text.put_pairs.Goals as goal

pub loop-i-preserved : goal.loop-i-preserved
loop-i-preserved c = one_more _ _ _ _ _ _ _ _ _ c.loop-i-test.true c.digit_of.ensures c.digit_of-in-loop-i.ensures c.after_byte.ensures c.loop-i.invariant

pub returns : goal.returns
returns c = done _ _ _ _ _ _ _ c.loop-i-test.false c.loop-i.invariant
