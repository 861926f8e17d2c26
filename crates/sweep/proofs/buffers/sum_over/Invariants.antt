-- `sum_over` meets its contract: before each turn the sum over what is left is the whole sum, whether a turn takes eight numbers or one;
-- and a sum below the modulus has a product far below 2^64.
use Rattle.std.proofs.Common.{drop, ◌%◌, ◌≡◌, ◌<◌}
use Rattle.sweep.specs.Sum.{modulus, sum_from}
use Rattle.sweep.proofs.AtOnce.{all_of}
use Rattle.sweep.proofs.buffers.sum_over.Given as goal

abbrev pub invariant-loop-block : goal.invariant-loop-block
invariant-loop-block l = (l.sum < modulus) × (sum_from l.sum (all_of (drop l.block-index l.blocks) l.rest) ≡ sum_from (l.before % modulus) l.buffer)

abbrev pub invariant-loop-number : goal.invariant-loop-number
invariant-loop-number l = (l.sum < modulus) × (sum_from l.sum (drop l.number-index l.rest) ≡ sum_from (l.before % modulus) l.buffer)
