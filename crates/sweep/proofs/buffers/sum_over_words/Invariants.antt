-- `sum_over_words` meets its contract: before each turn the sum over the words that are left is the whole sum.
use Rattle.std.proofs.Common.{drop, ◌%◌, ◌≡◌, ◌<◌}
use Rattle.sweep.specs.Sum.{modulus, sum_from, halves}
use Rattle.sweep.proofs.buffers.sum_over_words.Given as goal

abbrev pub invariant-loop-word : goal.invariant-loop-word
invariant-loop-word l = (l.sum < modulus) × (sum_from l.sum (halves (drop l.word-index l.words)) ≡ sum_from (l.before % modulus) (halves l.words))
