-- `sum_over_words` meets its contract: a turn takes the two halves of a word (`word_more`), and no word is left in the end (`words_over`).
use Rattle.std.proofs.Common.{rules}
use Rattle.sweep.proofs.AtOnce.{sum_over_below, word_more, words_over}
use Rattle.sweep.proofs.buffers.sum_over_words.Goals as goal

pub loop-word-preserved : goal.loop-word-preserved
loop-word-preserved c =
    let l = c.loop-word in
    (search (rules, sum_over_below), word_more c.args.words.now l.word-index l.sum _ l.invariant.1 _ (search rules) l.invariant.0 (search rules))

pub returns : goal.returns
returns c = let l = c.loop-word in words_over c.args.words.now l.word-index l.sum _ l.invariant.1 (search rules)
