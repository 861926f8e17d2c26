-- `sum_over` meets its contract: the blocks and what is behind them are the buffer (`all_there`), a turn of eight numbers keeps the whole
-- sum (`block_more`), so does a turn of one (`one_more`), and no number is left in the end (`blocks_over`, `over`).
use Rattle.std.proofs.Common.{rules, ap, arith, mod-lt}
use Rattle.sweep.specs.Sum.{sum_from}
use Rattle.sweep.proofs.AtOnce.{all_there, long_there, block_more, blocks_over, one_more, over}
use Rattle.sweep.proofs.buffers.sum_over.Goals as goal

pub loop-block-init : goal.loop-block-init
loop-block-init c = (mod-lt c.args.before (omega arith), ap (sum_from _) (all_there c.args.buffer.now _ _ c.as_chunks.ensures.front c.as_chunks.ensures.back))

pub loop-block-preserved : goal.loop-block-preserved
loop-block-preserved c =
    let l = c.loop-block in
    (omega arith, block_more l.sum _ _ _ _ l.block-index _ l.invariant.1 c.loop-block-test.true (search rules) (long_there c.args.buffer.now _ _ c.as_chunks.ensures.front c.loop-block-test.true c.as_chunks.ensures.front_len) l.invariant.0 c.weight_of.ensures)

pub loop-number-init : goal.loop-number-init
loop-number-init c =
    let l = c.loop-block in
    (l.invariant.0, blocks_over l.sum _ _ _ l.block-index l.invariant.1 c.loop-block-test.false)

pub loop-number-preserved : goal.loop-number-preserved
loop-number-preserved c =
    let l = c.loop-number in
    (omega arith, one_more c.as_chunks.result.1.now l.number-index l.sum _ l.invariant.1 _ (search rules) (search rules))

pub returns : goal.returns
returns c = let l = c.loop-number in over c.as_chunks.result.1.now l.number-index l.sum _ l.invariant.1 (search rules)
