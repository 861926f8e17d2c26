-- `weight_of` meets its contract: the three groups weigh what the eight numbers weigh (`weighs`).
use Rattle.std.proofs.Common.{rules}
use Rattle.sweep.proofs.AtOnce.{weighs}
use Rattle.sweep.proofs.buffers.weight_of.Goals as goal

pub returns : goal.returns
returns c = search (rules, weighs c.args.block.now)
