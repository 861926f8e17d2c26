-- `halves_of` meets its contract by what `halves` is.
use Rattle.std.proofs.Common.{refl}
use Rattle.sweep.specs.Sum.{halves}
use Rattle.sweep.proofs.buffers.halves_of.Goals as goal

pub returns : goal.returns
unfolding halves
returns c = refl
