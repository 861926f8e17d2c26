-- `fill` meets its contract. Invariant: as many places as turns were taken are filled, and filling goes on with the number that comes next.
use Rattle.std.proofs.Common.{◌≡◌}
use Rattle.sweep.specs.Filled.{filled}
use Rattle.sweep.proofs.Onward.{behind}
use Rattle.sweep.proofs.buffers.fill.Given as goal

abbrev pub invariant-loop-place : goal.invariant-loop-place
invariant-loop-place g l = behind g.T.Number.next l.place-index l.number l.buffer ≡ filled g.T.Number.next l.initial.number l.initial.buffer
