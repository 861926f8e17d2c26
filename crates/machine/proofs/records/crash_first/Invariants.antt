-- `crash_first` meets its contract. Invariant: of the records that are to be brought down the first are down, the others as they were.
use mathlib.Core.Path.{◌≡◌}
use lib.ListN.{take}
use Rattle.machine.specs.Records.{down_to}
use Rattle.machine.proofs.records.crash_first.Given as goal

abbrev pub invariant-loop-process : goal.invariant-loop-process
invariant-loop-process l = l.process-items ≡ down_to l.process-index (take l.last l.fn.processes)
