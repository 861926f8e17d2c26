-- The loop of `run_bytes`. Invariant: sixteen records were lent, the buffers are those that were lent, and buffers and records hold the state after
-- the first i bytes (`Holding`).
use mathlib.Core.Path.{◌≡◌}
use lib.ListN.{length}
use Rattle.runfile.specs.Operations.{rows_from}
use Rattle.engine.proofs.Loop.{Holding}
use Rattle.engine.proofs.run_bytes.Given as goal

abbrev pub invariant-loop-i : goal.invariant-loop-i
invariant-loop-i l =
    (length l.fn.part.from.processes ≡ 16)
    × Holding (rows_from l.operations.stride l.operations.table.now 0 l.operations.count) l.fn.part.present l.fn.part.from l.schedule l.initial.words l.fn.log l.fn.answers l.i l.words l.log.numbers.now l.answers.numbers.now l.processes l.log.count l.answers.count
    × (l.log.numbers.ghost_name ≡ l.initial.log.numbers.ghost_name)
    × (l.answers.numbers.ghost_name ≡ l.initial.answers.numbers.ghost_name)
