-- Two wrong machines, to be held against the claim, which is said of each one's own states. Each differs from the bench machine in one rule of recovery,
-- and each has a short run that breaks the claim (`proofs/Wrong.antt`): so it is not a claim that any machine would meet.
use Rattle.std.specs.Prelude.{ℕ, cond, List, [], ◌∷◌, ◌++◌, eqb, replicate, None}
use Rattle.runfile.specs.declared.Row.{Row}
use Rattle.machine.specs.declared.Process.{Process}
use Rattle.machine.specs.declared.Stage.TheVariants.{A1}
use Rattle.machine.specs.declared.Status.{Status}
use Rattle.machine.specs.declared.Status.TheVariants.{Down, Idle, N2, N3, Busy}
use Rattle.machine.specs.Turn.{Turn, Quiet}
use Rattle.machine.specs.Stages.{stage_number}
use Rattle.machine.specs.Records.{with_status}
use Rattle.machine.specs.Machine.{State}
use Rattle.demand3.specs.Rule.{step_by}
use Rattle.demand3.specs.Wrong.{by_value}
use Rattle.power_cut.specs.Statement.{cut, end_of}

abbrev compare : (process old new : ℕ) → Row
compare process old new = record { process = process; kind = 1; word = 0; old = old; new = new }

-- 1. A V3 that goes by whether the value is new (R280), in place of the own flip bit and the kept bit (R123). Two workers move 7 to 8. Worker 0 stands
-- before its A4, worker 1 has swapped, and none has been told; then the power is cut
abbrev pub guess_rows : List Row
guess_rows = compare 0 7 8 ∷ compare 1 7 8 ∷ []

abbrev pub guessing : (t byte : ℕ) → State → State
guessing = step_by (λ log. by_value) guess_rows

abbrev pub guess_before : List ℕ
guess_before = replicate 6 0x00 ++ replicate 7 0x01

abbrev pub guess_more : List ℕ
guess_more = 0x20 ∷ replicate 5 0x00 ++ 0x21 ∷ replicate 5 0x01

unfoldable pub guess_cut : State
guess_cut = cut guessing 2 guess_rows (7 ∷ []) guess_before

unfoldable pub guess_end : State
guess_end = end_of guessing 2 guess_rows (7 ∷ []) guess_before guess_more

-- 2. A recovery that does not say fail (R126) and begins the operation again, from A1 on
unfoldable pub again : Process → Status → Turn → Turn
again r Down u = u
again r Idle u = u
again r N2 u = u
again r N3 u = u
again r (Busy stage seen read_at tried_at answer) u = cond (eqb (stage_number stage) 11) (Quiet (with_status (Busy A1 0 0 0 None) r)) u

unfoldable pub from_the_start : Row → (now next : ℕ) → Process → Turn → Turn
from_the_start row now next r u = again r r.status u

-- a worker that moves 7 to 8 is cut off before its A4; after the wake it takes ten steps until it is idle
abbrev pub again_rows : List Row
again_rows = compare 0 7 8 ∷ []

abbrev pub restarting : (t byte : ℕ) → State → State
restarting = step_by (λ log. from_the_start) again_rows

abbrev pub again_before : List ℕ
again_before = replicate 6 0x00

abbrev pub again_more : List ℕ
again_more = 0x20 ∷ replicate 10 0x00
