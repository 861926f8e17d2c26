-- What a step of recovery (R121 to R126) comes to, whatever its stage: the process goes on to a stage with one step fewer to go, its row still open, and
-- nothing else is touched; or an answer is returned and the row is closed. `proofs/Stages.antt` proves it.
use Prim.Native.Nat.{ℕ}
use Rattle.std.specs.Prelude.{◌≡◌, Bool, Option}
use Rattle.std.proofs.Math.Bool.{cond}
use Rattle.word.specs.Word.{bit}
use Rattle.machine.specs.declared.Answer.{Answer}
use Rattle.machine.specs.declared.Process.{Process}
use Rattle.machine.specs.declared.Stage.{Stage}
use Rattle.machine.specs.declared.Stage.TheVariants.{A1, A2, A3, A4, A5, A6, V1, V2, V3, V4, V5, V6}
use Rattle.machine.specs.declared.Status.{Status}
use Rattle.machine.specs.declared.Status.TheVariants.{Down, Idle, N2, N3, Busy}
use Rattle.machine.specs.Turn.{Turn, Quiet, Replies}
use Rattle.machine.specs.Records.{closed}
use Rattle.machine.specs.Steps.{same_bit}
use Rattle.power_cut.specs.Statement.{steps_by}

abbrev pub InRecovery : Stage → Type 0
InRecovery A1 = ⊥
InRecovery A2 = ⊥
InRecovery A3 = ⊥
InRecovery A4 = ⊥
InRecovery A5 = ⊥
InRecovery A6 = ⊥
InRecovery V1 = Unit {0}
InRecovery V2 = Unit {0}
InRecovery V3 = Unit {0}
InRecovery V4 = Unit {0}
InRecovery V5 = Unit {0}
InRecovery V6 = Unit {0}

-- how many steps there are from a stage until the row is closed
unfoldable pub left : Stage → Option Answer → (checkpoint same : Bool) → ℕ
left A1 stored checkpoint same = 0
left A2 stored checkpoint same = 0
left A3 stored checkpoint same = 0
left A4 stored checkpoint same = 0
left A5 stored checkpoint same = 0
left A6 stored checkpoint same = 0
left V1 stored checkpoint same = steps_by stored checkpoint same
left V2 stored checkpoint same = cond checkpoint (cond same 4 3) 2
left V3 stored checkpoint same = cond same 3 2
left V4 stored checkpoint same = 2
left V5 stored checkpoint same = 1
left V6 stored checkpoint same = 1

-- process p, whose row's word is `now`, is at a stage of recovery with n steps to go
abbrev pub ToGo : (p now n : ℕ) → Process → Status → Type 0
ToGo p now n r Down = ⊥
ToGo p now n r Idle = ⊥
ToGo p now n r N2 = ⊥
ToGo p now n r N3 = ⊥
ToGo p now n r (Busy stage seen read_at tried_at answer) = InRecovery stage × (left stage r.stored r.checkpoint (same_bit (bit p now) r.kept.bit) ≡ n)

-- what a step with n more to go comes to
pub data Mended (p now n : ℕ) (r : Process) : Turn → Type 0 where
  on : (next : Process) → next.opened ≡ r.opened → next.begun ≡ r.begun → ToGo p now n next next.status → Mended p now n r (Quiet next)
  over : (said : Option Answer) → n ≡ 0 → Mended p now n r (Replies (closed r) said)
