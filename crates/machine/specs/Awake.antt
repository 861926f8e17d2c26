-- Who is up by the bytes alone (R75) is who is awake in the machine: after any bytes from the start, a process of the file is awake exactly if it is up by
-- the bytes (`awake_up`, in proofs/Awake.antt). Here is what it is to be awake, and what a crash of one that is up and a wake of one that is down make of
-- its record: another.
use Rattle.std.specs.Prelude.{ℕ, ◌≡◌, true, false, ◌↔◌, ◌⊎◌}
use Rattle.std.proofs.Math.Path.{refl, ap}
use Rattle.std.proofs.Common.{sym, ◌∙◌, true≢false, inl, inr}
use Rattle.runfile.specs.Actions.{crash as crashes, wake as wakes, action}
use Rattle.machine.specs.declared.Process.{Process}
use Rattle.machine.specs.declared.Status.{Status}
use Rattle.machine.specs.declared.Status.TheVariants.{Down, Idle, N2, N3, Busy}
use Rattle.machine.specs.Records.{is_awake}
use Rattle.machine.specs.Machine.{after}

pub awake-down : (status : Status) → (is_awake status ≡ false) ↔ (status ≡ Down)
awake-down Down = (λ e. refl, λ e. refl)
awake-down Idle = (λ e. absurd (true≢false e), λ e. ap is_awake e)
awake-down N2 = (λ e. absurd (true≢false e), λ e. ap is_awake e)
awake-down N3 = (λ e. absurd (true≢false e), λ e. ap is_awake e)
awake-down (Busy stage seen read_at tried_at answer) = (λ e. absurd (true≢false e), λ e. ap is_awake e)

-- What a crash or a wake that is not idle makes of the record of the process that it names: one that was awake is down, one that was down is awake.
pub record Strikes (byte : ℕ) (before after : Process) : Type 0 where
  pub crash : action byte ≡ crashes → (is_awake before.status ≡ true) × (after.status ≡ Down)
  pub wake : action byte ≡ wakes → (before.status ≡ Down) × (is_awake after.status ≡ true)

-- so the record is another than before
pub struck : (byte : ℕ) (before after : Process) → Strikes byte before after → (action byte ≡ crashes) ⊎ (action byte ≡ wakes) → before ≡ after → ⊥
struck byte before after s (inl a) e = true≢false (sym (s.crash a).0 ∙ ap (λ (r : Process). is_awake r.status) e ∙ ap is_awake (s.crash a).1)
struck byte before after s (inr a) e = true≢false (sym (s.wake a).1 ∙ ap (λ (r : Process). is_awake r.status) (sym e) ∙ ap is_awake (s.wake a).0)
