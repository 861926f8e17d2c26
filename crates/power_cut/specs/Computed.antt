-- Whether bytes are a recovery, computed byte by byte; bytes that pass are one. For instances and for wrong machines, whose bytes are written out.
use Rattle.std.specs.Prelude.{ℕ, zero, suc, ◌<◌, ◌≡◌, Bool, ◌&&◌, ◌||◌}
use Rattle.std.proofs.Math.Path.{refl}
use Rattle.std.proofs.Common.{sym, ◌∙◌, ap, subst, true≢false, arith, eqb-true}
use Rattle.std.proofs.Math.Bool.{true, false}
use mathlib.Core.List.{List, [], ◌∷◌}
use Rattle.std.proofs.Math.Dec.{eqb}
use Rattle.std.proofs.lemmas.Bool.{eqb-false}
use Rattle.runfile.specs.Actions.{Action, step as steps, crash as crashes, wake as wakes, crash_all as crashes_all, none as idles, action, named}
use Rattle.machine.specs.declared.Status.{Status}
use Rattle.machine.specs.declared.Status.TheVariants.{Down, Idle, N2, N3, Busy}
use Rattle.machine.specs.Machine.{State, proc_at}
use Rattle.replay.specs.Replay.{both_true_0, both_true_1}
use Rattle.power_cut.specs.Statement.{power_cut, Mends, waking, stepping, MendsOrCuts, mends, cuts, Recovery, RecoveryWithCuts}

abbrev pub is_idle : Status → Bool
is_idle Down = false
is_idle Idle = true
is_idle N2 = false
is_idle N3 = false
is_idle (Busy stage seen read_at tried_at answer) = false

-- a wake of one that is down, a step of one that is awake and not idle
abbrev pub wake_mends : Status → Bool
wake_mends Down = true
wake_mends Idle = false
wake_mends N2 = false
wake_mends N3 = false
wake_mends (Busy stage seen read_at tried_at answer) = false

abbrev pub step_mends : Status → Bool
step_mends Down = false
step_mends Idle = false
step_mends N2 = true
step_mends N3 = true
step_mends (Busy stage seen read_at tried_at answer) = true

abbrev pub mends_by : Action → Status → Bool
mends_by steps status = step_mends status
mends_by crashes status = false
mends_by wakes status = wake_mends status
mends_by crashes_all status = false
mends_by idles status = false

is_idle_lem : (status : Status) → is_idle status ≡ true → status ≡ Idle
is_idle_lem Down e = absurd (true≢false (sym e))
is_idle_lem Idle e = refl
is_idle_lem N2 e = absurd (true≢false (sym e))
is_idle_lem N3 e = absurd (true≢false (sym e))
is_idle_lem (Busy stage seen read_at tried_at answer) e = absurd (true≢false (sym e))

is_down : (status : Status) → wake_mends status ≡ true → status ≡ Down
is_down Down e = refl
is_down Idle e = absurd (true≢false (sym e))
is_down N2 e = absurd (true≢false (sym e))
is_down N3 e = absurd (true≢false (sym e))
is_down (Busy stage seen read_at tried_at answer) e = absurd (true≢false (sym e))

does_mend : (a : Action) (status : Status) → mends_by a status ≡ true → Mends status a
does_mend steps status e = stepping refl (λ d. true≢false (sym e ∙ ap step_mends d)) (λ d. true≢false (sym e ∙ ap step_mends d))
does_mend crashes status e = absurd (true≢false (sym e))
does_mend wakes status e = waking refl (is_down status e)
does_mend crashes_all status e = absurd (true≢false (sym e))
does_mend idles status e = absurd (true≢false (sym e))

unfoldable pub all_idle : ℕ → State → Bool
all_idle zero s = true
all_idle (suc p) s = is_idle (proc_at p s).status && all_idle p s

all_idle_lem : (P : ℕ) (s : State) → all_idle P s ≡ true → (p : ℕ) → p < P → (proc_at p s).status ≡ Idle
unfolding all_idle
all_idle_lem zero s e p l = absurd (omega arith)
all_idle_lem (suc P) s e p l = go (eqb p P) refl (all_idle_lem P s (both_true_1 (is_idle (proc_at P s).status) (all_idle P s) e) p)
  where
    go : (c : Bool) → eqb p P ≡ c → (p < P → (proc_at p s).status ≡ Idle) → (proc_at p s).status ≡ Idle
    go true q ih = subst (λ p. (proc_at p s).status ≡ Idle) (sym (eqb-true p P q)) (is_idle_lem (proc_at P s).status (both_true_0 (is_idle (proc_at P s).status) (all_idle P s) e))
    go false q ih = ih (let n : p ≡ P → ⊥ = eqb-false p P q in omega arith)

module _ (does : (t byte : ℕ) → State → State) (P : ℕ) where
  unfoldable pub recovers : ℕ → List ℕ → State → Bool
  recovers t [] s = all_idle P s
  recovers t (byte ∷ bytes) s = mends_by (action byte) (proc_at (named byte) s).status && recovers (suc t) bytes (does t byte s)

  pub is_recovery : (t : ℕ) (bytes : List ℕ) (s : State) → recovers t bytes s ≡ true → Recovery does P t bytes s
  unfolding recovers
  is_recovery t [] s e = all_idle_lem P s e
  is_recovery t (byte ∷ bytes) s e =
      (does_mend (action byte) (proc_at (named byte) s).status (both_true_0 (mends_by (action byte) (proc_at (named byte) s).status) _ e), is_recovery (suc t) bytes (does t byte s) (both_true_1 (mends_by (action byte) (proc_at (named byte) s).status) _ e))

  -- and with further cuts
  unfoldable pub recovers_with_cuts : ℕ → List ℕ → State → Bool
  recovers_with_cuts t [] s = all_idle P s
  recovers_with_cuts t (byte ∷ bytes) s = (eqb byte power_cut || mends_by (action byte) (proc_at (named byte) s).status) && recovers_with_cuts (suc t) bytes (does t byte s)

  pub is_recovery_with_cuts : (t : ℕ) (bytes : List ℕ) (s : State) → recovers_with_cuts t bytes s ≡ true → RecoveryWithCuts does P t bytes s
  unfolding recovers_with_cuts
  is_recovery_with_cuts t [] s e = all_idle_lem P s e
  is_recovery_with_cuts t (byte ∷ bytes) s e =
      (go (eqb byte power_cut) refl (both_true_0 (eqb byte power_cut || mends_by (action byte) (proc_at (named byte) s).status) _ e), is_recovery_with_cuts (suc t) bytes (does t byte s) (both_true_1 (eqb byte power_cut || mends_by (action byte) (proc_at (named byte) s).status) _ e))
    where
      go : (c : Bool) → eqb byte power_cut ≡ c → (c || mends_by (action byte) (proc_at (named byte) s).status) ≡ true → MendsOrCuts (proc_at (named byte) s).status byte
      go true q e = cuts (eqb-true byte power_cut q)
      go false q e = mends (does_mend (action byte) (proc_at (named byte) s).status e)
