-- One byte, in the machine's own terms: the named process alone changes unless the byte is a crash of all (R74); and a step of one that is down or has
-- no rows left, a crash of one that is down and a wake of one that is awake change nothing but the position (R140 to R143).
use Prim.Native.Nat.{ℕ, zero, suc, ◌≤◌, ◌<◌}
use Rattle.std.specs.Prelude.{◌≡◌}
use Rattle.std.proofs.Math.Path.{refl}
use Rattle.std.proofs.Common.{sym, ap, ◌∙◌, arith, le-ltb}
use mathlib.Core.List.{List, [], ◌∷◌, map}
use Rattle.std.proofs.Math.ListN.{length, get_or}
use Rattle.std.proofs.Math.Seq.{get_or-set_other}
use Rattle.std.proofs.lemmas.List.{set-get_or}
use Rattle.runfile.specs.declared.Row.{Row}
use Rattle.runfile.specs.Actions.{Action, step as steps, crash as crashes, wake as wakes, crash_all as crashes_all, none as idles, action, named}
use Rattle.runfile.specs.Operations.{count}
use Rattle.machine.specs.declared.Process.{Process}
use Rattle.machine.specs.declared.Status.{Status}
use Rattle.machine.specs.declared.Status.TheVariants.{Down, Idle, N2, N3, Busy}
use Rattle.machine.specs.Records.{fresh, crashed, waked}
use Rattle.machine.specs.Steps.{step_turn_in}
use Rattle.machine.specs.Machine.{State, Move, alone, turn, turn_in, apply, applied, proc_at, act, act_in, step, step_in}

module _ (rows : List Row) (t : ℕ) (byte : ℕ) (s : State) where
  -- the process that the byte names
  abbrev pub me : ℕ
  me = named byte

  abbrev pub mine : Process
  mine = proc_at (named byte) s

  -- every other record is left as it was
  pub others : (action byte ≡ crashes_all → ⊥) → (q : ℕ) → (q ≡ me → ⊥) → proc_at q (step rows t byte s) ≡ proc_at q s
  unfolding step_in act_in applied apply proc_at
  others not_all q other = go (action byte) not_all
    where
      go : (a : Action) → (a ≡ crashes_all → ⊥) → get_or (act rows t a (named byte) s).processes q fresh ≡ get_or s.processes q fresh
      go steps n = get_or-set_other s.processes (named byte) q _ fresh other
      go crashes n = get_or-set_other s.processes (named byte) q _ fresh other
      go wakes n = get_or-set_other s.processes (named byte) q _ fresh other
      go crashes_all n = absurd (n refl)
      go idles n = refl

  -- a record put back as it was, with no effect, changes nothing
  same : applied me (alone mine) s ≡ s
  unfolding applied apply proc_at
  same = rw (set-get_or s.processes (named byte) fresh)

  as_it_was : (m : Move) → m ≡ alone mine → applied me m s ≡ s
  as_it_was m e = ap (λ u. applied me u s) e ∙ same

  pub step_down : action byte ≡ steps → mine.status ≡ Down → step rows t byte s ≡ s
  unfolding step_in act_in turn_in step_turn_in
  step_down a e = rw a (as_it_was _ (ap (turn rows me t s.words s.log mine) e))

  pub step_done : action byte ≡ steps → mine.status ≡ Idle → count rows me ≤ mine.begun → step rows t byte s ≡ s
  unfolding step_in act_in turn_in step_turn_in
  step_done a e h = rw a (as_it_was _ (ap (turn rows me t s.words s.log mine) e ∙ rw (le-ltb mine.begun (count rows me) h)))

  pub crash_down : action byte ≡ crashes → mine.status ≡ Down → step rows t byte s ≡ s
  unfolding step_in act_in
  crash_down a e = rw a (as_it_was _ (ap (λ st. alone (record { status = st; opened = mine.opened; stored = mine.stored; checkpoint = mine.checkpoint; kept = mine.kept; begun = mine.begun })) (sym e)))

  pub wake_awake : action byte ≡ wakes → (mine.status ≡ Down → ⊥) → step rows t byte s ≡ s
  unfolding step_in act_in
  wake_awake a n = rw a (as_it_was _ (ap alone (go mine.status n)))
    where
      go : (st : Status) → (st ≡ Down → ⊥) → waked mine st ≡ mine
      go Down n = absurd (n refl)
      go Idle n = refl
      go N2 n = refl
      go N3 n = refl
      go (Busy stage seen read_at tried_at answer) n = refl

  pub no_action : action byte ≡ idles → step rows t byte s ≡ s
  unfolding step_in act_in
  no_action a = rw a

  -- crashes and wakes touch no word, no log row and no answer row (R134)
  pub record Untouched (u : State) : Type 0 where
    pub words : u.words ≡ s.words
    pub log : u.log ≡ s.log
    pub answers : u.answers ≡ s.answers

  pub only_steps : (action byte ≡ steps → ⊥) → Untouched (step rows t byte s)
  unfolding step_in act_in applied apply
  only_steps n = go (action byte) n
    where
      go : (a : Action) → (a ≡ steps → ⊥) → Untouched (act rows t a (named byte) s)
      go steps n = absurd (n refl)
      go crashes n = record { words = refl; log = refl; answers = refl }
      go wakes n = record { words = refl; log = refl; answers = refl }
      go crashes_all n = record { words = refl; log = refl; answers = refl }
      go idles n = record { words = refl; log = refl; answers = refl }

  -- a crash of all brings down every process that is awake (R133)
  pub all_down : action byte ≡ crashes_all → (q : ℕ) → q < length s.processes → proc_at q (step rows t byte s) ≡ crashed (proc_at q s)
  unfolding step_in act_in apply proc_at
  all_down a q h = rw a (go s.processes q h)
    where
      go : (l : List Process) (q : ℕ) → q < length l → get_or (map crashed l) q fresh ≡ crashed (get_or l q fresh)
      go [] q h = absurd (omega arith)
      go (r ∷ l) zero h = refl
      go (r ∷ l) (suc q) h = go l q (omega arith)
