-- Who is up by the bytes alone (R75) is who is awake in the machine, after any bytes from the start: one byte does to the one what it does to the other.
-- So a crash of one that is up and a wake of one that is down strike its record.
use Rattle.std.specs.Prelude.{ℕ, suc, ◌<◌, ◌≡◌, true, false, ◌↔◌, eqb, length, get_or, set, take, Option, Some, None}
use Rattle.std.proofs.Math.Path.{refl, ap}
use Rattle.std.proofs.Common.{sym, ◌∙◌, subst, true≢false, get_or-set_same, get_or-set_other, eqb-true, eq-eqb}
use Rattle.std.proofs.Math.Bool.{Bool}
use mathlib.Core.List.{List, [], ◌∷◌}
use Rattle.std.proofs.lemmas.List.{length-replicate}
use Rattle.std.proofs.lemmas.Bool.{eqb-false}
use Rattle.runfile.specs.declared.Row.{Row}
use Rattle.runfile.specs.Actions.{Action, step as steps, crash as crashes, wake as wakes, crash_all as crashes_all, none as idles, action, named}
use Rattle.runfile.specs.Ups.{up_as, up_by, up_from, is_up, up_next}
use Rattle.runfile.specs.Lawful.{NotIdle}
use Rattle.rows.specs.declared.Entry.{Entry}
use Rattle.machine.specs.declared.Process.{Process}
use Rattle.machine.specs.declared.Status.{Status}
use Rattle.machine.specs.declared.Status.TheVariants.{Down, Idle, N2, N3, Busy}
use Rattle.machine.specs.Records.{fresh, InWork, is_awake, waked, woken_up}
use Rattle.machine.specs.Steps.{step_turn_in}
use Rattle.machine.specs.Machine.{State, turn, turn_in, apply, applied, proc_at, act, act_in, step, step_in, after, after_in, begin}
use Rattle.machine.specs.Laws.{Turned, still, first_store, second_store, third_store, works, on, ends, turned, fresh_at}
use Rattle.machine.specs.OneByte.{all_down}
use Rattle.machine.specs.Limits.{size, record_of}
use Rattle.machine.specs.Awake.{awake-down, Strikes}

in_work : (status : Status) → InWork status → is_awake status ≡ true
in_work Down w = absurd w
in_work Idle w = absurd w
in_work N2 w = absurd w
in_work N3 w = absurd w
in_work (Busy stage seen read_at tried_at answer) w = refl

-- a step of one that is awake leaves it so
goes_on : (rows : List Row) (p : ℕ) (r next : Process) → is_awake r.status ≡ true → Turned rows p r next → is_awake next.status ≡ true
goes_on rows p r next h still = h
goes_on rows p r next h (first_store l) = refl
goes_on rows p r next h (second_store e) = refl
goes_on rows p r next h (third_store e) = refl
goes_on rows p r next h (works k q (on e b w)) = in_work next.status w
goes_on rows p r next h (works k q (ends e i b)) = ap is_awake i

awake-turn : (rows : List Row) (p t : ℕ) (words : List ℕ) (log : List Entry) (r : Process) → is_awake (turn rows p t words log r r.status).process.status ≡ is_awake r.status
unfolding turn_in step_turn_in
awake-turn rows p t words log r = go (is_awake r.status) refl
  where
    down : (status : Status) → r.status ≡ status → is_awake status ≡ false → (turn rows p t words log r status).process ≡ r
    down Down e h = refl
    down Idle e h = absurd (true≢false h)
    down N2 e h = absurd (true≢false h)
    down N3 e h = absurd (true≢false h)
    down (Busy stage seen read_at tried_at answer) e h = absurd (true≢false h)

    go : (c : Bool) → is_awake r.status ≡ c → is_awake (turn rows p t words log r r.status).process.status ≡ c
    go true h = goes_on rows p r _ h (turned rows p t words log r)
    go false h = ap (λ (r : Process). is_awake r.status) (down r.status refl h) ∙ h

-- a wake leaves it awake
awake-waked : (r : Process) (status : Status) → r.status ≡ status → is_awake (waked r status).status ≡ true
awake-waked r Down e = go r.opened
  where
    go : (o : Option ℕ) → is_awake (woken_up o) ≡ true
    go None = refl
    go (Some k) = refl
awake-waked r Idle e = ap is_awake e
awake-waked r N2 e = ap is_awake e
awake-waked r N3 e = ap is_awake e
awake-waked r (Busy stage seen read_at tried_at answer) e = ap is_awake e

module _ (rows : List Row) (p : ℕ) where
  abbrev awake : State → Bool
  awake s = is_awake (proc_at p s).status

  -- one byte does to who is awake what it does to who is up
  pub awake-byte : (t byte : ℕ) (s : State) → p < length s.processes → awake (step rows t byte s) ≡ up_by p byte (awake s)
  unfolding step_in act_in applied apply proc_at
  awake-byte t byte s h = go (action byte) refl (eqb (named byte) p) refl
    where
      up : Process → Bool
      up r = is_awake r.status

      own : eqb (named byte) p ≡ true → (r : Process) → get_or (set s.processes (named byte) r) p fresh ≡ r
      own e r = rw (eqb-true (named byte) p e) (get_or-set_same s.processes p r fresh h)

      other : eqb (named byte) p ≡ false → (r : Process) → get_or (set s.processes (named byte) r) p fresh ≡ get_or s.processes p fresh
      other e r = get_or-set_other s.processes (named byte) p r fresh (λ q. eqb-false (named byte) p e (sym q))

      go : (a : Action) → action byte ≡ a → (c : Bool) → eqb (named byte) p ≡ c → awake (act rows t a (named byte) s) ≡ up_as a c (awake s)
      go steps a true e = ap up (own e _) ∙ awake-turn rows (named byte) t s.words s.log (proc_at (named byte) s) ∙ ap (λ q. up (proc_at q s)) (eqb-true (named byte) p e)
      go steps a false e = ap up (other e _)
      go crashes a true e = ap up (own e _)
      go crashes a false e = ap up (other e _)
      go wakes a true e = ap up (own e _) ∙ awake-waked (proc_at (named byte) s) (proc_at (named byte) s).status refl
      go wakes a false e = ap up (other e _)
      go crashes_all a c e = subst (λ a. awake (act rows t a (named byte) s) ≡ false) a (ap up (all_down rows t byte s a p h))
      go idles a c e = refl

  awake-after : (t : ℕ) (bytes : List ℕ) (s : State) → p < length s.processes → awake (after rows t bytes s) ≡ up_from p (awake s) bytes
  unfolding after_in up_from
  awake-after t [] s h = refl
  awake-after t (byte ∷ bytes) s h = awake-after (suc t) bytes (step rows t byte s) (rw (size rows p t byte s) h) ∙ ap (λ up. up_from p up bytes) (awake-byte t byte s h)

-- After any bytes from the start, be they a lawful schedule's first or not, a process is awake exactly if it is up by the bytes (R75).
module _ (rows : List Row) (P : ℕ) (words : List ℕ) (p : ℕ) (here : p < P) (bytes : List ℕ) where
  pub awake_up : is_awake (record_of rows P words p bytes).status ≡ is_up bytes p
  unfolding begin proc_at
  awake_up = awake-after rows p 0 bytes (begin P words) (rw (length-replicate P fresh) here) ∙ ap (λ (r : Process). up_from p (is_awake r.status) bytes) (fresh_at P p)

  pub down_exactly : ((record_of rows P words p bytes).status ≡ Down) ↔ (is_up bytes p ≡ false)
  down_exactly = (λ e. sym awake_up ∙ (awake-down _).1 e, λ e. (awake-down _).0 (awake_up ∙ e))

-- byte i of a schedule
pub strikes : (rows : List Row) (P : ℕ) (words schedule : List ℕ) (i : ℕ) → i < length schedule
    → let byte = get_or schedule i 0 in
    named byte < P → NotIdle (take i schedule) byte → Strikes byte (record_of rows P words (named byte) (take i schedule)) (record_of rows P words (named byte) (take (suc i) schedule))
strikes rows P words schedule i inside here n =
    let byte = get_or schedule i 0 in
    let up : (bytes : List ℕ) → is_awake (record_of rows P words (named byte) bytes).status ≡ is_up bytes (named byte) = awake_up rows P words (named byte) here in
    let next : is_up (take (suc i) schedule) (named byte) ≡ up_as (action byte) true (is_up (take i schedule) (named byte)) =
    up_next schedule i (named byte) inside ∙ ap (λ mine. up_as (action byte) mine (is_up (take i schedule) (named byte))) (eq-eqb (named byte) (named byte) refl) in
    record {
      crash = λ a. (up (take i schedule) ∙ n.crash_of_up a, (awake-down _).0 (up (take (suc i) schedule) ∙ next ∙ ap (λ a. up_as a true (is_up (take i schedule) (named byte))) a));
      wake = λ a. ((awake-down _).0 (up (take i schedule) ∙ n.wake_of-down a), up (take (suc i) schedule) ∙ next ∙ ap (λ a. up_as a true (is_up (take i schedule) (named byte))) a);
    }
