-- What one byte makes of a process's record, whatever the state: nothing, or what a step, a crash or a wake makes of it. And what it does to the words,
-- to the log and to the answers, in a state for which the invariant holds: nothing, or what is allowed to the process that it names, at that process's
-- open row.
use Rattle.std.specs.Prelude.{ℕ, ◌+◌, ◌≤◌, ◌<◌, ◌≡◌, Bool, cond, List, map, eqb, ltb, length, get_or, set, Some, None}
use Rattle.std.proofs.Math.Path.{refl, subst}
use Rattle.std.proofs.Common.{sym, ◌∙◌, ap, get_or-set_same, get_or-set_other, eqb-true, ltb-true, ltb-false}
use Rattle.std.proofs.Math.Bool.{true, false}
use Rattle.std.proofs.lemmas.List.{length-map}
use Rattle.std.proofs.Math.ListN.{get_or-eq_default}
use Rattle.std.proofs.Math.Seq.{set_out}
use Rattle.std.proofs.lemmas.Bool.{eqb-false}
use Rattle.runfile.specs.declared.Row.{Row}
use Rattle.runfile.specs.Operations.{row_numbered, first, count}
use Rattle.runfile.specs.Actions.{Action, step as steps, crash as crashes, wake as wakes, crash_all as crashes_all, none as idles, action, named}
use Rattle.machine.specs.Turn.{Still, Quiet}
use Rattle.machine.specs.declared.Process.{Process}
use Rattle.rows.specs.declared.Entry.{Entry}
use Rattle.machine.specs.Records.{fresh, crashed, waked, with_stored}
use Rattle.machine.specs.declared.Status.TheVariants.{N2}
use Rattle.machine.specs.Steps.{step_turn_in}
use Rattle.machine.specs.Machine.{State, Effect, Move, move_of, words_after, log_after, answers_after, proc_at, apply, applied, turn, turn_in, act, act_in, step, step_in}
use Rattle.replay.specs.Replay.{Good}
use Rattle.demand3.specs.Invariant.{Times, Inv, Allowed}
use Rattle.demand3.specs.Own.{Own, calm, busy}
use Rattle.demand3.specs.Preserve.{get_or_map_lt, own_turn, absent}

-- What one byte makes of a record: nothing, a step, a crash, a wake.
module _ (rows : List Row) where
  set_either : (Q : Process → Type 0) (l : List Process) (q p : ℕ) (r : Process) → Q (get_or l p fresh) → (p ≡ q → Q r) → Q (get_or (set l q r) p fresh)
  set_either Q l q p r h g = go (eqb p q) refl
    where
      here : (c : Bool) → ltb q (length l) ≡ c → p ≡ q → Q (get_or (set l q r) p fresh)
      here true c e = subst Q (sym (ap (λ p. get_or (set l q r) p fresh) e ∙ get_or-set_same l q r fresh (ltb-true q (length l) c))) (g e)
      here false c e = subst (λ l. Q (get_or l p fresh)) (sym (set_out l q r (ltb-false q (length l) c))) h

      go : (c : Bool) → eqb p q ≡ c → Q (get_or (set l q r) p fresh)
      go true e = here (ltb q (length l)) refl (eqb-true p q e)
      go false e = subst Q (sym (get_or-set_other l q p r fresh (eqb-false p q e))) h

  down_either : (Q : Process → Type 0) (l : List Process) (p : ℕ) → Q (get_or l p fresh) → Q (crashed (get_or l p fresh)) → Q (get_or (map crashed l) p fresh)
  down_either Q l p h g = go (ltb p (length l)) refl
    where
      go : (c : Bool) → ltb p (length l) ≡ c → Q (get_or (map crashed l) p fresh)
      go true c = subst Q (sym (get_or_map_lt crashed l p fresh fresh (ltb-true p (length l) c))) g
      go false c =
          subst Q
          (get_or-eq_default l fresh (ltb-false p (length l) c) ∙ sym (get_or-eq_default (map crashed l) fresh (subst (λ n. n ≤ p) (sym (length-map l crashed)) (ltb-false p (length l) c)))) h

  pub became : (Q : Process → Type 0) (n b p : ℕ) (s : State) → Q (proc_at p s) → Q (turn rows p n s.words s.log (proc_at p s) (proc_at p s).status).process
      → Q (crashed (proc_at p s)) → Q (waked (proc_at p s) (proc_at p s).status) → Q (proc_at p (step rows n b s))
  unfolding step_in act_in applied apply proc_at
  became Q n b p s h t c w = go (action b)
    where
      go : (a : Action) → Q (get_or (act rows n a (named b) s).processes p fresh)
      go steps = set_either Q s.processes (named b) p (turn rows (named b) n s.words s.log (proc_at (named b) s) (proc_at (named b) s).status).process h (λ e. subst (λ q. Q (turn rows q n s.words s.log (proc_at q s) (proc_at q s).status).process) e t)
      go crashes = set_either Q s.processes (named b) p (crashed (proc_at (named b) s)) h (λ e. subst (λ q. Q (crashed (proc_at q s))) e c)
      go wakes = set_either Q s.processes (named b) p (waked (proc_at (named b) s) (proc_at (named b) s).status) h (λ e. subst (λ q. Q (waked (proc_at q s) (proc_at q s).status)) e w)
      go crashes_all = down_either Q s.processes p h c
      go idles = h

  -- and of the log: nothing, or what the step of the process that it names does
  pub log_became : (Q : List Entry → Type 0) (n b : ℕ) (s : State) → Q s.log → Q (log_after (turn rows (named b) n s.words s.log (proc_at (named b) s) (proc_at (named b) s).status).effect s.log) → Q (step rows n b s).log
  unfolding step_in act_in applied apply
  log_became Q n b s h t = go (action b)
    where
      go : (a : Action) → Q (act rows n a (named b) s).log
      go steps = t
      go crashes = h
      go wakes = h
      go crashes_all = h
      go idles = h

module _ (rows : List Row) (start : List ℕ) (Late : Times) where
  -- the byte names process p, and leads from s, at time t, to s'
  pub data Does (p t : ℕ) (s s' : State) : Type 0 where
    nothing : s'.words ≡ s.words → s'.log ≡ s.log → s'.answers ≡ s.answers → Does p t s s'
    allowed : (j : ℕ) (f : Effect) → j < count rows p → (proc_at p s).opened ≡ Some (first rows p + j) → Allowed rows start Late p (first rows p + j) t s f
        → s'.words ≡ words_after f s.words → s'.log ≡ log_after f s.log → s'.answers ≡ answers_after f s.answers → Does p t s s'

module _ (rows : List Row) (start : List ℕ) (good : (k : ℕ) → Good (length start) (row_numbered rows k))
    (owner : (p i : ℕ) → i < count rows p → (row_numbered rows (first rows p + i)).process ≡ p)
    (Late : Times) (mono : (k a b : ℕ) → a ≤ b → Late k a → Late k b)
    (P t : ℕ) (s : State) (now : (p k : ℕ) → (proc_at p s).opened ≡ Some k → Late k t) (v : Inv rows start Late P t s) where
  does_own : (p : ℕ) (u : Move) → Own rows start Late p t s (proc_at p s) u → Does rows start Late p t s (applied p u s)
  unfolding applied apply
  does_own p u (calm e loc) = nothing (ap (λ f. words_after f s.words) e) (ap (λ f. log_after f s.log) e) (ap (λ f. answers_after f s.answers) e)
  does_own p u (busy j g o a loc) = allowed j u.effect g o a refl refl refl

  does-act : (a : Action) (p : ℕ) → Does rows start Late p t s (act rows t a p s)
  unfolding act_in applied apply turn_in step_turn_in
  does-act steps p = go (ltb p P) refl
    where
      -- a process that is not there would be idle, and begin a row
      idle : (c : Bool) → Does rows start Late p t s (applied p (move_of rows s.log p t 0 (row_numbered rows 0).word fresh (cond c (Quiet (with_stored N2 None fresh)) Still)) s)
      idle true = nothing refl refl refl
      idle false = nothing refl refl refl

      go : (c : Bool) → ltb p P ≡ c → Does rows start Late p t s (applied p (turn rows p t s.words s.log (proc_at p s) (proc_at p s).status) s)
      go true e =
          let h : p < P = ltb-true p P e in
          does_own p (turn rows p t s.words s.log (proc_at p s) (proc_at p s).status)
          (own_turn rows start good owner Late mono t s now p (proc_at p s) (now p) v.global (v.local p h) (proc_at p s).status (v.local p h).work)
      go false e =
          subst (λ r. Does rows start Late p t s (applied p (turn rows p t s.words s.log r r.status) s)) (sym (absent rows start good owner Late mono t s now P v p (ltb-false p P e)))
          (idle (ltb 0 (count rows p)))
  does-act crashes p = nothing refl refl refl
  does-act wakes p = nothing refl refl refl
  does-act crashes_all p = nothing refl refl refl
  does-act idles p = nothing refl refl refl

  pub does : (byte : ℕ) → Does rows start Late (named byte) t s (step rows t byte s)
  unfolding step_in
  does byte = does-act (action byte) (named byte)
