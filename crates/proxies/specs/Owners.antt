-- Whose a row is, along a run: a row that a process has open is a row of that process, and so is the row of every log entry that it makes; the log is in
-- order. The first and the last are read off demand 3's invariant; the second goes over the bytes, for an entry is made only at an open row.
use Rattle.std.specs.Prelude.{ℕ, suc, ◌≤◌, ◌<◌, ◌≡◌, refl, Bool, true, false, cond, List, [], ◌∷◌, ◌⊎◌, ltb, length, get_or, take, drop, Some, None}
use Rattle.std.proofs.Common.{sym, ◌∙◌, ap, inl, inr, arith, take-append-drop, ltb-true, ltb-false}
use Rattle.std.proofs.Math.Path.{subst}
use Rattle.runfile.specs.declared.Row.{Row}
use Rattle.runfile.specs.Actions.{Action, step as steps, crash as crashes, wake as wakes, crash_all as crashes_all, none as idles, action, named}
use Rattle.runfile.specs.Operations.{row_numbered, first, count}
use Rattle.rows.specs.declared.Entry.{Entry}
use Rattle.rows.specs.Log.{place, insert}
use Rattle.machine.specs.declared.Process.{Process}
use Rattle.machine.specs.declared.Status.{Status}
use Rattle.machine.specs.declared.Status.TheVariants.{Down, Idle, N2, N3, Busy}
use Rattle.machine.specs.Turn.{Turn, Still, Quiet, Swaps, Logs, Loses, Replies}
use Rattle.machine.specs.Records.{with_stored, row_open, WorkOpen}
use Rattle.machine.specs.Steps.{step_turn, step_turn_in}
use Rattle.machine.specs.Machine.{State, quiet, effect_of, log_after, apply, applied, turn, turn_in, proc_at, act, act_in, step, step_in, after_in, begin}
use Rattle.machine.specs.Laws.{Sane, fresh_at, closed_open, sane_idle}
use Rattle.machine.proofs.Laws.{sane_after}
use Rattle.replay.specs.Lists.{All, all_put}
use Rattle.replay.specs.Logs.{Sorted}
use Rattle.demand3.specs.Invariant.{IsOpen, Inv}
use Rattle.demand3.specs.Plans.{Plan}
use Rattle.demand3.specs.Preserve.{absent, inv_step, inv_begin}
use Rattle.demand3.specs.Order.{Always, start, good, own}

-- a step has no effect but on the record, or a row is open
pub quiet_or_open : (rows : List Row) (p t : ℕ) (words : List ℕ) (log : List Entry) (r : Process) (status : Status) → WorkOpen status r.opened
    → ((turn rows p t words log r status).effect ≡ quiet) ⊎ ((k : ℕ) × (r.opened ≡ Some k))
unfolding turn_in step_turn_in
quiet_or_open rows p t words log r Down h = inl refl
quiet_or_open rows p t words log r Idle h = inl (go (ltb r.begun (count rows p)))
  where
    go : (c : Bool) → effect_of rows log p t (row_open r.opened) (row_numbered rows (row_open r.opened)).word (cond c (Quiet (with_stored N2 None r)) Still) ≡ quiet
    go true = refl
    go false = refl
quiet_or_open rows p t words log r N2 h = inl refl
quiet_or_open rows p t words log r N3 h = inl refl
quiet_or_open rows p t words log r (Busy stage seen read_at tried_at answer) h = inr h

module _ (rows : List Row) where
  -- the row of an entry is a row of its process
  abbrev pub Owned : List Entry → Type 0
  Owned = All (λ e. (row_numbered rows e.row).process ≡ e.process)

  pub record OwnOpen (p k : ℕ) : Type 0 where
    pub inside : k < length rows
    pub owner : (row_numbered rows k).process ≡ p

  -- what is known of a state
  pub record Tidy (s : State) : Type 0 where
    pub sorted : Sorted s.log
    pub owned : Owned s.log
    pub opened : (p k : ℕ) → (proc_at p s).opened ≡ Some k → OwnOpen p k
    pub works : (p : ℕ) → WorkOpen (proc_at p s).status (proc_at p s).opened

  -- a new entry of the open row
  owned_insert : (e : Entry) (log : List Entry) → (row_numbered rows e.row).process ≡ e.process → Owned log → Owned (insert e log)
  unfolding insert
  owned_insert e log h o =
      all_put (λ e. (row_numbered rows e.row).process ≡ e.process) (take (place e.position log) log) (drop (place e.position log) log) e h
      (subst Owned (sym (take-append-drop (place e.position log) log)) o)

  owned_effect : (p t k w : ℕ) (u : Turn) (log : List Entry) → (row_numbered rows k).process ≡ p → Owned log → Owned (log_after (effect_of rows log p t k w u) log)
  owned_effect p t k w Still log h o = o
  owned_effect p t k w (Quiet next) log h o = o
  owned_effect p t k w (Swaps next v says) log h o = owned_insert _ log h o
  owned_effect p t k w (Logs next q a) log h o = owned_insert _ log h o
  owned_effect p t k w (Loses next after otherwise) log h o = owned_insert _ log h o
  owned_effect p t k w (Replies next said) log h o = o

  owned_turn : (t p k : ℕ) (s : State) (r : Process) → r.opened ≡ Some k → (row_numbered rows k).process ≡ p → Owned s.log → Owned (log_after (turn rows p t s.words s.log r r.status).effect s.log)
  unfolding turn_in
  owned_turn t p k s r o h g =
      let row = row_numbered rows (row_open r.opened) in
      owned_effect p t (row_open r.opened) row.word (step_turn row p t (get_or s.words row.word 0) (first rows p) (count rows p) r r.status) s.log
      (ap (λ o. (row_numbered rows (row_open o)).process) o ∙ h) g

  owned_act : (t : ℕ) (a : Action) (p : ℕ) (s : State) → Tidy s → Owned (act rows t a p s).log
  unfolding act_in applied apply
  owned_act t steps p s h = go (quiet_or_open rows p t s.words s.log (proc_at p s) (proc_at p s).status (h.works p))
    where
      go : ((turn rows p t s.words s.log (proc_at p s) (proc_at p s).status).effect ≡ quiet) ⊎ ((k : ℕ) × ((proc_at p s).opened ≡ Some k))
          → Owned (log_after (turn rows p t s.words s.log (proc_at p s) (proc_at p s).status).effect s.log)
      go (inl e) = subst (λ f. Owned (log_after f s.log)) (sym e) h.owned
      go (inr (k, o)) = owned_turn t p k s (proc_at p s) o (h.opened p k o).owner h.owned
  owned_act t crashes p s h = h.owned
  owned_act t wakes p s h = h.owned
  owned_act t crashes_all p s h = h.owned
  owned_act t idles p s h = h.owned

  pub owned_step : (t byte : ℕ) (s : State) → Tidy s → Owned (step rows t byte s).log
  unfolding step_in
  owned_step t byte s h = owned_act t (action byte) (named byte) s h

module _ (rows : List Row) (words : List ℕ) (P : ℕ) (plan : Plan P (length words) rows) where
  -- what goes through the schedule
  pub record Known (t : ℕ) (s : State) : Type 0 where
    pub inv : Inv rows (start rows words P plan) Always P t s
    pub sane : (p : ℕ) → Sane rows p (proc_at p s)
    pub owned : Owned rows s.log

  module _ (t : ℕ) (s : State) (h : Known t s) where
    -- a process that is not there has nothing open
    own_open : (p k : ℕ) → (proc_at p s).opened ≡ Some k → (row_numbered rows k).process ≡ p
    own_open p k o = go (ltb p P) refl
      where
        go : (c : Bool) → ltb p P ≡ c → (row_numbered rows k).process ≡ p
        go false e =
            closed_open (sym (ap (λ r. r.opened) (absent rows (start rows words P plan) (good rows words P plan) (own rows words P plan) Always (λ k a b h g. tt) t s (λ p k o. tt) P h.inv p (ltb-false p P e))) ∙ o)
        go true e =
            let l = h.inv.local p (ltb-true p P e) in
            let is : IsOpen rows (start rows words P plan) p k s (proc_at p s) = l.opened k o in
            let b : (proc_at p s).begun ≡ suc is.index = is.begun in
            let f : (proc_at p s).begun ≤ count rows p = l.fits in
            ap (λ k. (row_numbered rows k).process) is.row ∙ own rows words P plan p is.index (omega arith)

    pub tidy : Tidy rows s
    tidy =
        record {
          sorted = h.inv.global.sorted;
          owned = h.owned;
          opened = λ p k o. record { inside = (h.sane p).in_file k o; owner = own_open p k o };
          works = λ p. (h.sane p).works;
        }

    pub known_step : (byte : ℕ) → Known (suc t) (step rows t byte s)
    unfolding after_in
    known_step byte =
        record {
          inv = inv_step rows (start rows words P plan) (good rows words P plan) (own rows words P plan) Always (λ k a b h g. tt) t s (λ p k o. tt) P h.inv byte;
          sane = sane_after rows t (byte ∷ []) s h.sane;
          owned = owned_step rows t byte s tidy;
        }

  pub known_begin : Known 0 (begin P words)
  unfolding begin proc_at
  known_begin = record { inv = inv_begin rows Always P words; sane = λ p. rw (fresh_at P p) (sane_idle rows p); owned = tt }
