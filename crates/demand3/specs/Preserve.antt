-- The invariant holds at first, and each byte keeps it.
use Rattle.std.specs.Prelude.{ℕ, zero, suc, ◌+◌, ◌≤◌, ◌<◌, ◌/◌, ◌%◌, ◌≡◌, Bool, cond, eqb, get_or, set, Option, Some, None}
use Rattle.std.proofs.Math.Path.{refl, ap, subst}
use Rattle.std.proofs.Common.{sym, ◌∙◌, arith, add-zero, suc-add, add-suc, get_or-set_same, get_or-set_other}
use Rattle.std.proofs.Math.Bool.{true, false}
use mathlib.Core.List.{List, [], ◌∷◌, map}
use Rattle.std.proofs.Math.Dec.{ltb}
use Rattle.std.proofs.Math.ListN.{length, length-set, length-map, get_or-eq_default}
use Rattle.std.proofs.lemmas.List.{length-replicate}
use Rattle.machine.specs.Machine.{Effect, quiet, swaps, logs, replies, Move, State, alone, proc_at, apply, applied, move_of, turn, turn_in, begin, act, act_in, step, step_in, after, after_in}
use Rattle.runfile.specs.declared.Row.{Row}
use Rattle.machine.specs.declared.Process.{Process}
use Rattle.machine.specs.declared.Stage.TheVariants.{V1}
use Rattle.machine.specs.declared.Status.{Status}
use Rattle.machine.specs.declared.Status.TheVariants.{Down, Idle, N2, N3, Busy}
use Rattle.word.specs.Word.{value}
use Rattle.runfile.specs.Operations.{row_numbered, first, count}
use Rattle.std.proofs.Math.Seq.{set_out}
use borrow.Author.Tests.{eqb-true, eqb-false, ltb-true, ltb-false}
use Rattle.runfile.specs.Actions.{Action, step as steps, crash as crashes, wake as wakes, crash_all as crashes_all, none as idles, action_of}
use Rattle.machine.specs.Turn.{Still, Quiet}
use Rattle.machine.specs.Steps.{at_work, step_turn_in}
use Rattle.machine.specs.Records.{row_open, fresh, with_status, with_stored, with_checkpoint, crashed, waked, woken_up}
use Rattle.machine.specs.Laws.{fresh_at}
use Rattle.replay.specs.Replay.{Good, final}
use Rattle.demand3.specs.Statement.{of}
use Rattle.demand3.specs.Invariant.{Times, working, StatusOk, Local, Global, Inv}
use Rattle.demand3.specs.Frames.{Frame, local_frame}
use Rattle.demand3.specs.Effects.{global_effect, global_same, frame_effect, frame_quiet}
use Rattle.demand3.specs.Own.{Own, calm, busy, own_closed, own_start, own_status, own_stage, closed_open}

pub apply_processes : (f : Effect) (ps : List Process) (s : State) → (apply f ps s).processes ≡ ps
unfolding apply
apply_processes quiet ps s = refl
apply_processes (swaps w x e) ps s = refl
apply_processes (logs e) ps s = refl
apply_processes (replies e) ps s = refl

pub get_or_map_lt : {A B : Type 0} (f : A → B) (l : List A) (i : ℕ) (d : A) (e : B) → i < length l → get_or (map f l) i e ≡ f (get_or l i d)
get_or_map_lt f [] i d e h = absurd (omega arith)
get_or_map_lt f (x ∷ l) zero d e h = refl
get_or_map_lt f (x ∷ l) (suc i) d e h = get_or_map_lt f l i d e (omega arith)

module _ (rows : List Row) (start : List ℕ) (good : (k : ℕ) → Good (length start) (row_numbered rows k))
    (owner : (p i : ℕ) → i < count rows p → (row_numbered rows (first rows p + i)).process ≡ p)
    (Late : Times) (mono : (k a b : ℕ) → a ≤ b → Late k a → Late k b) where
  -- rows of two processes differ
  pub distinct : (p q i j : ℕ) → i < count rows p → j < count rows q → (q ≡ p → ⊥) → first rows p + i ≡ first rows q + j → ⊥
  distinct p q i j h g n e = n (sym (owner q j g) ∙ ap (λ k. (row_numbered rows k).process) (sym e) ∙ owner p i h)

  module _ (t : ℕ) (s : State) (now : (p k : ℕ) → (proc_at p s).opened ≡ Some k → Late k t) where
    -- nothing changes for p but the time
    local_same : (p : ℕ) (ps : List Process) (r : Process) → Local rows start Late p t s r → Local rows start Late p (suc t) (apply quiet ps s) r
    local_same p ps r l = local_frame rows start Late Late p t (suc t) s (apply quiet ps s) r (frame_quiet rows start good Late p t ps s r) l

    pub own_turn : (p : ℕ) (r : Process) → ((k : ℕ) → r.opened ≡ Some k → Late k t) → Global rows start Late t s → Local rows start Late p t s r → (st : Status) → StatusOk rows start Late p t s.words s.log r st → Own rows start Late p t s r (turn rows p t s.words s.log r st)
    unfolding turn_in step_turn_in
    own_turn p r late g l Down h = calm refl (λ ps. local_same p ps r l)
    own_turn p r late g l Idle h = go (ltb r.begun (count rows p)) refl
      where
        go : (c : Bool) → ltb r.begun (count rows p) ≡ c → Own rows start Late p t s r (move_of rows s.log p t (row_open r.opened) (row_numbered rows (row_open r.opened)).word r (cond c (Quiet (with_stored N2 None r)) Still))
        go true q = calm refl (λ ps. own_closed rows start Late p t s r l h (with_stored N2 None r) refl refl ps (h, ltb-true r.begun (count rows p) q, refl))
        go false q = calm refl (λ ps. local_same p ps r l)
    own_turn p r late g l N2 h = calm refl (λ ps. own_closed rows start Late p t s r l h.0 (with_checkpoint N3 false r) refl refl ps (h.0, h.1, h.2, refl))
    own_turn p r late g l N3 h = calm refl (λ ps. own_start rows start Late p t s r l h.0 h.1 h.2 h.3 ps)
    own_turn p r late g l (Busy stage x a ta ans) (working k o h) =
        subst (λ o. Own rows start Late p t s r (move_of rows s.log p t (row_open o) (row_numbered rows (row_open o)).word r (at_work (row_numbered rows (row_open o)) p t (get_or s.words (row_numbered rows (row_open o)).word 0) r o stage x a ta ans))) (sym o)
        (own_stage rows start good Late mono p t s r g l k o (late k o) stage x a ta ans h)

    own_crash : (p : ℕ) (r : Process) → Local rows start Late p t s r → Own rows start Late p t s r (alone (crashed r))
    own_crash p r l = calm refl (λ ps. own_status rows start Late p t s r l Down ps tt)

    own_wake : (p : ℕ) (r : Process) → Local rows start Late p t s r → (st : Status) → Own rows start Late p t s r (alone (waked r st))
    own_wake p r l Down = go r.opened refl
      where
        go : (o : Option ℕ) → r.opened ≡ o → Own rows start Late p t s r (alone (with_status (woken_up o) r))
        go None e = calm refl (λ ps. own_status rows start Late p t s r l Idle ps e)
        go (Some k) e = calm refl (λ ps. own_status rows start Late p t s r l (Busy V1 0 0 0 None) ps (working k e tt))
    own_wake p r l Idle = calm refl (λ ps. local_same p ps r l)
    own_wake p r l N2 = calm refl (λ ps. local_same p ps r l)
    own_wake p r l N3 = calm refl (λ ps. local_same p ps r l)
    own_wake p r l (Busy stage x a ta ans) = calm refl (λ ps. local_same p ps r l)

    module _ (P : ℕ) (v : Inv rows start Late P t s) where
      inv_apply : (p : ℕ) (f : Effect) (r : Process) → p < P
          → ((ps : List Process) → Global rows start Late (suc t) (apply f ps s))
          → ((q : ℕ) (r : Process) (ps : List Process) → (q ≡ p → ⊥) → Frame rows start Late Late q t (suc t) s (apply f ps s) r)
          → ((ps : List Process) → Local rows start Late p (suc t) (apply f ps s) r)
          → Inv rows start Late P (suc t) (apply f (set s.processes p r) s)
      unfolding proc_at
      inv_apply p f r h glob fr loc =
          record {
            size = ap length (apply_processes f (set s.processes p r) s) ∙ length-set s.processes p r ∙ v.size;
            global = glob (set s.processes p r);
            local = λ q j. go q j (eqb q p) refl;
          }
        where
          s' : State
          s' = apply f (set s.processes p r) s

          inside : p < length s.processes
          inside = rw v.size h

          go : (q : ℕ) → q < P → (c : Bool) → eqb q p ≡ c → Local rows start Late q (suc t) s' (get_or s'.processes q fresh)
          go q j true e =
              subst (λ q. Local rows start Late q (suc t) s' (get_or s'.processes q fresh)) (sym (eqb-true q p e))
              (subst (λ x. Local rows start Late p (suc t) s' x) (sym (ap (λ ps. get_or ps p fresh) (apply_processes f (set s.processes p r) s) ∙ get_or-set_same s.processes p r fresh inside)) (loc (set s.processes p r)))
          go q j false e =
              subst (λ x. Local rows start Late q (suc t) s' x) (sym (ap (λ ps. get_or ps q fresh) (apply_processes f (set s.processes p r) s) ∙ get_or-set_other s.processes p q r fresh (eqb-false q p e)))
              (local_frame rows start Late Late q t (suc t) s s' (get_or s.processes q fresh) (fr q (get_or s.processes q fresh) (set s.processes p r) (eqb-false q p e)) (v.local q j))

      inv_own : (p : ℕ) (u : Move) → p < P → Own rows start Late p t s (proc_at p s) u → Inv rows start Late P (suc t) (applied p u s)
      unfolding applied
      inv_own p u h (calm e loc) =
          inv_apply p u.effect u.process h
          (λ ps. subst (λ f. Global rows start Late (suc t) (apply f ps s)) (sym e) (global_same rows start good Late t ps s v.global))
          (λ q r ps n. subst (λ f. Frame rows start Late Late q t (suc t) s (apply f ps s) r) (sym e) (frame_quiet rows start good Late q t ps s r))
          loc
      inv_own p u h (busy i j _ a loc) =
          inv_apply p u.effect u.process h
          (λ ps. global_effect rows start good Late p (first rows p + i) t u.effect ps s v.global a)
          (λ q r ps n. frame_effect rows start good Late p q (first rows p + i) t u.effect ps s r v.global a (owner p i j) n (λ k m e. distinct p q i k j m n e))
          loc

      -- nothing happens
      inv_same : Inv rows start Late P (suc t) s
      unfolding apply
      inv_same = record { size = v.size; global = global_same rows start good Late t s.processes s v.global; local = λ q j. local_same q s.processes (proc_at q s) (v.local q j) }

      -- a process that is not there
      inv_absent : (p : ℕ) (r : Process) → P ≤ p → Inv rows start Late P (suc t) (applied p (alone r) s)
      unfolding applied apply
      inv_absent p r h = rw (set_out s.processes p r (subst (λ n. n ≤ p) (sym v.size) h)) inv_same

      inv_all : Inv rows start Late P (suc t) (apply quiet (map crashed s.processes) s)
      unfolding apply proc_at
      inv_all =
          record {
            size = length-map s.processes crashed ∙ v.size;
            global = global_same rows start good Late t (map crashed s.processes) s v.global;
            local = λ q j.
                subst (λ r. Local rows start Late q (suc t) (apply quiet (map crashed s.processes) s) r) (sym (get_or_map_lt crashed s.processes q fresh fresh (rw v.size j)))
                (own_status rows start Late q t s (proc_at q s) (v.local q j) Down (map crashed s.processes) tt);
          }

      pub absent : (p : ℕ) → P ≤ p → proc_at p s ≡ fresh
      unfolding proc_at
      absent p h = get_or-eq_default s.processes fresh (subst (λ n. n ≤ p) (sym v.size) h)

      inv_act : (a : Action) (p : ℕ) → Inv rows start Late P (suc t) (act rows t a p s)
      unfolding act_in turn_in step_turn_in
      inv_act steps p = go (ltb p P) refl
        where
          idle : P ≤ p → (c : Bool) → Inv rows start Late P (suc t) (applied p (move_of rows s.log p t 0 (row_numbered rows 0).word fresh (cond c (Quiet (with_stored N2 None fresh)) Still)) s)
          idle h true = inv_absent p (with_stored N2 None fresh) h
          idle h false = inv_absent p fresh h

          go : (c : Bool) → ltb p P ≡ c → Inv rows start Late P (suc t) (applied p (turn rows p t s.words s.log (proc_at p s) (proc_at p s).status) s)
          go true e =
              let h : p < P = ltb-true p P e in
              inv_own p (turn rows p t s.words s.log (proc_at p s) (proc_at p s).status) h (own_turn p (proc_at p s) (now p) v.global (v.local p h) (proc_at p s).status (v.local p h).work)
          go false e =
              let h : P ≤ p = ltb-false p P e in
              subst (λ r. Inv rows start Late P (suc t) (applied p (turn rows p t s.words s.log r r.status) s)) (sym (absent p h))
              (idle h (ltb 0 (count rows p)))
      inv_act crashes p = go (ltb p P) refl
        where
          go : (c : Bool) → ltb p P ≡ c → Inv rows start Late P (suc t) (applied p (alone (crashed (proc_at p s))) s)
          go true e = let h : p < P = ltb-true p P e in inv_own p (alone (crashed (proc_at p s))) h (own_crash p (proc_at p s) (v.local p h))
          go false e = inv_absent p (crashed (proc_at p s)) (ltb-false p P e)
      inv_act wakes p = go (ltb p P) refl
        where
          go : (c : Bool) → ltb p P ≡ c → Inv rows start Late P (suc t) (applied p (alone (waked (proc_at p s) (proc_at p s).status)) s)
          go true e = let h : p < P = ltb-true p P e in inv_own p (alone (waked (proc_at p s) (proc_at p s).status)) h (own_wake p (proc_at p s) (v.local p h) (proc_at p s).status)
          go false e = inv_absent p (waked (proc_at p s) (proc_at p s).status) (ltb-false p P e)
      inv_act crashes_all p = inv_all
      inv_act idles p = inv_same

      pub inv_step : (byte : ℕ) → Inv rows start Late P (suc t) (step rows t byte s)
      unfolding step_in
      inv_step byte = inv_act (action_of (byte / 16)) (byte % 16)

  -- each time from t on is late enough: the invariant goes through the schedule
  pub inv_after : (P t : ℕ) (bytes : List ℕ) (s : State) → ((k a : ℕ) → t ≤ a → Late k a) → Inv rows start Late P t s → Inv rows start Late P (t + length bytes) (after rows t bytes s)
  unfolding after_in
  inv_after P t [] s now v = rw (add-zero t) v
  inv_after P t (byte ∷ bytes) s now v =
      rw (add-suc t (length bytes), ← (suc-add t (length bytes)))
      (inv_after P (suc t) bytes (step rows t byte s) (λ k a h. now k a (omega arith)) (inv_step t s (λ p k o. now k t (omega arith)) P v byte))

pub inv_begin : (rows : List Row) (Late : Times) (P : ℕ) (words : List ℕ) → Inv rows (map value words) Late P 0 (begin P words)
unfolding begin proc_at final of
inv_begin rows Late P words =
    record {
      size = length-replicate P fresh;
      global = record { sorted = tt; below = tt; late = tt; there = tt; there_answers = tt; right = tt; ends = refl };
      local = λ p h.
          rw (fresh_at P p)
          (record {
            fits = omega arith;
            future_log = λ i g j. refl;
            future_answers = λ i g j. refl;
            ended = λ i g n. absurd (omega arith);
            opened = λ k e. absurd (closed_open rows (map value words) Late refl e);
            work = refl;
          });
    }
