-- The fold over a schedule, taken apart; what a step may make of a process record, and what goes on to hold of it after a byte; and what it is that an
-- open row is a row of the file (`Sane`). proofs/Laws.antt has the same over a schedule (`each_after`), and that every record is sane (`sane`).
use Rattle.std.specs.Prelude.{ℕ, zero, suc, ◌+◌, ◌≤◌, ◌<◌, ◌≡◌, Bool, cond, ◌⊎◌, eqb, set, take, replicate, Option, Some, None}
use Rattle.std.proofs.Math.Path.{refl, sym, subst}
use Rattle.std.proofs.Common.{◌∙◌, ap, inl, inr, add-zero, zero-add, suc-add, add-suc, arith, take-suc, length-take-le, get_or-set_same, get_or-set_other}
use Rattle.std.proofs.Math.Bool.{true, false}
use mathlib.Core.List.{List, [], ◌∷◌, ◌++◌, map}
use Rattle.std.proofs.Math.Logic.{⊎_elim}
use Rattle.std.proofs.Math.Dec.{ltb}
use Rattle.std.proofs.Math.ListN.{length, get_or, get_or-eq_default}
use Rattle.std.proofs.lemmas.List.{length-map}
use Rattle.std.proofs.Math.Seq.{set_out}
use borrow.Author.Tests.{ltb-true, ltb-false, eqb-true, eqb-false}
use Rattle.runfile.specs.declared.Row.{Row}
use Rattle.runfile.specs.Actions.{Action, step as steps, crash as crashes, wake as wakes, crash_all as crashes_all, none as idles, action, named}
use Rattle.runfile.specs.Kinds.{kind_of}
use Rattle.runfile.specs.Operations.{row_numbered, first, count}
use Rattle.rows.specs.declared.Entry.{Entry}
use Rattle.machine.specs.declared.Answer.{Answer}
use Rattle.machine.specs.declared.Process.{Process}
use Rattle.machine.specs.declared.Stage.{Stage}
use Rattle.machine.specs.declared.Stage.TheVariants.{A1, A2, A3, A4, A5, A6, V1, V2, V3, V4, V5, V6}
use Rattle.machine.specs.declared.Status.{Status}
use Rattle.machine.specs.declared.Status.TheVariants.{Down, Idle, N2, N3, Busy}
use Rattle.machine.specs.Records.{fresh, with_status, with_stored, with_checkpoint, Announcing, InWork, started, crashed, waked, row_open, WorkOpen}
use Rattle.machine.specs.Turn.{Still, Quiet}
use Rattle.machine.specs.Steps.{decide, decide_in, at_work, step_turn, step_turn_in}
use Rattle.machine.specs.KindLaws.{read_leads, lost_leads, tried_leads, stored_leads}
use Rattle.machine.specs.Machine.{State, process_of, turn, turn_in, apply, applied, proc_at, act, act_in, step, step_in, after, after_in}

pub after_join : (rows : List Row) (t : ℕ) (a b : List ℕ) (s : State) → after rows t (a ++ b) s ≡ after rows (t + length a) b (after rows t a s)
unfolding after_in
after_join rows t [] b s = rw (add-zero t)
after_join rows t (x ∷ a) b s = rw (add-suc t (length a), ← (suc-add t (length a))) (after_join rows (suc t) a b (step rows t x s))

-- one byte more
pub after_snoc : (rows : List Row) (t : ℕ) (a : List ℕ) (b : ℕ) (s : State) → after rows t (a ++ (b ∷ [])) s ≡ step rows (t + length a) b (after rows t a s)
unfolding after_in
after_snoc rows t a b s = after_join rows t a (b ∷ []) s

-- from n bytes of a schedule to one more
pub after_next : (rows : List Row) (schedule : List ℕ) (n : ℕ) (s : State) → n < length schedule → after rows 0 (take (suc n) schedule) s ≡ step rows n (get_or schedule n 0) (after rows 0 (take n schedule) s)
after_next rows schedule n s h =
    ap (λ bytes. after rows 0 bytes s) (take-suc schedule n 0 h)
    ∙ after_snoc rows 0 (take n schedule) (get_or schedule n 0) s
    ∙ ap (λ t. step rows t (get_or schedule n 0) (after rows 0 (take n schedule) s)) (zero-add (length (take n schedule)) ∙ length-take-le n schedule (omega arith))

-- a turn of a process in the midst of work leaves it at work on the same row, or idle with none open; it begins no row
pub data Goes (r : Process) : Process → Type 0 where
  on : {next : Process} → next.opened ≡ r.opened → next.begun ≡ r.begun → InWork next.status → Goes r next
  ends : {next : Process} → next.opened ≡ None → next.status ≡ Idle → next.begun ≡ r.begun → Goes r next

pub goes : (row : Row) (p t now : ℕ) (r : Process) (stage : Stage) (seen read_at tried_at : ℕ) (answer : Option Answer) → Goes r (process_of r (decide row p t now r stage seen read_at tried_at answer))
unfolding decide_in
goes row p t now r A1 seen read_at tried_at answer = read_leads (λ st. Goes r (with_status st r)) row now t (on refl refl tt) (λ a. on refl refl tt)
goes row p t now r A2 seen read_at tried_at answer = on refl refl tt
goes row p t now r A3 seen read_at tried_at answer = on refl refl tt
goes row p t now r A4 seen read_at tried_at answer =
    tried_leads (λ u. Goes r (process_of r u)) p t row now r seen read_at (λ x. on refl refl tt)
    (lost_leads (λ st. Goes r (with_status st r)) (kind_of row) seen read_at t (on refl refl tt) (on refl refl tt))
goes row p t now r A5 seen read_at tried_at answer =
    stored_leads (λ u. Goes r (process_of r u)) row (with_stored (Busy A6 seen read_at tried_at answer) answer r) seen read_at tried_at answer (on refl refl tt) (λ a e. on refl refl tt) (on refl refl tt)
goes row p t now r A6 seen read_at tried_at answer = ends refl refl refl
goes row p t now r V1 seen read_at tried_at answer = on refl refl tt
goes row p t now r V2 seen read_at tried_at answer = on refl refl tt
goes row p t now r V3 seen read_at tried_at answer = on refl refl tt
goes row p t now r V4 seen read_at tried_at answer = on refl refl tt
goes row p t now r V5 seen read_at tried_at answer = ends refl refl refl
goes row p t now r V6 seen read_at tried_at answer = ends refl refl refl

-- What a step of process p makes of its record: nothing; one of the three stores that announce a row (R101 to R103); work gone on with.
pub data Turned (rows : List Row) (p : ℕ) (r : Process) : Process → Type 0 where
  still : Turned rows p r r
  first_store : r.begun < count rows p → Turned rows p r (with_stored N2 None r)
  second_store : r.status ≡ N2 → Turned rows p r (with_checkpoint N3 false r)
  third_store : r.status ≡ N3 → Turned rows p r (started (first rows p + r.begun) r)
  works : {next : Process} → (k : ℕ) → r.opened ≡ Some k → Goes r next → Turned rows p r next

pub turned : (rows : List Row) (p t : ℕ) (words : List ℕ) (log : List Entry) (r : Process) → Turned rows p r (turn rows p t words log r r.status).process
unfolding turn_in step_turn_in
turned rows p t words log r = go r.status refl
  where
    start : (c : Bool) → ltb r.begun (count rows p) ≡ c → Turned rows p r (process_of r (cond c (Quiet (with_stored N2 None r)) Still))
    start true l = first_store (ltb-true r.begun (count rows p) l)
    start false l = still

    work : (o : Option ℕ) → r.opened ≡ o → (row : Row) (now : ℕ) (stage : Stage) (seen read_at tried_at : ℕ) (answer : Option Answer) → Turned rows p r (process_of r (at_work row p t now r o stage seen read_at tried_at answer))
    work None q row now stage seen read_at tried_at answer = still
    work (Some k) q row now stage seen read_at tried_at answer = works k q (goes row p t now r stage seen read_at tried_at answer)

    go : (status : Status) → r.status ≡ status → Turned rows p r (process_of r (step_turn (row_numbered rows (row_open r.opened)) p t (get_or words (row_numbered rows (row_open r.opened)).word 0) (first rows p) (count rows p) r status))
    go Down e = still
    go Idle e = start (ltb r.begun (count rows p)) refl
    go N2 e = second_store e
    go N3 e = third_store e
    go (Busy stage seen read_at tried_at answer) e = work r.opened refl _ _ stage seen read_at tried_at answer

-- a record that is there, whatever stands past the end
pub get_or_either : (l : List Process) (i : ℕ) (d e : Process) → i < length l → get_or l i d ≡ get_or l i e
get_or_either [] i d e h = absurd (omega arith)
get_or_either (x ∷ l) zero d e h = refl
get_or_either (x ∷ l) (suc i) d e h = get_or_either l i d e (omega arith)

-- what is done to each element, and then to one
pub map-set : {A B : Type 0} (f : A → B) (l : List A) (i : ℕ) (x : A) → map f (set l i x) ≡ set (map f l) i (f x)
map-set f [] i x = refl
map-set f (y ∷ l) zero x = refl
map-set {B = B} f (y ∷ l) (suc i) x = ap {B = List B} (λ l. f y ∷ l) (map-set f l i x)

-- the record of q after process p has been given another
pub record_set : (l : List Process) (p q : ℕ) (r : Process) → ((q ≡ p) × (get_or (set l p r) q fresh ≡ r)) ⊎ (get_or (set l p r) q fresh ≡ get_or l q fresh)
record_set l p q r = go (eqb q p) refl (ltb p (length l)) refl
  where
    go : (c : Bool) → eqb q p ≡ c → (d : Bool) → ltb p (length l) ≡ d → ((q ≡ p) × (get_or (set l p r) q fresh ≡ r)) ⊎ (get_or (set l p r) q fresh ≡ get_or l q fresh)
    go false x d y = inr (get_or-set_other l p q r fresh (eqb-false q p x))
    go true x true y = inl (eqb-true q p x, rw (eqb-true q p x) (get_or-set_same l p r fresh (ltb-true p (length l) y)))
    go true x false y = inr (rw (set_out l p r (ltb-false p (length l) y)))

-- What holds of each process and its record goes on to hold after a byte, if steps, crashes and wakes keep it.
module _ (rows : List Row) (Q : ℕ → Process → Type 0)
    (steps-keep : (p t : ℕ) (words : List ℕ) (log : List Entry) (r : Process) → Q p r → Q p (turn rows p t words log r r.status).process)
    (crashes-keep : (p : ℕ) (r : Process) → Q p r → Q p (crashed r))
    (wakes-keep : (p : ℕ) (r : Process) → Q p r → Q p (waked r r.status)) where
  Each : State → Type 0
  Each s = (q : ℕ) → Q q (proc_at q s)

  each_set : (p : ℕ) (r : Process) (s : State) → Each s → Q p r → (q : ℕ) → Q q (get_or (set s.processes p r) q fresh)
  unfolding Each proc_at
  each_set p r s h i q =
      ⊎_elim (λ e. subst (Q q) (sym e.1) (subst (λ p. Q p r) (sym e.0) i)) (λ e. subst (Q q) (sym e) (h q)) (record_set s.processes p q r)

  each_down : (l : List Process) (at : ℕ) → ((q : ℕ) → q < length l → Q (at + q) (get_or l q fresh)) → (q : ℕ) → q < length l → Q (at + q) (get_or (map crashed l) q fresh)
  each_down [] at h q g = absurd (omega arith)
  each_down (r ∷ l) at h zero g = crashes-keep (at + 0) r (h zero g)
  each_down (r ∷ l) at h (suc q) g =
      let z : at + suc q ≡ suc at + q = omega arith in
      subst (λ n. Q n (get_or (map crashed l) q fresh)) (sym z)
      (each_down l (suc at) (λ j k. let y : suc at + j ≡ at + suc j = omega arith in subst (λ n. Q n (get_or l j fresh)) (sym y) (h (suc j) (omega arith))) q (omega arith))

  each_act : (t : ℕ) (a : Action) (p : ℕ) (s : State) → Each s → Each (act rows t a p s)
  unfolding act_in applied apply Each proc_at
  each_act t steps p s h = each_set p _ s h (steps-keep p t s.words s.log (proc_at p s) (h p))
  each_act t crashes p s h = each_set p _ s h (crashes-keep p (proc_at p s) (h p))
  each_act t wakes p s h = each_set p _ s h (wakes-keep p (proc_at p s) (h p))
  each_act t crashes_all p s h = λ q. go q (ltb q (length s.processes)) refl
    where
      go : (q : ℕ) (c : Bool) → ltb q (length s.processes) ≡ c → Q q (get_or (map crashed s.processes) q fresh)
      go q true e = subst (λ n. Q n (get_or (map crashed s.processes) q fresh)) (zero-add q) (each_down s.processes 0 (λ j g. subst (λ n. Q n (get_or s.processes j fresh)) (sym (zero-add j)) (h j)) q (ltb-true q (length s.processes) e))
      go q false e =
          let g : length s.processes ≤ q = ltb-false q (length s.processes) e in
          let same : get_or (map crashed s.processes) q fresh ≡ get_or s.processes q fresh =
          get_or-eq_default (map crashed s.processes) fresh (rw (length-map s.processes crashed) g) ∙ sym (get_or-eq_default s.processes fresh g) in
          subst (Q q) (sym same) (h q)
  each_act t idles p s h = h

  pub each_step : (t byte : ℕ) (s : State) → ((q : ℕ) → Q q (proc_at q s)) → (q : ℕ) → Q q (proc_at q (step rows t byte s))
  unfolding step_in Each
  each_step t byte s h = each_act t (action byte) (named byte) s h

-- an open row is a row of the file, in the midst of work a row is open, and in the midst of the announcement p has rows left
pub record Sane (rows : List Row) (p : ℕ) (r : Process) : Type 0 where
  pub in_file : (k : ℕ) → r.opened ≡ Some k → k < length rows
  pub works : WorkOpen r.status r.opened
  pub left : Announcing r.status → r.begun < count rows p

-- at first every process, there or not, has a fresh record (R86)
pub fresh_at : (P p : ℕ) → get_or (replicate P fresh) p fresh ≡ fresh
fresh_at zero p = refl
fresh_at (suc P) zero = refl
fresh_at (suc P) (suc p) = fresh_at P p

pub closed_open : {A : Type 0} {k : ℕ} → None ≡ Some k → A
closed_open e = absurd (let z : ◌≡◌ {A = ℕ} 0 1 = cc in omega arith)

module _ (rows : List Row) where
  pub sane_idle : (q : ℕ) → Sane rows q fresh
  sane_idle q = record { in_file = λ k e. closed_open e; works = tt; left = λ x. absurd x }
