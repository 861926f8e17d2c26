-- Left alone by crashes, a process ends a read or a compare within 9 own steps from the start (R150), and every operation within 5 after a wake (R151):
-- each own step leads to a stage with fewer steps to go, or closes the row; no other byte touches the record of a process that is awake, unless it crashes
-- it. And both limits are met.
use Prim.Native.Nat.{ℕ, zero, suc, ◌+◌, ◌≤◌, ◌<◌}
use Rattle.std.specs.Prelude.{◌≡◌, Bool, ◌⊎◌, eqb, get_or, replicate, Option, Some, None}
use Rattle.std.proofs.Math.Path.{refl, ap}
use Rattle.std.proofs.Common.{sym, ◌∙◌, subst, inl, inr}
use Rattle.std.proofs.Math.Bool.{true, false, cond}
use mathlib.Core.List.{List, [], ◌∷◌, ◌++◌}
use Rattle.std.proofs.Math.Logic.{⊎_elim}
use native.Mathlib.Omega.{arith}
use Rattle.std.proofs.Math.ListN.{length}
use Rattle.std.proofs.lemmas.List.{length-replicate}
use Rattle.std.proofs.Math.Seq.{get_or-set_same}
use borrow.Author.Tests.{eqb-true, eqb-false, lt-ltb}
use Rattle.runfile.specs.declared.Row.{Row}
use Rattle.runfile.specs.Actions.{Action, step as steps, crash as crashes, wake as wakes, crash_all as crashes_all, none as idles, action, named}
use Rattle.runfile.specs.declared.Kind.{Kind}
use Rattle.runfile.specs.Kinds.{kind_of}
use Rattle.runfile.specs.Operations.{row_numbered, first, count}
use Rattle.rows.specs.declared.Entry.{Entry}
use Rattle.machine.specs.declared.Answer.{Answer}
use Rattle.machine.specs.declared.Process.{Process}
use Rattle.machine.specs.declared.Stage.{Stage}
use Rattle.machine.specs.declared.Stage.TheVariants.{A1, A2, A3, A4, A5, A6, V1, V2, V3, V4, V5, V6}
use Rattle.machine.specs.declared.Status.{Status}
use Rattle.machine.specs.declared.Status.TheVariants.{Down, Idle, N2, N3, Busy}
use Rattle.machine.specs.Turn.{Turn}
use Rattle.word.specs.Word.{value_in, bit_in, swapped_in, bit_of, turn_of, flips_in}
use Rattle.machine.specs.Records.{fresh, with_status, with_stored, closed, woken_up, row_open}
use Rattle.machine.specs.Steps.{recovered, tried_in, storing_in, decide, decide_in, step_turn_in, working}
use Rattle.machine.specs.Choices.{LeadsTo}
use Rattle.machine.proofs.Choices.{v3_either}
use Rattle.machine.specs.Machine.{State, process_of, turn, turn_in, apply, applied, proc_at, act, act_in, step, step_in, after, after_in, begin}
use Rattle.machine.specs.Laws.{after_join, after_snoc}
use Rattle.machine.specs.KindLaws.{NoAdvance, loss_false, either, read_leads, tried_leads, stored_leads}
use Rattle.machine.specs.OneByte.{others, wake_awake, no_action}
use Rattle.machine.specs.Limits.{step_of, crash_of, how_many, own_steps, Uncrashed, Ended, EndsWithin, next_kind, none_more, size, present, ran, record_of}

-- the same states, told otherwise
retold : (limit begun p : ℕ) (bytes : List ℕ) (at at' : List ℕ → State) → ((part : List ℕ) → at' part ≡ at part) → EndsWithin limit begun p bytes at → EndsWithin limit begun p bytes at'
retold limit begun p bytes at at' same e = record { part = e.part; rest = e.rest; whole = e.whole; few = e.few; ended = rw (same e.part) e.ended }

-- how many own steps may follow that of a stage until the row is closed, by the longer way where a stage leads on to one of two (R111 to R126)
unfoldable further : Stage → ℕ
further A1 = 5
further A2 = 4
further A3 = 3
further A4 = 2
further A5 = 1
further A6 = 0
further V1 = 4
further V2 = 3
further V3 = 2
further V4 = 1
further V5 = 0
further V6 = 0

-- the stages at which a row of a kind has a limit: up to A4, which may lead back to A1, an advance has none
abbrev Limited : Kind → Stage → Type 0
Limited kind A1 = NoAdvance kind
Limited kind A2 = NoAdvance kind
Limited kind A3 = NoAdvance kind
Limited kind A4 = NoAdvance kind
Limited kind A5 = Unit
Limited kind A6 = Unit
Limited kind V1 = Unit
Limited kind V2 = Unit
Limited kind V3 = Unit
Limited kind V4 = Unit
Limited kind V5 = Unit
Limited kind V6 = Unit

-- at work on a row of a kind, with at most n own steps to go
abbrev Working : ℕ → Kind → Status → Type 0
Working n kind Down = ⊥
Working n kind Idle = ⊥
Working n kind N2 = ⊥
Working n kind N3 = ⊥
Working n kind (Busy stage seen read_at tried_at answer) = (further stage < n) × Limited kind stage

-- a process that has at most n own steps to go, and will then have begun so many: it is to start, in the midst of
-- the announcement, or at work; or it has ended already
data Pending (rows : List Row) (p n begun : ℕ) (r : Process) : Type 0 where
  starts : r.status ≡ Idle → r.begun < count rows p → suc r.begun ≡ begun → NoAdvance (next_kind rows p r) → 9 ≤ n → Pending rows p n begun r
  clears : r.status ≡ N2 → suc r.begun ≡ begun → NoAdvance (next_kind rows p r) → 8 ≤ n → Pending rows p n begun r
  opens : r.status ≡ N3 → suc r.begun ≡ begun → NoAdvance (next_kind rows p r) → 7 ≤ n → Pending rows p n begun r
  works : (k : ℕ) → Working n (kind_of (row_numbered rows k)) r.status → r.opened ≡ Some k → r.begun ≡ begun → Pending rows p n begun r

abbrev Due : List Row → (p n begun : ℕ) → Process → Type 0
Due rows p n begun r = Ended begun r ⊎ Pending rows p n begun r

-- an own step at a stage, on row k
module _ (rows : List Row) (p t now : ℕ) (r : Process) (n begun k : ℕ) (o : r.opened ≡ Some k) (b : r.begun ≡ begun) where
  abbrev Nearer : Process → Type 0
  Nearer = Due rows p n begun

  abbrev row : Row
  row = row_numbered rows k

  -- it goes on to a stage with fewer steps to go, its row still open; or the row is closed
  on : (next : Process) → Working n (kind_of row) next.status → next.opened ≡ r.opened → next.begun ≡ r.begun → Nearer next
  on next w q e = inr (works k w (q ∙ o) (e ∙ b))

  closes : Nearer (closed r)
  closes = inl (record { idle = refl; no_row = refl; begun = b })

  led : {stage : Stage} {u : Turn} → LeadsTo r stage u → (further stage < n) × Limited (kind_of row) stage → Nearer (process_of r u)
  led l m = subst (λ u. Nearer (process_of r u)) (sym l.is) (on _ m refl refl)

  -- a stage leads to one with fewer steps to go, by whichever branch
  nearer : (stage : Stage) (seen read_at tried_at : ℕ) (answer : Option Answer) → further stage ≤ n → Limited (kind_of row) stage → Nearer (process_of r (decide row p t now r stage seen read_at tried_at answer))
  unfolding decide_in further
  nearer A1 seen read_at tried_at answer m l = on _ (read_leads (Working n (kind_of row)) row now t (omega arith, l) (λ a. (omega arith, tt))) refl refl
  nearer A2 seen read_at tried_at answer m l = on _ (omega arith, l) refl refl
  nearer A3 seen read_at tried_at answer m l = on _ (omega arith, l) refl refl
  nearer A4 seen read_at tried_at answer m l =
      tried_leads (λ u. Nearer (process_of r u)) p t row now r seen read_at (λ x. on _ (omega arith, tt) refl refl)
      (subst (λ st. Nearer (with_status st r)) (sym (loss_false (kind_of row) seen read_at t l)) (on _ (omega arith, tt) refl refl))
  nearer A5 seen read_at tried_at answer m l =
      let stores : Nearer (with_stored (Busy A6 seen read_at tried_at answer) answer r) = on _ (omega arith, tt) refl refl in
      stored_leads (λ u. Nearer (process_of r u)) row (with_stored (Busy A6 seen read_at tried_at answer) answer r) seen read_at tried_at answer stores (λ a e. stores) stores
  nearer A6 seen read_at tried_at answer m l = closes
  nearer V1 seen read_at tried_at answer m l = on _ (go r.stored) refl refl
    where
      go : (stored : Option Answer) → (further (recovered stored) < n) × Limited (kind_of row) (recovered stored)
      go None = (omega arith, tt)
      go (Some a) = (omega arith, tt)
  nearer V2 seen read_at tried_at answer m l = on _ (either (λ g. (further g < n) × Limited (kind_of row) g) r.checkpoint V3 V6 (omega arith, tt) (omega arith, tt)) refl refl
  nearer V3 seen read_at tried_at answer m l = ⊎_elim (λ l. led l (omega arith, tt)) (λ l. led l (omega arith, tt)) (v3_either row p t now r seen read_at tried_at answer)
  nearer V4 seen read_at tried_at answer m l = on _ (omega arith, tt) refl refl
  nearer V5 seen read_at tried_at answer m l = closes
  nearer V6 seen read_at tried_at answer m l = closes

module _ (rows : List Row) (p : ℕ) where
  -- an own step brings the end nearer
  moves_on : (t : ℕ) (words : List ℕ) (log : List Entry) (r : Process) (n begun : ℕ) → Pending rows p (suc n) begun r → Due rows p n begun (turn rows p t words log r r.status).process
  unfolding turn_in step_turn_in further
  moves_on t words log r n begun (starts i l b a m) = rw (i, lt-ltb r.begun (count rows p) l) (inr (clears refl b a (omega arith)))
  moves_on t words log r n begun (clears i b a m) = rw i (inr (opens refl b a (omega arith)))
  moves_on t words log r n begun (opens i b a m) = rw i (inr (works (first rows p + r.begun) (omega arith, a) refl b))
  moves_on t words log r n begun (works k w o b) = go r.status w
    where
      go : (status : Status) → Working (suc n) (kind_of (row_numbered rows k)) status → Due rows p n begun (turn rows p t words log r status).process
      go Down w = absurd w
      go Idle w = absurd w
      go N2 w = absurd w
      go N3 w = absurd w
      go (Busy stage seen read_at tried_at answer) w =
          rw (working _ p t _ r r.opened k stage seen read_at tried_at answer o)
          (subst (λ j. Due rows p n begun (process_of r (decide (row_numbered rows j) p t (get_or words (row_numbered rows j).word 0) r stage seen read_at tried_at answer))) (sym (ap row_open o))
          (nearer rows p t (get_or words (row_numbered rows k).word 0) r n begun k o b stage seen read_at tried_at answer (let m = w.0 in omega arith) w.1))

  -- a process at work or about to start is awake, and has a step to go
  awake : (n begun : ℕ) (r : Process) → Pending rows p n begun r → (r.status ≡ Down → ⊥) × (0 < n)
  awake n begun r (starts i l b a m) = (λ d. (let z : ◌≡◌ {A = ℕ} 0 1 = cc in omega arith), omega arith)
  awake n begun r (clears i b a m) = (λ d. (let z : ◌≡◌ {A = ℕ} 0 1 = cc in omega arith), omega arith)
  awake n begun r (opens i b a m) = (λ d. (let z : ◌≡◌ {A = ℕ} 0 1 = cc in omega arith), omega arith)
  awake n begun r (works k w o b) = go r.status w
    where
      go : (status : Status) → Working n (kind_of (row_numbered rows k)) status → (status ≡ Down → ⊥) × (0 < n)
      go Down w = absurd w
      go Idle w = absurd w
      go N2 w = absurd w
      go N3 w = absurd w
      go (Busy stage seen read_at tried_at answer) w = (λ d. (let z : ◌≡◌ {A = ℕ} 0 1 = cc in omega arith), let m = w.0 in omega arith)

  -- the record after an own step
  own : (t byte : ℕ) (s : State) → p < length s.processes → step_of p (action byte) (named byte) ≡ true → proc_at p (step rows t byte s) ≡ (turn rows p t s.words s.log (proc_at p s) (proc_at p s).status).process
  unfolding step_in act_in applied apply proc_at
  own t byte s h x = go (action byte) (named byte) x
    where
      go : (a : Action) (q : ℕ) → step_of p a q ≡ true → proc_at p (act rows t a q s) ≡ (turn rows p t s.words s.log (proc_at p s) (proc_at p s).status).process
      go steps q x = rw (eqb-true q p x) (get_or-set_same s.processes p _ fresh h)
      go crashes q x = cc
      go wakes q x = cc
      go crashes_all q x = cc
      go idles q x = cc

  -- any other byte, unless it crashes p, leaves the record of p as it was if p is awake
  kept : (t byte : ℕ) (s : State) → ((proc_at p s).status ≡ Down → ⊥) → step_of p (action byte) (named byte) ≡ false → crash_of p (action byte) (named byte) ≡ false → proc_at p (step rows t byte s) ≡ proc_at p s
  kept t byte s up x y = go (action byte) refl x y
    where
      other : eqb (named byte) p ≡ false → proc_at p (step rows t byte s) ≡ proc_at p s
      other e = others rows t byte s (λ all. (let w : true ≡ false = subst (λ a. crash_of p a (named byte) ≡ false) all y in let z : ◌≡◌ {A = ℕ} 0 1 = cc in omega arith)) p (λ q. eqb-false (named byte) p e (sym q))

      woken : action byte ≡ wakes → (c : Bool) → eqb (named byte) p ≡ c → proc_at p (step rows t byte s) ≡ proc_at p s
      woken a true e = ap (proc_at p) (wake_awake rows t byte s a (subst (λ q. (proc_at q s).status ≡ Down → ⊥) (sym (eqb-true (named byte) p e)) up))
      woken a false e = other e

      go : (a : Action) → action byte ≡ a → step_of p a (named byte) ≡ false → crash_of p a (named byte) ≡ false → proc_at p (step rows t byte s) ≡ proc_at p s
      go steps a x y = other x
      go crashes a x y = other y
      go wakes a x y = woken a (eqb (named byte) p) refl
      go crashes_all a x y = cc
      go idles a x y = ap (proc_at p) (no_action rows t byte s a)

  abbrev Ends : (n begun t : ℕ) → List ℕ → State → Type 0
  Ends n begun t bytes s = EndsWithin n begun p bytes (λ part. after rows t part s)

  at_once : (n begun t : ℕ) (bytes : List ℕ) (s : State) → Ended begun (proc_at p s) → Ends n begun t bytes s
  unfolding after_in how_many
  at_once n begun t bytes s e = record { part = []; rest = bytes; whole = refl; few = omega arith; ended = e }

  -- with a first byte more, which may be an own step
  onward : (n m begun t byte : ℕ) (bytes : List ℕ) (s : State) → cond (step_of p (action byte) (named byte)) (suc m) m ≤ n → Ends m begun (suc t) bytes (step rows t byte s) → Ends n begun t (byte ∷ bytes) s
  unfolding after_in how_many
  onward n m begun t byte bytes s l f = record { part = byte ∷ f.part; rest = f.rest; whole = ap (λ l. byte ∷ l) f.whole; few = few (step_of p (action byte) (named byte)) l f.few; ended = f.ended }
    where
      few : (c : Bool) → cond c (suc m) m ≤ n → {k : ℕ} → k ≤ m → cond c (suc k) k ≤ n
      few true l q = omega arith
      few false l q = omega arith

  -- as many own steps as there are to go, and no crash: at some byte it has ended
  within : (n begun t : ℕ) (bytes : List ℕ) (s : State) → p < length s.processes → Due rows p n begun (proc_at p s) → Uncrashed p bytes → n ≤ own_steps p bytes → Ends n begun t bytes s
  unfolding how_many
  within n begun t [] s h d u l = go d
    where
      go : Due rows p n begun (proc_at p s) → Ends n begun t [] s
      go (inl e) = at_once n begun t [] s e
      go (inr d) = absurd (let some : 0 < n = (awake n begun (proc_at p s) d).1 in omega arith)
  within n begun t (byte ∷ bytes) s h d u l = let v = none_more (crash_of p (action byte) (named byte)) u in go n d v.0 (step_of p (action byte) (named byte)) refl l (λ m e. within m begun (suc t) bytes (step rows t byte s) (rw (size rows p t byte s) h) e v.1)
    where
      go : (n : ℕ) → Due rows p n begun (proc_at p s) → crash_of p (action byte) (named byte) ≡ false → (c : Bool) → step_of p (action byte) (named byte) ≡ c → n ≤ cond c (suc (own_steps p bytes)) (own_steps p bytes)
          → ((m : ℕ) → Due rows p m begun (proc_at p (step rows t byte s)) → m ≤ own_steps p bytes → Ends m begun (suc t) bytes (step rows t byte s))
          → Ends n begun t (byte ∷ bytes) s
      go n (inl e) y c x l ih = at_once n begun t (byte ∷ bytes) s e
      go zero (inr d) y c x l ih = absurd (let some : 0 < zero = (awake zero begun (proc_at p s) d).1 in omega arith)
      go (suc n) (inr d) y true x l ih = onward (suc n) n begun t byte bytes s (rw x (omega arith)) (ih n (rw (own t byte s h x) (moves_on t s.words s.log (proc_at p s) n begun d)) (omega arith))
      go (suc n) (inr d) y false x l ih = onward (suc n) (suc n) begun t byte bytes s (rw x (omega arith)) (ih (suc n) (rw (kept t byte s (awake (suc n) begun (proc_at p s) d).0 x y) (inr d)) l)

module _ (rows : List Row) (P : ℕ) (words : List ℕ) where
  module _ (p : ℕ) (h : p < P) (before : List ℕ) where
    abbrev mine : Process
    mine = record_of rows P words p before

    here : p < length (ran rows P words before).processes
    unfolding begin
    here = present rows p 0 before (begin P words) (rw (length-replicate P fresh) h)

    -- R150: after the bytes `before` it is idle with rows left, so that its next own step is the first store of the announcement, of a row that is no
    -- advance; in the bytes `during` it is not crashed and has the 9 steps
    pub from_start : (during : List ℕ) → (record_of rows P words p before).status ≡ Idle → (record_of rows P words p before).begun < count rows p → NoAdvance (next_kind rows p (record_of rows P words p before)) → Uncrashed p during → 9 ≤ own_steps p during
        → EndsWithin 9 (suc (record_of rows P words p before).begun) p during (λ part. ran rows P words (before ++ part))
    from_start during i l a u n = retold _ _ p during _ _ (λ part. after_join rows 0 before part (begin P words)) (within rows p 9 (suc mine.begun) (0 + length before) during (ran rows P words before) here (inr (starts i l refl a (omega arith))) u n)

    module _ (byte : ℕ) (a : action byte ≡ wakes) (q : named byte ≡ p) (d : (record_of rows P words p before).status ≡ Down) where
      abbrev woken : State
      woken = step rows (0 + length before) byte (ran rows P words before)

      woken_is : proc_at p woken ≡ with_status (woken_up mine.opened) mine
      unfolding step_in act_in applied apply proc_at
      woken_is = rw (a, q, get_or-set_same (ran rows P words before).processes p _ fresh here, d)

      -- R151: after `before` it is down with a row open, of whatever kind, and the next byte wakes it
      pub from_wake : (k : ℕ) (during : List ℕ) → (record_of rows P words p before).opened ≡ Some k → Uncrashed p during → 5 ≤ own_steps p during
          → EndsWithin 5 (record_of rows P words p before).begun p during (λ part. ran rows P words (before ++ (byte ∷ part)))
      unfolding after_in further
      from_wake k during o u n =
          retold _ _ p during _ _ (λ part. after_join rows 0 before (byte ∷ part) (begin P words))
          (within rows p 5 mine.begun (suc (0 + length before)) during woken (rw (size rows p (0 + length before) byte (ran rows P words before)) here) (rw (woken_is, o) (inr (works k (omega arith, tt) refl refl))) u n)

      -- with no row open it is idle at once (R132)
      pub wake_idle : (record_of rows P words p before).opened ≡ None → Ended (record_of rows P words p before).begun (record_of rows P words p (before ++ (byte ∷ [])))
      wake_idle o = rw (after_snoc rows 0 before byte (begin P words), woken_is, o) (record { idle = refl; no_row = refl; begun = refl })

-- The limits apply, and they are met. In case f (R266), 4·00 7·01 5·00, process 0 has 9 steps, with 7 of process 1 in between; in case d
-- (R264), 7·00 10 20 5·00, it has 5 steps after its wake. In both its row is still open after one step less
abbrev compare : (process old new : ℕ) → Row
compare process old new = record { process = process; kind = 1; word = 0; old = old; new = new }

abbrev advance : (process amount : ℕ) → Row
advance process amount = record { process = process; kind = 2; word = 0; old = 0; new = amount }

module _ where
  abbrev rows_f : List Row
  rows_f = compare 0 7 8 ∷ compare 1 7 9 ∷ []

  abbrev first_f : List ℕ
  first_f = replicate 4 0 ++ replicate 7 1

  pub case_f_lem : EndsWithin 9 1 0 (first_f ++ replicate 5 0) (ran rows_f 2 (7 ∷ [])) × ((record_of rows_f 2 (7 ∷ []) 0 (first_f ++ replicate 4 0)).opened ≡ Some 0)
  unfolding proc_at after_in step_in act_in applied apply begin turn_in step_turn_in decide_in tried_in storing_in count first row_numbered how_many value_in flips_in swapped_in turn_of
  case_f_lem = (from_start rows_f 2 (7 ∷ []) 0 (omega arith) [] _ refl (omega arith) tt refl (omega arith), refl)

  abbrev rows_d : List Row
  rows_d = compare 0 7 8 ∷ []

  abbrev crashed_d : List ℕ
  crashed_d = replicate 7 0 ++ (16 ∷ [])

  pub case_d : EndsWithin 5 1 0 (replicate 5 0) (λ part. ran rows_d 1 (7 ∷ []) (crashed_d ++ (32 ∷ part))) × ((record_of rows_d 1 (7 ∷ []) 0 (crashed_d ++ (32 ∷ replicate 4 0))).opened ≡ Some 0)
  unfolding proc_at after_in step_in act_in applied apply begin turn_in step_turn_in decide_in tried_in count first row_numbered how_many value_in flips_in swapped_in turn_of bit_in bit_of
  case_d = (from_wake rows_d 1 (7 ∷ []) 0 (omega arith) crashed_d 32 refl refl refl 0 _ refl refl (omega arith), refl)

  -- An advance that is cut off between A4 and A5 has the same 5 steps; and one that loses once has its row still open after 9 steps of its own, so that
  -- the limit from the start is not one of advances
  abbrev rows_one : List Row
  rows_one = advance 0 5 ∷ []

  pub wakes_in_5 : EndsWithin 5 1 0 (replicate 5 0) (λ part. ran rows_one 1 (7 ∷ []) (crashed_d ++ (32 ∷ part))) × ((record_of rows_one 1 (7 ∷ []) 0 (crashed_d ++ (32 ∷ replicate 4 0))).opened ≡ Some 0)
  unfolding proc_at after_in step_in act_in applied apply begin turn_in step_turn_in decide_in tried_in count first row_numbered how_many value_in flips_in swapped_in turn_of bit_in bit_of
  wakes_in_5 = (from_wake rows_one 1 (7 ∷ []) 0 (omega arith) crashed_d 32 refl refl refl 0 _ refl refl (omega arith), refl)

  abbrev rows-two : List Row
  rows-two = advance 0 5 ∷ advance 1 3 ∷ []

  pub more_than_9 : (own_steps 0 (first_f ++ replicate 5 0) ≡ 9) × ((record_of rows-two 2 (7 ∷ []) 0 (first_f ++ replicate 5 0)).opened ≡ Some 0)
  unfolding proc_at after_in step_in act_in applied apply begin turn_in step_turn_in decide_in tried_in storing_in count first row_numbered how_many value_in flips_in swapped_in turn_of
  more_than_9 = (refl, refl)
