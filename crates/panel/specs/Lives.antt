-- What the record of a process is like after any schedule that all began idle: no condition of 21 is met by it. By a property that says, of
-- each stage, what the three stores and the earlier stages have left, and that a step, a crash and a wake keep.
use Rattle.std.specs.Prelude.{ℕ, suc, ◌+◌, ◌≤◌, ◌<◌, ◌≡◌, Bool, cond, not, ◌||◌, List, eqb, get_or, Option, Some, None}
use Rattle.std.proofs.Math.Path.{refl, subst}
use Rattle.std.proofs.Common.{sym, ◌∙◌, true≢false, arith}
use Rattle.std.proofs.Math.Bool.{true, false}
use Rattle.std.proofs.Math.Dec.{ltb}
use borrow.Author.Tests.{ltb-true, le-ltb, lt-leb, eq-eqb, ne_eqb}
use Rattle.runfile.specs.declared.Row.{Row}
use Rattle.runfile.specs.Operations.{row_numbered, first, count}
use Rattle.runfile.specs.declared.Kind.{Kind}
use Rattle.runfile.specs.declared.Kind.TheVariants.{Read, Compare, Advance}
use Rattle.runfile.specs.Kinds.{kind_of}
use Rattle.rows.specs.declared.Entry.{Entry}
use Rattle.word.specs.Word.{width, value, value_in, bit}
use Rattle.word.specs.Laws.{value_own}
use Rattle.machine.specs.declared.Answer.{Answer}
use Rattle.machine.specs.declared.Process.{Process}
use Rattle.machine.specs.declared.Kept.{Kept}
use Rattle.machine.specs.declared.Stage.{Stage}
use Rattle.machine.specs.declared.Stage.TheVariants.{A1, A2, A3, A4, A5, A6, V1, V2, V3, V4, V5, V6}
use Rattle.machine.specs.declared.Answer.TheVariants.{False, True, Value, Was}
use Rattle.machine.specs.declared.Status.{Status}
use Rattle.machine.specs.declared.Status.TheVariants.{Down, Idle, N2, N3, Busy}
use Rattle.machine.specs.Turn.{Still, Quiet, Logs, Loses}
use Rattle.machine.specs.Records.{fresh, with_status, with_stored, closed, crashed, waked, woken_up, started, row_open}
use Rattle.machine.specs.Steps.{decide, decide_in, read_by, after_read, kept_by, swap_says, lost_by, tried, recalled, storing, storing_in, at_work, step_turn, step_turn_in, recovered, same_bit}
use Rattle.machine.specs.KindLaws.{either, tried_leads}
use Rattle.machine.specs.Machine.{State, process_of, turn, turn_in, proc_at, step, begin}
use Rattle.machine.specs.Laws.{fresh_at, closed_open, each_step}
use Rattle.panel.specs.Possible.{read_has, has_stage, can_say, has_answer, missing, not_last, open_while, none_at, none_left, no_answer, wrong_kind, misplaced, misdone, impossible}

-- of a process whose rows begin at row `first`: row k is the last of the `begun` that it has begun, and what is kept is of its kind
pub record Last (rows : List Row) (first begun : ℕ) (stored : Option Answer) (checkpoint : Bool) (k : ℕ) : Type 0 where
  pub last : k + 1 ≡ first + begun
  pub some : 1 ≤ begun
  pub kind : has_answer (kind_of (row_numbered rows k)) stored ≡ true
  pub unchecked : has_stage (kind_of (row_numbered rows k)) V3 ≡ false → checkpoint ≡ false

-- in the midst of work: a row is open, whose kind has the stage and the answer; and where an answer is needed there is one
pub record Works (rows : List Row) (opened : Option ℕ) (stored : Option Answer) (stage : Stage) (answer : Option Answer) : Type 0 where
  pub row : ℕ
  pub opens : opened ≡ Some row
  pub stage_suits : has_stage (kind_of (row_numbered rows row)) stage ≡ true
  pub answer_suits : has_answer (kind_of (row_numbered rows row)) answer ≡ true
  pub answered : missing stage answer stored ≡ false

-- at each stage: an idle process has no row open; nor has one that announces a row, which is there, and whose first store has cleared the
-- stored answer and whose second the checkpoint
abbrev pub At : List Row → (count : ℕ) → Process → Status → Type 0
At rows count r Down = Unit
At rows count r Idle = r.opened ≡ None
At rows count r N2 = (r.opened ≡ None) × (r.begun < count) × (r.stored ≡ None)
At rows count r N3 = (r.opened ≡ None) × (r.begun < count) × (r.stored ≡ None) × (r.checkpoint ≡ false)
At rows count r (Busy stage seen read_at tried_at answer) = Works rows r.opened r.stored stage answer

pub record Lives (rows : List Row) (p : ℕ) (r : Process) : Type 0 where
  pub few : r.begun ≤ count rows p
  pub opened_last : (k : ℕ) → r.opened ≡ Some k → Last rows (first rows p) r.begun r.stored r.checkpoint k
  pub keeps : value r.kept.value ≡ r.kept.value
  pub at : At rows (count rows p) r r.status

-- Of the tables: a stage that a read has, every kind has; a kind that has another stage has all, and can say what its swap says over a value.
both : (stage : Stage) → read_has stage ≡ true → (kind : Kind) → has_stage kind stage ≡ true
both stage e Read = e
both stage e Compare = refl
both stage e Advance = refl

module _ (stage : Stage) (more : read_has stage ≡ false) where
  has_all : (kind : Kind) → has_stage kind stage ≡ true → (other : Stage) → has_stage kind other ≡ true
  has_all Read has other = absurd (true≢false (sym has ∙ more))
  has_all Compare has other = refl
  has_all Advance has other = refl

  swap_said : (kind : Kind) → has_stage kind stage ≡ true → (v : ℕ) → value v ≡ v → can_say kind (swap_says kind v) ≡ true
  swap_said Read has v e = absurd (true≢false (sym has ∙ more))
  swap_said Compare has v e = refl
  swap_said Advance has v e = eq-eqb (value v) v e

-- what A2 keeps has a value beside the bit, if what was kept before had
keeps_value : (kind : Kind) (before : Kept) (bit : Bool) (v : ℕ) → value before.value ≡ before.value → value v ≡ v → value (kept_by kind before bit v).value ≡ (kept_by kind before bit v).value
keeps_value Read before bit v old new = old
keeps_value Compare before bit v old new = old
keeps_value Advance before bit v old new = new

module _ (rows : List Row) (p : ℕ) where
  -- a record whose status alone is another
  go_on : (r : Process) (status : Status) → Lives rows p r → At rows (count rows p) (with_status status r) status → Lives rows p (with_status status r)
  go_on r status h a = record { few = h.few; opened_last = h.opened_last; keeps = h.keeps; at = a }

  -- a step in the midst of work on row k
  module _ (t now : ℕ) (r : Process) (h : Lives rows p r) (k : ℕ) (o : r.opened ≡ Some k) where
    abbrev row : Row
    row = row_numbered rows k

    -- at work on that row
    at_work_lem : (stored : Option Answer) (stage : Stage) (answer : Option Answer) → has_stage (kind_of row) stage ≡ true → has_answer (kind_of row) answer ≡ true → missing stage answer stored ≡ false → Works rows r.opened stored stage answer
    at_work_lem stored stage answer s a m = record { row = k; opens = o; stage_suits = s; answer_suits = a; answered = m }

    kept_last : Last rows (first rows p) r.begun r.stored r.checkpoint k
    kept_last = h.opened_last k o

    same_row : {j : ℕ} → r.opened ≡ Some j → k ≡ j
    same_row e = let z = sym o ∙ e in cc

    lives_read : Lives rows p (with_status (after_read row now t) r)
    lives_read = go (kind_of row) refl
      where
        go : (kind : Kind) → kind_of row ≡ kind → Lives rows p (with_status (read_by kind row.old now t) r)
        go Read q = go_on r _ h (at_work_lem r.stored A5 (Some (Value (value now))) (rw q) (rw q (eq-eqb (value (value now)) (value now) (value_own width now))) refl)
        go Compare q =
            either (λ st. Lives rows p (with_status st r)) (eqb (value now) row.old) (Busy A2 now t 0 None) (Busy A5 now t 0 (Some False))
            (go_on r _ h (at_work_lem r.stored A2 None (rw q) refl refl)) (go_on r _ h (at_work_lem r.stored A5 (Some False) (rw q) (rw q) refl))
        go Advance q = go_on r _ h (at_work_lem r.stored A2 None (rw q) refl refl)

    lives_tried : (seen read_at : ℕ) → has_stage (kind_of row) A4 ≡ true → Lives rows p (process_of r (tried p t row now r seen read_at))
    lives_tried seen read_at s =
        tried_leads (λ u. Lives rows p (process_of r u)) p t row now r seen read_at
        (λ x. go_on r _ h (at_work_lem r.stored A5 (Some (swap_says (kind_of row) (value seen))) (both A5 refl (kind_of row)) (swap_said A4 refl (kind_of row) s (value seen) (value_own width seen)) refl))
        (lost (kind_of row) refl s)
      where
        lost : (kind : Kind) → kind_of row ≡ kind → has_stage kind A4 ≡ true → Lives rows p (with_status (lost_by kind seen read_at t) r)
        lost Read q s = absurd (true≢false (sym s))
        lost Compare q s = go_on r _ h (at_work_lem r.stored A5 (Some False) (rw q) (rw q) refl)
        lost Advance q s = go_on r _ h (at_work_lem r.stored A1 None (rw q) refl refl)

    -- an answer of the row's kind is stored, at a stage of that kind
    stores : (stage : Stage) (seen read_at tried_at : ℕ) (answer stored : Option Answer) → has_stage (kind_of row) stage ≡ true → has_answer (kind_of row) answer ≡ true → missing stage answer stored ≡ false → has_answer (kind_of row) stored ≡ true
        → Lives rows p (with_stored (Busy stage seen read_at tried_at answer) stored r)
    stores stage seen read_at tried_at answer stored s a m k-ok = record {
      few = h.few;
      opened_last = λ j e. subst (Last rows (first rows p) r.begun stored r.checkpoint) (same_row e) (record { last = kept_last.last; some = kept_last.some; kind = k-ok; unchecked = kept_last.unchecked });
      keeps = h.keeps;
      at = at_work_lem stored stage answer s a m;
    }

    next_is : (next : Process) (seen read_at tried_at : ℕ) (answer : Option Answer) → process_of r (storing row next seen read_at tried_at answer) ≡ next
    unfolding storing_in
    next_is next seen read_at tried_at None = refl
    next_is next seen read_at tried_at (Some True) = refl
    next_is next seen read_at tried_at (Some (Was v)) = refl
    next_is next seen read_at tried_at (Some (Value v)) = refl
    next_is next seen read_at tried_at (Some False) = go (eqb (value seen) row.old)
      where
        go : (c : Bool) → process_of r (cond c (Loses next read_at tried_at) (Logs next read_at False)) ≡ next
        go true = refl
        go false = refl

    -- the row is closed
    ends : Lives rows p (closed r)
    ends = record { few = h.few; opened_last = λ j e. closed_open e; keeps = h.keeps; at = refl }

    lives_recovered : (stored : Option Answer) → r.stored ≡ stored → (seen read_at tried_at : ℕ) (answer : Option Answer) → has_answer (kind_of row) answer ≡ true → Lives rows p (with_status (Busy (recovered stored) seen read_at tried_at answer) r)
    lives_recovered None q seen read_at tried_at answer a = go_on r _ h (at_work_lem r.stored V2 answer (both V2 refl (kind_of row)) a refl)
    lives_recovered (Some x) q seen read_at tried_at answer a = go_on r _ h (at_work_lem r.stored V5 answer (both V5 refl (kind_of row)) a (rw q refl))

    lives_checked : (checkpoint : Bool) → r.checkpoint ≡ checkpoint → (seen read_at tried_at : ℕ) (answer : Option Answer) → has_answer (kind_of row) answer ≡ true → Lives rows p (with_status (Busy (cond checkpoint V3 V6) seen read_at tried_at answer) r)
    lives_checked true q seen read_at tried_at answer a = go_on r _ h (at_work_lem r.stored V3 answer (go (has_stage (kind_of row) V3) refl) a refl)
      where
        go : (c : Bool) → has_stage (kind_of row) V3 ≡ c → has_stage (kind_of row) V3 ≡ true
        go true e = e
        go false e = absurd (true≢false (sym q ∙ kept_last.unchecked e))
    lives_checked false q seen read_at tried_at answer a = go_on r _ h (at_work_lem r.stored V6 answer (both V6 refl (kind_of row)) a refl)

    lives_compared : (c : Bool) (read_at tried_at : ℕ) (answer : Option Answer) → has_stage (kind_of row) V3 ≡ true → has_answer (kind_of row) answer ≡ true → Lives rows p (with_status (Busy (cond c V4 V6) now read_at tried_at answer) r)
    lives_compared true read_at tried_at answer s a = go_on r _ h (at_work_lem r.stored V4 answer (has_all V3 refl (kind_of row) s V4) a refl)
    lives_compared false read_at tried_at answer s a = go_on r _ h (at_work_lem r.stored V6 answer (both V6 refl (kind_of row)) a refl)

    lives_decide : (stage : Stage) (seen read_at tried_at : ℕ) (answer : Option Answer) → has_stage (kind_of row) stage ≡ true → has_answer (kind_of row) answer ≡ true → missing stage answer r.stored ≡ false
        → Lives rows p (process_of r (decide row p t now r stage seen read_at tried_at answer))
    unfolding decide_in
    lives_decide A1 seen read_at tried_at answer s a m = lives_read
    lives_decide A2 seen read_at tried_at answer s a m = record {
      few = h.few;
      opened_last = h.opened_last;
      keeps = keeps_value (kind_of row) r.kept (not (bit p seen)) (value seen) h.keeps (value_own width seen);
      at = at_work_lem r.stored A3 answer (has_all A2 refl (kind_of row) s A3) a refl;
    }
    lives_decide A3 seen read_at tried_at answer s a m = record {
      few = h.few;
      opened_last = λ j e. subst (Last rows (first rows p) r.begun r.stored true) (same_row e) (record { last = kept_last.last; some = kept_last.some; kind = kept_last.kind; unchecked = λ q. absurd (true≢false (sym (has_all A3 refl (kind_of row) s V3) ∙ q)) });
      keeps = h.keeps;
      at = at_work_lem r.stored A4 answer (has_all A3 refl (kind_of row) s A4) a refl;
    }
    lives_decide A4 seen read_at tried_at answer s a m = lives_tried seen read_at s
    lives_decide A5 seen read_at tried_at answer s a m =
        subst (Lives rows p) (sym (next_is _ seen read_at tried_at answer)) (stores A6 seen read_at tried_at answer answer (both A6 refl (kind_of row)) a m a)
    lives_decide A6 seen read_at tried_at answer s a m = ends
    lives_decide V1 seen read_at tried_at answer s a m = lives_recovered r.stored refl seen read_at tried_at answer a
    lives_decide V2 seen read_at tried_at answer s a m = lives_checked r.checkpoint refl seen read_at tried_at answer a
    lives_decide V3 seen read_at tried_at answer s a m = lives_compared (same_bit (bit p now) r.kept.bit) read_at tried_at answer s a
    lives_decide V4 seen read_at tried_at answer s a m = stores V5 seen read_at tried_at answer (Some (recalled row r.kept)) (both V5 refl (kind_of row)) a refl (swap_said V4 refl (kind_of row) s r.kept.value h.keeps)
    lives_decide V5 seen read_at tried_at answer s a m = ends
    lives_decide V6 seen read_at tried_at answer s a m = ends

  -- a step, whatever the record's status
  pub lives_turn : (t : ℕ) (words : List ℕ) (log : List Entry) (r : Process) → Lives rows p r → Lives rows p (turn rows p t words log r r.status).process
  unfolding turn_in step_turn_in
  lives_turn t words log r h = go r.status refl h.at
    where
      start : (c : Bool) → ltb r.begun (count rows p) ≡ c → r.opened ≡ None → Lives rows p (process_of r (cond c (Quiet (with_stored N2 None r)) Still))
      start true l o = record { few = h.few; opened_last = λ j e. closed_open (sym o ∙ e); keeps = h.keeps; at = (o, ltb-true r.begun (count rows p) l, refl) }
      start false l o = h

      -- the third store opens the row, with what the first two have cleared
      opens : (r.opened ≡ None) × (r.begun < count rows p) × (r.stored ≡ None) × (r.checkpoint ≡ false) → Lives rows p (started (first rows p + r.begun) r)
      opens a = record {
        few = a.1;
        opened_last = λ j e. subst (Last rows (first rows p) (suc r.begun) r.stored r.checkpoint) (same e)
            (record { last = omega arith; some = omega arith; kind = rw a.2 refl; unchecked = λ _. a.3 });
        keeps = h.keeps;
        at = record { row = first rows p + r.begun; opens = refl; stage_suits = both A1 refl (kind_of (row_numbered rows (first rows p + r.begun))); answer_suits = refl; answered = refl };
      }
        where
          same : {j : ℕ} → Some (first rows p + r.begun) ≡ Some j → first rows p + r.begun ≡ j
          same e = cc

      work : (o : Option ℕ) → r.opened ≡ o → (stage : Stage) (seen read_at tried_at : ℕ) (answer : Option Answer) → Works rows r.opened r.stored stage answer
          → Lives rows p (process_of r (at_work (row_numbered rows (row_open o)) p t (get_or words (row_numbered rows (row_open o)).word 0) r o stage seen read_at tried_at answer))
      work None q stage seen read_at tried_at answer w = h
      work (Some k) q stage seen read_at tried_at answer w =
          let e : w.row ≡ k = (let z = sym w.opens ∙ q in cc) in
          lives_decide t _ r h k q stage seen read_at tried_at answer
          (subst (λ k. has_stage (kind_of (row_numbered rows k)) stage ≡ true) e w.stage_suits)
          (subst (λ k. has_answer (kind_of (row_numbered rows k)) answer ≡ true) e w.answer_suits)
          w.answered

      go : (status : Status) → r.status ≡ status → At rows (count rows p) r status
          → Lives rows p (process_of r (step_turn (row_numbered rows (row_open r.opened)) p t (get_or words (row_numbered rows (row_open r.opened)).word 0) (first rows p) (count rows p) r status))
      go Down e a = h
      go Idle e a = start (ltb r.begun (count rows p)) refl a
      go N2 e a = record { few = h.few; opened_last = λ j x. closed_open (sym a.0 ∙ x); keeps = h.keeps; at = (a.0, a.1, a.2, refl) }
      go N3 e a = opens a
      go (Busy stage seen read_at tried_at answer) e a = work r.opened refl stage seen read_at tried_at answer a

  lives_crashed : (r : Process) → Lives rows p r → Lives rows p (crashed r)
  lives_crashed r h = record { few = h.few; opened_last = h.opened_last; keeps = h.keeps; at = tt }

  lives_waked : (r : Process) (status : Status) → Lives rows p r → Lives rows p (waked r status)
  lives_waked r Down h = go_on r _ h (go r.opened refl)
    where
      go : (o : Option ℕ) → r.opened ≡ o → At rows (count rows p) (with_status (woken_up o) r) (woken_up o)
      go None q = q
      go (Some k) q = record { row = k; opens = q; stage_suits = both V1 refl (kind_of (row_numbered rows k)); answer_suits = refl; answered = refl }
  lives_waked r Idle h = h
  lives_waked r N2 h = h
  lives_waked r N3 h = h
  lives_waked r (Busy stage seen read_at tried_at answer) h = h

  pub lives_fresh : Lives rows p fresh
  unfolding value_in
  lives_fresh = record { few = omega arith; opened_last = λ k e. closed_open e; keeps = refl; at = refl }

-- every record goes on so, whatever the byte is
pub lives_step : (rows : List Row) (t byte : ℕ) (s : State) → ((q : ℕ) → Lives rows q (proc_at q s)) → (q : ℕ) → Lives rows q (proc_at q (step rows t byte s))
lives_step rows = each_step rows (Lives rows) (lives_turn rows) (lives_crashed rows) (λ p r h. lives_waked rows p r r.status h)

pub lives_begin : (rows : List Row) (P : ℕ) (words : List ℕ) (q : ℕ) → Lives rows q (proc_at q (begin P words))
unfolding begin proc_at
lives_begin rows P words q = rw (fresh_at P q) (lives_fresh rows q)

-- none of the conditions of 21 (R231b to R231i)
module _ (rows : List Row) (p : ℕ) (r : Process) (h : Lives rows p r) where
  last_begun : (o : Option ℕ) → r.opened ≡ o → not_last (first rows p) r.begun o ≡ false
  last_begun None q = refl
  last_begun (Some k) q =
      let l = h.opened_last k q in
      let ne : r.begun ≡ 0 → ⊥ = λ e. (let s = l.some in omega arith) in
      rw (ne_eqb r.begun 0 ne, eq-eqb (k + 1) (first rows p + r.begun) l.last) refl

  placed : (status : Status) → At rows (count rows p) r status → (open_while r.opened status || (none_at r.opened status || none_left (count rows p) r.begun status)) ≡ false
  placed Down a = refl
  placed Idle a = rw a refl
  placed N2 a = rw (a.0, lt-leb (count rows p) r.begun a.1) refl
  placed N3 a = rw (a.0, lt-leb (count rows p) r.begun a.1) refl
  placed (Busy stage seen read_at tried_at answer) a = rw a.opens refl

  not_misplaced : misplaced (first rows p) (count rows p) r ≡ false
  unfolding misplaced
  not_misplaced = rw (le-ltb (count rows p) r.begun h.few, last_begun r.opened refl) (placed r.status h.at)

  -- of the row that is open the kind is asked; with none open there is nothing that could be wrong
  rightly : (o : Option ℕ) → r.opened ≡ o → (status : Status) → At rows (count rows p) r status → (no_answer r.stored status || wrong_kind (kind_of (row_numbered rows (row_open o))) o r.stored status) ≡ false
  rightly None q Down a = refl
  rightly None q Idle a = refl
  rightly None q N2 a = refl
  rightly None q N3 a = refl
  rightly None q (Busy stage seen read_at tried_at answer) w = closed_open (sym q ∙ w.opens)
  rightly (Some k) q Down a = rw (h.opened_last k q).kind refl
  rightly (Some k) q Idle a = closed_open (sym a ∙ q)
  rightly (Some k) q N2 a = closed_open (sym a.0 ∙ q)
  rightly (Some k) q N3 a = closed_open (sym a.0 ∙ q)
  rightly (Some k) q (Busy stage seen read_at tried_at answer) w =
      let e : w.row ≡ k = (let z = sym w.opens ∙ q in cc) in
      rw (
        w.answered,
        (h.opened_last k q).kind,
        subst (λ k. has_stage (kind_of (row_numbered rows k)) stage ≡ true) e w.stage_suits,
        subst (λ k. has_answer (kind_of (row_numbered rows k)) answer ≡ true) e w.answer_suits,
      ) refl

  pub lives_possible : impossible rows p r ≡ false
  unfolding impossible misdone
  lives_possible = rw (not_misplaced) (rightly r.opened refl r.status h.at)
