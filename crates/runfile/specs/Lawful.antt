-- What a file is like that is not refused: the facts that later layers use, read off the checks that found nothing. For the whole list of checks
-- proofs/Lawful.antt does it (`lawful`, `lawful_file`).
use Rattle.std.specs.Prelude.{ℕ, zero, suc, ◌*◌, ◌/◌, ◌%◌, ◌≤◌, ◌<◌, ◌≡◌, refl, ◌⊎◌, Bool, true, false, cond, not, ◌&&◌, ◌||◌, List, ltb, eqb, get_or, length, take, Ok}
use Rattle.std.proofs.Common.{◌∙◌, ap, inl, inr, true≢false, arith, ltb-false, leb-false, eqb-true, eq-eqb, ne_eqb}
use Rattle.std.proofs.lemmas.Bool.{eqb-false, not-false, lt-leb}
use Rattle.runfile.specs.declared.Header.{Header}
use Rattle.runfile.specs.declared.Row.{Row}
use Rattle.runfile.specs.declared.Kind.{Kind}
use Rattle.runfile.specs.declared.Kind.TheVariants.{Read, Compare, Advance}
use Rattle.runfile.specs.declared.Field.{Field}
use Rattle.runfile.specs.declared.Field.TheVariants as field
use Rattle.runfile.specs.declared.Room.{Room}
use Rattle.runfile.specs.Format.{least_head, longest_file, longest_holds, longest_of_all, longest_most}
use Rattle.runfile.specs.Layout.{marked, header_in, schedule_in, length_given}
use Rattle.runfile.specs.Actions.{Action, step, crash, wake, crash_all, none, action_of, action, named}
use Rattle.runfile.specs.Ups.{is_up, idle_by, idles}
use Rattle.runfile.specs.Kinds.{kind_of}
use Rattle.runfile.specs.Refusals.{unknown_version, out_of_range, zero_old, zero_new, bad_field, same_by, same_fields, bad_action, bad_byte, found, head_checks, file_checks, later_checks, refusals_in_order, refusal_of, no_room, file_refusal}
use Rattle.runfile.specs.Table.{Marked, Same, SameFields, row_of, zero_byte_of, byte_of}
use Rattle.runfile.specs.Order.{Clear, clear_parts, accepts, accepted, whole_clear}

-- refusals 2 to 8 are not given
pub record LawfulHead (h : Header) (f : List ℕ) : Type 0 where
  pub mark : Marked f
  pub version : (h.version ≡ 1) ⊎ (h.version ≡ 2)
  pub some_process : 1 ≤ h.processes
  pub processes : h.processes ≤ 16
  pub some_word : 1 ≤ h.words
  pub words : h.words ≤ 16
  pub rows : h.rows ≤ 512
  pub steps : h.steps ≤ 1024
  pub exact : length f ≡ length_given h

-- refusal 9 is not given for this row, with this zero byte
pub record LawfulRow (h : Header) (row : Row) (zero_read : ℕ) : Type 0 where
  pub process : row.process < h.processes
  pub kind : row.kind ≤ 2
  pub no_advance : h.version ≡ 1 → row.kind ≡ 2 → ⊥
  pub word : row.word < h.words
  pub zero_byte : zero_read ≡ 0
  pub zero_old_lem : zero_old (kind_of row) ≡ true → row.old ≡ 0
  pub zero_new_lem : zero_new (kind_of row) ≡ true → row.new ≡ 0

-- refusal 12 is not given for this byte: a step, crash or wake of a process below P, or a crash of all (R73)
pub data LawfulByte (processes byte : ℕ) : Type 0 where
  of_one : byte / 16 < 3 → byte % 16 < processes → LawfulByte processes byte
  of_all_lem : byte / 16 ≡ 15 → byte % 16 ≡ 0 → LawfulByte processes byte

-- refusal 16 is not given for this byte after these: a crash is of a process that is up, a wake of one that is down (R56)
pub record NotIdle (before : List ℕ) (byte : ℕ) : Type 0 where
  pub crash_of_up : action byte ≡ crash → is_up before (named byte) ≡ true
  pub wake_of-down : action byte ≡ wake → is_up before (named byte) ≡ false

-- a file that refusals 1 to 12 do not refuse: all that the panel asks of a file (R221)
pub record LawfulFile (h : Header) (f : List ℕ) : Type 0 where
  pub header : h ≡ header_in f
  pub long : least_head ≤ length f
  pub head : LawfulHead h f
  pub rows : (k : ℕ) → k < h.rows → LawfulRow h (row_of h f k) (zero_byte_of h f k)
  pub ordered : (k : ℕ) → suc k < h.rows → (row_of h f k).process ≤ (row_of h f (suc k)).process
  pub differ : (k : ℕ) → k < h.rows → SameFields (row_of h f k) → ⊥
  pub actions : (i : ℕ) → i < h.steps → LawfulByte h.processes (byte_of h f i)
  pub schedule : length (schedule_in h f) ≡ h.steps

-- a file that is not refused, with buffers of these lengths
pub record Lawful (h : Header) (f : List ℕ) (room : Room) : Type 0 where
  pub file : LawfulFile h f
  pub not_idle : (i : ℕ) → i < h.steps → NotIdle (take i (schedule_in h f)) (byte_of h f i)
  pub words_room : h.words ≤ room.words
  pub log_room : 5 * h.steps ≤ room.log
  pub answers_room : 5 * h.steps ≤ room.answers

-- tests that came out false, taken apart
pub neither : (a b : Bool) → (a || b) ≡ false → (a ≡ false) × (b ≡ false)
neither true b e = absurd (true≢false e)
neither false b e = (refl, e)

pub not_both : (a b : Bool) → (a && b) ≡ false → a ≡ true → b ≡ false
not_both true b e q = e
not_both false b e q = absurd (let y : ◌≡◌ {A = ℕ} 0 1 = cc in omega arith)

pub in_range : (n : ℕ) → out_of_range n ≡ false → (1 ≤ n) × (n ≤ 16)
in_range n e = let q = neither (eqb n 0) (ltb 16 n) e in (positive n (eqb-false n 0 q.0), ltb-false 16 n q.1)
  where
    positive : (n : ℕ) → (n ≡ 0 → ⊥) → 1 ≤ n
    positive zero h = absurd (h refl)
    positive (suc n) h = omega arith

pub has_mark : (f : List ℕ) → marked f ≡ true → Marked f
unfolding marked
has_mark f e = go (eqb (get_or f 0 0) 83) (eqb (get_or f 1 0) 87) (eqb (get_or f 2 0) 82) refl refl refl e
  where
    go : (a b c : Bool) → eqb (get_or f 0 0) 83 ≡ a → eqb (get_or f 1 0) 87 ≡ b → eqb (get_or f 2 0) 82 ≡ c → (a && (b && c)) ≡ true → Marked f
    go true true true p q r e = (eqb-true _ _ p, eqb-true _ _ q, eqb-true _ _ r)
    go true true false p q r e = absurd (let y : ◌≡◌ {A = ℕ} 0 1 = cc in omega arith)
    go true false c p q r e = absurd (let y : ◌≡◌ {A = ℕ} 0 1 = cc in omega arith)
    go false b c p q r e = absurd (let y : ◌≡◌ {A = ℕ} 0 1 = cc in omega arith)

known : (version : ℕ) → unknown_version version ≡ false → (version ≡ 1) ⊎ (version ≡ 2)
known version e = go (eqb version 1) refl e
  where
    go : (first : Bool) → eqb version 1 ≡ first → (not first && not (eqb version 2)) ≡ false → (version ≡ 1) ⊎ (version ≡ 2)
    go true q e = inl (eqb-true version 1 q)
    go false q e = inr (eqb-true version 2 (not-false (eqb version 2) e))

pub lawful_head : (h : Header) (f : List ℕ) (room : Room) → Clear (found h f room) head_checks → LawfulHead h f
lawful_head h f room c =
    let r = c.1.1 in
    let p = in_range h.processes (whole_clear (out_of_range h.processes) r.0) in
    let w = in_range h.words (whole_clear (out_of_range h.words) r.1.0) in
    record {
      mark = has_mark f (not-false (marked f) (whole_clear (not (marked f)) c.0));
      version = known h.version (whole_clear (unknown_version h.version) c.1.0);
      some_process = p.0;
      processes = p.1;
      some_word = w.0;
      words = w.1;
      rows = ltb-false 512 h.rows (whole_clear (ltb 512 h.rows) r.1.1.0);
      steps = ltb-false 1024 h.steps (whole_clear (ltb 1024 h.steps) r.1.1.1.0);
      exact = eqb-true (length f) (length_given h) (not-false (eqb (length f) (length_given h)) (whole_clear (not (eqb (length f) (length_given h))) r.1.1.1.1.0));
    }

-- no lawful file is longer than the longest (R9)
pub longest : (h : Header) (f : List ℕ) → LawfulHead h f → length f ≤ longest_file h.version
longest h f l = let e = l.exact in let m = longest_holds h.version h.words h.rows h.steps l.words l.rows l.steps in omega arith

pub longest_any : (h : Header) (f : List ℕ) → LawfulHead h f → length f ≤ longest_of_all
longest_any h f l = let a = longest h f l in let b = longest_most h.version in omega arith

pub lawful_row : (h : Header) (row : Row) (zero_read : ℕ) → ((x : Field) → bad_field h row zero_read x ≡ false) → LawfulRow h row zero_read
unfolding bad_field
lawful_row h row z clear = record {
  process = leb-false _ _ (clear field.Process);
  kind = ltb-false _ _ (neither (eqb h.version 1 && eqb row.kind 2) (ltb 2 row.kind) (clear field.Kind)).1;
  no_advance = λ one two. eqb-false row.kind 2 (not_both (eqb h.version 1) (eqb row.kind 2) (neither (eqb h.version 1 && eqb row.kind 2) (ltb 2 row.kind) (clear field.Kind)).0 (eq-eqb h.version 1 one)) two;
  word = leb-false _ _ (clear field.Word);
  zero_byte = eqb-true _ _ (not-false _ (clear field.ZeroByte));
  zero_old_lem = λ q. eqb-true _ _ (not-false _ (not_both (zero_old (kind_of row)) (not (eqb row.old 0)) (clear field.Old) q));
  zero_new_lem = λ q. eqb-true _ _ (not-false _ (not_both (zero_new (kind_of row)) (not (eqb row.new 0)) (clear field.New) q));
}

pub not_same : (row : Row) → same_fields row ≡ false → SameFields row → ⊥
unfolding same_fields
not_same row = go (kind_of row)
  where
    go : (kind : Kind) → same_by kind row.old row.new ≡ false → Same kind row.old row.new → ⊥
    go Read e h = h
    go Compare e h = eqb-false row.old row.new e h
    go Advance e h = eqb-false row.new 0 e h

-- from 3 on only 15 is an action (R72)
pub high-action : (high : ℕ) → 3 ≤ high → action_of high ≡ cond (eqb high 15) crash_all none
high-action high h = simp (ne_eqb high 0 (λ e. omega arith), ne_eqb high 1 (λ e. omega arith), ne_eqb high 2 (λ e. omega arith))

pub lawful_byte : (processes byte : ℕ) → bad_byte processes byte ≡ false → LawfulByte processes byte
unfolding bad_byte
lawful_byte processes byte e = go (byte / 16) refl e
  where
    all : (t : Bool) → eqb (byte / 16) 15 ≡ t → bad_action processes (byte % 16) (cond t crash_all none) ≡ false → LawfulByte processes byte
    all true q e = of_all_lem (eqb-true _ _ q) (eqb-true _ _ (not-false _ e))
    all false q e = absurd (let y : ◌≡◌ {A = ℕ} 0 1 = cc in omega arith)

    go : (high : ℕ) → byte / 16 ≡ high → bad_action processes (byte % 16) (action_of high) ≡ false → LawfulByte processes byte
    go zero q e = of_one (omega arith) (leb-false processes (byte % 16) e)
    go (suc zero) q e = of_one (omega arith) (leb-false processes (byte % 16) e)
    go (suc (suc zero)) q e = of_one (omega arith) (leb-false processes (byte % 16) e)
    go (suc (suc (suc n))) q e = all (eqb (byte / 16) 15) refl (rw (← q, high-action (byte / 16) (omega arith)) at e)

pub lawful_not_bad : (processes byte : ℕ) → LawfulByte processes byte → bad_byte processes byte ≡ false
unfolding bad_byte
lawful_not_bad processes byte (of_one high low) = go (byte / 16) high
  where
    go : (n : ℕ) → n < 3 → bad_action processes (byte % 16) (action_of n) ≡ false
    go zero g = lt-leb processes (byte % 16) low
    go (suc zero) g = lt-leb processes (byte % 16) low
    go (suc (suc zero)) g = lt-leb processes (byte % 16) low
    go (suc (suc (suc n))) g = absurd (omega arith)
lawful_not_bad processes byte (of_all_lem high low) = rw (high, low) refl

pub not_idle_byte : (before : List ℕ) (byte : ℕ) → idles before byte ≡ false → NotIdle before byte
unfolding idles
not_idle_byte before byte e = record {
  crash_of_up = λ q. not-false (is_up before (named byte)) (rw q at e);
  wake_of-down = λ q. rw q at e;
}

pub not_idle_test : (before : List ℕ) (byte : ℕ) → NotIdle before byte → idles before byte ≡ false
unfolding idles
not_idle_test before byte n = go (action byte) (is_up before (named byte)) n.crash_of_up n.wake_of-down
  where
    go : (a : Action) (up : Bool) → (a ≡ crash → up ≡ true) → (a ≡ wake → up ≡ false) → idle_by a up ≡ false
    go step up c w = refl
    go crash up c w = ap not (c refl)
    go wake up c w = w refl
    go crash_all up c w = refl
    go none up c w = refl

-- a file that is accepted with some buffers is not refused by 1 to 12
pub room-file : (f : List ℕ) (room : Room) (h : Header) → refusal_of f room ≡ Ok h → file_refusal f ≡ Ok h
unfolding file_refusal refusal_of
room-file f room h e =
    let g = header_in f in
    let a = accepts (found g f room) g refusals_in_order h e in
    let c = (clear_parts (found g f room) file_checks later_checks a.1).0 in
    accepted (found g f no_room) g file_checks c ∙ ap Ok a.0
