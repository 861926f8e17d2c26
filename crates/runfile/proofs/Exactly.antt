-- Each refusal is given exactly when the table says (R240): `exactly`. The tests of Refusals.antt say what the propositions of Table.antt
-- say (`tells-..`); a search finds what is first (`first_iff`, and for 9, a search in a search,
-- `field_found` and `found_field`); and the checks go in the order of their list.
use Prim.Native.Nat.{ℕ, zero, suc, ◌+◌, ◌*◌, ◌-◌, ◌/◌, ◌%◌, ◌≤◌, ◌<◌}
use Rattle.std.proofs.Math.Path.{◌≡◌, refl, subst}
use Rattle.std.proofs.Common.{sym, ap, ◌∙◌, inl, inr, ⊎_elim, true≢false, arith}
use Rattle.std.specs.Prelude.{◌↔◌, ◌⊎◌, Bool, cond, not, ◌&&◌, ◌||◌, leb, eqb, get_or, take, Option, Some, None, Ok}
use Rattle.std.proofs.Math.Bool.{true, false}
use mathlib.Core.List.{List, [], ◌∷◌}
use Rattle.std.proofs.Math.Dec.{ltb}
use Rattle.std.proofs.Math.ListN.{length}
use borrow.Author.Tests.{ltb-true, ltb-false, leb-true, leb-false, eqb-true, eqb-false, not-true, not-false, eq-eqb}
use Rattle.runfile.specs.declared.Header.{Header}
use Rattle.runfile.specs.declared.Row.{Row}
use Rattle.runfile.specs.declared.Kind.{Kind}
use Rattle.runfile.specs.declared.Kind.TheVariants.{Read, Compare, Advance}
use Rattle.runfile.specs.declared.Field.{Field}
use Rattle.runfile.specs.declared.Field.TheVariants as field
use Rattle.runfile.specs.declared.Room.{Room}
use Rattle.runfile.specs.declared.Refusal.{Refusal}
use Rattle.runfile.specs.declared.Refusal.TheVariants as refusal
use Rattle.runfile.specs.declared.Refused.{Refused}
use Rattle.runfile.specs.Format.{offset_of}
use Rattle.runfile.specs.Layout.{marked, header_in, rows_start, stride_of, row_place, schedule_in, length_given}
use Rattle.runfile.specs.Fields.{fields, field_at, order_of, ordered, order_at, rising}
use Rattle.runfile.specs.Actions.{Action, step, crash, wake, crash_all, none, action_of, action, named}
use Rattle.runfile.specs.Ups.{is_up, idle_by, idles}
use Rattle.runfile.specs.Kinds.{kind_of}
use Rattle.runfile.specs.Refusals.{place_of, out_of_range, zero_old, zero_new, bad_field, bad_in, same_by, same_fields, bad_action, bad_byte, found_if, first_offender, bad_field_in, first_bad_field, first_row, first_later_row, first_byte, whole, found, refused, or_else, first_of, refusals_in_order, refusal_of}
use Rattle.runfile.specs.Table.{Marked, BadField, BadIn, ZeroOld, ZeroNew, Same, SameFields, FirstBadField, BadByte, IdleByte, First, row_of, zero_byte_of, byte_of, Given, Earlier}
use Rattle.runfile.specs.Table as table
use Rattle.runfile.specs.Lawful.{LawfulByte, NotIdle, of_one, of_all_lem, has_mark, in_range, neither, not_both, lawful_byte, not_idle_byte, high-action}
use Rattle.runfile.proofs.Lawful.{no_bad_field, lawful}
use Rattle.runfile.specs.Searches.{not_found, is_found, Earliest, earliest, found_earliest, found_none}
use Rattle.runfile.specs.Order.{Clear, accepts, accepted, Placed, in_order, placed}

-- a test says what a proposition says
record Tells (t : Bool) (Bad : Type 0) : Type 0 where
  true_is : t ≡ true → Bad
  false_is : t ≡ false → Bad → ⊥

less : (a b : ℕ) → Tells (ltb a b) (a < b)
less a b = record { true_is = ltb-true a b; false_is = λ e h. let q = ltb-false a b e in omega arith }

at_least : (a b : ℕ) → Tells (leb a b) (a ≤ b)
at_least a b = record { true_is = leb-true a b; false_is = λ e h. let q = leb-false a b e in omega arith }

differs : (a b : ℕ) → Tells (not (eqb a b)) (a ≡ b → ⊥)
differs a b = record { true_is = λ e. eqb-false a b (not-true (eqb a b) e); false_is = λ e h. h (eqb-true a b (not-false (eqb a b) e)) }

-- so where the proposition is known, so is the test
said_true : (t : Bool) (Bad : Type 0) → Tells t Bad → Bad → t ≡ true
said_true true Bad tells b = refl
said_true false Bad tells b = absurd (tells.false_is refl b)

said_false : (t : Bool) (Bad : Type 0) → Tells t Bad → (Bad → ⊥) → t ≡ false
said_false true Bad tells n = absurd (n (tells.true_is refl))
said_false false Bad tells n = refl

module _ (place : ℕ → ℕ) (offends : ℕ → Bool) (Bad : ℕ → Type 0) (tells : (k : ℕ) → Tells (offends k) (Bad k)) where
  first_found : (k n at : ℕ) → first_offender place offends k n ≡ Some at → First k n place Bad at
  first_found k n at e =
      let m = earliest (λ i. found_if (offends i) (place i)) k n at e in
      let t = is_found (offends m.which) (place m.which) at m.found in
      record { which = m.which; after = m.after; within = m.within; bad = (tells m.which).true_is t.0; none_before = λ j a b. (tells j).false_is (not_found (offends j) (place j) (m.none_before j a b)); here = t.1 }

  found_first : (k n at : ℕ) → First k n place Bad at → first_offender place offends k n ≡ Some at
  found_first k n at m = found_earliest (λ i. found_if (offends i) (place i)) k n at (record {
    which = m.which;
    after = m.after;
    within = m.within;
    found = rw (said_true _ _ (tells m.which) m.bad, m.here);
    none_before = λ j a b. rw (said_false _ _ (tells j) (m.none_before j a b));
  })

  first_iff : (k n at : ℕ) → (first_offender place offends k n ≡ Some at) ↔ First k n place Bad at
  first_iff k n at = (first_found k n at, found_first k n at)

whole_iff : (t : Bool) (Bad : Type 0) (at : ℕ) → Tells t Bad → (whole t ≡ Some at) ↔ (Bad × (at ≡ 0))
whole_iff true Bad at tells = (λ e. (tells.true_is refl, cc), λ b. ap Some (sym b.1))
whole_iff false Bad at tells = (λ e. absurd (let z : ◌≡◌ {A = ℕ} 0 1 = cc in omega arith), λ b. absurd (tells.false_is refl b.0))

-- the tests of the table, line by line
either_true : (a b : Bool) → (a || b) ≡ true → (a ≡ true) ⊎ (b ≡ true)
either_true true b e = inl refl
either_true false b e = inr e

both_true : (a b : Bool) → (a && b) ≡ true → (a ≡ true) × (b ≡ true)
both_true true b e = (refl, e)
both_true false b e = absurd (let y : ◌≡◌ {A = ℕ} 0 1 = cc in omega arith)

both : {s t : Bool} {A B : Type 0} → Tells s A → Tells t B → Tells (s && t) (A × B)
both {s} {t} {A} a b = record {
  true_is = λ e. let r = both_true s t e in (a.true_is r.0, b.true_is r.1);
  false_is = λ e h. b.false_is (not_both s t e (said_true s A a h.0)) h.1;
}

either : {s t : Bool} {A B : Type 0} → Tells s A → Tells t B → Tells (s || t) (A ⊎ B)
either {s} {t} a b = record {
  true_is = λ e. ⊎_elim (λ q. inl (a.true_is q)) (λ q. inr (b.true_is q)) (either_true s t e);
  false_is = λ e h. let r = neither s t e in ⊎_elim (a.false_is r.0) (b.false_is r.1) h;
}

tells_mark : (f : List ℕ) → Tells (not (marked f)) (Marked f → ⊥)
unfolding marked
tells_mark f = record {
  true_is = λ e m. true≢false (sym (rw (eq-eqb _ _ m.0, eq-eqb _ _ m.1, eq-eqb _ _ m.2) at e));
  false_is = λ e h. h (has_mark f (not-false (marked f) e));
}

tells_range : (n : ℕ) → Tells (out_of_range n) ((n ≡ 0) ⊎ (16 < n))
tells_range n = record {
  true_is = λ e. ⊎_elim (λ t. inl (eqb-true n 0 t)) (λ t. inr (ltb-true 16 n t)) (either_true (eqb n 0) (ltb 16 n) e);
  false_is = λ e h. let r = in_range n e in let a = r.0 in let b = r.1 in ⊎_elim (λ q. omega arith) (λ q. omega arith) h;
}

equals : (a b : ℕ) → Tells (eqb a b) (a ≡ b)
equals a b = record { true_is = eqb-true a b; false_is = eqb-false a b }

-- which kinds must have old 0, and which new 0
always : Tells true Unit
always = record { true_is = λ _. tt; false_is = λ e _. true≢false e }

never : Tells false ⊥
never = record { true_is = λ e. true≢false (sym e); false_is = λ _ h. h }

tells_old : (kind : Kind) → Tells (zero_old kind) (ZeroOld kind)
tells_old Read = always
tells_old Compare = never
tells_old Advance = always

tells_new : (kind : Kind) → Tells (zero_new kind) (ZeroNew kind)
tells_new Read = always
tells_new Compare = never
tells_new Advance = never

tells_field : (h : Header) (row : Row) (z : ℕ) (x : Field) → Tells (bad_field h row z x) (BadField h row z x)
unfolding bad_field
tells_field h row z field.Process = at_least h.processes row.process
tells_field h row z field.Kind = either (both (equals h.version 1) (equals row.kind 2)) (less 2 row.kind)
tells_field h row z field.Word = at_least h.words row.word
tells_field h row z field.ZeroByte = differs z 0
tells_field h row z field.Old = both (tells_old (kind_of row)) (differs row.old 0)
tells_field h row z field.New = both (tells_new (kind_of row)) (differs row.new 0)

-- 9: both searches, over the rows and in the row, find what is first
module _ (h : Header) (f : List ℕ) (at : ℕ) where
  abbrev start : ℕ
  start = rows_start h

  abbrev s : ℕ
  s = stride_of h

  abbrev in_row : ℕ → ℕ → Option ℕ
  in_row k i = found_if (bad_in h s f start k (field_at i)) (row_place s start k + offset_of s (field_at i))

  tells_in : (k : ℕ) (x : Field) → Tells (bad_in h s f start k x) (BadIn h f k x)
  tells_in k x = tells_field h (row_of h f k) (zero_byte_of h f k) x

  field_found : first_bad_field h s f start h.rows ≡ Some at → FirstBadField h f at
  unfolding first_bad_field
  field_found e =
      let m = earliest (bad_field_in h s f start) 0 h.rows at e in
      let i = earliest (in_row m.which) 0 (length fields) at m.found in
      let t = is_found (bad_in h s f start m.which (field_at i.which)) _ at i.found in
      let w = m.within in
      record {
        row = m.which;
        within = omega arith;
        field = field_at i.which;
        bad = (tells_in m.which (field_at i.which)).true_is t.0;
        no_row_before = λ j l x. (tells_in j x).false_is (no_bad_field h s f start j (m.none_before j (omega arith) l) x);
        no_field_before = λ x l. (tells_in m.which x).false_is (before m i x l);
        here = t.1;
      }
    where
      before : (m : Earliest (bad_field_in h s f start) 0 h.rows at) (i : Earliest (in_row m.which) 0 (length fields) at) (x : Field) → offset_of s x < offset_of s (field_at i.which) → bad_in h s f start m.which x ≡ false
      before m i x l =
          let o = ordered x in
          let up = (rising s x (field_at i.which)).0 l in
          let number = order_at i.which i.within in
          subst (λ y. bad_in h s f start m.which y ≡ false) o.1 (not_found (bad_in h s f start m.which (field_at (order_of x))) _ (i.none_before (order_of x) (omega arith) (omega arith)))

  found_field : FirstBadField h f at → first_bad_field h s f start h.rows ≡ Some at
  unfolding first_bad_field
  found_field m = found_earliest (bad_field_in h s f start) 0 h.rows at (record {
    which = m.row;
    after = omega arith;
    within = let w = m.within in omega arith;
    found = found_earliest (in_row m.row) 0 (length fields) at (record {
      which = order_of m.field;
      after = omega arith;
      within = (ordered m.field).0;
      found = rw ((ordered m.field).1, said_true _ _ (tells_in m.row m.field) m.bad, m.here);
      none_before = λ j a b. rw (said_false _ _ (tells_in m.row (field_at j)) (m.no_field_before (field_at j) ((rising s (field_at j) m.field).1 (let n = order_at j (let o = (ordered m.field).0 in omega arith) in omega arith))));
    });
    none_before = λ j a b. found_none (in_row j) 0 (length fields) (λ i c d. rw (said_false _ _ (tells_in j (field_at i)) (m.no_row_before j b (field_at i))));
  })

tells_same : (row : Row) → Tells (same_fields row) (SameFields row)
unfolding same_fields
tells_same row = go (kind_of row)
  where
    go : (kind : Kind) → Tells (same_by kind row.old row.new) (Same kind row.old row.new)
    go Read = never
    go Compare = equals row.old row.new
    go Advance = equals row.new 0

bad-byte : (processes byte : ℕ) → bad_byte processes byte ≡ true → BadByte processes byte
unfolding bad_byte
bad-byte processes byte e = go (byte / 16) refl e
  where
    all : 3 ≤ byte / 16 → (t : Bool) → eqb (byte / 16) 15 ≡ t → bad_action processes (byte % 16) (cond t crash_all none) ≡ true → BadByte processes byte
    all h true q e = table.low_bits (eqb-true _ _ q) (eqb-false _ _ (not-true _ e))
    all h false q e = table.no_action h (eqb-false _ _ q)

    go : (high : ℕ) → byte / 16 ≡ high → bad_action processes (byte % 16) (action_of high) ≡ true → BadByte processes byte
    go zero q e = table.no_process (omega arith) (leb-true _ _ e)
    go (suc zero) q e = table.no_process (omega arith) (leb-true _ _ e)
    go (suc (suc zero)) q e = table.no_process (omega arith) (leb-true _ _ e)
    go (suc (suc (suc n))) q e = all (omega arith) (eqb (byte / 16) 15) refl (rw (← q, high-action (byte / 16) (omega arith)) at e)

not_both_bytes : (processes byte : ℕ) → LawfulByte processes byte → BadByte processes byte → ⊥
not_both_bytes processes byte (of_one a b) (table.no_action c d) = omega arith
not_both_bytes processes byte (of_one a b) (table.no_process c d) = omega arith
not_both_bytes processes byte (of_one a b) (table.low_bits c d) = omega arith
not_both_bytes processes byte (of_all_lem a b) (table.no_action c d) = d a
not_both_bytes processes byte (of_all_lem a b) (table.no_process c d) = omega arith
not_both_bytes processes byte (of_all_lem a b) (table.low_bits c d) = d b

tells_byte : (processes byte : ℕ) → Tells (bad_byte processes byte) (BadByte processes byte)
tells_byte processes byte = record { true_is = bad-byte processes byte; false_is = λ e. not_both_bytes processes byte (lawful_byte processes byte e) }

idle-byte : (before : List ℕ) (byte : ℕ) → idles before byte ≡ true → IdleByte before byte
unfolding idles
idle-byte before byte e = go (action byte) refl e
  where
    go : (a : Action) → action byte ≡ a → idle_by a (is_up before (named byte)) ≡ true → IdleByte before byte
    go step q e = absurd (true≢false (sym e))
    go crash q e = table.crash_of-down q (not-true _ e)
    go wake q e = table.wake_of_up q e
    go crash_all q e = absurd (true≢false (sym e))
    go none q e = absurd (true≢false (sym e))

not_idle_and_idle : (before : List ℕ) (byte : ℕ) → NotIdle before byte → IdleByte before byte → ⊥
not_idle_and_idle before byte n (table.crash_of-down a down) = true≢false (sym (n.crash_of_up a) ∙ down)
not_idle_and_idle before byte n (table.wake_of_up a up) = true≢false (sym up ∙ n.wake_of-down a)

tells_idle : (before : List ℕ) (byte : ℕ) → Tells (idles before byte) (IdleByte before byte)
tells_idle before byte = record { true_is = idle-byte before byte; false_is = λ e. not_idle_and_idle before byte (not_idle_byte before byte e) }

-- each line of the table: the check finds a place exactly when the line gives the refusal there
pub line : (h : Header) (f : List ℕ) (room : Room) (why : Refusal) (at : ℕ) → (found h f room why ≡ Some at) ↔ Given h f room why at
unfolding first_row first_later_row first_byte
line h f room refusal.Short at = whole_iff _ _ at (less (length f) 11)
line h f room refusal.Mark at = whole_iff _ _ at (tells_mark f)
line h f room refusal.Version at = whole_iff _ _ at (both (differs h.version 1) (differs h.version 2))
line h f room refusal.Processes at = whole_iff _ _ at (tells_range h.processes)
line h f room refusal.Words at = whole_iff _ _ at (tells_range h.words)
line h f room refusal.Rows at = whole_iff _ _ at (less 512 h.rows)
line h f room refusal.Steps at = whole_iff _ _ at (less 1024 h.steps)
line h f room refusal.Length at = whole_iff _ _ at (differs (length f) (length_given h))
line h f room refusal.Row at = (field_found h f at, found_field h f at)
line h f room refusal.Order at = first_iff _ _ _ (λ k. less (row_of h f k).process (row_of h f (k - 1)).process) 1 (h.rows - 1) at
line h f room refusal.Same at = first_iff _ _ _ (λ k. tells_same (row_of h f k)) 0 h.rows at
line h f room refusal.Action at = first_iff _ _ _ (λ i. tells_byte h.processes (byte_of h f i)) 0 (length (schedule_in h f)) at
line h f room refusal.Idle at = first_iff _ _ _ (λ i. tells_idle (take i (schedule_in h f)) (byte_of h f i)) 0 (length (schedule_in h f)) at
line h f room refusal.WordsRoom at = whole_iff _ _ at (less room.words h.words)
line h f room refusal.LogRoom at = whole_iff _ _ at (less room.log (5 * h.steps))
line h f room refusal.AnswersRoom at = whole_iff _ _ at (less room.answers (5 * h.steps))

-- a check finds a place or nothing
clear_iff : (h : Header) (f : List ℕ) (room : Room) (why : Refusal) → (found h f room why ≡ None) ↔ ((at : ℕ) → Given h f room why at → ⊥)
clear_iff h f room why = (λ e at g. lost at (sym e ∙ (line h f room why at).1 g), λ no_place. go (found h f room why) refl no_place)
  where
    lost : (at : ℕ) → None ≡ Some at → ⊥
    lost at e = let z : ◌≡◌ {A = ℕ} 0 1 = cc in omega arith

    go : (t : Option ℕ) → found h f room why ≡ t → ((at : ℕ) → Given h f room why at → ⊥) → t ≡ None
    go None q no_place = refl
    go (Some at) q no_place = absurd (no_place at ((line h f room why at).0 q))

-- a place in the list names one check
pub one_place : (a b : Refusal) → place_of a ≡ place_of b → a ≡ b
one_place a b e = sym (placed a).0 ∙ (ap (λ n. get_or refusals_in_order n refusal.Short) e ∙ (placed b).0)

-- the order of the checks, over a list whose places go from n on
module _ (finds : Refusal → Option ℕ) (h : Header) (why : Refusal) (at : ℕ) where
  EarlierClear : ℕ → Type 0
  EarlierClear n = (e : Refusal) → n ≤ place_of e → Earlier e why → finds e ≡ None

  refused_by : (n : ℕ) (l : List Refusal) → Placed n l → first_of finds l h ≡ refused why at → (finds why ≡ Some at) × EarlierClear n
  unfolding EarlierClear
  refused_by n [] num e = absurd (let z : ◌≡◌ {A = ℕ} 0 1 = cc in omega arith)
  refused_by n (w ∷ l) num e = go (finds w) refl (refused_by (suc n) l num.1) e
    where
      next : finds w ≡ None → EarlierClear (suc n) → (e : Refusal) → n ≤ place_of e → Earlier e why → (later : Bool) → ltb n (place_of e) ≡ later → finds e ≡ None
      next q more e a b true t = more e (ltb-true _ _ t) b
      next q more e a b false t = let x : place_of w ≡ place_of e = (let y = ltb-false n (place_of e) t in let z = num.0 in omega arith) in rw (sym (one_place w e x)) q

      go : (t : Option ℕ) → finds w ≡ t → (first_of finds l h ≡ refused why at → (finds why ≡ Some at) × EarlierClear (suc n)) → or_else w t (first_of finds l h) ≡ refused why at → (finds why ≡ Some at) × EarlierClear n
      go None q more e = let m = more e in (m.0, λ x a b. next q m.1 x a b (ltb n (place_of x)) refl)
      go (Some place) q more e =
          let is : ◌≡◌ {A = Refused} (record { why = w; place = place }) (record { why = why; place = at }) = cc in
          let same : w ≡ why = ap (λ (r : Refused). r.why) is in
          let there : place ≡ at = ap (λ (r : Refused). r.place) is in
          (rw (same, there) at q, λ x a b. absurd (let y : place_of why ≡ n = rw same at num.0 in omega arith))

  -- the other way: why is in the list, since its place is
  refuses : (n : ℕ) (l : List Refusal) → Placed n l → n ≤ place_of why → place_of why < n + length l → finds why ≡ Some at → EarlierClear n → first_of finds l h ≡ refused why at
  unfolding EarlierClear
  refuses n [] num a b q clear = absurd (omega arith)
  refuses n (w ∷ l) num a b q clear = go (ltb n (place_of why)) refl (refuses (suc n) l num.1)
    where
      go : (later : Bool) → ltb n (place_of why) ≡ later
          → (suc n ≤ place_of why → place_of why < suc n + length l → finds why ≡ Some at → EarlierClear (suc n) → first_of finds l h ≡ refused why at)
          → or_else w (finds w) (first_of finds l h) ≡ refused why at
      go true t more =
          let y = ltb-true n (place_of why) t in
          let z = num.0 in
          rw (clear w (omega arith) (omega arith)) (more (omega arith) (omega arith) q (λ e c d. clear e (omega arith) d))
      go false t more =
          let x : place_of w ≡ place_of why = (let y = ltb-false n (place_of why) t in let z = num.0 in omega arith) in
          rw (one_place w why x, q)

-- Refusal `why` is given at place `at` exactly when the table's line says so and no earlier line gives a refusal (R32, R41 to R56).
pub exactly : (f : List ℕ) (room : Room) (why : Refusal) (at : ℕ)
    → (refusal_of f room ≡ refused why at)
    ↔ (Given (header_in f) f room why at × ((e : Refusal) → Earlier e why → (p : ℕ) → Given (header_in f) f room e p → ⊥))
unfolding refusal_of EarlierClear
exactly f room why at =
    let h : Header = header_in f in (
      λ e. let r = refused_by (found h f room) h why at 0 refusals_in_order in_order e in ((line h f room why at).0 r.0, λ x a. (clear_iff h f room x).0 (r.1 x (omega arith) a)),
      λ g. refuses (found h f room) h why at 0 refusals_in_order in_order (omega arith) (placed why).1 ((line h f room why at).1 g.0) (λ x a b. (clear_iff h f room x).1 (g.1 x b)),
    )

clear_all : (finds : Refusal → Option ℕ) (l : List Refusal) → ((why : Refusal) → finds why ≡ None) → Clear finds l
clear_all finds [] c = tt
clear_all finds (w ∷ l) c = (c w, clear_all finds l c)

all_clear : (finds : Refusal → Option ℕ) (why : Refusal) (n : ℕ) (l : List Refusal) → Placed n l → n ≤ place_of why → place_of why < n + length l → Clear finds l → finds why ≡ None
all_clear finds why n [] num a b c = absurd (omega arith)
all_clear finds why n (w ∷ l) num a b c = go (ltb n (place_of why)) refl (all_clear finds why (suc n) l num.1)
  where
    go : (later : Bool) → ltb n (place_of why) ≡ later → (suc n ≤ place_of why → place_of why < suc n + length l → Clear finds l → finds why ≡ None) → finds why ≡ None
    go true t more = let y = ltb-true n (place_of why) t in more (omega arith) (omega arith) c.1
    go false t more = let x : place_of w ≡ place_of why = (let y = ltb-false n (place_of why) t in let z = num.0 in omega arith) in rw (sym (one_place w why x)) c.0

-- A file is accepted exactly when no line of the table gives a refusal.
pub exactly_accepted : (f : List ℕ) (room : Room) → (refusal_of f room ≡ Ok (header_in f)) ↔ ((why : Refusal) (at : ℕ) → Given (header_in f) f room why at → ⊥)
unfolding refusal_of
exactly_accepted f room =
    let h : Header = header_in f in
    let finds = found h f room in (
      λ e why. (clear_iff h f room why).0 (all_clear finds why 0 refusals_in_order in_order (omega arith) (placed why).1 (accepts finds h refusals_in_order h e).1),
      λ g. accepted finds h refusals_in_order (clear_all finds refusals_in_order (λ why. (clear_iff h f room why).1 (g why))),
    )

-- So the answer is one of the two: refused as the table says, or accepted with the file's header.
pub answered : (f : List ℕ) (room : Room) (h : Header) → refusal_of f room ≡ Ok h → h ≡ header_in f
answered f room h e = (lawful f room h e).file.header
