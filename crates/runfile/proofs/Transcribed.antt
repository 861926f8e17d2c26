-- A file of version 1 and its transcription to version 2 are checked alike (`checked_alike`). Check by check the two searches find alike, then the
-- list of checks does.
use Rattle.std.specs.Prelude.{ℕ, zero, suc, ◌+◌, ◌*◌, ◌-◌, ◌≤◌, ◌<◌, ◌≡◌, Bool, true, false, not, ◌&&◌, ◌||◌, List, [], ◌∷◌, leb, eqb, get_or, take, Option, Some, None}
use Rattle.std.proofs.Math.Path.{refl, ap}
use Rattle.std.proofs.Common.{sym, ap₂, subst, ◌∙◌, arith, eqb-true, eq-eqb, ne_eqb, le-ltb}
use Rattle.std.proofs.Math.Bool.{and-false}
use Rattle.std.proofs.Math.Dec.{ltb}
use Rattle.std.proofs.Math.ListN.{length}
use Rattle.std.proofs.lemmas.Bool.{eqb-false}
use Rattle.runfile.specs.declared.Header.{Header}
use Rattle.runfile.specs.declared.Row.{Row}
use Rattle.runfile.specs.declared.Field.{Field}
use Rattle.runfile.specs.declared.Field.TheVariants as field
use Rattle.runfile.specs.declared.Room.{Room}
use Rattle.runfile.specs.declared.Refusal.{Refusal}
use Rattle.runfile.specs.declared.Refusal.TheVariants as refusal
use Rattle.runfile.specs.Format.{least_head, offset_of}
use Rattle.runfile.specs.Layout.{header_in, rows_start, stride_of, row_place, schedule_start, schedule_in, length_given}
use Rattle.runfile.specs.Fields.{fields, field_at}
use Rattle.runfile.specs.Kinds.{kind_of}
use Rattle.runfile.specs.Ups.{idles}
use Rattle.runfile.specs.Refusals.{unknown_version, out_of_range, bad_kind, zero_old, zero_new, bad_number, bad_field, bad_in, same_fields, same, below, bad_byte, offends_at, or_later, first_found, found_if, bad_field_in, first_bad_field, first_row, first_later_row, first_byte, whole, found, or_else, first_of, refusals_in_order, refusal_of}
use Rattle.runfile.specs.Table.{row_of, zero_byte_of}
use Rattle.runfile.specs.Transcribed.{Transcribes, SameRow, SameField, SameByte, BothWhole, SamePlace, CheckedAlike}

-- both found nothing, or both a place
abbrev FoundAlike : (ℕ → ℕ → Type 0) → Option ℕ → Option ℕ → Type 0
FoundAlike R None None = Unit
FoundAlike R None (Some q) = ⊥
FoundAlike R (Some p) None = ⊥
FoundAlike R (Some p) (Some q) = R p q

module _ (R : ℕ → ℕ → Type 0) where
  one_alike : (s t : Bool) (p q : ℕ) → s ≡ t → R p q → FoundAlike R (found_if s p) (found_if t q)
  one_alike s t p q e r = subst (λ u. FoundAlike R (found_if s p) (found_if u q)) e (go s)
    where
      go : (u : Bool) → FoundAlike R (found_if u p) (found_if u q)
      go true = r
      go false = tt

  search_alike : (finds wide : ℕ → Option ℕ) (k n : ℕ) → ((j : ℕ) → k ≤ j → j < k + n → FoundAlike R (finds j) (wide j)) → FoundAlike R (first_found finds k n) (first_found wide k n)
  search_alike finds wide k zero c = tt
  search_alike finds wide k (suc n) c = go (finds k) (wide k) (c k (omega arith) (omega arith)) (search_alike finds wide (suc k) n (λ j a b. c j (omega arith) (omega arith)))
    where
      go : (s t : Option ℕ) → FoundAlike R s t → FoundAlike R (first_found finds (suc k) n) (first_found wide (suc k) n)
          → FoundAlike R (or_later s (first_found finds (suc k) n)) (or_later t (first_found wide (suc k) n))
      go None None r more = more
      go None (Some q) r more = absurd r
      go (Some p) None r more = absurd r
      go (Some p) (Some q) r more = r

  -- over as many numbers, said of both
  searches_alike : (finds wide : ℕ → Option ℕ) (k n m : ℕ) → n ≡ m → ((j : ℕ) → k ≤ j → j < k + n → FoundAlike R (finds j) (wide j)) → FoundAlike R (first_found finds k n) (first_found wide k m)
  searches_alike finds wide k n m e c = subst (λ x. FoundAlike R (first_found finds k n) (first_found wide k x)) e (search_alike finds wide k n c)

whole_alike : (s t : Bool) → s ≡ t → FoundAlike BothWhole (whole s) (whole t)
whole_alike s t e = one_alike BothWhole s t 0 0 e (refl, refl)

list_alike : (a b : Header) (finds wide : Refusal → Option ℕ) → ((why : Refusal) → FoundAlike (SamePlace a b why) (finds why) (wide why))
    → (l : List Refusal) → CheckedAlike a b (first_of finds l a) (first_of wide l b)
list_alike a b finds wide c [] = (refl, refl)
list_alike a b finds wide c (why ∷ l) = go (finds why) (wide why) (c why) (list_alike a b finds wide c l)
  where
    go : (s t : Option ℕ) → FoundAlike (SamePlace a b why) s t → CheckedAlike a b (first_of finds l a) (first_of wide l b)
        → CheckedAlike a b (or_else why s (first_of finds l a)) (or_else why t (first_of wide l b))
    go None None r more = more
    go None (Some q) r more = absurd r
    go (Some p) None r more = absurd r
    go (Some p) (Some q) r more = (refl, r)

-- a length is the given one in both files or in neither
tied : (n given m wide : ℕ) → m + given ≡ n + wide → eqb n given ≡ eqb m wide
tied n given m wide e = go (eqb n given) refl
  where
    go : (t : Bool) → eqb n given ≡ t → t ≡ eqb m wide
    go true q = sym (eq-eqb m wide (let x = eqb-true n given q in omega arith))
    go false q = sym (ne_eqb m wide (λ x. eqb-false n given q (omega arith)))

-- where a row is of another kind than 2, the version has no part in which kinds there are
kind_alike : (a b : Header) (r s : Row) → r ≡ s → (r.kind ≡ 2 → ⊥) → bad_kind a.version r.kind ≡ bad_kind b.version s.kind
kind_alike a b r s e other =
    ap (λ t. (eqb a.version 1 && t) || ltb 2 r.kind) (ne_eqb r.kind 2 other)
    ∙ ap (λ t. t || ltb 2 r.kind) (and-false (eqb a.version 1) ∙ sym (and-false (eqb b.version 1)))
    ∙ ap (λ t. (eqb b.version 1 && t) || ltb 2 r.kind) (sym (ne_eqb r.kind 2 other))
    ∙ ap (λ (u : Row). bad_kind b.version u.kind) e

-- a field's test looks at P, W, the row and its zero byte, and for kind 2 at the version
field_alike : (a b : Header) (r s : Row) (y z : ℕ) → a.processes ≡ b.processes → a.words ≡ b.words → r ≡ s → (r.kind ≡ 2 → ⊥) → y ≡ z → (x : Field) → bad_field a r y x ≡ bad_field b s z x
unfolding bad_field
field_alike a b r s y z p w e other o field.Process = ap₂ leb p (ap (λ (u : Row). u.process) e)
field_alike a b r s y z p w e other o field.Kind = kind_alike a b r s e other
field_alike a b r s y z p w e other o field.Word = ap₂ leb w (ap (λ (u : Row). u.word) e)
field_alike a b r s y z p w e other o field.ZeroByte = ap (λ u. not (eqb u 0)) o
field_alike a b r s y z p w e other o field.Old = ap (λ (u : Row). bad_number (zero_old (kind_of u)) u.old) e
field_alike a b r s y z p w e other o field.New = ap (λ (u : Row). bad_number (zero_new (kind_of u)) u.new) e

module _ (f g : List ℕ) (t : Transcribes f g) where
  abbrev a : Header
  a = header_in f

  abbrev b : Header
  b = header_in g

  abbrev bad : ℕ → ℕ → Bool
  bad k i = bad_in a (stride_of a) f (rows_start a) k (field_at i)

  abbrev wide_bad : ℕ → ℕ → Bool
  wide_bad k i = bad_in b (stride_of b) g (rows_start b) k (field_at i)

  abbrev place : Header → ℕ → ℕ → ℕ
  place h k i = row_place (stride_of h) (rows_start h) k + offset_of (stride_of h) (field_at i)

  in_row : (k : ℕ) → k < a.rows → FoundAlike (SameField a b) (bad_field_in a (stride_of a) f (rows_start a) k) (bad_field_in b (stride_of b) g (rows_start b) k)
  in_row k l =
      search_alike (SameField a b) (λ i. found_if (bad k i) (place a k i)) (λ i. found_if (wide_bad k i) (place b k i)) 0 (length fields)
      (λ i c d. one_alike (SameField a b) (bad k i) (wide_bad k i) (place a k i) (place b k i)
      (field_alike a b (row_of a f k) (row_of b g k) (zero_byte_of a f k) (zero_byte_of b g k) t.processes t.words (t.row k l) (t.no_advance k l) (t.zero_byte k l) (field_at i))
      (record { which = k; within = l; field = field_at i; here = refl; there = refl }))

  fields_alike : FoundAlike (SameField a b) (first_bad_field a (stride_of a) f (rows_start a) a.rows) (first_bad_field b (stride_of b) g (rows_start b) b.rows)
  unfolding first_bad_field
  fields_alike = searches_alike (SameField a b) (bad_field_in a (stride_of a) f (rows_start a)) (bad_field_in b (stride_of b) g (rows_start b)) 0 a.rows b.rows t.rows (λ k c d. in_row k (omega arith))

  order_alike : FoundAlike (SameRow a b) (first_later_row (stride_of a) (rows_start a) a.rows (below (stride_of a) f (rows_start a))) (first_later_row (stride_of b) (rows_start b) b.rows (below (stride_of b) g (rows_start b)))
  unfolding first_later_row
  order_alike = searches_alike (SameRow a b) _ _ 1 (a.rows - 1) (b.rows - 1) (ap (λ n. n - 1) t.rows) (λ k c d.
      one_alike (SameRow a b) (below (stride_of a) f (rows_start a) k) (below (stride_of b) g (rows_start b) k) _ _
      (ap₂ (λ (r s : Row). ltb r.process s.process) (t.row k (omega arith)) (t.row (k - 1) (omega arith)))
      (record { which = k; within = omega arith; here = refl; there = refl }))

  same_alike : FoundAlike (SameRow a b) (first_row (stride_of a) (rows_start a) a.rows (same (stride_of a) f (rows_start a))) (first_row (stride_of b) (rows_start b) b.rows (same (stride_of b) g (rows_start b)))
  unfolding first_row
  same_alike = searches_alike (SameRow a b) _ _ 0 a.rows b.rows t.rows (λ k c d.
      one_alike (SameRow a b) (same (stride_of a) f (rows_start a) k) (same (stride_of b) g (rows_start b) k) _ _
      (ap same_fields (t.row k (omega arith)))
      (record { which = k; within = omega arith; here = refl; there = refl }))

  -- for any two tests that come out alike, of a byte after those before it
  bytes_alike : (test wide : List ℕ → ℕ → Bool) → ((before : List ℕ) (byte : ℕ) → test before byte ≡ wide before byte)
      → FoundAlike (SameByte a b) (first_byte (schedule_start a) test (schedule_in a f)) (first_byte (schedule_start b) wide (schedule_in b g))
  unfolding first_byte
  bytes_alike test wide alike = searches_alike (SameByte a b) _ _ 0 (length (schedule_in a f)) (length (schedule_in b g)) (ap length t.schedule) (λ i c d.
      one_alike (SameByte a b) (offends_at test (schedule_in a f) i) (offends_at wide (schedule_in b g) i) _ _
      (alike (take i (schedule_in a f)) (get_or (schedule_in a f) i 0) ∙ ap (λ l. offends_at wide l i) t.schedule)
      (record { which = i; here = refl; there = refl }))

  finds_alike : (room : Room) (why : Refusal) → FoundAlike (SamePlace a b why) (found a f room why) (found b g room why)
  finds_alike room refusal.Short = whole_alike _ _ (le-ltb (length f) least_head t.long ∙ sym (le-ltb (length g) least_head t.wide_long))
  finds_alike room refusal.Mark = whole_alike _ _ (ap not t.marks)
  finds_alike room refusal.Version = whole_alike _ _ (ap (λ v. unknown_version v) t.first ∙ sym (ap (λ v. unknown_version v) t.second))
  finds_alike room refusal.Processes = whole_alike _ _ (ap (λ n. out_of_range n) t.processes)
  finds_alike room refusal.Words = whole_alike _ _ (ap (λ n. out_of_range n) t.words)
  finds_alike room refusal.Rows = whole_alike _ _ (ap (ltb 512) t.rows)
  finds_alike room refusal.Steps = whole_alike _ _ (ap (ltb 1024) t.steps)
  finds_alike room refusal.Length = whole_alike _ _ (ap not (tied (length f) (length_given a) (length g) (length_given b) t.lengths))
  finds_alike room refusal.Row = fields_alike
  finds_alike room refusal.Order = order_alike
  finds_alike room refusal.Same = same_alike
  finds_alike room refusal.Action = bytes_alike (λ before. bad_byte a.processes) (λ before. bad_byte b.processes) (λ before byte. ap (λ n. bad_byte n byte) t.processes)
  finds_alike room refusal.Idle = bytes_alike idles idles (λ before byte. refl)
  finds_alike room refusal.WordsRoom = whole_alike _ _ (ap (ltb room.words) t.words)
  finds_alike room refusal.LogRoom = whole_alike _ _ (ap (λ n. ltb room.log (5 * n)) t.steps)
  finds_alike room refusal.AnswersRoom = whole_alike _ _ (ap (λ n. ltb room.answers (5 * n)) t.steps)

  pub checked_alike : (room : Room) → CheckedAlike (header_in f) (header_in g) (refusal_of f room) (refusal_of g room)
  unfolding refusal_of
  checked_alike room = list_alike a b (found a f room) (found b g room) (finds_alike room) refusals_in_order
