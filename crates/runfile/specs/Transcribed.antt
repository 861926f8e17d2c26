-- What it is that a file of version 1 and its transcription to version 2 are checked alike: both accepted, or both refused by the same number, at
-- places that are those of the same row, field or schedule byte. That they are is `checked_alike` (proofs/Transcribed.antt); and their tables are alike.
use Rattle.std.specs.Prelude.{ℕ, zero, suc, ◌+◌, ◌*◌, ◌≤◌, ◌<◌, ◌≡◌, List, ◌∷◌, Result, Ok, Err}
use Rattle.std.proofs.Math.Path.{refl, ap}
use Rattle.std.proofs.Common.{sym, ap₂, ◌∙◌, arith, zero-mul, suc-mul}
use Rattle.std.proofs.Math.ListN.{length}
use Rattle.runfile.specs.declared.Header.{Header}
use Rattle.runfile.specs.declared.Field.{Field}
use Rattle.runfile.specs.declared.Refusal.{Refusal}
use Rattle.runfile.specs.declared.Refusal.TheVariants as refusal
use Rattle.runfile.specs.declared.Refused.{Refused}
use Rattle.runfile.specs.Format.{least_head, offset_of}
use Rattle.runfile.specs.Layout.{marked, header_in, rows_start, stride_of, row_place, row_at, schedule_start, schedule_in, length_given}
use Rattle.runfile.specs.Operations.{words_of, rows_from, table_of}
use Rattle.runfile.specs.Table.{row_of, zero_byte_of}

-- f is a file of version 1, and g the same in version 2: the same mark and counts, the words as they are read, the rows and the schedule;
-- what f's length lacks or has too much, g's does. No row is of kind 2, which version 2 has and version 1 has not (R49b)
pub record Transcribes (f g : List ℕ) : Type 0 where
  pub first : (header_in f).version ≡ 1
  pub second : (header_in g).version ≡ 2
  pub long : least_head ≤ length f
  pub wide_long : least_head ≤ length g
  pub marks : marked f ≡ marked g
  pub processes : (header_in f).processes ≡ (header_in g).processes
  pub words : (header_in f).words ≡ (header_in g).words
  pub rows : (header_in f).rows ≡ (header_in g).rows
  pub steps : (header_in f).steps ≡ (header_in g).steps
  pub lengths : length g + length_given (header_in f) ≡ length f + length_given (header_in g)
  pub start_words : words_of (header_in f) f ≡ words_of (header_in g) g
  pub row : (k : ℕ) → k < (header_in f).rows → row_of (header_in f) f k ≡ row_of (header_in g) g k
  pub zero_byte : (k : ℕ) → k < (header_in f).rows → zero_byte_of (header_in f) f k ≡ zero_byte_of (header_in g) g k
  pub no_advance : (k : ℕ) → k < (header_in f).rows → (row_of (header_in f) f k).kind ≡ 2 → ⊥
  pub schedule : schedule_in (header_in f) f ≡ schedule_in (header_in g) g

-- places in files with these headers that are of the same row, of the same field of the same row, of the same schedule byte
pub record SameRow (a b : Header) (p q : ℕ) : Type 0 where
  pub which : ℕ
  pub within : which < a.rows
  pub here : p ≡ row_place (stride_of a) (rows_start a) which
  pub there : q ≡ row_place (stride_of b) (rows_start b) which

pub record SameField (a b : Header) (p q : ℕ) : Type 0 where
  pub which : ℕ
  pub within : which < a.rows
  pub field : Field
  pub here : p ≡ row_place (stride_of a) (rows_start a) which + offset_of (stride_of a) field
  pub there : q ≡ row_place (stride_of b) (rows_start b) which + offset_of (stride_of b) field

pub record SameByte (a b : Header) (p q : ℕ) : Type 0 where
  pub which : ℕ
  pub here : p ≡ schedule_start a + which
  pub there : q ≡ schedule_start b + which

abbrev pub BothWhole : ℕ → ℕ → Type 0
BothWhole p q = (p ≡ 0) × (q ≡ 0)

-- how the places of a refusal go together, by the refusal (R41 to R56)
abbrev pub SamePlace : Header → Header → Refusal → ℕ → ℕ → Type 0
SamePlace a b refusal.Short p q = BothWhole p q
SamePlace a b refusal.Mark p q = BothWhole p q
SamePlace a b refusal.Version p q = BothWhole p q
SamePlace a b refusal.Processes p q = BothWhole p q
SamePlace a b refusal.Words p q = BothWhole p q
SamePlace a b refusal.Rows p q = BothWhole p q
SamePlace a b refusal.Steps p q = BothWhole p q
SamePlace a b refusal.Length p q = BothWhole p q
SamePlace a b refusal.Row p q = SameField a b p q
SamePlace a b refusal.Order p q = SameRow a b p q
SamePlace a b refusal.Same p q = SameRow a b p q
SamePlace a b refusal.Action p q = SameByte a b p q
SamePlace a b refusal.Idle p q = SameByte a b p q
SamePlace a b refusal.WordsRoom p q = BothWhole p q
SamePlace a b refusal.LogRoom p q = BothWhole p q
SamePlace a b refusal.AnswersRoom p q = BothWhole p q

-- both accepted, each with its header; or both refused by the same refusal, at places that go together
abbrev pub CheckedAlike : Header → Header → Result Header Refused → Result Header Refused → Type 0
CheckedAlike a b (Ok x) (Ok y) = (x ≡ a) × (y ≡ b)
CheckedAlike a b (Ok x) (Err s) = ⊥
CheckedAlike a b (Err r) (Ok y) = ⊥
CheckedAlike a b (Err r) (Err s) = (s.why ≡ r.why) × SamePlace a b r.why r.place s.place

-- rows that are alike one by one are alike as lists
next : (stride at k : ℕ) → at + stride + k * stride ≡ at + suc k * stride
next stride at k = rw (suc-mul k stride) (omega arith)

here : (stride at : ℕ) → at ≡ at + 0 * stride
here stride at = rw (zero-mul stride) (omega arith)

rows_alike : (s w : ℕ) (f g : List ℕ) (at to n : ℕ) → ((k : ℕ) → k < n → row_at s f (at + k * s) ≡ row_at w g (to + k * w)) → rows_from s f at n ≡ rows_from w g to n
unfolding rows_from
rows_alike s w f g at to zero c = refl
rows_alike s w f g at to (suc n) c =
    ap₂ (λ r l. r ∷ l)
    (ap (row_at s f) (here s at) ∙ c 0 (omega arith) ∙ sym (ap (row_at w g) (here w to)))
    (rows_alike s w f g (at + s) (to + w) n (λ k l. ap (row_at s f) (next s at k) ∙ c (suc k) (omega arith) ∙ sym (ap (row_at w g) (next w to k))))

pub tables_alike : (f g : List ℕ) → Transcribes f g → table_of (header_in f) f ≡ table_of (header_in g) g
unfolding table_of
tables_alike f g t =
    rows_alike (stride_of (header_in f)) (stride_of (header_in g)) f g (rows_start (header_in f)) (rows_start (header_in g)) (header_in f).rows t.row
    ∙ ap (rows_from (stride_of (header_in g)) g (rows_start (header_in g))) t.rows
