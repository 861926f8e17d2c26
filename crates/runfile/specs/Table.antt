-- The table of refusals in propositions, line by line (R41 to R56). `Given h f room why at` says when a refusal is given, and at which place:
-- h is the file's header, f its bytes, room the lengths of the three buffers.
use Rattle.std.specs.Prelude.{ℕ, ◌+◌, ◌*◌, ◌-◌, ◌/◌, ◌%◌, ◌≤◌, ◌<◌, ◌≡◌, ◌⊎◌, true, false, List, get_or, length, take}
use Rattle.runfile.specs.declared.Header.{Header}
use Rattle.runfile.specs.declared.Row.{Row}
use Rattle.runfile.specs.declared.Kind.{Kind}
use Rattle.runfile.specs.declared.Kind.TheVariants.{Read, Compare, Advance}
use Rattle.runfile.specs.declared.Field.{Field}
use Rattle.runfile.specs.declared.Field.TheVariants as field
use Rattle.runfile.specs.declared.Room.{Room}
use Rattle.runfile.specs.declared.Refusal.{Refusal}
use Rattle.runfile.specs.declared.Refusal.TheVariants as refusal
use Rattle.runfile.specs.Format.{offset_of}
use Rattle.runfile.specs.Layout.{byte_at, rows_start, stride_of, row_place, row_in, zero_byte_at, schedule_start, schedule_in, length_given}
use Rattle.runfile.specs.Kinds.{kind_of}
use Rattle.runfile.specs.Actions.{crash, wake, action, named}
use Rattle.runfile.specs.Ups.{is_up}
use Rattle.runfile.specs.Refusals.{place_of}

-- 2: the mark is `SWR` (R3)
abbrev pub Marked : List ℕ → Type 0
Marked f = (byte_at f 0 ≡ 83) × (byte_at f 1 ≡ 87) × (byte_at f 2 ≡ 82)

-- 9: which numbers are no kinds, which kinds must have old 0 and which new 0; and a field of a row is faulty, field by field (R49a to R49f)
abbrev pub BadKind : ℕ → ℕ → Type 0
BadKind version kind = ((version ≡ 1) × (kind ≡ 2)) ⊎ (2 < kind)

abbrev pub ZeroOld : Kind → Type 0
ZeroOld Read = Unit
ZeroOld Compare = ⊥
ZeroOld Advance = Unit

abbrev pub ZeroNew : Kind → Type 0
ZeroNew Read = Unit
ZeroNew Compare = ⊥
ZeroNew Advance = ⊥

abbrev pub BadField : Header → Row → ℕ → Field → Type 0
BadField h row zero_read field.Process = h.processes ≤ row.process
BadField h row zero_read field.Kind = BadKind h.version row.kind
BadField h row zero_read field.Word = h.words ≤ row.word
BadField h row zero_read field.ZeroByte = zero_read ≡ 0 → ⊥
BadField h row zero_read field.Old = ZeroOld (kind_of row) × (row.old ≡ 0 → ⊥)
BadField h row zero_read field.New = ZeroNew (kind_of row) × (row.new ≡ 0 → ⊥)

-- 11: old and new are alike in a row that compares, or the amount of one that advances is 0 (R51)
abbrev pub Same : Kind → (old new : ℕ) → Type 0
Same Read old new = ⊥
Same Compare old new = old ≡ new
Same Advance old new = new ≡ 0

abbrev pub SameFields : Row → Type 0
SameFields row = Same (kind_of row) row.old row.new

-- 12: a byte is no action, in one of three ways (R73)
pub data BadByte (processes byte : ℕ) : Type 0 where
  no_action : 3 ≤ byte / 16 → (byte / 16 ≡ 15 → ⊥) → BadByte processes byte
  no_process : byte / 16 < 3 → processes ≤ byte % 16 → BadByte processes byte
  low_bits : byte / 16 ≡ 15 → (byte % 16 ≡ 0 → ⊥) → BadByte processes byte

-- 16: after the bytes before it, a byte is a crash of one that is down or a wake of one that is up (R56)
pub data IdleByte (before : List ℕ) (byte : ℕ) : Type 0 where
  crash_of-down : action byte ≡ crash → is_up before (named byte) ≡ false → IdleByte before byte
  wake_of_up : action byte ≡ wake → is_up before (named byte) ≡ true → IdleByte before byte

-- of the n numbers from `from` on, the first that is bad, and its place (R33)
pub record First (from n : ℕ) (place : ℕ → ℕ) (Bad : ℕ → Type 0) (at : ℕ) : Type 0 where
  pub which : ℕ
  pub after : from ≤ which
  pub within : which < from + n
  pub bad : Bad which
  pub none_before : (j : ℕ) → from ≤ j → j < which → Bad j → ⊥
  pub here : at ≡ place which

-- the row's first byte
abbrev pub FirstRow : Header → (ℕ → Type 0) → ℕ → Type 0
FirstRow h Bad at = First 0 h.rows (row_place (stride_of h) (rows_start h)) Bad at

abbrev pub FirstLaterRow : Header → (ℕ → Type 0) → ℕ → Type 0
FirstLaterRow h Bad at = First 1 (h.rows - 1) (row_place (stride_of h) (rows_start h)) Bad at

-- the fields of row k, and byte i of the schedule
abbrev pub row_of : Header → List ℕ → ℕ → Row
row_of h f k = row_in (stride_of h) f (rows_start h) k

abbrev pub zero_byte_of : Header → List ℕ → ℕ → ℕ
zero_byte_of h f k = zero_byte_at f (row_place (stride_of h) (rows_start h) k)

abbrev pub byte_of : Header → List ℕ → ℕ → ℕ
byte_of h f i = get_or (schedule_in h f) i 0

-- of the schedule's bytes the first that is bad: said of a byte and of those before it
abbrev pub FirstByte : Header → List ℕ → (List ℕ → ℕ → Type 0) → ℕ → Type 0
FirstByte h f Bad at = First 0 (length (schedule_in h f)) (λ i. schedule_start h + i) (λ i. Bad (take i (schedule_in h f)) (byte_of h f i)) at

-- 9, and its place: the first byte of the first faulty field, by offsets, of the first faulty row (R36)
abbrev pub BadIn : Header → List ℕ → ℕ → Field → Type 0
BadIn h f k x = BadField h (row_of h f k) (zero_byte_of h f k) x

pub record FirstBadField (h : Header) (f : List ℕ) (at : ℕ) : Type 0 where
  pub row : ℕ
  pub within : row < h.rows
  pub field : Field
  pub bad : BadIn h f row field
  pub no_row_before : (j : ℕ) → j < row → (x : Field) → BadIn h f j x → ⊥
  pub no_field_before : (x : Field) → offset_of (stride_of h) x < offset_of (stride_of h) field → BadIn h f row x → ⊥
  pub here : at ≡ row_place (stride_of h) (rows_start h) row + offset_of (stride_of h) field

-- the table, a line for each refusal (R41 to R56)
abbrev pub Given : Header → List ℕ → Room → Refusal → ℕ → Type 0
Given h f room refusal.Short at = (length f < 11) × (at ≡ 0)
Given h f room refusal.Mark at = (Marked f → ⊥) × (at ≡ 0)
Given h f room refusal.Version at = ((h.version ≡ 1 → ⊥) × (h.version ≡ 2 → ⊥)) × (at ≡ 0)
Given h f room refusal.Processes at = ((h.processes ≡ 0) ⊎ (16 < h.processes)) × (at ≡ 0)
Given h f room refusal.Words at = ((h.words ≡ 0) ⊎ (16 < h.words)) × (at ≡ 0)
Given h f room refusal.Rows at = (512 < h.rows) × (at ≡ 0)
Given h f room refusal.Steps at = (1024 < h.steps) × (at ≡ 0)
Given h f room refusal.Length at = (length f ≡ length_given h → ⊥) × (at ≡ 0)
Given h f room refusal.Row at = FirstBadField h f at
Given h f room refusal.Order at = FirstLaterRow h (λ k. (row_of h f k).process < (row_of h f (k - 1)).process) at
Given h f room refusal.Same at = FirstRow h (λ k. SameFields (row_of h f k)) at
Given h f room refusal.Action at = FirstByte h f (λ before byte. BadByte h.processes byte) at
Given h f room refusal.Idle at = FirstByte h f IdleByte at
Given h f room refusal.WordsRoom at = (room.words < h.words) × (at ≡ 0)
Given h f room refusal.LogRoom at = (room.log < 5 * h.steps) × (at ≡ 0)
Given h f room refusal.AnswersRoom at = (room.answers < 5 * h.steps) × (at ≡ 0)

-- the order of the checks (R32): by their places in the list of checks, not by their numbers
abbrev pub Earlier : Refusal → Refusal → Type 0
Earlier e why = place_of e < place_of why
