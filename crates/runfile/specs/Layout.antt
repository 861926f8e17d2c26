-- Where the parts of a run file stand, and their fields (R1 to R8, R10).
-- A file is the list of its bytes. Everything here is total: a byte past the end counts as 0.
use Rattle.std.specs.Prelude.{ℕ, ◌+◌, ◌*◌, ◌/◌, ◌%◌, ◌≤◌, ◌≡◌, Bool, cond, ◌&&◌, List, eqb, get_or, length, drop}
use Rattle.runfile.specs.declared.Header.{Header}
use Rattle.runfile.specs.declared.Row.{Row}
use Rattle.runfile.specs.Format.{head_size, word_size, row_size, RowSize, new_place}

abbrev pub byte_at : List ℕ → ℕ → ℕ
byte_at f at = get_or f at 0

-- a number of two bytes, and one of four: the lowest byte first (R1)
unfoldable pub u16_at : List ℕ → ℕ → ℕ
u16_at f at = byte_at f at + byte_at f (at + 1) * 256

unfoldable pub u32_at : List ℕ → ℕ → ℕ
u32_at f at = byte_at f at + byte_at f (at + 1) * 256 + byte_at f (at + 2) * 65536 + byte_at f (at + 3) * 16777216

unfoldable pub u64_at : List ℕ → ℕ → ℕ
u64_at f at = u32_at f at + u32_at f (at + 4) * 4294967296

-- the file begins with the mark `SWR` (R3)
unfoldable pub marked : List ℕ → Bool
marked f = eqb (byte_at f 0) 83 && (eqb (byte_at f 1) 87 && eqb (byte_at f 2) 82)

-- the header behind its mark: the version, P, W, the row count and S (R2)
unfoldable pub header_in : List ℕ → Header
header_in f = record { version = u16_at f 3; processes = byte_at f 5; words = byte_at f 6; rows = u16_at f 7; steps = u16_at f 9 }

-- a word of version 1, which has 16 bits of value, with 32 bits of value: the flip bits move up behind them (R6)
unfoldable pub widened : ℕ → ℕ
widened word = word % 65536 + word / 65536 * 4294967296

-- where start word i stands in a file of this version, and the word (R6)
abbrev pub word_place : ℕ → ℕ → ℕ
word_place version i = head_size version + i * word_size version

abbrev pub word_in : ℕ → List ℕ → ℕ → ℕ
word_in version f i = cond (eqb version 1) (widened (u32_at f (word_place version i))) (u64_at f (word_place version i))

-- where the rows begin, how many bytes it is from one to the next, and where row k of those that begin at `start` stands (R7)
abbrev pub rows_start : Header → ℕ
rows_start h = word_place h.version h.words

abbrev pub stride_of : Header → ℕ
stride_of h = row_size h.version

abbrev pub row_place : ℕ → ℕ → ℕ → ℕ
row_place stride start k = start + k * stride

-- the rows of the file f with this header are those of g, with a row every so many bytes from a place on
pub record RowsOf (h : Header) (f g : List ℕ) (start stride count : ℕ) : Type 0 where
  pub bytes : g ≡ f
  pub begins : start ≡ rows_start h
  pub each : stride ≡ stride_of h
  pub all : count ≡ h.rows

-- old or new of a row; and the fields of the row at a place (R10)
unfoldable pub number_at : ℕ → List ℕ → ℕ → ℕ
number_at stride f at = cond (eqb stride 8) (u16_at f at) (u32_at f at)

unfoldable pub row_at : ℕ → List ℕ → ℕ → Row
row_at stride f at = record { process = byte_at f at; kind = byte_at f (at + 1); word = byte_at f (at + 2); old = number_at stride f (at + 4); new = number_at stride f (at + new_place stride) }

abbrev pub zero_byte_at : List ℕ → ℕ → ℕ
zero_byte_at f at = byte_at f (at + 3)

abbrev pub row_in : ℕ → List ℕ → ℕ → ℕ → Row
row_in stride f start k = row_at stride f (row_place stride start k)

-- row k of a table of rows, which is all that other layers ask for; the table has it
abbrev pub row_of_table : ℕ → List ℕ → ℕ → Row
row_of_table stride table k = row_at stride table (k * stride)

pub record HasRow (stride : ℕ) (table : List ℕ) (k : ℕ) : Type 0 where
  pub size : RowSize stride
  pub whole : k * stride + stride ≤ length table

-- the schedule: all that stands behind the last row (R8)
abbrev pub schedule_start : Header → ℕ
schedule_start h = row_place (stride_of h) (rows_start h) h.rows

abbrev pub schedule_in : Header → List ℕ → List ℕ
schedule_in h f = drop (schedule_start h) f

-- the length that a header gives its file (R8)
abbrev pub length_given : Header → ℕ
length_given h = schedule_start h + h.steps
