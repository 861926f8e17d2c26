-- The contracts of the public functions, and that each leaves no second outcome. A contract of one equation, or of one with a bound beside it for the
-- caller's arithmetic, is that under a name, so that a caller rewrites with it as it stands.
use Rattle.std.specs.Prelude.{ℕ, ◌<◌, ◌≡◌, Bool, cond, List, ltb, length, drop, Result}
use Rattle.std.proofs.Common.{sym, subst, ◌∙◌}
use Rattle.runfile.specs.declared.Room.{Room}
use Rattle.runfile.specs.declared.Row.{Row}
use Rattle.runfile.specs.declared.Kind.{Kind}
use Rattle.runfile.specs.declared.Refusal.{Refusal}
use Rattle.runfile.specs.declared.Refused.{Refused}
use Rattle.runfile.specs.declared.Header.{Header}
use Rattle.runfile.specs.Format.{least_head, RowSize}
use Rattle.runfile.specs.Layout.{header_in, u32_at, word_in, row_of_table, stride_of, rows_start, schedule_start}
use Rattle.runfile.specs.Kinds.{kind_numbered, kind_of}
use Rattle.runfile.specs.Actions.{action}
use Rattle.runfile.specs.Ups.{idle_by}
use Rattle.runfile.specs.Operations.{count}
use Rattle.runfile.specs.Shares.{Counted, Summed, sum_to, sixteen_one}
use Rattle.runfile.specs.Refusals.{number_of, bad_byte, refusal_of, file_refusal}

-- `check(file, room)`, for every byte string and every three lengths (R240)
pub record Decides (f : List ℕ) (room : Room) (r : Result Header Refused) : Type 0 where
  pub result : r ≡ refusal_of f room

-- `u32::from(why)`: the number of a refusal (R41 to R56)
pub record Numbers (why : Refusal) (r : ℕ) : Type 0 where
  pub result : r ≡ number_of why

-- `check_file(file)`: refusals 1 to 12 alone
abbrev pub DecidesFile : (f : List ℕ) (r : Result Header Refused) → Type 0
DecidesFile f r = r ≡ file_refusal f

pub decides_file_one : (f : List ℕ) (r q : Result Header Refused) → DecidesFile f r → DecidesFile f q → r ≡ q
decides_file_one f r q a b = a ∙ sym b

pub decides_one : (f : List ℕ) (room : Room) (r q : Result Header Refused) → Decides f room r → Decides f room q → r ≡ q
decides_one f room r q a b = a.result ∙ sym b.result

pub numbers_one : (why : Refusal) (r q : ℕ) → Numbers why r → Numbers why q → r ≡ q
numbers_one why r q a b = a.result ∙ sym b.result

-- `Kind::from(number)`, and `row.kind_of()`
abbrev pub KindNumbered : (number : ℕ) (r : Kind) → Type 0
KindNumbered number r = r ≡ kind_numbered number

abbrev pub KindRead : (row : Row) (r : Kind) → Type 0
KindRead row r = r ≡ kind_of row

-- `Operations::of(file, header)`: the table, from its first row to the file's end, the bytes from one row to the next, and how many rows there are
pub record RowsLent (h : Header) (f table : List ℕ) (stride count : ℕ) : Type 0 where
  pub table_is : table ≡ drop (rows_start h) f
  pub stride_is : stride ≡ stride_of h
  pub size : RowSize stride
  pub count_is : count ≡ h.rows

-- `operations.row(k)`, and `operations.word(k)`
abbrev pub RowRead : (stride : ℕ) (table : List ℕ) (k : ℕ) (r : Row) → Type 0
RowRead stride table k r = r ≡ row_of_table stride table k

abbrev pub RowWord : (stride : ℕ) (table : List ℕ) (k r : ℕ) → Type 0
RowWord stride table k r = r ≡ (row_of_table stride table k).word

-- `u32_at(file, at)`, and `word_at(file, header, i)`, the start word i
abbrev pub FourBytes : (f : List ℕ) (at r : ℕ) → Type 0
FourBytes f at r = r ≡ u32_at f at

abbrev pub StartWord : (h : Header) (f : List ℕ) (i r : ℕ) → Type 0
StartWord h f i r = r ≡ word_in h.version f i

-- `header.stride()`, `header.rows_start()`, `header.schedule_start()`
abbrev pub Stride : (h : Header) (r : ℕ) → Type 0
Stride h r = (r ≡ stride_of h) × RowSize r

abbrev pub RowsStart : (h : Header) (r : ℕ) → Type 0
RowsStart h r = (r ≡ rows_start h) × (r < 2100)

abbrev pub ScheduleStart : (h : Header) (r : ℕ) → Type 0
ScheduleStart h r = (r ≡ schedule_start h) × (r < 788600)

-- `header_or_zeros(file)`: a file that is too short to have a header gives zeros
unfoldable pub header_or_zeros : List ℕ → Header
header_or_zeros f = cond (ltb (length f) least_head) (record { version = 0; processes = 0; words = 0; rows = 0; steps = 0 }) (header_in f)

abbrev pub HeaderOrZeros : (f : List ℕ) (r : Header) → Type 0
HeaderOrZeros f r = r ≡ header_or_zeros f

-- `usize::from(x)` of a byte and of a number of two bytes: nothing is lost, and the bound goes with it
abbrev pub Index8 : (x r : ℕ) → Type 0
Index8 x r = (r ≡ x) × (r < 256)

abbrev pub Index16 : (x r : ℕ) → Type 0
Index16 x r = (r ≡ x) × (r < 65536)

-- `is_bad_byte(byte, processes)`
abbrev pub ByteJudged : (byte processes : ℕ) (r : Bool) → Type 0
ByteJudged byte processes r = r ≡ bad_byte processes byte

-- `is_idle(byte, up)`: whether refusal 16 is given for the byte, if the process that it names is up, or is not (R56)
abbrev pub IdleJudged : (byte : ℕ) (up r : Bool) → Type 0
IdleJudged byte up r = r ≡ idle_by (action byte) up

pub kind_numbered_one : (number : ℕ) (r q : Kind) → KindNumbered number r → KindNumbered number q → r ≡ q
kind_numbered_one number r q a b = a ∙ sym b

pub kind_read_one : (row : Row) (r q : Kind) → KindRead row r → KindRead row q → r ≡ q
kind_read_one row r q a b = a ∙ sym b

pub rows_lent_one : (h : Header) (f t u : List ℕ) (x y n m : ℕ) → RowsLent h f t x n → RowsLent h f u y m → (t ≡ u) × (x ≡ y) × (n ≡ m)
rows_lent_one h f t u x y n m a b = (a.table_is ∙ sym b.table_is, a.stride_is ∙ sym b.stride_is, a.count_is ∙ sym b.count_is)

pub row_read_one : (stride : ℕ) (table : List ℕ) (k : ℕ) (r q : Row) → RowRead stride table k r → RowRead stride table k q → r ≡ q
row_read_one stride table k r q a b = a ∙ sym b

pub row_word_one : (stride : ℕ) (table : List ℕ) (k r q : ℕ) → RowWord stride table k r → RowWord stride table k q → r ≡ q
row_word_one stride table k r q a b = a ∙ sym b

pub four_bytes_one : (f : List ℕ) (at r q : ℕ) → FourBytes f at r → FourBytes f at q → r ≡ q
four_bytes_one f at r q a b = a ∙ sym b

pub start_word_one : (h : Header) (f : List ℕ) (i r q : ℕ) → StartWord h f i r → StartWord h f i q → r ≡ q
start_word_one h f i r q a b = a ∙ sym b

pub stride_one : (h : Header) (r q : ℕ) → Stride h r → Stride h q → r ≡ q
stride_one h r q a b = a.0 ∙ sym b.0

pub rows_start_one : (h : Header) (r q : ℕ) → RowsStart h r → RowsStart h q → r ≡ q
rows_start_one h r q a b = a.0 ∙ sym b.0

pub schedule_start_one : (h : Header) (r q : ℕ) → ScheduleStart h r → ScheduleStart h q → r ≡ q
schedule_start_one h r q a b = a.0 ∙ sym b.0

pub header_or_zeros_one : (f : List ℕ) (r q : Header) → HeaderOrZeros f r → HeaderOrZeros f q → r ≡ q
header_or_zeros_one f r q a b = a ∙ sym b

-- what std promises of `usize::from(x)`, that it is x, is this of a byte and of a number of two bytes
pub index8_std : (x r : ℕ) → x < 256 → r ≡ x → Index8 x r
index8_std x r b e = (e, subst (λ n. n < 256) (sym e) b)

pub index16_std : (x r : ℕ) → x < 65536 → r ≡ x → Index16 x r
index16_std x r b e = (e, subst (λ n. n < 65536) (sym e) b)

pub index8_one : (x r q : ℕ) → Index8 x r → Index8 x q → r ≡ q
index8_one x r q a b = a.0 ∙ sym b.0

pub index16_one : (x r q : ℕ) → Index16 x r → Index16 x q → r ≡ q
index16_one x r q a b = a.0 ∙ sym b.0

pub byte_judged_one : (byte processes : ℕ) (r q : Bool) → ByteJudged byte processes r → ByteJudged byte processes q → r ≡ q
byte_judged_one byte processes r q a b = a ∙ sym b

pub idle_judged_one : (byte : ℕ) (up r q : Bool) → IdleJudged byte up r → IdleJudged byte up q → r ≡ q
idle_judged_one byte up r q a b = a ∙ sym b

-- `operations.counts()`, `firsts_of(counts)`
pub counted_one : (rows : List Row) (r q : List ℕ) → Counted rows r → Counted rows q → r ≡ q
counted_one rows = sixteen_one (count rows)

pub summed_one : (counts : List ℕ) (r q : List ℕ) → Summed counts r → Summed counts q → r ≡ q
summed_one counts = sixteen_one (sum_to counts)
