-- Which records the panel refuses under 21: a definition for each of R231b to R231i. `first` is the process's first row, `count` how many it has.
use Rattle.std.specs.Prelude.{ℕ, zero, suc, ◌+◌, Bool, true, false, not, ◌||◌, List, eqb, leb, ltb, get_or, Option, Some, None}
use Rattle.runfile.specs.declared.Row.{Row}
use Rattle.word.specs.Word.{value}
use Rattle.runfile.specs.Operations.{row_numbered, first, count}
use Rattle.runfile.specs.declared.Kind.{Kind}
use Rattle.runfile.specs.declared.Kind.TheVariants.{Read, Compare, Advance}
use Rattle.runfile.specs.Kinds.{kind_of}
use Rattle.machine.specs.declared.Process.{Process}
use Rattle.machine.specs.declared.Stage.{Stage}
use Rattle.machine.specs.declared.Stage.TheVariants.{A1, A2, A3, A4, A5, A6, V1, V2, V3, V4, V5, V6}
use Rattle.machine.specs.declared.Answer.{Answer}
use Rattle.machine.specs.declared.Answer.TheVariants.{False, True, Value, Was}
use Rattle.machine.specs.declared.Status.{Status}
use Rattle.machine.specs.declared.Status.TheVariants.{Down, Idle, N2, N3, Busy}
use Rattle.machine.specs.Records.{nobody, row_open}

-- The stages (R231h) and answers (R231i) of each kind. A read goes from A1 to A5 and has no checkpoint, so that its recovery goes from V2 to V6;
-- a compare and an advance have every stage. A read answers with a value, a compare with false or true, an advance with the value before it.
abbrev pub read_has : Stage → Bool
read_has A1 = true
read_has A2 = false
read_has A3 = false
read_has A4 = false
read_has A5 = true
read_has A6 = true
read_has V1 = true
read_has V2 = true
read_has V3 = false
read_has V4 = false
read_has V5 = true
read_has V6 = true

abbrev pub has_stage : Kind → Stage → Bool
has_stage Read stage = read_has stage
has_stage Compare stage = true
has_stage Advance stage = true

-- a read and an advance answer with what is a value, that is with a number that is its own value
abbrev pub read_says : Answer → Bool
read_says False = false
read_says True = false
read_says (Value v) = eqb (value v) v
read_says (Was v) = false

abbrev pub compare_says : Answer → Bool
compare_says False = true
compare_says True = true
compare_says (Value v) = false
compare_says (Was v) = false

abbrev pub advance_says : Answer → Bool
advance_says False = false
advance_says True = false
advance_says (Value v) = false
advance_says (Was v) = eqb (value v) v

abbrev pub can_say : Kind → Answer → Bool
can_say Read answer = read_says answer
can_say Compare answer = compare_says answer
can_say Advance answer = advance_says answer

abbrev pub has_answer : Kind → Option Answer → Bool
has_answer kind None = true
has_answer kind (Some answer) = can_say kind answer

abbrev pub is_none : Option Answer → Bool
is_none None = true
is_none (Some a) = false

abbrev pub is_open : Option ℕ → Bool
is_open None = false
is_open (Some k) = true

-- there are fewer rows for the process than it has begun (R231b)
abbrev pub too_many : (count begun : ℕ) → Bool
too_many count begun = ltb count begun

-- the open row is another than the last one begun (R231c)
abbrev pub not_last : (first begun : ℕ) → Option ℕ → Bool
not_last first begun None = false
not_last first begun (Some k) = eqb begun 0 || not (eqb (k + 1) (first + begun))

-- a row is open where none can be: idle, at N2 or at N3 (R231d)
abbrev pub open_while : Option ℕ → Status → Bool
open_while opened Down = false
open_while opened Idle = is_open opened
open_while opened N2 = is_open opened
open_while opened N3 = is_open opened
open_while opened (Busy stage seen read_at tried_at answer) = false

-- no row is open in the midst of work (R231e)
abbrev pub none_at : Option ℕ → Status → Bool
none_at opened Down = false
none_at opened Idle = false
none_at opened N2 = false
none_at opened N3 = false
none_at opened (Busy stage seen read_at tried_at answer) = not (is_open opened)

-- at N2 or N3 there is no row to announce (R231f)
abbrev pub none_left : (count begun : ℕ) → Status → Bool
none_left count begun Down = false
none_left count begun Idle = false
none_left count begun N2 = leb count begun
none_left count begun N3 = leb count begun
none_left count begun (Busy stage seen read_at tried_at answer) = false

-- the stage needs an answer and there is none: A5 and A6 need the answer to store, V5 the stored one (R231g)
abbrev pub missing : Stage → (answer stored : Option Answer) → Bool
missing A1 answer stored = false
missing A2 answer stored = false
missing A3 answer stored = false
missing A4 answer stored = false
missing A5 answer stored = is_none answer
missing A6 answer stored = is_none answer
missing V1 answer stored = false
missing V2 answer stored = false
missing V3 answer stored = false
missing V4 answer stored = false
missing V5 answer stored = is_none stored
missing V6 answer stored = false

abbrev pub no_answer : Option Answer → Status → Bool
no_answer stored Down = false
no_answer stored Idle = false
no_answer stored N2 = false
no_answer stored N3 = false
no_answer stored (Busy stage seen read_at tried_at answer) = missing stage answer stored

-- the kind of the open row has no such stage (R231h) or gives no such answer, to store or stored (R231i)
abbrev pub wrong_work : Kind → Status → Bool
wrong_work kind Down = false
wrong_work kind Idle = false
wrong_work kind N2 = false
wrong_work kind N3 = false
wrong_work kind (Busy stage seen read_at tried_at answer) = not (has_stage kind stage) || not (has_answer kind answer)

abbrev pub wrong_kind : Kind → Option ℕ → Option Answer → Status → Bool
wrong_kind kind None stored status = false
wrong_kind kind (Some k) stored status = not (has_answer kind stored) || wrong_work kind status

-- what is wrong with a record by its counts and its open row, and by what it does on it
unfoldable pub misplaced : (first count : ℕ) → Process → Bool
misplaced first count r =
    too_many count r.begun || (not_last first r.begun r.opened || (open_while r.opened r.status || (none_at r.opened r.status || none_left count r.begun r.status)))

unfoldable pub misdone : Kind → Process → Bool
misdone kind r = no_answer r.stored r.status || wrong_kind kind r.opened r.stored r.status

-- process p's record cannot be (R231b to R231i)
unfoldable pub impossible : List Row → ℕ → Process → Bool
impossible rows p r = misplaced (first rows p) (count rows p) r || misdone (kind_of (row_numbered rows (row_open r.opened))) r

-- one of n records, from process p on
unfoldable pub any_impossible : List Row → List Process → (p n : ℕ) → Bool
any_impossible rows records p zero = false
any_impossible rows records p (suc n) = impossible rows p (get_or records p nobody) || any_impossible rows records (suc p) n
