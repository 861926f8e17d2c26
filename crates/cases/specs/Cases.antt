-- The twelve bench cases (R260 to R272), in both versions, and the bench files of advances (R11) as one table, and one statement, by computation: the
-- definitions that `run`'s contract cites give on each file what the table says (R295).
use Rattle.std.specs.Prelude.{ℕ, ◌+◌, ◌*◌, ◌/◌, ◌%◌, ◌^◌, ◌≡◌, refl, List, [], ◌∷◌, ◌++◌, map, length, replicate, Ok, Err}
use Rattle.runfile.specs.Format.{head_size, word_size, row_size, new_place}
use Rattle.runfile.specs.Layout.{u16_at, u32_at, u64_at, widened, marked, header_in, number_at, row_at}
use Rattle.runfile.specs.Operations.{words_of, rows_from, table_of, row_numbered, first, count, names}
use Rattle.runfile.specs.Ups.{up_from, idles}
use Rattle.runfile.specs.Refusals.{number_of, bad_field, first_bad_field, same_fields, bad_byte, first_row, first_later_row, first_byte, refusal_of}
use Rattle.word.specs.Word.{bit_of, turn_of, value_in, flips_in, bit_in, swapped_in}
use Rattle.rows.specs.Entries.{is_swapped}
use Rattle.rows.specs.Log.{one_past, place, insert, is_swap, first_swap}
use Rattle.rows.specs.Buffers.{five, infront}
use Rattle.machine.specs.Steps.{spoken, tried_in, storing_in, decide_in, step_turn_in}
use Rattle.machine.specs.Machine.{turn_in, apply, applied, proc_at, act_in, step_in, after_in, begin}
use Rattle.run.specs.Run.{Outcome, end_of, room_of, outcome_of, words_left, log_left, answers_left, Ends}

-- lists of numbers, one after the other
joined : List (List ℕ) → List ℕ
joined [] = []
joined (x ∷ xs) = x ++ joined xs

-- the same byte several times over
times : ℕ → ℕ → List ℕ
times n byte = replicate n byte

-- the two forms of a case: a file of version 1, with its values as they are; and one of version 2, in which every value is 4,000,000,000 higher, so
-- that none has room in 16 bits
pub data Form : Type 0 where
  narrow : Form
  wide : Form

version : Form → ℕ
version narrow = 1
version wide = 2

-- a value of a case, which is below 256, and its bytes as old, new or start value; and those of a read's old and new (R10)
mark : Form → ℕ → ℕ
mark narrow n = n
mark wide n = 4000000000 + n

bytes_of : Form → ℕ → List ℕ
bytes_of narrow n = n ∷ 0 ∷ []
bytes_of wide n = n ∷ 0x28 ∷ 0x6B ∷ 0xEE ∷ []

zeros : Form → List ℕ
zeros narrow = 0 ∷ 0 ∷ []
zeros wide = 0 ∷ 0 ∷ 0 ∷ 0 ∷ []

-- the bytes of a row that compares, and of one that reads (R10). All cases are on word 0
compares : Form → (p old new : ℕ) → List ℕ
compares v p old new = p ∷ 1 ∷ 0 ∷ 0 ∷ (bytes_of v old ++ bytes_of v new)

reads : Form → (p : ℕ) → List ℕ
reads v p = p ∷ 0 ∷ 0 ∷ 0 ∷ (zeros v ++ zeros v)

-- a file of P processes and one word that starts at this value with no flip bit: the header (R2), the word, the rows and the schedule
starts_at : Form → (value : List ℕ) (P : ℕ) → List (List ℕ) → List ℕ → List ℕ
starts_at v value P rows schedule =
    0x53 ∷ 0x57 ∷ 0x52 ∷ version v ∷ 0 ∷ P ∷ 1 ∷ length rows ∷ 0 ∷ length schedule ∷ 0 ∷ (value ++ (zeros v ++ (joined rows ++ schedule)))

-- in the twelve it starts at 7 (R260)
file : Form → (P : ℕ) → List (List ℕ) → List ℕ → List ℕ
file v P rows schedule = starts_at v (bytes_of v 7) P rows schedule

-- a final word: its flip bits from bit 32 up, and its value
holds : Form → (flips value : ℕ) → ℕ
holds v flips value = flips * 2 ^ 32 + mark v value

-- where the first row stands
rows_at : Form → ℕ
rows_at narrow = 15
rows_at wide = 19

-- what is lent: one word more than any case has, and one log and one answer row more than the longest schedule, 30 bytes. Whatever a
-- run leaves alone is still 99
pub lent_words : List ℕ
lent_words = replicate 2 99

pub lent_rows : List ℕ
lent_rows = replicate 155 99

-- what a run comes to, in numbers: the refusal and its place, or the two row counts (R185); then the three buffers
pub data Numbers : Type 0 where
  refused : (number place : ℕ) → Numbers
  ran : (log answers : ℕ) → Numbers

pub record Ended : Type 0 where
  pub result : Numbers
  pub words : List ℕ
  pub log : List ℕ
  pub answers : List ℕ

pub result_of : Outcome → Numbers
result_of (Err r) = refused (number_of r.why) r.place
result_of (Ok counts) = ran counts.log counts.answers

-- a case: the file, and what is said of it in R261 to R272
pub record Case : Type 0 where
  pub file : List ℕ
  pub says : Ended

-- the five numbers of a log or answer row (R160)
row : (position process number verdict value : ℕ) → List ℕ
row position process number verdict value = position ∷ process ∷ number ∷ verdict ∷ value ∷ []

-- the file runs to these log rows, answer rows and this final word: the flip bits stand behind 32 bits of value (R15)
comes_to : List ℕ → (log answers : List (List ℕ)) → ℕ → Case
comes_to f log answers word =
    record {
      file = f;
      says =
          record {
            result = ran (length log) (length answers);
            words = word ∷ 99 ∷ [];
            log = infront (joined log) lent_rows;
            answers = infront (joined answers) lent_rows;
          };
    }

-- the file is refused, and all buffers stay untouched (R34)
is_refused : List ℕ → (number place : ℕ) → Case
is_refused f number at =
    record { file = f; says = record { result = refused number at; words = lent_words; log = lent_rows; answers = lent_rows } }

-- a: a swap from its start to its answer (R261)
a : Form → Case
a v = comes_to (file v 1 (compares v 0 7 8 ∷ []) (times 9 0x00)) (row 6 0 0 1 0 ∷ []) (row 8 0 0 1 0 ∷ []) (holds v 1 8)

-- b: p0 crashes behind A1, and p1 has swapped to the very value that p0 wants: p0 gets fail (R262)
b : Form → Case
b v =
    comes_to
    (file v 2 (compares v 0 7 8 ∷ compares v 1 7 8 ∷ []) (joined (times 4 0x00 ∷ times 7 0x01 ∷ times 1 0x10 ∷ times 1 0x20 ∷ times 3 0x00 ∷ [])))
    (row 10 1 1 1 0 ∷ [])
    (row 15 0 0 2 0 ∷ [])
    (holds v 2 8)

-- c: a crash between A3 and A4: the checkpoint is set and nothing swapped, so fail (R263)
c : Form → Case
c v = comes_to (file v 1 (compares v 0 7 8 ∷ []) (joined (times 6 0x00 ∷ times 1 0x10 ∷ times 1 0x20 ∷ times 4 0x00 ∷ []))) [] (row 11 0 0 2 0 ∷ []) (holds v 0 7)

-- d: a crash straight behind A4: the flip bit tells that the swap was done, so true (R264)
d : Form → Case
d v =
    comes_to
    (file v 1 (compares v 0 7 8 ∷ []) (joined (times 7 0x00 ∷ times 1 0x10 ∷ times 1 0x20 ∷ times 5 0x00 ∷ [])))
    (row 6 0 0 1 0 ∷ [])
    (row 13 0 0 1 0 ∷ [])
    (holds v 1 8)

-- e: as d, and another swap has changed the value since: still true (R265)
e : Form → Case
e v =
    comes_to
    (file v 2 (compares v 0 7 8 ∷ compares v 1 8 9 ∷ []) (joined (times 7 0x00 ∷ times 7 0x01 ∷ times 1 0x10 ∷ times 1 0x20 ∷ times 5 0x00 ∷ [])))
    (row 6 0 0 1 0 ∷ row 13 1 1 1 0 ∷ [])
    (row 20 0 0 1 0 ∷ [])
    (holds v 3 9)

-- f: a lost swap: it is logged behind the swap to which it lost (R266)
f : Form → Case
f v =
    comes_to
    (file v 2 (compares v 0 7 8 ∷ compares v 1 7 9 ∷ []) (joined (times 4 0x00 ∷ times 7 0x01 ∷ times 5 0x00 ∷ [])))
    (row 10 1 1 1 0 ∷ row 10 0 0 0 0 ∷ [])
    (row 15 0 0 0 0 ∷ [])
    (holds v 2 9)

-- g: as f, with a crash before the answer is stored: fail, and not in the log (R267)
g : Form → Case
g v =
    comes_to
    (file v 2 (compares v 0 7 8 ∷ compares v 1 7 9 ∷ []) (joined (times 4 0x00 ∷ times 7 0x01 ∷ times 3 0x00 ∷ times 1 0x10 ∷ times 1 0x20 ∷ times 4 0x00 ∷ [])))
    (row 10 1 1 1 0 ∷ [])
    (row 19 0 0 2 0 ∷ [])
    (holds v 2 9)

-- h: a read (R268)
h : Form → Case
h v = comes_to (file v 1 (reads v 0 ∷ []) (times 6 0x00)) (row 3 0 0 3 (mark v 7) ∷ []) (row 5 0 0 3 (mark v 7) ∷ []) (holds v 0 7)

-- i: a compare that finds another value (R269)
i : Form → Case
i v = comes_to (file v 1 (compares v 0 5 6 ∷ []) (times 6 0x00)) (row 3 0 0 0 0 ∷ []) (row 5 0 0 0 0 ∷ []) (holds v 0 7)

-- j: a crash of all, a step that changes nothing (R140), a wake that makes idle (R132), and N1 to N3 (R270)
j : Form → Case
j v = comes_to (file v 1 (compares v 0 7 8 ∷ []) (joined (times 1 0xF0 ∷ times 1 0x00 ∷ times 1 0x20 ∷ times 3 0x00 ∷ []))) [] [] (holds v 0 7)

-- k: as d, with a second crash when recovery has stored true: the second recovery returns it (R271)
k : Form → Case
k v =
    comes_to
    (file
    v
    1
    (compares v 0 7 8 ∷ [])
    (joined (times 7 0x00 ∷ times 1 0x10 ∷ times 1 0x20 ∷ times 4 0x00 ∷ times 1 0x10 ∷ times 1 0x20 ∷ times 2 0x00 ∷ [])))
    (row 6 0 0 1 0 ∷ [])
    (row 16 0 0 1 0 ∷ [])
    (holds v 1 8)

-- l: a compare that would swap a value for itself (R51, R272)
l : Form → Case
l v = is_refused (file v 1 (compares v 0 7 7 ∷ []) []) 11 (rows_at v)

twelve : List (Form → Case)
twelve = a ∷ b ∷ c ∷ d ∷ e ∷ f ∷ g ∷ h ∷ i ∷ j ∷ k ∷ l ∷ []

-- Advances stand in files of version 2. The four bytes of a number; a row of process p that advances word 0; a file whose word starts at a mark
four : ℕ → List ℕ
four n = n % 256 ∷ n / 256 % 256 ∷ n / 65536 % 256 ∷ n / 16777216 ∷ []

advances : (p amount : ℕ) → List ℕ
advances p amount = p ∷ 2 ∷ 0 ∷ 0 ∷ (zeros wide ++ four amount)

from : (start P : ℕ) → List (List ℕ) → List ℕ → List ℕ
from start P rows schedule = starts_at wide (four start) P rows schedule

-- nobody disturbs it: its answer is the mark before (R114)
alone : Case
alone = comes_to (from 1907385120 1 (advances 0 1460 ∷ []) (times 9 0x00)) (row 6 0 0 4 1907385120 ∷ []) (row 8 0 0 4 1907385120 ∷ []) (1 * 2 ^ 32 + 1907386580)

-- p0 loses to p1, goes back to A1 (R118) and adds to the mark that p1 has moved
loses_once : Case
loses_once =
    comes_to
    (from 2862404773 2 (advances 0 1460 ∷ advances 1 536 ∷ []) (joined (times 4 0x00 ∷ times 7 0x01 ∷ times 9 0x00 ∷ times 2 0x01 ∷ [])))
    (row 10 1 1 4 2862404773 ∷ row 17 0 0 4 2862405309 ∷ [])
    (row 19 0 0 4 2862405309 ∷ row 21 1 1 4 2862404773 ∷ [])
    (3 * 2 ^ 32 + 2862406769)

-- p0 is cut off between A4 and A5, and p1 moves the mark on: p0 is told what A2 kept (R124)
recovered : Case
recovered =
    comes_to
    (from
    3318051694
    2
    (advances 0 1460 ∷ advances 1 2920 ∷ [])
    (joined (times 7 0x00 ∷ times 1 0x10 ∷ times 9 0x01 ∷ times 1 0x20 ∷ times 5 0x00 ∷ [])))
    (row 6 0 0 4 3318051694 ∷ row 14 1 1 4 3318053154 ∷ [])
    (row 16 1 1 4 3318053154 ∷ row 22 0 0 4 3318051694 ∷ [])
    (3 * 2 ^ 32 + 3318056074)

-- p0 loses, goes back to A1 and is cut off there: the checkpoint is set and the own bit is not turned, so fail
told_fail : Case
told_fail =
    comes_to
    (from
    746920385
    2
    (advances 0 536 ∷ advances 1 1460 ∷ [])
    (joined (times 4 0x00 ∷ times 7 0x01 ∷ times 3 0x00 ∷ times 1 0x10 ∷ times 1 0x20 ∷ times 4 0x00 ∷ times 2 0x01 ∷ [])))
    (row 10 1 1 4 746920385 ∷ [])
    (row 19 0 0 2 0 ∷ row 21 1 1 4 746920385 ∷ [])
    (2 * 2 ^ 32 + 746921845)

-- the first of two advances goes past 4,294,967,295 (R117)
wraps : Case
wraps =
    comes_to
    (from 4294966296 1 (advances 0 1460 ∷ advances 0 1460 ∷ []) (times 18 0x00))
    (row 6 0 0 4 4294966296 ∷ row 15 0 1 4 460 ∷ [])
    (row 8 0 0 4 4294966296 ∷ row 17 0 1 4 460 ∷ [])
    1920

-- the capture at the station: p0 is cut off before its swap, and p1 moves the mark to where p0 would have; p0 is told fail and advances again
capture : Case
capture =
    comes_to
    (from
    4019873250
    2
    (advances 0 1460 ∷ advances 0 1460 ∷ advances 1 1460 ∷ [])
    (joined (times 6 0x00 ∷ times 1 0x10 ∷ times 9 0x01 ∷ times 1 0x20 ∷ times 13 0x00 ∷ [])))
    (row 13 1 2 4 4019873250 ∷ row 27 0 1 4 4019874710 ∷ [])
    (row 15 1 2 4 4019873250 ∷ row 20 0 0 2 0 ∷ row 29 0 1 4 4019874710 ∷ [])
    (3 * 2 ^ 32 + 4019876170)

-- an old that is not 0 (R49e), and the amount 0 (R51), in the second row
old_typed : Case
old_typed =
    is_refused (from 1907385120 1 (advances 0 1460 ∷ (0 ∷ 2 ∷ 0 ∷ 0 ∷ (four 1907386580 ++ four 1460)) ∷ []) (times 9 0x00)) 9 35

by-nothing : Case
by-nothing = is_refused (from 1907385120 1 (advances 0 1460 ∷ advances 0 0 ∷ []) (times 9 0x00)) 11 31

marks : List Case
marks = alone ∷ loses_once ∷ recovered ∷ told_fail ∷ wraps ∷ capture ∷ old_typed ∷ by-nothing ∷ []

pub table : List Case
table = map (λ x. x narrow) twelve ++ (map (λ x. x wide) twelve ++ marks)

-- what the contract of `run` says of a file over what is lent here
pub ended : List ℕ → Ended
ended f =
    let checked = refusal_of f (room_of lent_words lent_rows lent_rows) in
    record {
      result = result_of (outcome_of checked f);
      words = words_left checked f lent_words;
      log = log_left checked f lent_rows;
      answers = answers_left checked f lent_rows;
    }

-- the statement: each file of the table ends as the table says (R295)
pub cases : map (λ x. ended x.file) table ≡ map (λ x. x.says) table
unfolding joined times version mark bytes_of zeros compares reads starts_at file four advances from alone loses_once recovered told_fail wraps capture old_typed by-nothing marks holds rows_at twelve lent_words lent_rows result_of row comes_to is_refused a b c d e f g h i j k l table ended u16_at u32_at u64_at widened marked head_size word_size row_size new_place header_in number_at row_at words_of rows_from table_of row_numbered first count names bad_field first_bad_field same_fields bad_byte first_row first_later_row first_byte idles up_from refusal_of bit_of turn_of value_in flips_in bit_in swapped_in is_swapped one_past place insert is_swap first_swap five infront spoken tried_in storing_in decide_in step_turn_in turn_in apply applied proc_at act_in step_in after_in begin end_of
cases = refl

-- and `run` gives nothing else: whatever meets its contract on a file, over what is lent here, is what `ended` says
pub run_ends : (f : List ℕ) (r : Outcome) (words log answers : List ℕ)
    → Ends f lent_words lent_rows lent_rows r words log answers
    → ◌≡◌ {A = Ended} (record { result = result_of r; words = words; log = log; answers = answers }) (ended f)
unfolding ended
run_ends f r words log answers ends = rw (ends.result, ends.words_are, ends.log_is, ends.answers_are)
