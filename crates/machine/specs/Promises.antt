-- The contracts of the exported functions, each an equation for the result or for each number that is left; and for each a law that it leaves no
-- second outcome. A contract of one equation is that equation under a name, so that a caller rewrites with it as it stands.
use Rattle.std.specs.Prelude.{ℕ, ◌+◌, ◌*◌, ◌≤◌, ◌≡◌, Bool, cond, List, eqb, length, get_or, set, Option, None}
use Rattle.std.proofs.Common.{sym, ◌∙◌}
use Rattle.runfile.specs.declared.Row.{Row}
use Rattle.runfile.specs.declared.Kind.{Kind}
use Rattle.runfile.specs.Kinds.{new_by_in}
use Rattle.runfile.specs.Layout.{row_of_table}
use Rattle.runfile.specs.Operations.{rows_from}
use Rattle.word.specs.Word.{width, value, bit}
use Rattle.rows.specs.declared.Entry.{Entry}
use Rattle.rows.specs.Log.{first_swap}
use Rattle.rows.specs.Buffers.{rows_of, flat, infront}
use Rattle.machine.specs.declared.Process.{Process}
use Rattle.machine.specs.declared.Kept.{Kept}
use Rattle.machine.specs.declared.Answer.{Answer}
use Rattle.machine.specs.declared.Stage.{Stage}
use Rattle.machine.specs.declared.Stage.TheVariants.{V3, V4, V6}
use Rattle.machine.specs.declared.Status.{Status}
use Rattle.machine.specs.declared.Status.TheVariants.{Busy}
use Rattle.machine.specs.declared.Work.{Work}
use Rattle.machine.specs.Records.{fresh, nobody, row_open, started, down_to}
use Rattle.machine.specs.Stages.{stage_number}
use Rattle.machine.specs.Reach.{Looked}
use Rattle.machine.specs.Steps.{storing, entry, after_read, kept_by, swap_says, lost_by, recovered, same_bit}
use Rattle.machine.specs.Machine.{effect_of, log_after}

-- `Process::fresh()`
abbrev pub Fresh : (r : Process) → Type 0
Fresh r = r ≡ fresh

-- `u8::from(stage)`
abbrev pub StageNumbered : (stage : Stage) (r : ℕ) → Type 0
StageNumbered stage r = r ≡ stage_number stage

-- `process.open_row()`
abbrev pub OpenRow : (opened : Option ℕ) (r : ℕ) → Type 0
OpenRow opened r = r ≡ row_open opened

-- `busy(stage, word, read_at, tried_at, answer)`
abbrev pub AtWork : (stage : Stage) (word read_at tried_at : ℕ) (answer : Option Answer) (r : Status) → Type 0
AtWork stage word read_at tried_at answer r = r ≡ Busy stage word read_at tried_at answer

-- `process.start(first)`
abbrev pub Started : (process : Process) (first : ℕ) (r : Process) → Type 0
Started process first r = r ≡ started (first + process.begun) process

-- `crash_first(processes, count)`, for every count: past the last record there is none to bring down
abbrev pub CrashedFirst : (processes : List Process) (count : ℕ) (r : List Process) → Type 0
CrashedFirst processes count r = r ≡ down_to count processes

-- `after_read(row, word, position)`
abbrev pub AfterRead : (row : Row) (word position : ℕ) (r : Status) → Type 0
AfterRead row word position r = r ≡ after_read row word position

-- `keep(kind, before, bit, value)`, `put_in(kind, new, value)`, `swap_says(kind, value)` and `after_loss(kind, seen, read_at, position)`: what goes by
-- the kind at A2, at A4 and at V4
abbrev pub KeptNow : (kind : Kind) (before : Kept) (bit : Bool) (value : ℕ) (r : Kept) → Type 0
KeptNow kind before bit value r = r ≡ kept_by kind before bit value

abbrev pub PutIn : (kind : Kind) (new value r : ℕ) → Type 0
PutIn kind new value r = r ≡ new_by_in width kind new value

abbrev pub SwapSaid : (kind : Kind) (value : ℕ) (r : Answer) → Type 0
SwapSaid kind value r = r ≡ swap_says kind value

abbrev pub AfterLoss : (kind : Kind) (seen read_at position : ℕ) (r : Status) → Type 0
AfterLoss kind seen read_at position r = r ≡ lost_by kind seen read_at position

-- `recovered_of(stored)`, `by_checkpoint(checkpoint)` and `by_bit(me, now, kept)`: V1, V2 and V3
abbrev pub RecoveredBy : (stored : Option Answer) (r : Stage) → Type 0
RecoveredBy stored r = r ≡ recovered stored

abbrev pub ByCheckpoint : (checkpoint : Bool) (r : Stage) → Type 0
ByCheckpoint checkpoint r = r ≡ cond checkpoint V3 V6

abbrev pub ByBit : (me now : ℕ) (kept : Bool) (r : Stage) → Type 0
ByBit me now kept r = r ≡ cond (same_bit (bit me now) kept) V4 V6

-- `reply_of(number, answer, stored)`: what is returned at stage number 5, 10 and 11
abbrev pub reply_at : ℕ → Option Answer → Option Answer → Option Answer
reply_at number answer stored = cond (eqb number 5) answer (cond (eqb number 10) stored None)

abbrev pub Replied : (number : ℕ) (answer stored r : Option Answer) → Type 0
Replied number answer stored r = r ≡ reply_at number answer stored

-- `entry_of(position, process, row, said)`
abbrev pub EntryMade : (position process row : ℕ) (said : Option Answer) (r : Entry) → Type 0
EntryMade position process row said r = r ≡ entry position process row said

-- `word_now(operations, k, words)`: the word that row k is on
abbrev pub WordNow : (stride : ℕ) (table : List ℕ) (k : ℕ) (words : List ℕ) (r : ℕ) → Type 0
WordNow stride table k words r = r ≡ get_or words (row_of_table stride table k).word 0

-- `store_word(operations, k, words, new)`: the words before, and after
abbrev pub WordStored : (stride : ℕ) (table : List ℕ) (k : ℕ) (words : List ℕ) (new : ℕ) (words' : List ℕ) → Type 0
WordStored stride table k words new words' = words' ≡ set words (row_of_table stride table k).word new

-- the position with which a false enters the log at A5 (R166 to R169)
unfoldable pub false_at : List Row → Row → List Entry → Work → ℕ
false_at rows row log w = cond (eqb (value w.seen) row.old) (first_swap rows row.word w.read_at w.tried_at log) w.read_at

-- `false_at(operations, log, work)`
abbrev pub FalseAt : (stride : ℕ) (table : List ℕ) (n : ℕ) (log : List ℕ) (m : ℕ) (w : Work) (r : ℕ) → Type 0
FalseAt stride table n log m w r = r ≡ false_at (rows_from stride table 0 n) (row_of_table stride table w.row) (rows_of m log) w

-- the log after A5 of this work on a row: what the step's effect makes of it, whatever the record is
unfoldable pub entered : List Row → Row → List Entry → Work → List Entry
entered rows row log w = log_after (effect_of rows log w.process 0 w.row row.word (storing row nobody w.seen w.read_at w.tried_at w.answer)) log

pub record Enters (rows : List Row) (row : Row) (log : List ℕ) (m : ℕ) (w : Work) (r : ℕ) (log' : List ℕ) : Type 0 where
  pub count : r ≡ length (entered rows row (rows_of m log) w)
  pub log_is : log' ≡ infront (flat (entered rows row (rows_of m log) w)) log

-- `enter(operations, log, work)`: row k is in the table, and the log has room for a row more; how many rows the log has then, and the log
pub record Enterable (stride : ℕ) (table : List ℕ) (n k : ℕ) (log : List ℕ) (m : ℕ) : Type 0 where
  pub looked : Looked stride table n k log m
  pub room : m * 5 + 5 ≤ length log

abbrev pub Entered : (stride : ℕ) (table : List ℕ) (n : ℕ) (log : List ℕ) (m : ℕ) (w : Work) (r : ℕ) (log' : List ℕ) → Type 0
Entered stride table n log m w = Enters (rows_from stride table 0 n) (row_of_table stride table w.row) log m w

pub fresh_one : (r q : Process) → Fresh r → Fresh q → r ≡ q
fresh_one r q a b = a ∙ sym b

pub stage_numbered_one : (stage : Stage) (r q : ℕ) → StageNumbered stage r → StageNumbered stage q → r ≡ q
stage_numbered_one stage r q a b = a ∙ sym b

pub open_row_one : (opened : Option ℕ) (r q : ℕ) → OpenRow opened r → OpenRow opened q → r ≡ q
open_row_one opened r q a b = a ∙ sym b

pub at_work_one : (stage : Stage) (word read_at tried_at : ℕ) (answer : Option Answer) (r q : Status) → AtWork stage word read_at tried_at answer r → AtWork stage word read_at tried_at answer q → r ≡ q
at_work_one stage word read_at tried_at answer r q a b = a ∙ sym b

pub started_one : (process : Process) (first : ℕ) (r q : Process) → Started process first r → Started process first q → r ≡ q
started_one process first r q a b = a ∙ sym b

pub crashed_first_one : (processes : List Process) (count : ℕ) (r q : List Process) → CrashedFirst processes count r → CrashedFirst processes count q → r ≡ q
crashed_first_one processes count r q a b = a ∙ sym b

pub after_read_one : (row : Row) (word position : ℕ) (r q : Status) → AfterRead row word position r → AfterRead row word position q → r ≡ q
after_read_one row word position r q a b = a ∙ sym b

pub kept_now_one : (kind : Kind) (before : Kept) (bit : Bool) (value : ℕ) (r q : Kept) → KeptNow kind before bit value r → KeptNow kind before bit value q → r ≡ q
kept_now_one kind before bit value r q a b = a ∙ sym b

pub put_in_one : (kind : Kind) (new value r q : ℕ) → PutIn kind new value r → PutIn kind new value q → r ≡ q
put_in_one kind new value r q a b = a ∙ sym b

pub swap_said_one : (kind : Kind) (value : ℕ) (r q : Answer) → SwapSaid kind value r → SwapSaid kind value q → r ≡ q
swap_said_one kind value r q a b = a ∙ sym b

pub after_loss_one : (kind : Kind) (seen read_at position : ℕ) (r q : Status) → AfterLoss kind seen read_at position r → AfterLoss kind seen read_at position q → r ≡ q
after_loss_one kind seen read_at position r q a b = a ∙ sym b

pub recovered_by_one : (stored : Option Answer) (r q : Stage) → RecoveredBy stored r → RecoveredBy stored q → r ≡ q
recovered_by_one stored r q a b = a ∙ sym b

pub by_checkpoint_one : (checkpoint : Bool) (r q : Stage) → ByCheckpoint checkpoint r → ByCheckpoint checkpoint q → r ≡ q
by_checkpoint_one checkpoint r q a b = a ∙ sym b

pub by_bit_one : (me now : ℕ) (kept : Bool) (r q : Stage) → ByBit me now kept r → ByBit me now kept q → r ≡ q
by_bit_one me now kept r q a b = a ∙ sym b

pub replied_one : (number : ℕ) (answer stored r q : Option Answer) → Replied number answer stored r → Replied number answer stored q → r ≡ q
replied_one number answer stored r q a b = a ∙ sym b

pub entry_made_one : (position process row : ℕ) (said : Option Answer) (r q : Entry) → EntryMade position process row said r → EntryMade position process row said q → r ≡ q
entry_made_one position process row said r q a b = a ∙ sym b

pub word_now_one : (stride : ℕ) (table : List ℕ) (k : ℕ) (words : List ℕ) (r q : ℕ) → WordNow stride table k words r → WordNow stride table k words q → r ≡ q
word_now_one stride table k words r q a b = a ∙ sym b

pub word_stored_one : (stride : ℕ) (table : List ℕ) (k : ℕ) (words : List ℕ) (new : ℕ) (x y : List ℕ) → WordStored stride table k words new x → WordStored stride table k words new y → x ≡ y
word_stored_one stride table k words new x y a b = a ∙ sym b

pub entered_one : (stride : ℕ) (table : List ℕ) (n : ℕ) (log : List ℕ) (m : ℕ) (w : Work) (r q : ℕ) (x y : List ℕ)
    → Entered stride table n log m w r x → Entered stride table n log m w q y → (r ≡ q) × (x ≡ y)
entered_one stride table n log m w r q x y a b = (a.count ∙ sym b.count, a.log_is ∙ sym b.log_is)
