-- A part of a schedule run over lent buffers: the state that is lent, what is asked of it, and what is left.
use Rattle.std.specs.Prelude.{ℕ, ◌+◌, ◌*◌, ◌≤◌, ◌<◌, ◌≡◌, List, ◌++◌, length, get_or, take, drop}
use Rattle.runfile.specs.declared.Operations.{Operations}
use Rattle.runfile.specs.declared.Row.{Row}
use Rattle.runfile.specs.Layout.{row_of_table}
use Rattle.runfile.specs.Shares.{Lined}
use Rattle.runfile.specs.Lawful.{LawfulByte}
use Rattle.runfile.specs.Operations.{rows_from}
use Rattle.rows.specs.Buffers.{rows_of, flat, infront}
use Rattle.engine.specs.declared.Standing.{Standing}
use Rattle.engine.specs.declared.Part.{Part}
use Rattle.machine.specs.Records.{nobody}
use Rattle.machine.specs.Machine.{State, after}
use Rattle.machine.specs.Laws.{Sane}

-- the words are the state's; log and answers hold its m and k rows in front (R183), and behind them what stood there (R184)
pub record Holds (s : State) (log answers : List ℕ) (m k : ℕ) (words' log' answers' : List ℕ) : Type 0 where
  pub words_are : words' ≡ s.words
  pub log_count : m ≡ length s.log
  pub log_is : log' ≡ infront (flat s.log) log
  pub answers_count : k ≡ length s.answers
  pub answers_are : answers' ≡ infront (flat s.answers) answers

-- the state that is lent: the words, the first P records, and the rows that the counts give
unfoldable pub state_lent : ℕ → Standing → (words log answers : List ℕ) → State
state_lent P from words log answers = record { words = words; processes = take P from.processes; log = rows_of from.counts.log log; answers = rows_of from.counts.answers answers }

-- the rows of the table that is lent
abbrev pub rows_lent : Operations → List Row
rows_lent operations = rows_from operations.stride operations.table.now 0 operations.count

-- what is asked: a table of rows that are on these words; bytes that are actions of the first P processes; room for a log row and an answer row for
-- each byte; and sane records: an open row is in the table, in the midst of work one is open, and a row that is announced is there
pub record Runnable (part : Part) (operations : Operations) (bytes words log answers : List ℕ) : Type 0 where
  pub lined : Lined operations.stride operations.table.now operations.count
  pub on_words : (k : ℕ) → k < operations.count → (row_of_table operations.stride operations.table.now k).word < length words
  pub present : part.present ≤ 16
  pub lawful : (i : ℕ) → i < length bytes → LawfulByte part.present (get_or bytes i 0)
  pub early : part.from.position + length bytes ≤ 1024
  pub log_room : (part.from.counts.log + length bytes) * 5 ≤ length log
  pub answers_room : (part.from.counts.answers + length bytes) * 5 ≤ length answers
  pub sane : (p : ℕ) → p < part.present → Sane (rows_lent operations) p (get_or part.from.processes p nobody)

-- what is left: the first P records are the state's, the others as they were; and the buffers hold the state
pub record Left (s : State) (P : ℕ) (from : Standing) (size : ℕ) (log answers : List ℕ) (r : Standing) (words' log' answers' : List ℕ) : Type 0 where
  pub processes_are : r.processes ≡ s.processes ++ drop P from.processes
  pub position_is : r.position ≡ from.position + size
  pub holds : Holds s log answers r.counts.log r.counts.answers words' log' answers'

-- the state after the bytes, each at its position (R70 to R173)
abbrev pub Runs : (part : Part) (operations : Operations) (bytes words log answers : List ℕ) (r : Standing) (words' log' answers' : List ℕ) → Type 0
Runs part operations bytes words log answers =
    Left (after (rows_lent operations) part.from.position bytes (state_lent part.present part.from words log answers)) part.present part.from (length bytes) log answers
