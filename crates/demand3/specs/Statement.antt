-- Demand 3 (R242 to R254), stated, for any machine, rows and a schedule. Here is what it says, and every definition that it rests on beside those of plain
-- words (`Plain.antt`). A machine is given by its states, its step and what is to be seen of a state (`Firmware`); that an operation has begun,
-- has ended, has swapped or has stored its answer is said of that machine's own states, and the log is not asked. `FlipBit.antt` gives the
-- bench machine, `File.antt` proves the demand of every run file that is not refused, and of what `run` leaves in the three buffers;
-- `Wrong.antt` gives five machines that break it.
--
-- An operation is a row of the file, known by its number k.
use Rattle.std.specs.Prelude.{ℕ, suc, ◌+◌, ◌≤◌, ◌<◌, ◌≡◌, Bool, true, false, not, ◌&&◌, List, [], ◌∷◌, ◌++◌, map, eqb, length, get_or, take, Option, Some, None}
use Rattle.runfile.specs.declared.Row.{Row}
use Rattle.runfile.specs.Operations.{row_numbered, first}
use Rattle.runfile.specs.Kinds.{kind_of}
use Rattle.runfile.specs.Actions.{named}
use Rattle.rows.specs.declared.Entry.{Entry}
use Rattle.rows.specs.Entries.{said, is_swapped}
use Rattle.machine.specs.declared.Answer.{Answer}
use Rattle.machine.specs.Steps.{spoken, swap_says}
use Rattle.replay.specs.Plain.{Replayed}
use Rattle.replay.specs.Lists.{All, keep}
use Rattle.replay.specs.Logs.{Sorted}

-- the entries of row k, in the log or in the answers
unfoldable pub of : ℕ → List Entry → List Entry
of k entries = keep (λ e. eqb e.row k) entries

-- row k stands there exactly once, for process p, with the verdict and value of this answer (of none: fail)
pub record Once (p k : ℕ) (answer : Option Answer) (entries : List Entry) : Type 0 where
  pub entry : Entry
  pub once : of k entries ≡ entry ∷ []
  pub process : entry.process ≡ p
  pub says_so : said entry ≡ spoken answer

-- what the log holds of an operation that was told so: one told fail does not stand there
abbrev pub Logged : ℕ → ℕ → Option Answer → List Entry → Type 0
Logged p k None log = of k log ≡ []
Logged p k (Some a) log = Once p k (Some a) log

-- x stands in the log before y
pub record Before (x y : Entry) (log : List Entry) : Type 0 where
  pub front : List Entry
  pub middle : List Entry
  pub back : List Entry
  pub whole : log ≡ front ++ x ∷ (middle ++ y ∷ back)

abbrev pub is_row : ℕ → Option ℕ → Bool
is_row k None = false
is_row k (Some j) = eqb j k

-- 1 if it is so
abbrev pub counts : Bool → ℕ
counts true = 1
counts false = 0

-- A machine, as demand 3 sees it: its states, the one before the first byte, and what the byte at position t makes of a state; and what is to be
-- seen of a state
pub record Firmware : Type 1 where
  pub State : Type 0
  pub start : State
  pub step : (t byte : ℕ) → State → State
  -- the words as they stand, and the value that a word stands for
  pub words : State → List ℕ
  pub value : ℕ → ℕ
  pub log : State → List Entry
  pub answers : State → List Entry
  -- of a process: how many rows it has begun, which row it has open, and the answer that it has stored for it
  pub begun : (p : ℕ) → State → ℕ
  pub opened : (p : ℕ) → State → Option ℕ
  pub stored : (p : ℕ) → State → Option Answer

module _ (rows : List Row) where
  -- the process whose row k is, and the word that row k is on
  abbrev pub owner_of : ℕ → ℕ
  owner_of k = (row_numbered rows k).process

  abbrev pub word_of : ℕ → List ℕ → ℕ
  word_of k words = get_or words (row_numbered rows k).word 0

-- how often an operation that was told this has swapped: once if it was told of a successful swap, and else never
unfoldable pub swaps_told : Option Answer → ℕ
swaps_told told = counts (is_swapped (spoken told))

-- the bytes of a schedule, the first of them at position t (R70)
unfoldable pub through : (m : Firmware) (t : ℕ) → List ℕ → m.State → m.State
through m t [] s = s
through m t (byte ∷ bytes) s = through m (suc t) bytes (m.step t byte s)

module _ (m : Firmware) (rows : List Row) where
  -- a process carries out its rows in file order (R12, R87): so row k has been begun if its process has begun more rows than it has in front of k
  abbrev pub Begun : ℕ → m.State → Type 0
  Begun k s = k < first rows (owner_of rows k) + m.begun (owner_of rows k) s

  abbrev pub StillOpen : ℕ → m.State → Type 0
  StillOpen k s = m.opened (owner_of rows k) s ≡ Some k

  pub record Ended (k : ℕ) (s : m.State) : Type 0 where
    pub begun : Begun k s
    pub shut : StillOpen k s → ⊥

  -- its answer is stored: the row is open, and the answer is kept with it (R250)
  abbrev pub Stored : ℕ → Option Answer → m.State → Type 0
  Stored k answer s = m.stored (owner_of rows k) s ≡ answer

  -- the byte at position t swaps for row k (R243): the process that it names has row k open, and the row's word is changed by it
  unfoldable pub swaps_at : (k t byte : ℕ) → m.State → Bool
  swaps_at k t byte s = is_row k (m.opened (named byte) s) && not (eqb (word_of rows k (m.words s)) (word_of rows k (m.words (m.step t byte s))))

  -- how often row k swaps while these bytes go by, the first of them at position t
  unfoldable pub swap_count : (k t : ℕ) → List ℕ → m.State → ℕ
  swap_count k t [] s = 0
  swap_count k t (byte ∷ bytes) s = counts (swaps_at k t byte s) + swap_count k (suc t) bytes (m.step t byte s)

-- the state after the first n bytes of a schedule, and after all of them
abbrev pub state_after : (m : Firmware) → List ℕ → ℕ → m.State
state_after m schedule n = through m 0 (take n schedule) m.start

abbrev pub end_state : (m : Firmware) → List ℕ → m.State
end_state m schedule = through m 0 schedule m.start

module _ (m : Firmware) (rows : List Row) (schedule : List ℕ) where
  -- how often row k has swapped at the end, and after more bytes
  abbrev pub swaps_with : ℕ → List ℕ → ℕ
  swaps_with k more = swap_count m rows k 0 (schedule ++ more) m.start

  abbrev pub swaps : ℕ → ℕ
  swaps k = swap_count m rows k 0 schedule m.start

  -- An operation that has ended: it has one answer row (R246), and stands in the log once with the same answer unless it was told fail (R247). Told
  -- of a successful swap, by true or by the value before, it swapped exactly once; told anything else, it never swapped; and whatever bytes were to
  -- follow, that would be so (R248)
  pub record Told (k : ℕ) (log answers : List Entry) : Type 0 where
    pub answer : Option Answer
    pub answered : Once (owner_of rows k) k answer answers
    pub logged : Logged (owner_of rows k) k answer log
    pub swapped : (more : List ℕ) → swaps_with k more ≡ swaps_told answer

  -- One that has begun and not ended: it has no answer row (R249), and stands in the log once if it has swapped or has stored its answer, and otherwise
  -- not (R250): with what a swap of its kind says over some value, if it swapped, that is true, or that value (by `replayed` it is the one that the word
  -- has there); with the stored answer if stored
  pub record Untold (k : ℕ) (log answers : List Entry) : Type 0 where
    pub unanswered : of k answers ≡ []
    pub at_most_once : swaps k ≤ 1
    pub has_swapped_lem : swaps k ≡ 1 → (v : ℕ) × Once (owner_of rows k) k (Some (swap_says (kind_of (row_numbered rows k)) v)) log
    pub has_stored : (a : Answer) → Stored m rows k (Some a) (end_state m schedule) → Once (owner_of rows k) k (Some a) log
    pub neither : swaps k ≡ 0 → Stored m rows k None (end_state m schedule) → of k log ≡ []

  -- one not begun stands nowhere (R251)
  pub record Unbegun (k : ℕ) (log answers : List Entry) : Type 0 where
    pub unlogged : of k log ≡ []
    pub unanswered : of k answers ≡ []
    pub unswapped : swaps k ≡ 0

  -- In time: e is the log row of row k. Its position is that of a byte of the schedule. Whenever row k had not begun, that was before; whenever it
  -- had ended, that was later; so the row was open when that byte came. And if e tells of a successful swap, that byte made it
  pub record LoggedThen (k : ℕ) (e : Entry) : Type 0 where
    pub inside : e.position < length schedule
    pub after-begin : (n : ℕ) → (Begun m rows k (state_after m schedule n) → ⊥) → n < e.position
    pub before_end : (n : ℕ) → Ended m rows k (state_after m schedule n) → e.position < n
    pub open_then : StillOpen m rows k (state_after m schedule e.position)
    pub swap_then : is_swapped (said e) ≡ true → swaps_at m rows k e.position (get_or schedule e.position 0) (state_after m schedule e.position) ≡ true

  -- e is the answer row of row k: the byte at its position ended the row
  pub record AnsweredThen (k : ℕ) (e : Entry) : Type 0 where
    pub inside : e.position < length schedule
    pub open_then : StillOpen m rows k (state_after m schedule e.position)
    pub ended_then : Ended m rows k (state_after m schedule (suc e.position))

  -- Demand 3 of a log, of answers, and of the values that the words have at the end
  pub record Demand3 (log answers : List Entry) (values : List ℕ) : Type 0 where
    -- 1. carried out on plain words, the log gives the answers that stand in it and the values at the end (R245)
    pub replayed : Replayed rows (map m.value (m.words m.start)) log values
    -- 2, 3 and 6. every row of the file has ended, is open, or has not begun; and no other row number stands in log or answers (R246 to R252)
    pub ended : (k : ℕ) → k < length rows → Ended m rows k (end_state m schedule) → Told k log answers
    pub still_open : (k : ℕ) → k < length rows → StillOpen m rows k (end_state m schedule) → Untold k log answers
    pub unbegun : (k : ℕ) → k < length rows → (Begun m rows k (end_state m schedule) → ⊥) → Unbegun k log answers
    pub log_rows : All (λ e. e.row < length rows) log
    pub answer_rows : All (λ e. e.row < length rows) answers
    -- 4. order in time (R253): k had ended when j had not begun, after n bytes; if both stand in the log, k comes first
    pub order : (n k j : ℕ) → k < length rows → j < length rows → Ended m rows k (state_after m schedule n) → (Begun m rows j (state_after m schedule n) → ⊥)
        → (x y : Entry) → of k log ≡ x ∷ [] → of j log ≡ y ∷ [] → Before x y log
    -- positions: the log is in order of position, swaps strictly so; each log row and each answer row has its time, and the log row's comes first
    pub sorted : Sorted log
    pub log_times : (k : ℕ) → k < length rows → (e : Entry) → of k log ≡ e ∷ [] → LoggedThen k e
    pub answer_times : (k : ℕ) → k < length rows → (e : Entry) → of k answers ≡ e ∷ [] → AnsweredThen k e
    pub log_first : (k : ℕ) → k < length rows → (x y : Entry) → of k log ≡ x ∷ [] → of k answers ≡ y ∷ [] → x.position < y.position

-- the machine meets demand 3 on this schedule: it holds of what its last state shows
abbrev pub Meets : Firmware → List Row → List ℕ → Type 0
Meets m rows schedule = Demand3 m rows schedule (m.log (end_state m schedule)) (m.answers (end_state m schedule)) (map m.value (m.words (end_state m schedule)))
