-- The bench machine, which turns flip bits (R114), as demand 3 sees it; and demand 3 of it, with what is said besides of its stages.
use Rattle.std.specs.Prelude.{ℕ, suc, ◌+◌, ◌≤◌, ◌<◌, ◌≡◌, refl, Bool, true, false, not, ◌&&◌, List, [], ◌∷◌, ◌++◌, eqb, length, Option, Some, None}
use Rattle.runfile.specs.declared.Row.{Row}
use Rattle.runfile.specs.Operations.{row_numbered}
use Rattle.word.specs.Word.{value}
use Rattle.rows.specs.declared.Entry.{Entry}
use Rattle.rows.specs.Entries.{said, is_swapped}
use Rattle.rows.specs.Log.{is_swap, first_swap}
use Rattle.machine.specs.declared.Answer.{Answer}
use Rattle.machine.specs.declared.Answer.TheVariants.{False}
use Rattle.machine.specs.declared.Stage.TheVariants.{A2, A4, A5}
use Rattle.machine.specs.declared.Status.{Status}
use Rattle.machine.specs.declared.Status.TheVariants.{Down, Idle, N2, N3, Busy}
use Rattle.machine.specs.declared.Process.{Process}
use Rattle.machine.specs.Stages.{stage_number}
use Rattle.machine.specs.Steps.{spoken}
use Rattle.machine.specs.Machine.{State, proc_at, step, after, begin, after_in}
use Rattle.replay.specs.Lists.{Found, many}
use Rattle.replay.specs.Replay.{SwapOn}
use Rattle.demand3.specs.Statement.{Firmware, of, is_row, counts, owner_of, through, StillOpen, state_after, Demand3}

-- a machine that has the states of the bench machine, and whose bytes do this, for P processes and these start words
abbrev pub machine_of : ((t byte : ℕ) → State → State) → ℕ → List ℕ → Firmware
machine_of does P words =
    record {
      State = State;
      start = begin P words;
      step = does;
      words = λ s. s.words;
      value = value;
      log = λ s. s.log;
      answers = λ s. s.answers;
      begun = λ p s. (proc_at p s).begun;
      opened = λ p s. (proc_at p s).opened;
      stored = λ p s. (proc_at p s).stored;
    }

abbrev pub flip_bit : List Row → ℕ → List ℕ → Firmware
flip_bit rows P words = machine_of (step rows) P words

-- its states are those that the contract of `run` speaks of
pub through-after : (rows : List Row) (P : ℕ) (words : List ℕ) (t : ℕ) (bytes : List ℕ) (s : State) → through (flip_bit rows P words) t bytes s ≡ after rows t bytes s
unfolding through after_in
through-after rows P words t [] s = refl
through-after rows P words t (byte ∷ bytes) s = through-after rows P words (suc t) bytes (step rows t byte s)

-- the swap that a lost one, which read word w at position a, looks for (R168) is in the log: the front-most one has this position, and whatever is
-- handed in for the case that there is none (R169) is not used
pub record Beaten (rows : List Row) (w a : ℕ) (log : List Entry) : Type 0 where
  pub by : Entry
  pub front_most : Found (is_swap rows w a) log by
  pub position : (otherwise : ℕ) → first_swap rows w a otherwise log ≡ by.position

module _ (rows : List Row) (P : ℕ) (words schedule : List ℕ) where
  -- after the byte at position a row k is open, and its process has this status
  pub record Then (k a : ℕ) (status : Status) : Type 0 where
    pub opened : StillOpen (flip_bit rows P words) rows k (state_after (flip_bit rows P words) schedule (suc a))
    pub is : (proc_at (owner_of rows k) (state_after (flip_bit rows P words) schedule (suc a))).status ≡ status

  -- In time: e, the log row of row k, tells of no swap. It has the position of its A1, which went to A5 with the answer that e tells; or it is that
  -- of a lost swap, whose A1 found old and went to A2, and has the position of the swap that beat it: the front-most on its word after its A1
  pub data ReadThen (k : ℕ) (e : Entry) (log : List Entry) : Type 0 where
    at_read : (seen : ℕ) (answer : Option Answer) → said e ≡ spoken answer → Then k e.position (Busy A5 seen e.position 0 answer) → ReadThen k e log
    at_loss : (seen read_at : ℕ) (by : Entry) → said e ≡ spoken (Some False) → value seen ≡ (row_numbered rows k).old → Then k read_at (Busy A2 seen read_at 0 None)
        → Found (is_swap rows (row_numbered rows k).word read_at) log by → e.position ≡ by.position → ReadThen k e log

-- Lock-freedom (R258). An advance whose swap is lost goes back to A1 (R118), and no limit is claimed for its steps; but each time another process got on.
-- Process p was overtaken on word w between positions a and t: a successful swap of another process on it stands in the log, later than a and
-- earlier than t
pub record Overtaken (rows : List Row) (p w a t : ℕ) (log : List Entry) : Type 0 where
  pub by : Entry
  pub front : List Entry
  pub back : List Entry
  pub stands : log ≡ front ++ by ∷ back
  pub swap : SwapOn rows w a by
  pub before : by.position < t
  pub other : owner_of rows by.row ≡ p → ⊥

-- The rounds of row k: how often, while these bytes go by, the first of them at position t, its process comes to A1 with the row open. That is once when
-- the row is begun (R103), and once more each time that it goes back (R118)
abbrev pub is_a1 : Status → Bool
is_a1 Down = false
is_a1 Idle = false
is_a1 N2 = false
is_a1 N3 = false
is_a1 (Busy stage seen read_at tried_at answer) = eqb (stage_number stage) 0

module _ (rows : List Row) (k : ℕ) where
  abbrev pub at_a1 : Process → Bool
  at_a1 r = is_row k r.opened && is_a1 r.status

  abbrev pub comes : (before after : Process) → Bool
  comes before after = not (at_a1 before) && at_a1 after

  unfoldable pub round_count : (t : ℕ) → List ℕ → State → ℕ
  round_count t [] s = 0
  round_count t (byte ∷ bytes) s = counts (comes (proc_at (owner_of rows k) s) (proc_at (owner_of rows k) (step rows t byte s))) + round_count (suc t) bytes (step rows t byte s)

-- how many successful swaps of other processes than p on word w a log tells of
unfoldable pub is_rival : List Row → (p w : ℕ) → Entry → Bool
is_rival rows p w e = is_swapped (said e) && (eqb (row_numbered rows e.row).word w && not (eqb (owner_of rows e.row) p))

abbrev pub rivals : List Row → (p w : ℕ) → List Entry → ℕ
rivals rows p w log = many (is_rival rows p w) log

-- Demand 3 of this machine
pub record OfFlipBit (rows : List Row) (P : ℕ) (words schedule : List ℕ) (log answers : List Entry) (values : List ℕ) : Type 0 where
  pub demand : Demand3 (flip_bit rows P words) rows schedule log answers values
  -- 5. a lost swap, which had read old, finds the swap that beat it in the log as it stands when it stores its answer (R254)
  pub beaten : (n k seen read_at tried_at : ℕ) → k < length rows → StillOpen (flip_bit rows P words) rows k (state_after (flip_bit rows P words) schedule n)
      → (proc_at (owner_of rows k) (state_after (flip_bit rows P words) schedule n)).status ≡ Busy A5 seen read_at tried_at (Some False) → value seen ≡ (row_numbered rows k).old
      → Beaten rows (row_numbered rows k).word read_at (state_after (flip_bit rows P words) schedule n).log
  -- positions of what is no swap: that of its A1, or that of the swap that beat it
  pub read_times : (k : ℕ) → k < length rows → (e : Entry) → of k log ≡ e ∷ [] → is_swapped (said e) ≡ false → ReadThen rows P words schedule k e log
  -- lock-freedom (R258): whenever row k stands at A4, having read its word at position read_at, and the byte at position n leads back to A1, its A1 was at
  -- read_at and it was overtaken between the two
  pub overtaken : (n k seen read_at tried_at : ℕ) (answer : Option Answer) → k < length rows → StillOpen (flip_bit rows P words) rows k (state_after (flip_bit rows P words) schedule n)
      → (proc_at (owner_of rows k) (state_after (flip_bit rows P words) schedule n)).status ≡ Busy A4 seen read_at tried_at answer
      → is_a1 (proc_at (owner_of rows k) (state_after (flip_bit rows P words) schedule (suc n))).status ≡ true
      → Then rows P words schedule k read_at (Busy A2 seen read_at 0 None) × Overtaken rows (owner_of rows k) (row_numbered rows k).word read_at n log
  -- so a row has at most one round more than the log tells of successful swaps of other processes on its word
  pub rounds : (k : ℕ) → k < length rows → round_count rows k 0 schedule (begin P words) ≤ suc (rivals rows (owner_of rows k) (row_numbered rows k).word log)
