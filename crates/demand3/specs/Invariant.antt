-- The invariant of a state at time t.
use Rattle.std.specs.Prelude.{ℕ, suc, ◌+◌, ◌≤◌, ◌<◌, ◌≡◌, Bool, true, false, not, ◌&&◌, List, [], ◌∷◌, map, eqb, length, get_or, Option, Some, None}
use Rattle.rows.specs.declared.Entry.{Entry}
use Rattle.machine.specs.Machine.{Effect, quiet, swaps, logs, replies, State, proc_at}
use Rattle.runfile.specs.declared.Row.{Row}
use Rattle.machine.specs.declared.Process.{Process}
use Rattle.machine.specs.declared.Kept.{Kept}
use Rattle.machine.specs.declared.Stage.{Stage}
use Rattle.machine.specs.declared.Stage.TheVariants.{A1, A2, A3, A4, A5, A6, V1, V2, V3, V4, V5, V6}
use Rattle.machine.specs.declared.Answer.{Answer}
use Rattle.machine.specs.declared.Answer.TheVariants.{False}
use Rattle.machine.specs.declared.Status.{Status}
use Rattle.machine.specs.declared.Status.TheVariants.{Down, Idle, N2, N3, Busy}
use Rattle.word.specs.Word.{value, bit, swapped}
use Rattle.runfile.specs.Operations.{row_numbered, first, count}
use Rattle.runfile.specs.declared.Kind.TheVariants.{Compare}
use Rattle.runfile.specs.Kinds.{kind_of, new_of}
use Rattle.rows.specs.Entries.{said, is_swapped}
use Rattle.rows.specs.Log.{is_swap}
use Rattle.machine.specs.Steps.{same_bit, spoken, swap_says, recalled}
use Rattle.replay.specs.Lists.{All, keep}
use Rattle.demand3.specs.Statement.{of, Once, Logged, word_of}
use Rattle.replay.specs.Logs.{Sorted, early}
use Rattle.replay.specs.Plain.{answer_of}
use Rattle.replay.specs.Replay.{GoesOn, final, Right, RightAt}

-- an ended operation
pub record Settled (p k : ℕ) (log answers : List Entry) : Type 0 where
  pub answer : Option Answer
  pub answered : Once p k answer answers
  pub logged : Logged p k answer log

-- what the log holds for an open operation: by what its swap says, the stored answer, and whether it has swapped
unfoldable pub due : Answer → Option Answer → Bool → Option Answer
due says (Some a) has = Some a
due says None true = Some says
due says None false = None

-- an entry that passes a test is in the log, this being the first
pub record Has (test : Entry → Bool) (log : List Entry) : Type 0 where
  pub entry : Entry
  pub rest : List Entry
  pub is : keep test log ≡ entry ∷ rest

-- the times that count as late enough for a row's entry: the parameter of the order in time
abbrev pub Times : Type 1
Times = ℕ → ℕ → Type 0

module _ (rows : List Row) (start : List ℕ) where
  -- what the swap of row k says, by what was kept for it
  abbrev pub says : ℕ → Kept → Answer
  says k kept = recalled (row_numbered rows k) kept

  -- whether p has swapped for its open row k: the checkpoint is set, and p's own bit of the row's word is the kept one
  abbrev pub has_swapped : (p k : ℕ) → List ℕ → Process → Bool
  has_swapped p k words r = r.checkpoint && same_bit (bit p (word_of rows k words)) r.kept.bit

  abbrev pub owed : (p k : ℕ) → List ℕ → Process → Option Answer
  owed p k words r = due (says k r.kept) r.stored (has_swapped p k words r)

  -- a swap on word w later than a is in the log; and one of a row of another process than p
  abbrev pub HasSwap : (w a : ℕ) → List Entry → Type 0
  HasSwap w a log = Has (is_swap rows w a) log

  unfoldable pub is_other : (p w a : ℕ) → Entry → Bool
  is_other p w a e = is_swap rows w a e && not (eqb (row_numbered rows e.row).process p)

  abbrev pub HasOther : (p w a : ℕ) → List Entry → Type 0
  HasOther p w a log = Has (is_other p w a) log

  -- row k's word was read as x at time a
  pub record Seen (Late : Times) (k t a x : ℕ) (log : List Entry) : Type 0 where
    pub past : a < t
    pub late : Late k a
    pub then : get_or (final rows start (early a log)) (row_numbered rows k).word 0 ≡ value x

  -- and it is still so, or a swap of another process than p on it has come since
  pub data Since (p w a word x : ℕ) (log : List Entry) : Type 0 where
    as_read : word ≡ x → Since p w a word x log
    overtaken : HasOther p w a log → Since p w a word x log

  -- at A2, A3, A4
  pub record Reading (Late : Times) (p k t a x : ℕ) (words : List ℕ) (log : List Entry) : Type 0 where
    pub goes_on : GoesOn (kind_of (row_numbered rows k)) (row_numbered rows k).old (value x)
    pub seen : Seen Late k t a x log
    pub since : Since p (row_numbered rows k).word a (word_of rows k words) x log
    pub own : bit p x ≡ bit p (word_of rows k words)

  -- at A3, A4: A2 has kept p's own bit of the word read, turned round, and whatever of its value the swap is to say
  pub record Keeps (p k x : ℕ) (kept : Kept) : Type 0 where
    pub turned : kept.bit ≡ not (bit p x)
    pub recalls : says k kept ≡ swap_says (kind_of (row_numbered rows k)) (value x)

  -- at A5: a swap that succeeded; an answer that held at the time of the reading; a lost swap, which is a compare's
  pub data Pending (Late : Times) (p k t a x : ℕ) (log : List Entry) (has : Bool) (kept : Kept) (ans : Option Answer) : Type 0 where
    won : ans ≡ Some (says k kept) → has ≡ true → Pending Late p k t a x log has kept ans
    held : Seen Late k t a x log → spoken ans ≡ answer_of (row_numbered rows k) (value x) → is_swapped (spoken ans) ≡ false → has ≡ false → Pending Late p k t a x log has kept ans
    lost : Seen Late k t a x log → ans ≡ Some False → kind_of (row_numbered rows k) ≡ Compare → value x ≡ (row_numbered rows k).old → HasSwap (row_numbered rows k).word a log → has ≡ false
        → Pending Late p k t a x log has kept ans

  -- By stage. An advance that has lost is at A1 and A2 again with its checkpoint set, and its own bit is then not the kept one
  abbrev pub AtStage : Times → (p k t : ℕ) → List ℕ → List Entry → Process → Stage → (x a : ℕ) → Option Answer → Type 0
  AtStage Late p k t words log r A1 x a ans = (r.stored ≡ None) × (has_swapped p k words r ≡ false)
  AtStage Late p k t words log r A2 x a ans = (r.stored ≡ None) × (has_swapped p k words r ≡ false) × Reading Late p k t a x words log
  AtStage Late p k t words log r A3 x a ans = (r.stored ≡ None) × Reading Late p k t a x words log × Keeps p k x r.kept
  AtStage Late p k t words log r A4 x a ans = (r.stored ≡ None) × (r.checkpoint ≡ true) × Reading Late p k t a x words log × Keeps p k x r.kept
  AtStage Late p k t words log r A5 x a ans = (r.stored ≡ None) × Pending Late p k t a x log (has_swapped p k words r) r.kept ans
  AtStage Late p k t words log r A6 x a ans = (held : Answer) × (r.stored ≡ Some held) × (ans ≡ Some held)
  AtStage Late p k t words log r V1 x a ans = Unit {0}
  AtStage Late p k t words log r V2 x a ans = r.stored ≡ None
  AtStage Late p k t words log r V3 x a ans = (r.stored ≡ None) × (r.checkpoint ≡ true)
  AtStage Late p k t words log r V4 x a ans = (r.stored ≡ None) × (has_swapped p k words r ≡ true)
  AtStage Late p k t words log r V5 x a ans = (held : Answer) × (r.stored ≡ Some held)
  AtStage Late p k t words log r V6 x a ans = (r.stored ≡ None) × (has_swapped p k words r ≡ false)

  -- in the midst of work: a row is open
  pub data BusyOk (Late : Times) (p t : ℕ) (words : List ℕ) (log : List Entry) (r : Process) (stage : Stage) (x a : ℕ) (ans : Option Answer) : Type 0 where
    working : (k : ℕ) → r.opened ≡ Some k → AtStage Late p k t words log r stage x a ans → BusyOk Late p t words log r stage x a ans

  abbrev pub StatusOk : Times → (p t : ℕ) → List ℕ → List Entry → Process → Status → Type 0
  StatusOk Late p t words log r Down = Unit {0}
  StatusOk Late p t words log r Idle = r.opened ≡ None
  StatusOk Late p t words log r N2 = (r.opened ≡ None) × (r.begun < count rows p) × (r.stored ≡ None)
  StatusOk Late p t words log r N3 = (r.opened ≡ None) × (r.begun < count rows p) × (r.stored ≡ None) × (r.checkpoint ≡ false)
  StatusOk Late p t words log r (Busy stage x a ta ans) = BusyOk Late p t words log r stage x a ans

  -- the open row is the last begun one, has no answer row, and stands in the log as is due
  pub record IsOpen (p k : ℕ) (s : State) (r : Process) : Type 0 where
    pub index : ℕ
    pub begun : r.begun ≡ suc index
    pub row : k ≡ first rows p + index
    pub unanswered : of k s.answers ≡ []
    pub stands : Logged p k (owed p k s.words r) s.log

  -- what holds of process p, whose record is r
  pub record Local (Late : Times) (p t : ℕ) (s : State) (r : Process) : Type 0 where
    pub fits : r.begun ≤ count rows p
    pub future_log : (i : ℕ) → r.begun ≤ i → i < count rows p → of (first rows p + i) s.log ≡ []
    pub future_answers : (i : ℕ) → r.begun ≤ i → i < count rows p → of (first rows p + i) s.answers ≡ []
    pub ended : (i : ℕ) → i < r.begun → (r.opened ≡ Some (first rows p + i) → ⊥) → Settled p (first rows p + i) s.log s.answers
    pub opened : (k : ℕ) → r.opened ≡ Some k → IsOpen p k s r
    pub work : StatusOk Late p t s.words s.log r r.status

  -- what holds of the whole
  pub record Global (Late : Times) (t : ℕ) (s : State) : Type 0 where
    pub sorted : Sorted s.log
    pub below : All (λ e. e.position < t) s.log
    pub late : All (λ e. Late e.row e.position) s.log
    pub there : All (λ e. e.row < length rows) s.log
    pub there_answers : All (λ e. e.row < length rows) s.answers
    pub right : Right rows start s.log
    pub ends : final rows start s.log ≡ map value s.words

  pub record Inv (Late : Times) (P t : ℕ) (s : State) : Type 0 where
    pub size : length s.processes ≡ P
    pub global : Global Late t s
    pub local : (p : ℕ) → p < P → Local Late p t s (proc_at p s)

  -- what an effect of process p, at its row k, is allowed to be at time t
  pub record Swapping (Late : Times) (p k t : ℕ) (s : State) (w x : ℕ) (e : Entry) : Type 0 where
    pub at : e.position ≡ t
    pub late : Late e.row e.position
    pub row : e.row ≡ k
    pub truly : is_swapped (said e) ≡ true
    pub word : w ≡ (row_numbered rows k).word
    pub new : x ≡ swapped p (new_of (row_numbered rows k) (value (word_of rows k s.words))) (word_of rows k s.words)
    pub there : e.row < length rows
    pub right : RightAt rows (final rows start s.log) e

  pub record Logging (Late : Times) (k t : ℕ) (s : State) (e : Entry) : Type 0 where
    pub past : e.position < t
    pub late : Late e.row e.position
    pub row : e.row ≡ k
    pub no_swap : is_swapped (said e) ≡ false
    pub there : e.row < length rows
    pub right : RightAt rows (final rows start (early e.position s.log)) e

  abbrev pub Allowed : Times → (p k t : ℕ) → State → Effect → Type 0
  Allowed Late p k t s quiet = Unit {0}
  Allowed Late p k t s (swaps w x e) = Swapping Late p k t s w x e
  Allowed Late p k t s (logs e) = Logging Late k t s e
  Allowed Late p k t s (replies e) = (e.row ≡ k) × (e.row < length rows) × (e.position ≡ t)
