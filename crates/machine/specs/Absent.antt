-- The flip bits over a whole schedule, whatever its bytes are: bit q of a word is turned as often as process q changes the word, which is as often as
-- the log tells of a successful swap of q on it, and by nothing else. So the bits of processes that the file does not have stay as they are (R17), and the
-- bit of a process that has changed a word by no byte, or of whose swaps on it the log does not tell, is as it was at the start. Here are the words of it,
-- and what one byte may write: nothing, or a swap by the process that it names, which has a row open. It is proved in proofs/Absent.antt.
use Prim.Native.Nat.{ℕ, zero, suc, ◌^◌, ◌<◌}
use Rattle.std.specs.Prelude.{◌≡◌, Bool, not, ◌&&◌, get_or, set, Some}
use Rattle.std.proofs.Math.Bool.{true, false, cond}
use mathlib.Core.List.{List, [], ◌∷◌}
use Rattle.std.proofs.Math.Dec.{eqb}
use Rattle.runfile.specs.declared.Row.{Row}
use Rattle.runfile.specs.Kinds.{new_in, new_of}
use Rattle.runfile.specs.Actions.{named}
use Rattle.runfile.specs.Operations.{row_numbered}
use Rattle.word.specs.Word.{width, value, swapped}
use Rattle.rows.specs.declared.Entry.{Entry}
use Rattle.rows.specs.Entries.{said, is_swapped}
use Rattle.rows.specs.Log.{insert}
use Rattle.machine.specs.declared.Process.{Process}
use Rattle.machine.specs.Machine.{State, step}

-- the words after process p has swapped for row k
abbrev pub put_in : List Row → (p k : ℕ) → List ℕ → List ℕ
put_in rows p k words =
    let row = row_numbered rows k in
    let now = get_or words row.word 0 in
    set words row.word (swapped p (new_of row (value now)) now)

-- what a byte that names p, whose record is r, may leave of words and log: both as they were; a swap for the open row, in its word and in the log; or
-- an entry in the log that tells of no successful swap
pub data Leaves (rows : List Row) (p : ℕ) (r : Process) (words : List ℕ) (log : List Entry) : List ℕ → List Entry → Type 0 where
  as_they_were : Leaves rows p r words log words log
  one_swapped : (k : ℕ) (e : Entry) → r.opened ≡ Some k → e.process ≡ p → e.row ≡ k → is_swapped (said e) ≡ true → Leaves rows p r words log (put_in rows p k words) (insert e log)
  one_logged : (e : Entry) → is_swapped (said e) ≡ false → Leaves rows p r words log words (insert e log)

-- Word w; that a byte names q and changes it; and how many of the bytes do.
abbrev pub word_at : ℕ → State → ℕ
word_at w s = get_or s.words w 0

module _ (rows : List Row) (q w : ℕ) where
  abbrev pub changes_at : (t byte : ℕ) → State → Bool
  changes_at t byte s = eqb (named byte) q && not (eqb (word_at w s) (word_at w (step rows t byte s)))

  unfoldable pub changes : ℕ → List ℕ → State → ℕ
  changes t [] s = 0
  changes t (byte ∷ bytes) s = cond (changes_at t byte s) (suc (changes (suc t) bytes (step rows t byte s))) (changes (suc t) bytes (step rows t byte s))

-- a bit that is turned n times
unfoldable pub turned_by : ℕ → Bool → Bool
turned_by zero b = b
turned_by (suc n) b = turned_by n (not b)

-- rows whose swaps put in no more than b bits
abbrev pub FittingIn : (b : ℕ) → List Row → Type 0
FittingIn b rows = (k v : ℕ) → new_in b (row_numbered rows k) v < 2 ^ b

-- what a swap puts in has no more bits than a value (R10, R14)
abbrev pub Fitting : List Row → Type 0
Fitting = FittingIn width

-- The log knows the bits. An entry tells of a successful swap of process q on word w; and how many entries of a log do.
module _ (rows : List Row) (q w : ℕ) where
  abbrev pub tells_of : Entry → Bool
  tells_of e = is_swapped (said e) && (eqb e.process q && eqb (row_numbered rows e.row).word w)

  unfoldable pub told_swaps : List Entry → ℕ
  told_swaps [] = 0
  told_swaps (e ∷ log) = cond (tells_of e) (suc (told_swaps log)) (told_swaps log)
