-- The claim of a power cut, of every run file that is not refused, cut after any of its schedule bytes; `proofs/File.antt` proves it.
-- Assumes of the file that its numbers are bytes, which is what `run` is lent (`&[u8]`).
use Rattle.std.specs.Prelude.{ℕ, ◌≡◌, List, take, Ok}
use Rattle.runfile.specs.declared.Header.{Header}
use Rattle.runfile.specs.declared.Room.{Room}
use Rattle.runfile.specs.Layout.{schedule_in}
use Rattle.runfile.specs.Operations.{words_of, table_of}
use Rattle.runfile.specs.Refusals.{refusal_of}
use Rattle.machine.specs.Machine.{State, step}
use Rattle.demand3.specs.File.{Bytes}
use Rattle.power_cut.specs.Statement as statement
use Rattle.power_cut.specs.Statement.{needed, in_turn, Safe, Leaves}

-- the claim for the rows, the start words and the first n schedule bytes of a file with this header
abbrev pub OfFile : Header → List ℕ → ℕ → Type 0
OfFile h f n = Leaves (step (table_of h f)) h.processes (table_of h f) (words_of h f) (take n (schedule_in h f))

module _ (f : List ℕ) (bytes : Bytes f) (room : Room) (h : Header) (accepted : refusal_of f room ≡ Ok h) where
  module _ (n : ℕ) where
    abbrev does : (t byte : ℕ) → State → State
    does = step (table_of h f)

    -- the state at the cut, and the one after F0 and the bytes that wake and step processes 0, 1, .. in turn
    abbrev pub cut_at : State
    cut_at = statement.cut does h.processes (table_of h f) (words_of h f) (take n (schedule_in h f))

    abbrev pub end_in_turn : State
    end_in_turn = statement.end_of does h.processes (table_of h f) (words_of h f) (take n (schedule_in h f)) (in_turn h.processes (needed (table_of h f) cut_at))
