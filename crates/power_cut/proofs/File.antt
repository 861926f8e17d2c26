-- What a power cut leaves of every run file that is not refused, cut after any of its schedule bytes: the refusals give what the theorem asks of the rows
-- (R49 to R51), and that a byte can name every process (R44). The positions of the added bytes are under no limit.
-- Assumes of the file that its numbers are bytes, which is what `run` is lent (`&[u8]`).
use Rattle.std.specs.Prelude.{ℕ, ◌≡◌, List, take, Ok}
use Rattle.runfile.specs.declared.Header.{Header}
use Rattle.runfile.specs.declared.Room.{Room}
use Rattle.runfile.specs.Layout.{schedule_in}
use Rattle.runfile.specs.Operations.{words_of, table_of}
use Rattle.runfile.specs.Refusals.{refusal_of}
use Rattle.runfile.specs.Lawful.{Lawful}
use Rattle.runfile.proofs.Lawful.{lawful}
use Rattle.machine.specs.Machine.{step}
use Rattle.demand3.specs.File.{Bytes, plan}
use Rattle.power_cut.specs.Statement.{needed, in_turn, Safe}
use Rattle.power_cut.specs.File.{OfFile, cut_at, end_in_turn}
use Rattle.power_cut.proofs.PowerCut.{leaves}

module _ (f : List ℕ) (bytes : Bytes f) (room : Room) (h : Header) (accepted : refusal_of f room ≡ Ok h) where
  sound : Lawful h f room
  sound = lawful f room h accepted

  pub leaves-file : (n : ℕ) → OfFile h f n
  leaves-file n = leaves (table_of h f) (words_of h f) h.processes (plan f bytes h room sound) (take n (schedule_in h f))

  module _ (n : ℕ) where
    -- so there is a recovery, whatever the file and the cut
    pub safe_in_turn : Safe (step (table_of h f)) h.processes (table_of h f) (words_of h f) (cut_at f bytes room h accepted n) (end_in_turn f bytes room h accepted n)
    safe_in_turn = (leaves-file n).safe (in_turn h.processes (needed (table_of h f) (cut_at f bytes room h accepted n))) ((leaves-file n).in_turn_lem sound.file.head.processes)
