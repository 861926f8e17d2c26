-- In a file that is accepted no crash and no wake changes nothing (R56): a crash brings down a process that was awake, and a wake wakes one that was
-- down. For refusal 16 is given for every other one by who is up, and that is who is awake (R75).
use Rattle.std.specs.Prelude.{ℕ, suc, ◌<◌, ◌≡◌, List, ◌⊎◌, take}
use Rattle.std.proofs.Common.{ap, arith}
use Rattle.runfile.specs.declared.Header.{Header}
use Rattle.runfile.specs.declared.Room.{Room}
use Rattle.runfile.specs.Layout.{schedule_in}
use Rattle.runfile.specs.Actions.{crash, wake, action, named}
use Rattle.runfile.specs.Operations.{words_of, table_of}
use Rattle.runfile.specs.Table.{byte_of}
use Rattle.runfile.specs.Lawful.{LawfulByte, of_one, of_all_lem, Lawful}
use Rattle.machine.specs.Machine.{State, proc_at}
use Rattle.machine.specs.Limits.{ran}
use Rattle.machine.specs.Awake.{Strikes, struck}
use Rattle.machine.proofs.Awake.{strikes}

-- the state after the first i bytes of the file's schedule
abbrev pub state_at : Header → List ℕ → ℕ → State
state_at h f i = ran (table_of h f) h.processes (words_of h f) (take i (schedule_in h f))

module _ (h : Header) (f : List ℕ) (room : Room) (l : Lawful h f room) (i : ℕ) (within : i < h.steps) where
  abbrev byte : ℕ
  byte = byte_of h f i

  -- every byte names a process of the file, F0 number 0
  pub named_there : named (byte_of h f i) < h.processes
  named_there = go (l.file.actions i within)
    where
      go : LawfulByte h.processes byte → named byte < h.processes
      go (of_one high low) = low
      go (of_all_lem high low) = let some = l.file.head.some_process in omega arith

  pub strikes_file : Strikes (byte_of h f i) (proc_at (named (byte_of h f i)) (state_at h f i)) (proc_at (named (byte_of h f i)) (state_at h f (suc i)))
  strikes_file = strikes (table_of h f) h.processes (words_of h f) (schedule_in h f) i (let s = l.file.schedule in omega arith) named_there (l.not_idle i within)

  pub none_idle : (action (byte_of h f i) ≡ crash) ⊎ (action (byte_of h f i) ≡ wake) → state_at h f i ≡ state_at h f (suc i) → ⊥
  none_idle a e = struck byte _ _ strikes_file a (ap (proc_at (named byte)) e)
