-- What a power cut leaves (change request 11), stated. Cut a schedule at any byte, add F0, then wake each process and step it until it is idle, in any
-- order among the processes. Each needs at most five steps. Then no row is open, no word has changed since the cut, the log has gained nothing, and
-- each operation that was open at the cut is answered exactly as the log has it, or with fail if it is not there; no other answer is added.
--
-- Here is every definition that the claim (`Leaves`) rests on, beside those of the process record and of demand 3's statement. It is said of any
-- machine that has the bench machine's states, so that wrong ones can be held against it (`Wrong.antt`). `proofs/PowerCut.antt` proves it of the bench
-- machine for all rows that pass the refusals and for all bytes, `proofs/File.antt` of every run file that is not refused.
use Rattle.std.specs.Prelude.{ℕ, zero, suc, ◌+◌, ◌≤◌, ◌<◌, ◌≡◌, Bool, true, false, List, [], ◌∷◌, ◌++◌, map, eqb, length, replicate, Option, Some, None}
use Rattle.runfile.specs.declared.Row.{Row}
use Rattle.runfile.specs.Actions.{Action, step as steps, wake as wakes, action, named}
use Rattle.word.specs.Word.{bit}
use Rattle.rows.specs.declared.Entry.{Entry}
use Rattle.machine.specs.declared.Answer.{Answer}
use Rattle.machine.specs.declared.Process.{Process}
use Rattle.machine.specs.declared.Status.{Status}
use Rattle.machine.specs.declared.Status.TheVariants.{Down, Idle}
use Rattle.machine.specs.Records.{row_open}
use Rattle.machine.specs.Steps.{same_bit}
use Rattle.machine.specs.Machine.{State, proc_at}
use Rattle.replay.specs.Lists.{All, keep}
use Rattle.demand3.specs.Statement.{Firmware, Once, Logged, owner_of, word_of, StillOpen, end_state}
use Rattle.demand3.specs.FlipBit.{machine_of}

-- the byte F0 brings all processes down (R73, R133)
abbrev pub power_cut : ℕ
power_cut = 0xF0

-- A byte mends, by the status of the process that it names: it wakes one that is down, or steps one that is awake and not idle yet. So it neither
-- crashes a process nor wakes one that is awake, and never begins a row
pub data Mends (status : Status) (a : Action) : Type 0 where
  waking : a ≡ wakes → status ≡ Down → Mends status a
  stepping : a ≡ steps → (status ≡ Down → ⊥) → (status ≡ Idle → ⊥) → Mends status a

-- or the power is cut once more
pub data MendsOrCuts (status : Status) (byte : ℕ) : Type 0 where
  mends : Mends status (action byte) → MendsOrCuts status byte
  cuts : byte ≡ power_cut → MendsOrCuts status byte

-- How many steps a process with a row open needs after its wake, by what is kept: the stored answer, the checkpoint, and whether its own flip bit is
-- the kept bit (R121 to R126). It goes through V1 V5; V1 V2 V6; V1 V2 V3 V6; or V1 V2 V3 V4 V5
unfoldable pub steps_by : Option Answer → (checkpoint same : Bool) → ℕ
steps_by (Some a) checkpoint same = 2
steps_by None false same = 3
steps_by None true false = 4
steps_by None true true = 5

-- with no row open it is idle when it wakes (R132)
abbrev pub steps_for : Option ℕ → Option Answer → (checkpoint same : Bool) → ℕ
steps_for None stored checkpoint same = 0
steps_for (Some k) stored checkpoint same = steps_by stored checkpoint same

-- what the bytes do to process p, in order
unfoldable pub done_to : ℕ → List ℕ → List Action
done_to p bytes = map action (keep (λ byte. eqb (named byte) p) bytes)

-- the bytes for processes 0, 1, .., P - 1 in turn: process p is woken, by 20 + p in hex, and then stepped so often
unfoldable pub in_turn : (P : ℕ) → (often : ℕ → ℕ) → List ℕ
in_turn zero often = []
in_turn (suc p) often = in_turn p often ++ ((0x20 + p) ∷ replicate (often p) p)

module _ (rows : List Row) where
  -- whether the own flip bit of process p, in the word of the row that it has open, is the kept bit
  abbrev pub kept_bit : ℕ → List ℕ → Process → Bool
  kept_bit p words r = same_bit (bit p (word_of rows (row_open r.opened) words)) r.kept.bit

  abbrev pub needed_of : ℕ → List ℕ → Process → ℕ
  needed_of p words r = steps_for r.opened r.stored r.checkpoint (kept_bit p words r)

  -- how many steps process p needs after its wake if the power is cut in this state
  abbrev pub needed : State → ℕ → ℕ
  needed s p = needed_of p s.words (proc_at p s)

  -- Row k, which was open at the cut, has exactly one new answer row, for its process; and the log has the row exactly once, with that verdict and
  -- value, or the answer is fail and the log does not have the row. Of an advance that the log has, verdict and value are 4 and the value before
  pub record Answered (k : ℕ) (log new : List Entry) : Type 0 where
    pub answer : Option Answer
    pub told : Once (owner_of rows k) k answer new
    pub logged : Logged (owner_of rows k) k answer log

-- the machine: what the byte at position t makes of a state, for P processes
module _ (does : (t byte : ℕ) → State → State) (P : ℕ) where
  abbrev pub AllIdle : State → Type 0
  AllIdle s = (p : ℕ) → p < P → (proc_at p s).status ≡ Idle

  -- the bytes, the first of them at position t, wake and step the processes, in whatever order among them, until all P are idle
  abbrev pub Recovery : ℕ → List ℕ → State → Type 0
  Recovery t [] s = AllIdle s
  Recovery t (byte ∷ bytes) s = Mends (proc_at (named byte) s).status (action byte) × Recovery (suc t) bytes (does t byte s)

  -- the same with further power cuts in its midst, as many as there are
  abbrev pub RecoveryWithCuts : ℕ → List ℕ → State → Type 0
  RecoveryWithCuts t [] s = AllIdle s
  RecoveryWithCuts t (byte ∷ bytes) s = MendsOrCuts (proc_at (named byte) s).status byte × RecoveryWithCuts (suc t) bytes (does t byte s)

  -- these rows and start words
  module _ (rows : List Row) (start_words : List ℕ) where
    abbrev pub machine : Firmware
    machine = machine_of does P start_words

    -- from the state at the cut to the state at the end
    pub record Safe (cut end : State) : Type 0 where
      pub idle : AllIdle end
      pub no_row_open : (p : ℕ) → p < P → (proc_at p end).opened ≡ None
      -- nor has a further row been begun
      pub begun : (p : ℕ) → p < P → (proc_at p end).begun ≡ (proc_at p cut).begun
      pub words : end.words ≡ cut.words
      pub log : end.log ≡ cut.log
      -- the new answer rows stand behind those that were there: one for each row that was open at the cut, and no other
      pub new : List Entry
      pub answers : end.answers ≡ cut.answers ++ new
      pub answered : (k : ℕ) → StillOpen machine rows k cut → Answered rows k cut.log new
      pub no_other : All (λ e. StillOpen machine rows e.row cut) new

    -- the schedule up to the cut
    module _ (before : List ℕ) where
      -- the state at the cut; after F0, which comes at the next position; and after F0 and more bytes
      abbrev pub cut : State
      cut = end_state machine before

      abbrev pub dark : State
      dark = does (length before) power_cut cut

      abbrev pub end_of : List ℕ → State
      end_of more = end_state machine (before ++ (power_cut ∷ more))

      -- the bytes that follow F0 wake each process and step it until it is idle; and the same with further cuts
      abbrev pub Recovers : List ℕ → Type 0
      Recovers more = Recovery (suc (length before)) more dark

      abbrev pub RecoversWithCuts : List ℕ → Type 0
      RecoversWithCuts more = RecoveryWithCuts (suc (length before)) more dark

      -- process p is woken once and then stepped exactly as often as it needs
      abbrev pub WokenAndStepped : ℕ → List ℕ → Type 0
      WokenAndStepped p more = done_to p more ≡ wakes ∷ replicate (needed rows cut p) steps

      -- the claim
      pub record Leaves : Type 0 where
        pub at_most_five : (p : ℕ) → needed rows cut p ≤ 5
        -- a recovery wakes each process once and then steps it as often as it needs; and bytes that do so, in whatever order among the processes, are
        -- a recovery, those for processes 0, 1, .. in turn among them (a byte can name sixteen processes, R71)
        pub exactly : (more : List ℕ) → Recovers more → (p : ℕ) → p < P → WokenAndStepped p more
        pub any_order : (more : List ℕ) → All (λ byte. named byte < P) more → ((p : ℕ) → p < P → WokenAndStepped p more) → Recovers more
        pub in_turn_lem : P ≤ 16 → Recovers (in_turn P (needed rows cut))
        -- after a recovery all is as it should be; and so it is if the power is cut again in its midst, however often: nothing has changed since the
        -- first cut, and what was open then is answered once
        pub safe : (more : List ℕ) → Recovers more → Safe cut (end_of more)
        pub safe_with_cuts : (more : List ℕ) → RecoversWithCuts more → Safe cut (end_of more)
