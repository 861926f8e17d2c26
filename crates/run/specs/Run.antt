-- What a run file comes to: refused, or run.
use Rattle.std.specs.Prelude.{ℕ, ◌≡◌, List, length, Result, Ok, Err}
use Rattle.std.proofs.Common.{ap}
use Rattle.runfile.specs.declared.Header.{Header}
use Rattle.runfile.specs.declared.Room.{Room}
use Rattle.runfile.specs.declared.Refused.{Refused}
use Rattle.runfile.specs.Layout.{schedule_in}
use Rattle.runfile.specs.Operations.{words_of, table_of}
use Rattle.runfile.specs.Refusals.{refusal_of}
use Rattle.rows.specs.Buffers.{flat, infront}
use Rattle.machine.specs.Machine.{State, begin, after}
use Rattle.rows.specs.declared.Counts.{Counts}

-- the state at the end of the file's schedule (R181, R241)
unfoldable pub end_of : Header → List ℕ → State
end_of h f = after (table_of h f) 0 (schedule_in h f) (begin h.processes (words_of h f))

-- how many numbers the three buffers hold
abbrev pub room_of : List ℕ → List ℕ → List ℕ → Room
room_of words log answers = record { words = length words; log = length log; answers = length answers }

-- what is answered (R185): the two row counts, or the refusal
abbrev pub Outcome : Type 0
Outcome = Result Counts Refused

abbrev pub ran : (log answers : ℕ) → Outcome
ran log answers = Ok (record { log = log; answers = answers })

-- the same answer has the same counts
log_count : Outcome → ℕ
log_count (Ok counts) = counts.log
log_count (Err r) = 0

answer_count : Outcome → ℕ
answer_count (Ok counts) = counts.answers
answer_count (Err r) = 0

pub ran_same : {n m k l : ℕ} → ran n m ≡ ran k l → (n ≡ k) × (m ≡ l)
unfolding log_count answer_count
ran_same e = (ap log_count e, ap answer_count e)

-- the result, by what the check says; and each buffer afterwards: the final words (R182) or the rows (R183) in front, and behind them what stood
-- there (R184). A refusal leaves it untouched (R34)
abbrev pub outcome_of : Result Header Refused → List ℕ → Outcome
outcome_of (Err r) f = Err r
outcome_of (Ok h) f = ran (length (end_of h f).log) (length (end_of h f).answers)

abbrev pub words_left : Result Header Refused → List ℕ → List ℕ → List ℕ
words_left (Err r) f words = words
words_left (Ok h) f words = infront (end_of h f).words words

abbrev pub log_left : Result Header Refused → List ℕ → List ℕ → List ℕ
log_left (Err r) f log = log
log_left (Ok h) f log = infront (flat (end_of h f).log) log

abbrev pub answers_left : Result Header Refused → List ℕ → List ℕ → List ℕ
answers_left (Err r) f answers = answers
answers_left (Ok h) f answers = infront (flat (end_of h f).answers) answers

pub record EndsAs (c : Result Header Refused) (f words log answers : List ℕ) (r : Outcome) (words' log' answers' : List ℕ) : Type 0 where
  pub result : r ≡ outcome_of c f
  pub words_are : words' ≡ words_left c f words
  pub log_is : log' ≡ log_left c f log
  pub answers_are : answers' ≡ answers_left c f answers

-- the contract of `run`: result and buffers, all of them, for any bytes and any lengths (R241, R290)
abbrev pub Ends : List ℕ → List ℕ → List ℕ → List ℕ → Outcome → List ℕ → List ℕ → List ℕ → Type 0
Ends f words log answers = EndsAs (refusal_of f (room_of words log answers)) f words log answers
