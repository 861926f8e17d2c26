-- The contracts of the panel, a definition each: what is lent, then what is returned and left.
use Rattle.std.specs.Prelude.{ℕ, ◌≡◌, List, Result, Ok, Err}
use Rattle.std.proofs.Common.{sym, ◌∙◌}
use Rattle.machine.specs.declared.Process.{Process}
use Rattle.engine.specs.declared.Standing.{Standing}
use Rattle.panel.specs.declared.Stroke.{Stroke}
use Rattle.panel.specs.declared.Table.{Table}
use Rattle.panel.specs.declared.Refused.{Refused}
use Rattle.panel.specs.declared.Why.{Why}
use Rattle.panel.specs.Press.{Outcome, done, number_of_why, pressed, Leaves}
use Rattle.panel.specs.Key.{keyed}

-- `key(file, records, words, log, answers, key)`
abbrev pub Keyed : (file : List ℕ) (records : List Process) (words log answers : List ℕ) → Stroke → Outcome → List Process → (words' log' answers' : List ℕ) → Type 0
Keyed file records words log answers key = Leaves (keyed file records words log answers key)

-- `press(file, table, words, log, answers, key)`: the counts and the records of where the run stands after the key; of a refusal, the table's
abbrev pub outcome_of : Result Standing Refused → Outcome
outcome_of (Err r) = Err r
outcome_of (Ok left) = done left.counts.log left.counts.answers

abbrev pub processes_of : List Process → Result Standing Refused → List Process
processes_of processes (Err r) = processes
processes_of processes (Ok left) = left.processes

abbrev pub PressedOn : (file : List ℕ) → Table → (words log answers : List ℕ) → Stroke → Result Standing Refused → (words' log' answers' : List ℕ) → Type 0
PressedOn file table words log answers key r = Leaves (pressed file table words log answers key) (outcome_of r) (processes_of table.processes r)

-- `u32::from(why)`
abbrev pub WhyNumbered : Why → ℕ → Type 0
WhyNumbered why r = r ≡ number_of_why why

pub why_numbered_one : (why : Why) (r q : ℕ) → WhyNumbered why r → WhyNumbered why q → r ≡ q
why_numbered_one why r q a b = a ∙ sym b
