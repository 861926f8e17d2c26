-- No second outcome meets the contract of a key (R291): it is an equation for the result, for the list of records and for each buffer.
use Rattle.std.specs.Prelude.{ℕ, ◌≡◌, List}
use Rattle.std.proofs.Common.{sym, ◌∙◌}
use Rattle.machine.specs.declared.Process.{Process}
use Rattle.panel.specs.Press.{Outcome, Pressed, Leaves}

pub only : (p : Pressed) (r q : Outcome) (records records' : List Process) (words words' log log' answers answers' : List ℕ)
    → Leaves p r records words log answers → Leaves p q records' words' log' answers'
    → (r ≡ q) × (records ≡ records') × (words ≡ words') × (log ≡ log') × (answers ≡ answers')
only p r q records records' words words' log log' answers answers' a b =
    (a.result ∙ sym b.result, a.processes_are ∙ sym b.processes_are, a.words_are ∙ sym b.words_are, a.log_is ∙ sym b.log_is, a.answers_are ∙ sym b.answers_are)
