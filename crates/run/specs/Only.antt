-- No second outcome meets the contract of a run (R291): it is an equation for the result and for each of the three buffers.
use Rattle.std.specs.Prelude.{ℕ, ◌≡◌, List}
use Rattle.std.proofs.Common.{sym, ◌∙◌}
use Rattle.run.specs.Run.{Outcome, Ends}

pub only : (f words log answers : List ℕ) (r q : Outcome) (words' words'' log' log'' answers' answers'' : List ℕ)
    → Ends f words log answers r words' log' answers' → Ends f words log answers q words'' log'' answers''
    → (r ≡ q) × (words' ≡ words'') × (log' ≡ log'') × (answers' ≡ answers'')
only f words log answers r q words' words'' log' log'' answers' answers'' a b =
    (a.result ∙ sym b.result, a.words_are ∙ sym b.words_are, a.log_is ∙ sym b.log_is, a.answers_are ∙ sym b.answers_are)
