-- No second outcome meets the contract of `run_bytes`: it is an equation for each field of the result and for each buffer.
use Rattle.std.specs.Prelude.{◌≡◌, ℕ, List}
use Rattle.std.proofs.Common.{sym, ap, ◌∙◌}
use Rattle.runfile.specs.declared.Operations.{Operations}
use Rattle.engine.specs.declared.Standing.{Standing}
use Rattle.engine.specs.declared.Part.{Part}
use Rattle.engine.specs.Part.{Runs}

same_standing : (r q : Standing) → r.processes ≡ q.processes → r.position ≡ q.position → r.counts.log ≡ q.counts.log → r.counts.answers ≡ q.counts.answers → r ≡ q
same_standing r q a b c d =
    ap (λ ps. record { processes = ps; position = r.position; counts = r.counts }) a
    ∙ ap (λ t. record { processes = q.processes; position = t; counts = r.counts }) b
    ∙ ap (λ m. record { processes = q.processes; position = q.position; counts = record { log = m; answers = r.counts.answers } }) c
    ∙ ap (λ k. record { processes = q.processes; position = q.position; counts = record { log = q.counts.log; answers = k } }) d

pub runs_one : (part : Part) (operations : Operations) (bytes words log answers : List ℕ) (r q : Standing) (words' words'' log' log'' answers' answers'' : List ℕ)
    → Runs part operations bytes words log answers r words' log' answers' → Runs part operations bytes words log answers q words'' log'' answers''
    → (r ≡ q) × (words' ≡ words'') × (log' ≡ log'') × (answers' ≡ answers'')
runs_one part operations bytes words log answers r q words' words'' log' log'' answers' answers'' a b =
    let x = a.holds in
    let y = b.holds in (
      same_standing r q (a.processes_are ∙ sym b.processes_are) (a.position_is ∙ sym b.position_is) (x.log_count ∙ sym y.log_count) (x.answers_count ∙ sym y.answers_count),
      x.words_are ∙ sym y.words_are,
      x.log_is ∙ sym y.log_is,
      x.answers_are ∙ sym y.answers_are,
    )
