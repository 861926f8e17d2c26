-- What the callees of `key` say comes to what it promises.
use mathlib.Core.Path.{◌≡◌, sym, ◌∙◌, ap, ap₂, subst}
use Prim.Native.Nat.{ℕ, min}
use native.Mathlib.Omega.{arith}
use mathlib.Core.List.{List}
use lib.ListN.{length}
use Rattle.std.specs.Prelude.{Result, Ok, Err}
use Rattle.machine.specs.declared.Process.{Process}
use Rattle.engine.specs.declared.Standing.{Standing}
use Rattle.panel.specs.declared.Refused.{Refused}
use Rattle.panel.specs.Laid.{blank, laid}
use Rattle.panel.specs.declared.Stroke.{Stroke}
use Rattle.panel.specs.declared.Table.{Table}
use Rattle.panel.specs.Press.{Outcome, done, Pressed, Leaves, pressed}
use Rattle.panel.specs.Promises.{outcome_of, processes_of, Keyed, PressedOn}
use Rattle.panel.proofs.Sixteen.{given_back, laid_same, keyed_is}

-- with the table laid back into the lent list
laid_back : (n : ℕ) (records records' : List Process) (p : Pressed) (r : Outcome) (processes : List Process) (words log answers : List ℕ)
    → Leaves p r processes words log answers → records' ≡ laid n processes records → Leaves (given_back n records p) r records' words log answers
laid_back n records records' p r processes words log answers l e = record {
  result = l.result;
  processes_are = e ∙ ap (λ (ps : List Process). laid n ps records) l.processes_are;
  words_are = l.words_are;
  log_is = l.log_is;
  answers_are = l.answers_are;
}

module _ (file : List ℕ) (records : List Process) (words log answers : List ℕ) (key : Stroke) where
  -- over a table that `Table::of` has filled, of which the first n are laid back
  over : (t : Table) → t.held ≡ min (length records) 16 → t.processes ≡ laid t.held records blank → (r : Result Standing Refused) (records' : List Process) (words' log' answers' : List ℕ)
      → PressedOn file t words log answers key r words' log' answers' → records' ≡ laid t.held (processes_of t.processes r) records
      → Keyed file records words log answers key (outcome_of r) records' words' log' answers'
  over t held filled r records' words' log' answers' l e =
      let whole : t ≡ record { processes = laid (min (length records) 16) records blank; held = min (length records) 16 } = ap₂ (λ (ps : List Process) (m : ℕ). record { processes = ps; held = m }) (filled ∙ ap (λ (m : ℕ). laid m records blank) held) held in
      subst (λ (p : Pressed). Leaves p (outcome_of r) records' words' log' answers') (keyed_is file records words log answers key)
      (subst (λ (t : Table). Leaves (given_back t.held records (pressed file t words log answers key)) (outcome_of r) records' words' log' answers') whole
      (laid_back t.held records records' _ (outcome_of r) _ words' log' answers' l e))

  -- carried out: the records are given back
  pub joined : (t : Table) (left : Standing) (records' : List Process) (words' log' answers' : List ℕ)
      → t.held ≡ min (length records) 16 → t.processes ≡ laid t.held records blank
      → PressedOn file t words log answers key (Ok left) words' log' answers' → records' ≡ laid t.held left.processes records
      → Keyed file records words log answers key (done left.counts.log left.counts.answers) records' words' log' answers'
  joined t left records' words' log' answers' held filled = over t held filled (Ok left) records' words' log' answers'

  -- refused: the lent records are as they were
  pub joined_refused : (t : Table) (r : Refused) (words' log' answers' : List ℕ)
      → t.held ≡ min (length records) 16 → t.processes ≡ laid t.held records blank
      → PressedOn file t words log answers key (Err r) words' log' answers'
      → Keyed file records words log answers key (Err r) records words' log' answers'
  joined_refused t r words' log' answers' held filled l =
      over t held filled (Err r) records words' log' answers' l
      (sym (ap (λ (ps : List Process). laid t.held ps records) filled ∙ laid_same records blank t.held (omega arith)))
