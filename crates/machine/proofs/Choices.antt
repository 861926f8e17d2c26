-- Recovery goes by the own bit: V3 leads to one of two stages, and two words with the same own bit lead to the same. By cases of whether the own bit is
-- the kept bit.
use Rattle.std.specs.Prelude.{ℕ, ◌≡◌, Bool, ◌⊎◌, Option}
use Rattle.std.proofs.Math.Path.{refl}
use Rattle.std.proofs.Common.{sym, ◌∙◌, true≢false, inl, inr, ⊎_elim}
use Rattle.std.proofs.Math.Bool.{true, false}
use Rattle.runfile.specs.declared.Row.{Row}
use Rattle.word.specs.Word.{bit}
use Rattle.machine.specs.declared.Answer.{Answer}
use Rattle.machine.specs.declared.Process.{Process}
use Rattle.machine.specs.declared.Stage.{Stage}
use Rattle.machine.specs.declared.Stage.TheVariants.{V3, V4, V6}
use Rattle.machine.specs.Steps.{decide}
use Rattle.machine.specs.Choices.{LeadsTo, v3_same, v3_other}

same_or_not : (b c : Bool) → (b ≡ c) ⊎ (b ≡ c → ⊥)
same_or_not true true = inl refl
same_or_not true false = inr true≢false
same_or_not false true = inr (λ e. true≢false (sym e))
same_or_not false false = inl refl

-- at whatever row, with whatever in hand
module _ (row : Row) (p t now : ℕ) (r : Process) (seen read_at tried_at : ℕ) (answer : Option Answer) where
  -- and there is no third way
  pub v3_either : LeadsTo r V4 (decide row p t now r V3 seen read_at tried_at answer) ⊎ LeadsTo r V6 (decide row p t now r V3 seen read_at tried_at answer)
  v3_either = ⊎_elim (λ same. inl (v3_same row p t now r seen read_at tried_at answer same)) (λ n. inr (v3_other row p t now r seen read_at tried_at answer n)) (same_or_not (bit p now) r.kept.bit)

-- So two words with the same own bit lead to the same stage, whatever their values and other bits, at whatever rows and positions, for whatever two
-- records with the same kept bit
pub by_own_bit : (p : ℕ) (row row' : Row) (t t' now now' : ℕ) (r r' : Process) (seen read_at tried_at seen' read_at' tried_at' : ℕ) (answer answer' : Option Answer)
    → r.kept.bit ≡ r'.kept.bit → bit p now ≡ bit p now'
    → (stage : Stage) × (LeadsTo r stage (decide row p t now r V3 seen read_at tried_at answer) × LeadsTo r' stage (decide row' p t' now' r' V3 seen' read_at' tried_at' answer'))
by_own_bit p row row' t t' now now' r r' seen read_at tried_at seen' read_at' tried_at' answer answer' k e =
    ⊎_elim
    (λ same. (V4, (v3_same row p t now r seen read_at tried_at answer same, v3_same row' p t' now' r' seen' read_at' tried_at' answer' (sym e ∙ same ∙ k))))
    (λ n. (V6, (v3_other row p t now r seen read_at tried_at answer n, v3_other row' p t' now' r' seen' read_at' tried_at' answer' (λ y. n (e ∙ y ∙ sym k)))))
    (same_or_not (bit p now) r.kept.bit)
