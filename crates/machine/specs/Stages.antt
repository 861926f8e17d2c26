-- The stages and their numbers (R301): A1 to A6 are those of an operation, V1 to V6 those of recovery.
use Rattle.std.specs.Prelude.{ℕ, ◌<◌, ◌≡◌, refl, [], ◌∷◌, get_or}
use Rattle.std.proofs.Common.{sym, ap, ◌∙◌, arith}
use Rattle.machine.specs.declared.Stage.{Stage}
use Rattle.machine.specs.declared.Stage.TheVariants.{A1, A2, A3, A4, A5, A6, V1, V2, V3, V4, V5, V6}

abbrev pub stage_number : Stage → ℕ
stage_number A1 = 0
stage_number A2 = 1
stage_number A3 = 2
stage_number A4 = 3
stage_number A5 = 4
stage_number A6 = 5
stage_number V1 = 6
stage_number V2 = 7
stage_number V3 = 8
stage_number V4 = 9
stage_number V5 = 10
stage_number V6 = 11

abbrev pub stage_at : ℕ → Stage
stage_at n = get_or (A1 ∷ A2 ∷ A3 ∷ A4 ∷ A5 ∷ A6 ∷ V1 ∷ V2 ∷ V3 ∷ V4 ∷ V5 ∷ V6 ∷ []) n A1

-- a number names one stage
pub numbered : (stage : Stage) → (stage_at (stage_number stage) ≡ stage) × (stage_number stage < 12)
numbered A1 = (refl, omega arith)
numbered A2 = (refl, omega arith)
numbered A3 = (refl, omega arith)
numbered A4 = (refl, omega arith)
numbered A5 = (refl, omega arith)
numbered A6 = (refl, omega arith)
numbered V1 = (refl, omega arith)
numbered V2 = (refl, omega arith)
numbered V3 = (refl, omega arith)
numbered V4 = (refl, omega arith)
numbered V5 = (refl, omega arith)
numbered V6 = (refl, omega arith)

pub stage_of : (stage : Stage) (n : ℕ) → n ≡ stage_number stage → stage ≡ stage_at n
stage_of stage n e = sym (ap stage_at e ∙ (numbered stage).0)
