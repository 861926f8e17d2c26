-- What refusal 12 says of a byte, by the ranges of its high four bits that the code's match has.
use mathlib.Core.Path.{◌≡◌, refl}
use mathlib.Core.Bool.{true, not}
use Prim.Native.Nat.{ℕ, zero, suc, ◌≤◌, ◌<◌}
use native.Mathlib.Omega.{arith}
use lib.Dec.{leb, eqb}
use borrow.Author.Tests.{ne_eqb}
use Rattle.runfile.specs.Actions.{action_of}
use Rattle.runfile.specs.Refusals.{bad_action}

module _ (processes low : ℕ) where
  -- step, crash, wake
  pub names_one : (high : ℕ) → high < 3 → bad_action processes low (action_of high) ≡ leb processes low
  names_one zero h = refl
  names_one (suc zero) h = refl
  names_one (suc (suc zero)) h = refl
  names_one (suc (suc (suc n))) h = absurd (omega arith)

  pub no_action : (high : ℕ) → 3 ≤ high → high < 15 → bad_action processes low (action_of high) ≡ true
  no_action high a b = simp (ne_eqb high 0 (λ e. omega arith), ne_eqb high 1 (λ e. omega arith), ne_eqb high 2 (λ e. omega arith), ne_eqb high 15 (λ e. omega arith))

  -- crash of all
  pub names_all : (high : ℕ) → 15 ≤ high → high < 16 → bad_action processes low (action_of high) ≡ not (eqb low 0)
  names_all high a b = let e : high ≡ 15 = omega arith in rw e
