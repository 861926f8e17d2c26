-- What a row answers on plain words is what the machine says for it, also where it goes by what A2 kept: by the kinds.
use Rattle.std.specs.Prelude.{ℕ, Bool, eqb, Some, None}
use Rattle.std.proofs.Math.Path.{◌≡◌, refl, ap}
use Rattle.std.proofs.Common.{sym, ◌∙◌, true≢false}
use Rattle.std.proofs.Math.Bool.{true, false, cond}
use native.Mathlib.Omega.{arith}
use borrow.Author.Tests.{eq-eqb, ne_eqb}
use Rattle.runfile.specs.declared.Row.{Row}
use Rattle.runfile.specs.declared.Kind.{Kind}
use Rattle.runfile.specs.declared.Kind.TheVariants.{Read, Compare, Advance}
use Rattle.runfile.specs.Kinds.{kind_of}
use Rattle.rows.specs.Entries.{Said, is_swapped}
use Rattle.machine.specs.declared.Answer.TheVariants.{False, Value}
use Rattle.machine.specs.declared.Kept.{Kept}
use Rattle.machine.specs.Steps.{spoken, kept_by, swap_says}
use Rattle.machine.specs.KindLaws.{says-swapped}
use Rattle.replay.specs.Plain.{answer_by, answer_of}
use Rattle.replay.specs.Replay.{GoesOn, answer_swapped}

module _ (row : Row) (v : ℕ) where
  -- where it swaps, what the swap says
  pub answer_swap : GoesOn (kind_of row) row.old v → answer_of row v ≡ spoken (Some (swap_says (kind_of row) v))
  unfolding answer_of spoken
  answer_swap = go (kind_of row)
    where
      go : (kind : Kind) → GoesOn kind row.old v → answer_by kind row.old v ≡ spoken (Some (swap_says kind v))
      go Read h = absurd h
      go Compare h = rw (eq-eqb v row.old h)
      go Advance h = refl

  pub answer_other : kind_of row ≡ Compare → (v ≡ row.old → ⊥) → answer_of row v ≡ spoken (Some False)
  unfolding answer_of spoken
  answer_other h e = rw (h, ne_eqb v row.old e)

  pub answer_read : kind_of row ≡ Read → answer_of row v ≡ spoken (Some (Value v))
  unfolding answer_of spoken
  answer_read h = rw h

  -- where it tells of a successful swap, it is what the swap says
  pub answer_says : is_swapped (answer_of row v) ≡ true → answer_of row v ≡ spoken (Some (swap_says (kind_of row) v))
  answer_says h = answer_swap (answer_swapped row v h)

  -- an answer false is given at a value that is not old
  pub answer_false : spoken (Some False) ≡ answer_of row v → eqb v row.old ≡ false
  unfolding answer_of spoken
  answer_false = go (kind_of row)
    where
      met : (d : Bool) → record { verdict = 0; value = 0 } ≡ cond {A = Said} d (record { verdict = 1; value = 0 }) (record { verdict = 0; value = 0 }) → d ≡ false
      met true h = absurd (let z : ◌≡◌ {A = ℕ} 0 1 = ap (λ a. a.verdict) h in omega arith)
      met false h = refl

      go : (kind : Kind) → record { verdict = 0; value = 0 } ≡ answer_by kind row.old v → eqb v row.old ≡ false
      go Read h = absurd (let z : ◌≡◌ {A = ℕ} 0 3 = ap (λ a. a.verdict) h in omega arith)
      go Compare h = met (eqb v row.old) h
      go Advance h = absurd (let z : ◌≡◌ {A = ℕ} 0 4 = ap (λ a. a.verdict) h in omega arith)

  -- no row answers fail
  pub answer_never : spoken None ≡ answer_of row v → ⊥
  unfolding answer_of spoken
  answer_never = go (kind_of row)
    where
      met : (d : Bool) → record { verdict = 2; value = 0 } ≡ cond {A = Said} d (record { verdict = 1; value = 0 }) (record { verdict = 0; value = 0 }) → ⊥
      met true h = let z : ◌≡◌ {A = ℕ} 2 1 = ap (λ a. a.verdict) h in omega arith
      met false h = let z : ◌≡◌ {A = ℕ} 2 0 = ap (λ a. a.verdict) h in omega arith

      go : (kind : Kind) → record { verdict = 2; value = 0 } ≡ answer_by kind row.old v → ⊥
      go Read h = let z : ◌≡◌ {A = ℕ} 2 3 = ap (λ a. a.verdict) h in omega arith
      go Compare h = met (eqb v row.old) h
      go Advance h = let z : ◌≡◌ {A = ℕ} 2 4 = ap (λ a. a.verdict) h in omega arith

-- what the swap is to say of the value read, A2 has kept (R112): of an advance the value, and any other says the same of every value
pub kept_says : (kind : Kind) (before : Kept) (bit : Bool) (v : ℕ) → swap_says kind (kept_by kind before bit v).value ≡ swap_says kind v
kept_says Read before bit v = refl
kept_says Compare before bit v = refl
kept_says Advance before bit v = refl

-- no swap says false
pub says_not_false : (kind : Kind) (v : ℕ) → Some False ≡ Some (swap_says kind v) → ⊥
unfolding is_swapped spoken
says_not_false kind v e = true≢false (sym (says-swapped kind v) ∙ ap (λ m. is_swapped (spoken m)) (sym e))
