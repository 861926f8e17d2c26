-- Laws of `first_found`, which gives the first offender (R33): a search that found nothing passed nothing, and one that found a place
-- found it at the first number that has one (`earliest`), the same both ways. By induction on the numbers left.
use Rattle.std.specs.Prelude.{ℕ, zero, suc, ◌+◌, ◌≤◌, ◌<◌, ◌≡◌, refl, Bool, true, false, ltb, Option, Some, None}
use Rattle.std.proofs.Common.{◌∙◌, arith, ltb-true, ltb-false}
use Rattle.runfile.specs.Refusals.{or_later, first_found, found_if}

-- what one test finds
pub not_found : (t : Bool) (place : ℕ) → found_if t place ≡ None → t ≡ false
not_found true place e = absurd (let z : ◌≡◌ {A = ℕ} 0 1 = cc in omega arith)
not_found false place e = refl

pub is_found : (t : Bool) (place at : ℕ) → found_if t place ≡ Some at → (t ≡ true) × (at ≡ place)
is_found true place at e = (refl, cc)
is_found false place at e = absurd (let z : ◌≡◌ {A = ℕ} 0 1 = cc in omega arith)

-- the first number at which something is found, and its place
pub record Earliest (finds : ℕ → Option ℕ) (from n at : ℕ) : Type 0 where
  pub which : ℕ
  pub after : from ≤ which
  pub within : which < from + n
  pub found : finds which ≡ Some at
  pub none_before : (j : ℕ) → from ≤ j → j < which → finds j ≡ None

module _ (finds : ℕ → Option ℕ) where
  pub none_found : (k n : ℕ) → first_found finds k n ≡ None → (j : ℕ) → k ≤ j → j < k + n → finds j ≡ None
  none_found k zero e j a b = absurd (omega arith)
  none_found k (suc n) e j a b = go (finds k) refl e (none_found (suc k) n) (ltb k j) refl
    where
      go : (t : Option ℕ) → finds k ≡ t → or_later t (first_found finds (suc k) n) ≡ None
          → (first_found finds (suc k) n ≡ None → (j : ℕ) → suc k ≤ j → j < suc k + n → finds j ≡ None)
          → (later : Bool) → ltb k j ≡ later → finds j ≡ None
      go (Some place) q e more later l = absurd (let y : ◌≡◌ {A = ℕ} 0 1 = cc in omega arith)
      go None q e more true l = more e j (let h = ltb-true k j l in omega arith) (omega arith)
      go None q e more false l = let same : j ≡ k = (let h = ltb-false k j l in omega arith) in rw same q

  pub found_none : (k n : ℕ) → ((j : ℕ) → k ≤ j → j < k + n → finds j ≡ None) → first_found finds k n ≡ None
  found_none k zero c = refl
  found_none k (suc n) c = rw (c k (omega arith) (omega arith)) (found_none (suc k) n (λ j a b. c j (omega arith) (omega arith)))

  pub earliest : (k n at : ℕ) → first_found finds k n ≡ Some at → Earliest finds k n at
  earliest k zero at e = absurd (let z : ◌≡◌ {A = ℕ} 0 1 = cc in omega arith)
  earliest k (suc n) at e = go (finds k) refl (earliest (suc k) n at) e
    where
      earlier : (m : Earliest finds (suc k) n at) → finds k ≡ None → (j : ℕ) → k ≤ j → j < m.which → (later : Bool) → ltb k j ≡ later → finds j ≡ None
      earlier m q j a b true l = m.none_before j (let h = ltb-true k j l in omega arith) b
      earlier m q j a b false l = let same : j ≡ k = (let h = ltb-false k j l in omega arith) in rw same q

      go : (t : Option ℕ) → finds k ≡ t → (first_found finds (suc k) n ≡ Some at → Earliest finds (suc k) n at) → or_later t (first_found finds (suc k) n) ≡ Some at → Earliest finds k (suc n) at
      go (Some place) q more e = record { which = k; after = omega arith; within = omega arith; found = q ∙ e; none_before = λ j a b. absurd (omega arith) }
      go None q more e =
          let m = more e in
          let a = m.after in
          let w = m.within in
          record { which = m.which; after = omega arith; within = omega arith; found = m.found; none_before = λ j a b. earlier m q j a b (ltb k j) refl }

  pub found_earliest : (k n at : ℕ) → Earliest finds k n at → first_found finds k n ≡ Some at
  found_earliest k zero at m = absurd (let a = m.after in let w = m.within in omega arith)
  found_earliest k (suc n) at m = go (found_earliest (suc k) n at) (ltb k m.which) refl
    where
      go : (Earliest finds (suc k) n at → first_found finds (suc k) n ≡ Some at) → (later : Bool) → ltb k m.which ≡ later → or_later (finds k) (first_found finds (suc k) n) ≡ Some at
      go more true l =
          let h = ltb-true k m.which l in
          let w = m.within in
          rw (m.none_before k (omega arith) h) (more (record { which = m.which; after = omega arith; within = omega arith; found = m.found; none_before = λ j a b. m.none_before j (omega arith) b }))
      go more false l =
          let same : k ≡ m.which = (let h = ltb-false k m.which l in let a = m.after in omega arith) in
          let here : finds k ≡ Some at = rw same m.found in
          rw here refl
