-- A word of one width taken over to another: its value stays, and its flip bits move up to where the wider value ends. Whatever is read of it, and
-- whatever a swap makes of it, is then the same; so a file of the narrower width runs at the wider one as it ran.
use Rattle.std.specs.Prelude.{◌≡◌, ℕ, ◌+◌, ◌*◌, ◌/◌, ◌%◌, ◌^◌, ◌<◌, ◌≤◌, Bool, true, false, ◌==◌, refl}
use Rattle.std.proofs.Math.Path.{sym, ap, ap₂}
use Rattle.std.proofs.Common.{◌∙◌, arith, mod-eq_of_lt, zero-mul, pow_mono, pow_pos, eqb-true, eq-eqb, ne_eqb}
use Rattle.std.proofs.Math.Nat.{div-eq_of_lt}
use Rattle.std.proofs.Math.Pow.{high, low, split}
use Rattle.std.proofs.lemmas.Bool.{eqb-false}
use Rattle.word.specs.Word.{value_in, flips_in, bit_in, swapped_in, bit_of, turn_of}
use Rattle.word.specs.Laws.{value-fits, flips-swapped, after_swap}

-- the word w, whose value has a bits, as a word whose value has b
unfoldable pub rewidened : (a b w : ℕ) → ℕ
rewidened a b w = flips_in a w * 2 ^ b + value_in a w

module _ (a b : ℕ) (wider : a ≤ b) where
  fits_wider : (n : ℕ) → n < 2 ^ a → n < 2 ^ b
  fits_wider n h = let g : 2 ^ a ≤ 2 ^ b = pow_mono wider in omega arith

  -- the sum of the flip bits at their new place and the value: its value and its flip bits, and no two words make one sum
  value-sum : (w : ℕ) → value_in b (flips_in a w * 2 ^ b + value_in a w) ≡ value_in a w
  unfolding value_in
  value-sum w = low (flips_in a w) b (fits_wider (w % 2 ^ a) (value-fits a w))

  flips-sum : (w : ℕ) → flips_in b (flips_in a w * 2 ^ b + value_in a w) ≡ flips_in a w
  unfolding flips_in
  flips-sum w = high (w / 2 ^ a) b (fits_wider (value_in a w) (value-fits a w))

  sum_one : (w x : ℕ) → flips_in a w * 2 ^ b + value_in a w ≡ flips_in a x * 2 ^ b + value_in a x → w ≡ x
  unfolding value_in flips_in
  sum_one w x e =
      let v : value_in a w ≡ value_in a x = sym (value-sum w) ∙ ap (value_in b) e ∙ value-sum x in
      let f : flips_in a w ≡ flips_in a x = sym (flips-sum w) ∙ ap (flips_in b) e ∙ flips-sum x in
      sym (split w a) ∙ ap₂ (λ f v. f * 2 ^ a + v) f v ∙ split x a

  pub value-rewidened : (w : ℕ) → value_in b (rewidened a b w) ≡ value_in a w
  unfolding rewidened
  value-rewidened w = value-sum w

  pub flips-rewidened : (w : ℕ) → flips_in b (rewidened a b w) ≡ flips_in a w
  unfolding rewidened
  flips-rewidened w = flips-sum w

  pub bit-rewidened : (p w : ℕ) → bit_in b p (rewidened a b w) ≡ bit_in a p w
  unfolding rewidened bit_in
  bit-rewidened p w = ap (bit_of p) (flips-sum w)

  -- a swap of what fits in the narrower value
  pub swapped-rewidened : (p n w : ℕ) → n < 2 ^ a → rewidened a b (swapped_in a p n w) ≡ swapped_in b p n (rewidened a b w)
  unfolding rewidened swapped_in
  swapped-rewidened p n w h =
      ap₂ (λ f v. f * 2 ^ b + v) (flips-swapped a p n w h) (after_swap a p n w h).value ∙ ap (λ f. turn_of p f * 2 ^ b + n) (sym (flips-sum w))

  -- no two words become one
  pub rewidened_one : (w x : ℕ) → rewidened a b w ≡ rewidened a b x → w ≡ x
  unfolding rewidened
  rewidened_one w x e = sum_one w x e

  -- so "still as read" (A4) is the same at both widths
  pub same-rewidened : (w x : ℕ) → (rewidened a b w == rewidened a b x) ≡ (w == x)
  unfolding rewidened
  same-rewidened w x = go (w == x) refl
    where
      go : (c : Bool) → (w == x) ≡ c → (rewidened a b w == rewidened a b x) ≡ c
      go true q = eq-eqb _ _ (ap (rewidened a b) (eqb-true w x q))
      go false q = ne_eqb _ _ (λ e. eqb-false w x q (sum_one w x e))

-- the word 0, which stands for a word not yet read
pub zero_rewidened : (a b : ℕ) → rewidened a b 0 ≡ 0
unfolding rewidened value_in flips_in
zero_rewidened a b = rw (div-eq_of_lt (pow_pos a), mod-eq_of_lt (pow_pos a), zero-mul (2 ^ b))
