-- The laws of words, each stated and proved once, over the width b of the value: a caller gives `width`.
use Rattle.std.specs.Prelude.{◌≡◌, ℕ, ◌+◌, ◌*◌, ◌/◌, ◌%◌, ◌^◌, ◌<◌, Bool, true, false, not, ◌==◌, ◌≢◌, nat_eq, refl}
use Rattle.std.proofs.Math.Path.{sym, ap, ap₂}
use Rattle.std.proofs.Common.{◌∙◌, shr-shr, pow_pos, eqb-true}
use Rattle.std.proofs.Math.Pow.{high, low, split}
use Rattle.std.proofs.Math.Nat.{mod-lt, mod-eq_of_lt}
use Rattle.std.proofs.lemmas.Bool.{eqb-false}
use Rattle.word.specs.Word.{value_in, flips_in, bit_in, swapped_in, bit_of, turn_of}
use Rattle.word.specs.Bits.{bit_turn_same, bit_turn_other, bit_of-div, bits_one}

-- What a swap of n into the word w by process p comes to (R114): new is put in, the own flip bit is turned, and the flip bit of every other
-- process, present or absent, is as it was (R17).
pub record AfterSwap (b p n w x : ℕ) : Type 0 where
  pub value : value_in b x ≡ n
  pub own : bit_in b p x ≡ not (bit_in b p w)
  pub others : (q : ℕ) → (q ≢ p) → bit_in b q x ≡ bit_in b q w

module _ (b : ℕ) where
  pub value-fits : (w : ℕ) → value_in b w < 2 ^ b
  unfolding value_in
  value-fits w = mod-lt w (pow_pos b)

  -- a value is its own value
  pub value_own : (w : ℕ) → value_in b (value_in b w) ≡ value_in b w
  unfolding value_in
  value_own w = mod-eq_of_lt (mod-lt w (pow_pos b))

  -- the flip bit of process p is bit b + p, counted in the whole word (R15)
  pub bit_stands : (p w : ℕ) → bit_in b p w ≡ bit_of (b + p) w
  unfolding bit_in flips_in
  bit_stands p w = bit_of-div p (w / 2 ^ b) ∙ ap (λ x. nat_eq (x % 2) 1) (shr-shr w b p) ∙ sym (bit_of-div (b + p) w)

  -- a word is its value and its flip bits: no two words have both the same
  pub word_one : (w x : ℕ) → value_in b w ≡ value_in b x → ((p : ℕ) → bit_in b p w ≡ bit_in b p x) → w ≡ x
  unfolding value_in bit_in flips_in
  word_one w x v e = sym (split w b) ∙ ap₂ (λ f r. f * 2 ^ b + r) (bits_one (w / 2 ^ b) (x / 2 ^ b) e) v ∙ split x b

  module _ (p n w : ℕ) where
    pub flips-swapped : n < 2 ^ b → flips_in b (swapped_in b p n w) ≡ turn_of p (flips_in b w)
    unfolding flips_in swapped_in
    flips-swapped h = high (turn_of p (w / 2 ^ b)) b h

    pub after_swap : n < 2 ^ b → AfterSwap b p n w (swapped_in b p n w)
    unfolding value_in bit_in swapped_in
    after_swap h = record {
      value = low (turn_of p (flips_in b w)) b h;
      own = ap (bit_of p) (flips-swapped h) ∙ bit_turn_same p (flips_in b w);
      others = λ q ne. ap (bit_of q) (flips-swapped h) ∙ bit_turn_other q p (flips_in b w) ne;
    }

    -- and no other word is what the swap comes to
    pub after_swap_one : (x y : ℕ) → AfterSwap b p n w x → AfterSwap b p n w y → x ≡ y
    after_swap_one x y s t = word_one x y (s.value ∙ sym t.value) (λ q. go q (q == p) refl)
      where
        go : (q : ℕ) (c : Bool) → (q == p) ≡ c → bit_in b q x ≡ bit_in b q y
        go q true e = rw (eqb-true q p e) (s.own ∙ sym t.own)
        go q false e = s.others q (eqb-false q p e) ∙ sym (t.others q (eqb-false q p e))
