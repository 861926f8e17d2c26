-- The word after a swap as the code computes it: the own bit is turned by an exclusive or, and the value is taken out and new put in.
use Rattle.std.proofs.Common.{◌≡◌, ℕ, zero, suc, ◌+◌, ◌-◌, ◌*◌, ◌/◌, ◌%◌, ◌^◌, ◌<◌, refl, ap, ◌∙◌, mul_comm, one-mul, arith, pow-add}
use lib.Pow.{split, shl-shr}
use lib.Bits.{bit_xor, differ, xor_step, xor_zero_r, xor_shr, shifted_half, shifted_even}
use Rattle.word.specs.Word.{turn_of, value_in, flips_in, swapped_in}

-- the lowest bit against 0 and against 1
differ_zero : (c : ℕ) → differ c 0 ≡ c
differ_zero zero = refl
differ_zero (suc c) = refl

differ_one : (c : ℕ) → c < 2 → differ c 1 ≡ 1 - c
differ_one zero h = refl
differ_one (suc zero) h = refl
differ_one (suc (suc c)) h = absurd (omega arith)

pub turn_xor : (p h : ℕ) → bit_xor h (2 ^ p) ≡ turn_of p h
unfolding turn_of
turn_xor zero h = xor_step h 1 ∙ rw (xor_zero_r (h / 2), differ_one (h % 2) (omega arith)) (omega arith)
turn_xor (suc p) h =
    let half : 2 ^ suc p / 2 ≡ 2 ^ p = rw (one-mul (2 ^ suc p), one-mul (2 ^ p)) at (shifted_half 1 p) in
    let even : 2 ^ suc p % 2 ≡ 0 = rw (one-mul (2 ^ suc p)) at (shifted_even 1 p) in
    xor_step h (2 ^ suc p) ∙ rw (half, even, turn_xor p (h / 2), differ_zero (h % 2)) (omega arith)

module _ (b p w : ℕ) where
  -- turning bit b + p of a word turns bit p of those above its value
  flips_turned : flips_in b (bit_xor w (2 ^ (b + p))) ≡ turn_of p (flips_in b w)
  unfolding flips_in
  flips_turned =
      let own : 2 ^ (b + p) / 2 ^ b ≡ 2 ^ p = rw (pow-add 2 b p, mul_comm (2 ^ b) (2 ^ p)) (shl-shr (2 ^ p) b) in
      xor_shr w (2 ^ (b + p)) b ∙ ap (bit_xor (w / 2 ^ b)) own ∙ turn_xor p (w / 2 ^ b)

  pub put_in : (n x v : ℕ) → x ≡ bit_xor w (2 ^ (b + p)) → v ≡ value_in b x → x - v + n ≡ swapped_in b p n w
  unfolding value_in swapped_in flips_in
  put_in n x v is taken =
      let above : x / 2 ^ b ≡ turn_of p (flips_in b w) = ap (flips_in b) is ∙ flips_turned in
      let apart : x / 2 ^ b * 2 ^ b + x % 2 ^ b ≡ x = split x b in
      rw (← above) (omega arith)
