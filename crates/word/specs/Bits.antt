-- Laws of the bits of a number: what turning one does to it and to the others, and that the bits make the number.
use Rattle.std.specs.Prelude.{◌≡◌, ℕ, zero, suc, ◌+◌, ◌-◌, ◌*◌, ◌/◌, ◌%◌, ◌^◌, ◌<◌, ◌≤◌, Bool, true, false, not, ◌==◌, ◌≢◌, nat_eq, refl}
use Rattle.std.proofs.Common.{sym, ◌∙◌, ap, arith, div-one, mul_comm, pow-suc, eqb-true}
use Rattle.std.proofs.Math.Nat.{div-div-eq-div-mul}
use Rattle.std.proofs.lemmas.Bool.{eqb-false}
use Rattle.word.specs.Word.{bit_of, turn_of}

-- a number's half and its lowest bit, c
half_of : (x c : ℕ) → c < 2 → (2 * x + c) / 2 ≡ x
half_of x c h = omega arith

lowest_of : (x c : ℕ) → c < 2 → (2 * x + c) % 2 ≡ c
lowest_of x c h = omega arith

lowest : (h : ℕ) → h % 2 < 2
lowest h = omega arith

turned : (h : ℕ) → 1 - h % 2 < 2
turned h = omega arith

turned_is : (c : ℕ) → c < 2 → (1 - c == 1) ≡ not (c == 1)
turned_is zero h = refl
turned_is (suc zero) h = refl
turned_is (suc (suc c)) h = absurd (omega arith)

pub bit_turn_same : (p h : ℕ) → bit_of p (turn_of p h) ≡ not (bit_of p h)
unfolding bit_of turn_of
bit_turn_same zero h = rw (lowest_of (h / 2) (1 - h % 2) (turned h)) (turned_is (h % 2) (lowest h))
bit_turn_same (suc p) h = rw (half_of (turn_of p (h / 2)) (h % 2) (lowest h)) (bit_turn_same p (h / 2))

pub bit_turn_other : (q p h : ℕ) → (q ≢ p) → bit_of q (turn_of p h) ≡ bit_of q h
unfolding bit_of turn_of
bit_turn_other zero zero h n = absurd (n refl)
bit_turn_other zero (suc p) h n = rw (lowest_of (turn_of p (h / 2)) (h % 2) (lowest h))
bit_turn_other (suc q) zero h n = rw (half_of (h / 2) (1 - h % 2) (turned h))
bit_turn_other (suc q) (suc p) h n = rw (half_of (turn_of p (h / 2)) (h % 2) (lowest h)) (bit_turn_other q p (h / 2) (λ e. n (ap suc e)))

-- bit p by division, as a shift reads it
pub bit_of-div : (p h : ℕ) → bit_of p h ≡ (h / 2 ^ p % 2 == 1)
unfolding bit_of
bit_of-div zero h = rw (div-one h)
bit_of-div (suc p) h =
    bit_of-div p (h / 2)
    ∙ ap (λ x. nat_eq (x % 2) 1) (div-div-eq-div-mul h 2 (2 ^ p) ∙ ap (λ x. h / x) (mul_comm 2 (2 ^ p) ∙ sym (pow-suc 2 p)))

-- two numbers with the same bits are one: n only bounds the halving
same_lowest : (a b : ℕ) → a < 2 → b < 2 → (a == 1) ≡ (b == 1) → a ≡ b
same_lowest a b h k e = go (b == 1) refl
  where
    go : (c : Bool) → (b == 1) ≡ c → a ≡ b
    go true q = eqb-true a 1 (e ∙ q) ∙ sym (eqb-true b 1 q)
    go false q = omega (arith, eqb-false a 1 (e ∙ q), eqb-false b 1 q)

below : (n g h : ℕ) → g ≤ n → h ≤ n → ((p : ℕ) → bit_of p g ≡ bit_of p h) → g ≡ h
unfolding bit_of
below zero g h a b e = omega arith
below (suc n) g h a b e =
    let low : g % 2 ≡ h % 2 = same_lowest (g % 2) (h % 2) (lowest g) (lowest h) (e 0) in
    let up : g / 2 ≡ h / 2 = below n (g / 2) (h / 2) (omega arith) (omega arith) (λ p. e (suc p)) in
    omega arith

pub bits_one : (g h : ℕ) → ((p : ℕ) → bit_of p g ≡ bit_of p h) → g ≡ h
bits_one g h e = below (g + h) g h (omega arith) (omega arith) e
