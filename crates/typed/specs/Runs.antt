-- Digits that stand together: two are a byte, and a run of 2n is n bytes. By induction on n.
use Rattle.std.specs.Prelude.{ℕ, zero, suc, ◌+◌, ◌≤◌, ◌<◌, ◌≡◌, refl, true, List, [], ◌∷◌, length, Ok}
use Rattle.std.proofs.Common.{ap, ◌∙◌, arith, lt-ltb}
use Rattle.typed.specs.declared.chars.Class.TheVariants.{Digit}
use Rattle.typed.specs.declared.scan.State.TheVariants.{Between}
use Rattle.typed.specs.Chars.{class_digit, is_digit, class_of, byte_of}
use Rattle.typed.specs.Reading.{byte, act, reading, bytes_in, checked}
use Rattle.typed.specs.Promises.{told, typed_of, bytes_of}

abbrev pub Digits : List ℕ → Type 0
Digits [] = Unit
Digits (c ∷ cs) = (is_digit c ≡ true) × Digits cs

-- two by two
abbrev pub pairs : List ℕ → List ℕ
pairs [] = []
pairs (a ∷ []) = []
pairs (a ∷ b ∷ cs) = byte_of a b ∷ pairs cs

-- two digits are a byte, whatever stands after them
pub two-read : (at a b : ℕ) (cs : List ℕ) → class_of a ≡ Digit → class_of b ≡ Digit → reading Between at (a ∷ b ∷ cs) ≡ byte (byte_of a b) at (reading Between (suc (suc at)) cs)
unfolding reading act
two-read at a b cs p q = rw (p, q)

run_bytes : (n at : ℕ) (ds : List ℕ) → length ds ≡ n + n → Digits ds → bytes_in (reading Between at ds) ≡ pairs ds
unfolding reading
run_bytes n at [] e d = refl
run_bytes zero at (a ∷ ds) e d = absurd (omega arith)
run_bytes (suc n) at (a ∷ []) e d = absurd (omega arith)
run_bytes (suc n) at (a ∷ b ∷ ds) e d =
    rw (two-read at a b ds (class_digit a d.0) (class_digit b d.1.0)) (ap (λ r. byte_of a b ∷ r) (run_bytes n (suc (suc at)) ds (omega arith) d.1.1))

run_good : (n at k room : ℕ) (ds : List ℕ) → length ds ≡ n + n → Digits ds → k + n ≤ room → checked room k (reading Between at ds) ≡ Ok (k + n)
unfolding reading
run_good zero at k room [] e d h = ap Ok (omega arith)
run_good (suc n) at k room [] e d h = absurd (omega arith)
run_good zero at k room (a ∷ ds) e d h = absurd (omega arith)
run_good (suc n) at k room (a ∷ []) e d h = absurd (omega arith)
run_good (suc n) at k room (a ∷ b ∷ ds) e d h =
    let fits : k < room = omega arith in
    let same : suc k + n ≡ k + suc n = omega arith in
    rw (two-read at a b ds (class_digit a d.0) (class_digit b d.1.0), lt-ltb k room fits, ← same) (run_good n (suc (suc at)) (suc k) room ds (omega arith) d.1.1 (omega arith))

-- a run of 2n digits is n bytes, where there is room for them
pub run_of_digits : (n : ℕ) (ds : List ℕ) (room : ℕ) → length ds ≡ n + n → Digits ds → n ≤ room → (typed_of ds room ≡ Ok n) × (bytes_of ds ≡ pairs ds)
run_of_digits n ds room e d h =
    (ap (told ds) (run_good n 0 0 room ds e d (omega arith)) ∙ ap Ok (omega arith), run_bytes n 0 ds e d)
