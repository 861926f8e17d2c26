-- A buffer of which i places are filled: what goes on from there with the next number (`behind`) is the same before and after a turn.
use Rattle.std.specs.Prelude.{◌≡◌, ℕ, zero, suc, ◌<◌, ◌≤◌, List, [], ◌∷◌, length, set, refl}
use Rattle.std.proofs.Common.{ap, arith}
use Rattle.sweep.specs.Filled.{filled}

-- the first i places as they are, the others filled
unfoldable pub behind : {A : Type 0} → (A → A) → ℕ → A → List A → List A
behind next zero n xs = filled next n xs
behind next (suc i) n [] = []
behind next (suc i) n (x ∷ xs) = x ∷ behind next i n xs

-- before the first turn none is
pub none_yet : {A : Type 0} (next : A → A) (n : A) (xs : List A) → behind next 0 n xs ≡ filled next n xs
unfolding behind
none_yet next n xs = refl

pub turn : {A : Type 0} (next : A → A) (i : ℕ) (n : A) (xs : List A) → i < length xs → behind next (suc i) (next n) (set xs i n) ≡ behind next i n xs
unfolding behind filled
turn next zero n [] h = absurd (omega arith)
turn next zero n (x ∷ xs) h = refl
turn next (suc i) n [] h = absurd (omega arith)
turn next (suc i) n (x ∷ xs) h = ap (λ ys. x ∷ ys) (turn next i n xs (omega arith))

-- behind the last turn all are
pub all_filled : {A : Type 0} (next : A → A) (i : ℕ) (n : A) (xs : List A) → length xs ≤ i → behind next i n xs ≡ xs
unfolding behind filled
all_filled next zero n [] h = refl
all_filled next zero n (x ∷ xs) h = absurd (omega arith)
all_filled next (suc i) n [] h = refl
all_filled next (suc i) n (x ∷ xs) h = ap (λ ys. x ∷ ys) (all_filled next i n xs (omega arith))
