-- Several numbers at once: each is weighed by the power of the factor that is still to come behind it.
use Rattle.std.specs.Prelude.{◌≡◌, ℕ, zero, suc, ◌+◌, ◌*◌, ◌%◌, ◌<◌, List, [], ◌∷◌, length}
use Rattle.sweep.specs.Sum.{factor, modulus}

-- a power of the factor, by the modulus
unfoldable pub power : ℕ → ℕ
power zero = 1
power (suc n) = power n * factor % modulus

unfoldable pub weighed : List ℕ → ℕ
weighed [] = 0
weighed (x ∷ xs) = x * power (length xs) + weighed xs

-- `weight_of(block)`: what the numbers of a block weigh, up to the modulus, and small enough to be added to a product
abbrev pub Weighs : (xs : List ℕ) (r : ℕ) → Type 0
Weighs xs r = (r % modulus ≡ weighed xs % modulus) × (r < 3 * modulus)
