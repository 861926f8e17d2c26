-- The sum over lent buffers: for each number x it becomes (sum * 1,000,003 + x) mod 4,294,967,291, the largest prime below 2^32.
use Rattle.std.specs.Prelude.{◌≡◌, ℕ, ◌+◌, ◌*◌, ◌/◌, ◌%◌, List, [], ◌∷◌}
use Rattle.std.proofs.Common.{sym, ◌∙◌}

abbrev pub factor : ℕ
factor = 1000003

abbrev pub modulus : ℕ
modulus = 4294967291

-- the sum after one number more
unfoldable pub taken : ℕ → ℕ → ℕ
taken sum x = (sum * factor + x) % modulus

unfoldable pub sum_from : ℕ → List ℕ → ℕ
sum_from sum [] = sum
sum_from sum (x ∷ xs) = sum_from (taken sum x) xs

-- `sum_over(before, buffer)`. Below the modulus, as every sum is, `before` is its own remainder.
abbrev pub sum_over : ℕ → List ℕ → ℕ
sum_over before xs = sum_from (before % modulus) xs

abbrev pub Summed : (before : ℕ) (xs : List ℕ) (r : ℕ) → Type 0
Summed before xs r = r ≡ sum_over before xs

pub summed_one : (before : ℕ) (xs : List ℕ) (r q : ℕ) → Summed before xs r → Summed before xs q → r ≡ q
summed_one before xs r q a b = a ∙ sym b

-- Of a buffer of words, which are numbers of 64 bits: each is two numbers in the sum, its low 32 bits and then its high 32 bits.
abbrev pub half : ℕ
half = 4294967296

unfoldable pub halves : List ℕ → List ℕ
halves [] = []
halves (w ∷ ws) = w % half ∷ w / half ∷ halves ws

-- `sum_over_words(before, buffer)`
abbrev pub SummedWords : (before : ℕ) (ws : List ℕ) (r : ℕ) → Type 0
SummedWords before ws r = Summed before (halves ws) r
