-- What stands in a lent buffer before a run: numbers that go up by one, from a first one on.
use Rattle.std.specs.Prelude.{◌≡◌, ℕ, ◌+◌, ◌%◌, List, [], ◌∷◌}
use Rattle.std.proofs.Common.{sym, ◌∙◌}

-- the number that is greater by one, of 32 bits and of 64; after the greatest comes 0
abbrev pub next_of_32 : ℕ → ℕ
next_of_32 n = (n + 1) % 4294967296

abbrev pub next_of_64 : ℕ → ℕ
next_of_64 n = (n + 1) % 18446744073709551616

-- a buffer in whose places stand the first number, the next, the next after that
unfoldable pub filled : {A : Type 0} → (A → A) → A → List A → List A
filled next first [] = []
filled next first (x ∷ xs) = first ∷ filled next (next first) xs

-- `fill(buffer, first)`
abbrev pub Filled : {A : Type 0} (next : A → A) (first : A) (xs ys : List A) → Type 0
Filled next first xs ys = ys ≡ filled next first xs

pub filled_one : {A : Type 0} (next : A → A) (first : A) (xs ys zs : List A) → Filled next first xs ys → Filled next first xs zs → ys ≡ zs
filled_one next first xs ys zs a b = a ∙ sym b
