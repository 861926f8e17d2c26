-- A word is a number that holds a value and flip bits (R14, R15); layers above speak of it only through `value`, `flips`, `bit` and `swapped`,
-- and use the laws of `Laws`. Everything is defined over the width of the value, and `width` alone says what it is.
use Rattle.std.specs.Prelude.{ℕ, zero, suc, ◌+◌, ◌-◌, ◌*◌, ◌/◌, ◌%◌, ◌^◌, Bool, ◌==◌}

-- how many bits of a word are its value (R14)
abbrev pub width : ℕ
width = 32

-- bit p of a number, the lowest being bit 0; and the number with its bit p turned
unfoldable pub bit_of : ℕ → ℕ → Bool
bit_of zero h = h % 2 == 1
bit_of (suc p) h = bit_of p (h / 2)

unfoldable pub turn_of : ℕ → ℕ → ℕ
turn_of zero h = 2 * (h / 2) + (1 - h % 2)
turn_of (suc p) h = 2 * turn_of p (h / 2) + h % 2

-- the low b bits of a word (R14), and the number that the bits above them make (R192)
unfoldable pub value_in : ℕ → ℕ → ℕ
value_in b w = w % 2 ^ b

unfoldable pub flips_in : ℕ → ℕ → ℕ
flips_in b w = w / 2 ^ b

-- the flip bit of process p, above b bits of value (R15)
unfoldable pub bit_in : ℕ → ℕ → ℕ → Bool
bit_in b p w = bit_of p (flips_in b w)

-- the word w after process p has swapped n in and turned its own flip bit (R114)
unfoldable pub swapped_in : ℕ → ℕ → ℕ → ℕ → ℕ
swapped_in b p n w = turn_of p (flips_in b w) * 2 ^ b + n

-- the same at the width of today
abbrev pub value : ℕ → ℕ
value = value_in width

abbrev pub flips : ℕ → ℕ
flips = flips_in width

abbrev pub bit : ℕ → ℕ → Bool
bit = bit_in width

abbrev pub swapped : ℕ → ℕ → ℕ → ℕ
swapped = swapped_in width
