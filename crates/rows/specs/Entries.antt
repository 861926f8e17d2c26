-- A row of the log or of the answers, and what it says (R160, R161). An `Entry` is such a row, with any five numbers.
use Rattle.std.specs.Prelude.{ℕ, Bool, ◌||◌, eqb}
use Rattle.rows.specs.declared.Entry.{Entry}

-- what a row says: its verdict and its value
pub record Said : Type 0 where
  pub verdict : ℕ
  pub value : ℕ

abbrev pub said : Entry → Said
said e = record { verdict = e.verdict; value = e.value }

-- the verdicts of a successful swap: 1 is a compare's, 4 an advance's (R161); and that a row tells of one, which no other answer does
abbrev pub swap_verdict : ℕ → Bool
swap_verdict verdict = eqb verdict 1 || eqb verdict 4

unfoldable pub is_swapped : Said → Bool
is_swapped d = swap_verdict d.verdict
