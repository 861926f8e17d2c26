-- The kinds of operation rows: a read, a compare and an advance (R11). Whatever goes by the kind is a table with a line for each kind, at the layer
-- where it belongs; here, what a swap puts in.
use Rattle.std.specs.Prelude.{ℕ, ◌+◌, ◌%◌, ◌^◌, cond, eqb}
use Rattle.word.specs.Word.{width}
use Rattle.runfile.specs.declared.Row.{Row}
use Rattle.runfile.specs.declared.Kind.{Kind}
use Rattle.runfile.specs.declared.Kind.TheVariants.{Read, Compare, Advance}

-- kind 0 reads, kind 2 advances (R11); a number that is no kind's is refused (R49b), and goes with 1, so that every row has a kind
abbrev pub kind_numbered : ℕ → Kind
kind_numbered number = cond (eqb number 0) Read (cond (eqb number 2) Advance Compare)

abbrev pub kind_of : Row → Kind
kind_of row = kind_numbered row.kind

-- What a swap puts in over the value v that it found, where values have b bits, for a row with this new (R114). The new of an advance is the amount,
-- and the sum goes round past the largest value to 0 (R117); a read never swaps
abbrev pub new_by_in : (b : ℕ) → Kind → (new v : ℕ) → ℕ
new_by_in b Read new v = new
new_by_in b Compare new v = new
new_by_in b Advance new v = (v + new) % 2 ^ b

abbrev pub new_in : (b : ℕ) → Row → ℕ → ℕ
new_in b row v = new_by_in b (kind_of row) row.new v

-- the same at the width of today
abbrev pub new_of : Row → ℕ → ℕ
new_of = new_in width
