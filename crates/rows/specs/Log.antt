-- Where a new row goes in the log (R170), and the successful swap that a lost one looks for (R168).
-- A log is a list of rows, front first. Both are defined for every list, ordered or not; `LogLaws` says the same in propositions.
use Rattle.std.specs.Prelude.{ℕ, zero, suc, List, [], ◌∷◌, ◌++◌, Bool, true, false, ◌&&◌, cond, take, drop, leb, ltb}
use Rattle.runfile.specs.declared.Row.{Row}
use Rattle.runfile.specs.Operations.{names}
use Rattle.rows.specs.declared.Entry.{Entry}
use Rattle.rows.specs.Entries.{said, is_swapped}

-- the place of a new row of position q: one past the last row of equal or smaller position, 0 where there is none (R170); `one_past` adds one row
-- in front (b: it is of equal or smaller position) to a list whose own place is given
unfoldable pub one_past : Bool → ℕ → ℕ
one_past b (suc n) = suc (suc n)
one_past true zero = 1
one_past false zero = 0

unfoldable pub place : ℕ → List Entry → ℕ
place q [] = 0
place q (e ∷ log) = one_past (leb e.position q) (place q log)

-- the log with the new row at its place, and all rows from there on behind it (R171)
unfoldable pub insert : Entry → List Entry → List Entry
insert e log = take (place e.position log) log ++ (e ∷ drop (place e.position log) log)

-- the row is of a successful swap on word w, later than an A1 at position a (R168). A row number that is not in the file names no row.
unfoldable pub is_swap : List Row → ℕ → ℕ → Entry → Bool
is_swap rows w a e = is_swapped (said e) && (ltb a e.position && names rows e.row w)

-- the position of the first such row from the front (R168), or `none` where there is none (R169)
unfoldable pub first_swap : List Row → (w a none : ℕ) → List Entry → ℕ
first_swap rows w a none [] = none
first_swap rows w a none (e ∷ log) = cond (is_swap rows w a e) e.position (first_swap rows w a none log)
