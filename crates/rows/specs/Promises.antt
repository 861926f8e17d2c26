-- The contracts of the public functions, and that each leaves no second outcome: the result, or every number of the lent buffer, is determined.
-- A contract of one equation is that equation under a name, so that a caller rewrites with it as it stands. Buffers that are only read are not
-- named after the call: nothing can change them.
use Rattle.std.specs.Prelude.{ℕ, ◌*◌, ◌≤◌, ◌≡◌, List, [], ◌∷◌, ◌++◌, length}
use Rattle.std.proofs.Common.{sym, ◌∙◌}
use Rattle.runfile.specs.Format.{RowSize}
use Rattle.runfile.specs.Operations.{rows_from}
use Rattle.rows.specs.declared.Entry.{Entry}
use Rattle.rows.specs.declared.Sought.{Sought}
use Rattle.rows.specs.Log.{place, insert, first_swap}
use Rattle.rows.specs.Buffers.{five, flat, rows_of, infront}

-- `<[u32; 5]>::from(entry)` (R160)
abbrev pub FiveNumbers : (e : Entry) (r : List ℕ) → Type 0
FiveNumbers e r = r ≡ five e

-- `log.rows()`: the same numbers and the same count, to be read
pub record Seen (numbers : List ℕ) (count : ℕ) (numbers' : List ℕ) (count' : ℕ) : Type 0 where
  pub same_numbers : numbers' ≡ numbers
  pub same_count : count' ≡ count

-- `rows.place_of(position)` (R170); that the place is within the rows follows, and is there for the caller's arithmetic
pub record Places (log : List ℕ) (rows position r : ℕ) : Type 0 where
  pub result : r ≡ place position (rows_of rows log)
  pub within : r ≤ rows

-- `rows.first_swap_after(operations, sought)`: a table of so many rows and a log of so many, and the position found
pub record Searched (stride : ℕ) (table : List ℕ) (operations : ℕ) (log : List ℕ) (rows : ℕ) : Type 0 where
  pub size : RowSize stride
  pub whole : operations * stride ≤ length table
  pub logged : rows * 5 ≤ length log

abbrev pub FirstSwapped : (stride : ℕ) (table : List ℕ) (operations : ℕ) (log : List ℕ) (rows : ℕ) (sought : Sought) (r : ℕ) → Type 0
FirstSwapped stride table operations log rows sought r = r ≡ first_swap (rows_from stride table 0 operations) sought.word sought.after sought.none (rows_of rows log)

-- `log.insert(entry)`: the log before, and after (R171)
abbrev pub Inserted : (log : List ℕ) (rows : ℕ) (e : Entry) (log' : List ℕ) → Type 0
Inserted log rows e log' = log' ≡ infront (flat (insert e (rows_of rows log))) log

-- `answers.push(entry)` (R163)
abbrev pub Added : (answers : List ℕ) (rows : ℕ) (e : Entry) (answers' : List ℕ) → Type 0
Added answers rows e answers' = answers' ≡ infront (flat (rows_of rows answers ++ (e ∷ []))) answers

pub five_numbers_one : (e : Entry) (r q : List ℕ) → FiveNumbers e r → FiveNumbers e q → r ≡ q
five_numbers_one e r q a b = a ∙ sym b

pub seen_one : (numbers : List ℕ) (count : ℕ) (xs ys : List ℕ) (n m : ℕ) → Seen numbers count xs n → Seen numbers count ys m → (xs ≡ ys) × (n ≡ m)
seen_one numbers count xs ys n m a b = (a.same_numbers ∙ sym b.same_numbers, a.same_count ∙ sym b.same_count)

pub places_one : (log : List ℕ) (rows position r q : ℕ) → Places log rows position r → Places log rows position q → r ≡ q
places_one log rows position r q a b = a.result ∙ sym b.result

pub first_swapped_one : (stride : ℕ) (table : List ℕ) (operations : ℕ) (log : List ℕ) (rows : ℕ) (sought : Sought) (r q : ℕ)
    → FirstSwapped stride table operations log rows sought r → FirstSwapped stride table operations log rows sought q → r ≡ q
first_swapped_one stride table operations log rows sought r q a b = a ∙ sym b

pub inserted_one : (log : List ℕ) (rows : ℕ) (e : Entry) (x y : List ℕ) → Inserted log rows e x → Inserted log rows e y → x ≡ y
inserted_one log rows e x y a b = a ∙ sym b

pub added_one : (answers : List ℕ) (rows : ℕ) (e : Entry) (x y : List ℕ) → Added answers rows e x → Added answers rows e y → x ≡ y
added_one answers rows e x y a b = a ∙ sym b
