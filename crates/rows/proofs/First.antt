-- The search for the first swap from the front (R168), in the loop's own terms: before turn i the search from row i on is the whole search.
use mathlib.Core.Path.{◌≡◌, sym, ◌∙◌}
use mathlib.Core.List.{List, ◌∷◌}
use mathlib.Core.Bool.{Bool, true, false}
use Prim.Native.Nat.{ℕ, ◌+◌, ◌*◌, ◌≤◌, ◌<◌}
use native.Mathlib.Numerals.{add-one}
use lib.ListN.{length, drop, get_or, drop_of_length-le}
use lib.Seq.{drop-cons}
use Rattle.runfile.specs.declared.Row.{Row}
use Rattle.rows.specs.Log.{first_swap, is_swap}
use Rattle.rows.specs.Buffers.{rows_of, entry_at}
use Rattle.rows.specs.BufferLaws.{length-rows_of, get_or_rows_of}

module _ (rows : List Row) (w a none n : ℕ) (xs : List ℕ) (i : ℕ) where
  this : i < n → drop i (rows_of n xs) ≡ entry_at xs (i * 5) ∷ drop (i + 1) (rows_of n xs)
  this h =
      let k : i < length (rows_of n xs) = rw (length-rows_of n xs) h in
      rw (add-one i, drop-cons (rows_of n xs) i (entry_at xs 0) k, get_or_rows_of n xs (entry_at xs 0) i h)

  module _ (all : ℕ) (kept : first_swap rows w a none (drop i (rows_of n xs)) ≡ all) where
    -- t is what the test of row i has told
    pub hit : (t : Bool) → i < n → t ≡ is_swap rows w a (entry_at xs (i * 5)) → t ≡ true → get_or xs (i * 5) 0 ≡ all
    unfolding entry_at first_swap
    hit t h told e = rw (this h, sym told ∙ e) at kept

    pub miss : (t : Bool) → i < n → t ≡ is_swap rows w a (entry_at xs (i * 5)) → t ≡ false → first_swap rows w a none (drop (i + 1) (rows_of n xs)) ≡ all
    unfolding first_swap
    miss t h told e = rw (this h, sym told ∙ e) at kept

    pub over : n ≤ i → none ≡ all
    unfolding first_swap
    over h =
        let k : length (rows_of n xs) ≤ i = rw (length-rows_of n xs) h in
        rw (drop_of_length-le (rows_of n xs) k) at kept
