-- The search for the place (R170), row by row: one row more at the end is small enough, and the place is behind it, or changes nothing.
use mathlib.Core.Path.{◌≡◌, refl}
use mathlib.Core.List.{List, [], ◌∷◌, ◌++◌}
use mathlib.Core.Bool.{Bool, true, false, cond}
use Prim.Native.Nat.{ℕ, zero, suc, ◌-◌, ◌*◌, ◌≤◌, ◌<◌}
use native.Mathlib.Omega.{arith}
use lib.Dec.{leb}
use lib.ListN.{length, get_or}
use borrow.Author.Tests.{le-leb, lt-leb}
use Rattle.rows.specs.declared.Entry.{Entry}
use Rattle.rows.specs.Log.{place, one_past}
use Rattle.rows.specs.Buffers.{rows_of, entry_at}
use Rattle.rows.specs.BufferLaws.{length-rows_of}

one_more : (b c : Bool) (n m : ℕ) → one_past b (cond c (suc n) m) ≡ cond c (suc (suc n)) (one_past b m)
unfolding one_past
one_more b true n m = refl
one_more b false n m = refl

at-end : (b : Bool) → one_past b 0 ≡ cond b 1 0
unfolding one_past
at-end true = refl
at-end false = refl

place_snoc : (q : ℕ) (log : List Entry) (e : Entry) → place q (log ++ (e ∷ [])) ≡ cond (leb e.position q) (suc (length log)) (place q log)
unfolding place
place_snoc q [] e = at-end (leb e.position q)
place_snoc q (f ∷ log) e = rw (place_snoc q log e) (one_more (leb f.position q) (leb e.position q) (length log) (place q log))

-- one turn of the loop, at the last of n rows
module _ (q : ℕ) (xs : List ℕ) where
  turn : (n : ℕ) → 0 < n → place q (rows_of n xs) ≡ cond (leb (get_or xs ((n - 1) * 5) 0) q) n (place q (rows_of (n - 1) xs))
  unfolding entry_at
  turn zero some = absurd (omega arith)
  turn (suc n) some = let last : suc n - 1 ≡ n = omega arith in rw (last, place_snoc, length-rows_of n xs)

  pub place_took : (n : ℕ) → 0 < n → get_or xs ((n - 1) * 5) 0 ≤ q → place q (rows_of n xs) ≡ n
  place_took n some h = rw (turn n some, le-leb (get_or xs ((n - 1) * 5) 0) q h)

  pub place_kept : (n : ℕ) → 0 < n → q < get_or xs ((n - 1) * 5) 0 → place q (rows_of n xs) ≡ place q (rows_of (n - 1) xs)
  place_kept n some h = rw (turn n some, lt-leb (get_or xs ((n - 1) * 5) 0) q h)
