-- The log after its rows have moved up and the new one is written: the rows with the new one put in, and behind them what stood there.
use mathlib.Core.Path.{◌≡◌, sym, ap, ◌∙◌}
use mathlib.Core.List.{List, [], ◌∷◌, ◌++◌, append_assoc, append-nil}
use Prim.Native.Nat.{ℕ, ◌+◌, ◌*◌, ◌-◌, ◌≤◌}
use native.Mathlib.Omega.{arith}
use lib.ListN.{length, take, drop, length-append, length-take, length-drop, drop_of_length-le, take-append-drop}
use lib.Seq.{take_at, drop_at, drop-drop, take-add, length-take-le, take_all}
use Rattle.rows.specs.declared.Entry.{Entry}
use Rattle.rows.specs.Log.{place, insert}
use Rattle.rows.specs.Buffers.{rows_of, placed, five, flat, infront, shifted}
use Rattle.rows.specs.BufferLaws.{flat_append, flat-rows_of, length-flat, length-rows_of}

-- n rows in xs, of which those from p on, m numbers, have moved up to make room for e
module _ (n p m : ℕ) (xs : List ℕ) (e : Entry) (room : n * 5 + 5 ≤ length xs) (le : p ≤ n) (sum : p * 5 + m ≡ n * 5) where
  abbrev at : ℕ
  at = p * 5

  abbrev part : List ℕ
  part = drop at xs

  abbrev es : List Entry
  es = rows_of n xs

  -- what is left of the log behind the lent part: nothing
  abbrev rest : List ℕ
  rest = drop (length xs - at) part

  no_rest : rest ≡ []
  no_rest = drop-drop (length xs - at) at xs ∙ drop_of_length-le xs {i = at + (length xs - at)} (omega arith)

  len_at : length (take at xs) ≡ at
  len_at = length-take-le at xs (omega arith)

  behind : drop (at + 5) (take at xs ++ (shifted m part ++ rest)) ≡ take m part ++ drop (m + 5) part
  unfolding shifted
  behind =
      let l5 : length (take 5 part) ≡ 5 = length-take-le 5 part (simp length-drop (omega arith)) in
      sym (drop-drop 5 at (take at xs ++ (shifted m part ++ rest)))
      ∙ rw (drop_at (take at xs) (shifted m part ++ rest) at len_at, no_rest, append-nil (shifted m part))
      (drop_at (take 5 part) (take m part ++ drop (m + 5) part) 5 l5)

  -- the numbers of the rows in front of the place, and of those behind it
  whole : flat (take p es) ++ flat (drop p es) ≡ take at xs ++ take m part
  whole =
      sym (flat_append (take p es) (drop p es))
      ∙ ap flat (take-append-drop p es)
      ∙ flat-rows_of n xs (omega arith)
      ∙ rw (← sum) (take-add at m xs)

  len_front : length (flat (take p es)) ≡ at
  len_front = length-flat (take p es) ∙ ap (λ k. k * 5) (length-take-le p es (rw (length-rows_of n xs) le))

  front : flat (take p es) ≡ take at xs
  front = sym (take_at (flat (take p es)) (flat (drop p es)) at len_front) ∙ ap (take at) whole ∙ take_at (take at xs) (take m part) at len_at

  tail : flat (drop p es) ≡ take m part
  tail = sym (drop_at (flat (take p es)) (flat (drop p es)) at len_front) ∙ ap (drop at) whole ∙ drop_at (take at xs) (take m part) at len_at

  numbers : p ≡ place e.position es → flat (insert e es) ≡ take at xs ++ (five e ++ take m part)
  unfolding insert
  numbers is = rw (← is, flat_append (take p es) (e ∷ drop p es), front, tail)

  len_all : length (take at xs ++ (five e ++ take m part)) ≡ at + (m + 5)
  unfolding five
  len_all = simp (length-append, len_at) (simp (length-take, length-drop) (omega arith))

  put_in : p ≡ place e.position es → placed at (five e) (take at xs ++ (shifted m part ++ rest)) ≡ infront (flat (insert e es)) xs
  unfolding placed infront five
  put_in is =
      rw (numbers is, len_all, take_at (take at xs) (shifted m part ++ rest) at len_at, behind, ← drop-drop (m + 5) at xs) (simp append_assoc)

  -- a part that is lent to the end is all of it
  part_all : take (length xs - at) part ≡ part
  part_all = take_all (length xs - at) part (simp length-drop (omega arith))

  pub put_back : (zs : List ℕ) → zs ≡ shifted m (take (length xs - at) part) → p ≡ place e.position es
      → placed at (five e) (take at xs ++ (zs ++ rest)) ≡ infront (flat (insert e es)) xs
  put_back zs moved is = rw (moved, part_all) (put_in is)
