-- What the definitions of `Log` come to, in propositions and for every log, ordered or not: `place-behind` and `behind_one` say where a new row goes,
-- `insert_before`, `insert_there` and `insert-behind` where every row stands afterwards, `first_swap_lem` and `no_swap` which swap is found.
use Prim.Native.Nat.{ℕ, zero, suc, ◌+◌, ◌-◌, ◌≤◌, ◌<◌}
use Rattle.std.specs.Prelude.{◌≡◌, Bool, leb, ltb, length, take, get_or}
use Rattle.std.proofs.Math.Path.{refl, ap}
use Rattle.std.proofs.Common.{sym, ◌∙◌, arith, length-take-le}
use mathlib.Core.List.{List, [], ◌∷◌, ◌++◌}
use Rattle.std.proofs.Math.Bool.{true, false}
use Rattle.std.proofs.Math.ListN.{drop, length-append, length-drop, get_or-append}
use Rattle.std.proofs.Math.Seq.{get_or-take, get_or_at, get_or-append-add, get_or-drop}
use borrow.Author.Tests.{leb-true, leb-false, ltb-true, ltb-false}
use Rattle.runfile.specs.declared.Row.{Row}
use Rattle.rows.specs.declared.Entry.{Entry}
use Rattle.rows.specs.Log.{one_past, place, insert, is_swap, first_swap}

-- row k of a log, counted from 0; zeros past its end
abbrev pub row : List Entry → ℕ → Entry
row log k = get_or log k record { position = 0; process = 0; row = 0; verdict = 0; value = 0 }

-- n is the place of a new row of position q: the row in front of it is of equal or smaller position, and all rows from n on are of larger (R170)
pub record Behind (q : ℕ) (log : List Entry) (n : ℕ) : Type 0 where
  pub within : n ≤ length log
  pub last : (k : ℕ) → n ≡ suc k → (row log k).position ≤ q
  pub later : (k : ℕ) → n ≤ k → k < length log → q < (row log k).position

module _ (q : ℕ) where
  -- one row more in front moves the later rows up
  further : (e : Entry) (log : List Entry) (n : ℕ) → Behind q log n → (k : ℕ) → suc n ≤ k → k < suc (length log) → q < (row (e ∷ log) k).position
  further e log n h zero l r = absurd (omega arith)
  further e log n h (suc k) l r = h.later k (omega arith) (omega arith)

  more : (e : Entry) (log : List Entry) (b : Bool) (n : ℕ) → leb e.position q ≡ b → Behind q log n → Behind q (e ∷ log) (one_past b n)
  unfolding one_past
  more e log b (suc n) t h = record { within = omega (arith, h.within); last = last; later = further e log (suc n) h }
    where
      last : (k : ℕ) → suc (suc n) ≡ suc k → (row (e ∷ log) k).position ≤ q
      last zero s = absurd (omega arith)
      last (suc k) s = h.last k (omega arith)
  more e log true zero t h = record { within = omega arith; last = last; later = further e log zero h }
    where
      last : (k : ℕ) → suc zero ≡ suc k → (row (e ∷ log) k).position ≤ q
      last zero s = leb-true e.position q t
      last (suc k) s = absurd (omega arith)
  more e log false zero t h = record { within = omega arith; last = λ k s. absurd (omega arith); later = later }
    where
      later : (k : ℕ) → zero ≤ k → k < suc (length log) → q < (row (e ∷ log) k).position
      later zero l r = leb-false e.position q t
      later (suc k) l r = further e log zero h (suc k) (omega arith) r

  pub place-behind : (log : List Entry) → Behind q log (place q log)
  unfolding place
  place-behind [] = record { within = omega arith; last = λ k s. absurd (omega arith); later = λ k l r. absurd (omega arith) }
  place-behind (e ∷ log) = more e log (leb e.position q) (place q log) refl (place-behind log)

  -- and there is no other such place
  not_before : (log : List Entry) (n m : ℕ) → Behind q log n → Behind q log m → n < m → ⊥
  not_before log n m a b l =
      let k : ℕ = m - 1 in
      let low : (row log k).position ≤ q = b.last k (omega arith) in
      let high : q < (row log k).position = a.later k (omega arith) (omega (arith, b.within)) in
      omega arith

  pub behind_one : (log : List Entry) (n m : ℕ) → Behind q log n → Behind q log m → n ≡ m
  behind_one log n m a b = go (ltb n m) (ltb m n) refl refl
    where
      go : (s t : Bool) → ltb n m ≡ s → ltb m n ≡ t → n ≡ m
      go true t e f = absurd (not_before log n m a b (ltb-true n m e))
      go false true e f = absurd (not_before log m n b a (ltb-true m n f))
      go false false e f = omega (arith, ltb-false n m e, ltb-false m n f)

pub place_le : (q : ℕ) (log : List Entry) → place q log ≤ length log
place_le q log = (place-behind q log).within

module _ (e : Entry) (log : List Entry) where
  abbrev at : ℕ
  at = place e.position log

  front : length (take at log) ≡ at
  front = length-take-le at log (place_le e.position log)

  pub length-insert : length (insert e log) ≡ length log + 1
  unfolding insert
  length-insert = length-append (take at log) (e ∷ drop at log) ∙ rw (front, length-drop at log) (omega (arith, place_le e.position log))

  pub insert_before : (k : ℕ) → k < at → row (insert e log) k ≡ row log k
  unfolding insert
  insert_before k h = get_or-append (take at log) (e ∷ drop at log) _ k (rw front h) ∙ get_or-take at log k _ h

  pub insert_there : row (insert e log) at ≡ e
  unfolding insert
  insert_there = get_or_at (take at log) e (drop at log) _ at front

  past : (j : ℕ) → row (insert e log) (at + suc j) ≡ row log (at + j)
  unfolding insert
  past j =
      ap (λ n. row (take at log ++ (e ∷ drop at log)) (n + suc j)) (sym front)
      ∙ get_or-append-add (take at log) (e ∷ drop at log) (suc j) _
      ∙ get_or-drop at log j _

  -- rows at the place and behind it stand one row later (R171)
  pub insert-behind : (k : ℕ) → at ≤ k → row (insert e log) (suc k) ≡ row log k
  insert-behind k h =
      let up : suc k ≡ at + suc (k - at) = omega arith in
      let same : at + (k - at) ≡ k = omega arith in
      ap (row (insert e log)) up ∙ past (k - at) ∙ ap (row log) same

module _ (rows : List Row) (w a none : ℕ) where
  -- the swap that is found is the first from the front (R168)
  pub first_swap_lem : (log : List Entry) (k : ℕ) → k < length log → is_swap rows w a (row log k) ≡ true
      → ((j : ℕ) → j < k → is_swap rows w a (row log j) ≡ false) → first_swap rows w a none log ≡ (row log k).position
  unfolding first_swap
  first_swap_lem [] k h t f = absurd (omega arith)
  first_swap_lem (e ∷ log) zero h t f = rw t
  first_swap_lem (e ∷ log) (suc k) h t f = rw (f 0 (omega arith)) (first_swap_lem log k (omega arith) t (λ j l. f (suc j) (omega arith)))

  pub no_swap : (log : List Entry) → ((k : ℕ) → k < length log → is_swap rows w a (row log k) ≡ false) → first_swap rows w a none log ≡ none
  unfolding first_swap
  no_swap [] f = refl
  no_swap (e ∷ log) f = rw (f 0 (omega arith)) (no_swap log (λ k l. f (suc k) (omega arith)))
