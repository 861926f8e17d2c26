-- One turn of the loops that make the two tables.
use mathlib.Core.Path.{◌≡◌, refl, sym, ◌∙◌}
use mathlib.Core.Bool.{Bool, true, false, cond}
use mathlib.Core.List.{List}
use Prim.Native.Nat.{ℕ, zero, suc, ◌+◌, ◌*◌, ◌≤◌, ◌<◌}
use native.Mathlib.Numerals.{add-one}
use native.Mathlib.Nat.{zero-add}
use native.Mathlib.Omega.{arith}
use lib.Dec.{eqb, ltb}
use lib.ListN.{length, get_or, set, replicate, length-set}
use lib.Seq.{get_or-set_same, get_or-set_other}
use borrow.Author.Tests.{eqb-true, eqb-false, ltb-true, ltb-false}
use Rattle.runfile.specs.Layout.{row_at, row_of_table}
use Rattle.runfile.specs.Operations.{rows_from, count}
use Rattle.runfile.specs.OperationLaws.{rows_from_snoc, count_snoc, length-rows_from}
use Rattle.runfile.specs.Shares.{Counted, sum_to, count_fits}

-- one row more
module _ (s : ℕ) (table : List ℕ) (k : ℕ) (counts : List ℕ) (h : Counted (rows_from s table 0 k) counts) (q : ℕ) (is : q ≡ (row_of_table s table k).process) (small : q < 16) where
  count_next : (p : ℕ) → count (rows_from s table 0 (k + 1)) p ≡ cond (eqb q p) (suc (count (rows_from s table 0 k) p)) (count (rows_from s table 0 k) p)
  count_next p = rw (add-one k, rows_from_snoc s table 0 k, zero-add (k * s), is) (count_snoc (rows_from s table 0 k) (row_at s table (k * s)) p)

  pub counted_next : Counted (rows_from s table 0 (k + 1)) (set counts q (get_or counts q 0 + 1))
  counted_next = record { size = length-set counts q _ ∙ h.size; each = λ p l. go p l (eqb q p) refl }
    where
      go : (p : ℕ) → p < 16 → (t : Bool) → eqb q p ≡ t → get_or (set counts q (get_or counts q 0 + 1)) p 0 ≡ count (rows_from s table 0 (k + 1)) p
      go p l true e =
          let same : q ≡ p = eqb-true q p e in
          let size = h.size in
          rw (count_next p, e, ← same, get_or-set_same counts q (get_or counts q 0 + 1) 0 (omega arith), h.each q small, add-one (count (rows_from s table 0 k) q))
      go p l false e = rw (count_next p, e, get_or-set_other counts q p (get_or counts q 0 + 1) 0 (λ x. eqb-false q p e (sym x))) (h.each p l)

  pub few : get_or counts q 0 ≤ k
  few = rw (h.each q small) (let a = count_fits (rows_from s table 0 k) q in let b = length-rows_from s table 0 k in omega arith)

-- sums only grow
pub sum_grows : (counts : List ℕ) (p n : ℕ) → p ≤ n → sum_to counts p ≤ sum_to counts n
unfolding sum_to
sum_grows counts p zero h = let e : p ≡ 0 = omega arith in rw e (omega arith)
sum_grows counts p (suc n) h = go (ltb n p) refl (sum_grows counts p n)
  where
    go : (t : Bool) → ltb n p ≡ t → (p ≤ n → sum_to counts p ≤ sum_to counts n) → sum_to counts p ≤ sum_to counts n + get_or counts n 0
    go true e more = let e : p ≡ suc n = (let b = ltb-true n p e in omega arith) in rw e (omega arith)
    go false e more = let m = more (ltb-false n p e) in omega arith

-- the sum so far, and with one count more, fits
pub sum_fits : (counts : List ℕ) (p : ℕ) → p < 16 → sum_to counts 16 < 65536 → sum_to counts p + get_or counts p 0 < 65536
unfolding sum_to
sum_fits counts p h l = let m = sum_grows counts (suc p) 16 (omega arith) in omega arith

pub zeros : (n p : ℕ) → ◌≡◌ {A = ℕ} (get_or (replicate n 0) p 0) 0
zeros zero p = refl
zeros (suc n) zero = refl
zeros (suc n) (suc p) = zeros n p

-- the first p entries are made
pub record Upto (counts firsts : List ℕ) (p : ℕ) : Type 0 where
  pub size : length firsts ≡ 16
  pub each : (j : ℕ) → j < p → get_or firsts j 0 ≡ sum_to counts j

module _ (counts firsts : List ℕ) (p sum : ℕ) (h : Upto counts firsts p) (small : p < 16) (is : sum ≡ sum_to counts p) where
  pub upto_next : Upto counts (set firsts p sum) (p + 1)
  upto_next = record { size = length-set firsts p _ ∙ h.size; each = λ j l. go j l (ltb j p) refl }
    where
      go : (j : ℕ) → j < p + 1 → (t : Bool) → ltb j p ≡ t → get_or (set firsts p sum) j 0 ≡ sum_to counts j
      go j l true e = let b = ltb-true j p e in rw (get_or-set_other firsts p j sum 0 (λ x. omega arith)) (h.each j b)
      go j l false e =
          let same : j ≡ p = (let b = ltb-false j p e in omega arith) in
          let size = h.size in
          rw (same, get_or-set_same firsts p sum 0 (omega arith)) is

  pub sum_next : sum + get_or counts p 0 ≡ sum_to counts (p + 1)
  unfolding sum_to
  sum_next = rw (add-one p, is)
