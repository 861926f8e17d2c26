-- How the rows fall to the processes, as tables of sixteen numbers: by them the next row of a process is found at once (R12, R87).
use Rattle.std.specs.Prelude.{ℕ, zero, suc, ◌+◌, ◌*◌, ◌≤◌, ◌<◌, ◌≡◌, refl, Bool, true, false, cond, List, [], ◌∷◌, eqb, ltb, get_or, length}
use Rattle.std.proofs.Common.{sym, ◌∙◌, arith, ext_get_or, ltb-true, ltb-false, eqb-true, le-ltb}
use Rattle.std.proofs.lemmas.Bool.{eqb-false}
use Rattle.runfile.specs.declared.Row.{Row}
use Rattle.runfile.specs.Format.{RowSize, within}
use Rattle.runfile.specs.Layout.{row_of_table, HasRow}
use Rattle.runfile.specs.Operations.{rows_from, first, count}
use Rattle.runfile.specs.OperationLaws.{length-rows_from}

-- a table of n rows of this size, each of a process below sixteen
pub record Lined (stride : ℕ) (table : List ℕ) (n : ℕ) : Type 0 where
  pub size : RowSize stride
  pub whole : n * stride ≤ length table
  pub few : n ≤ 512
  pub processes : (k : ℕ) → k < n → (row_of_table stride table k).process < 16

-- so it has each of them
pub has_row : (stride : ℕ) (table : List ℕ) (n k : ℕ) → RowSize stride → n * stride ≤ length table → k < n → HasRow stride table k
has_row stride table n k s w h = record { size = s; whole = let r = within stride 0 k n h in omega arith }

-- a table of sixteen numbers, of which number p is `value p`
pub record Sixteen (value : ℕ → ℕ) (table : List ℕ) : Type 0 where
  pub size : length table ≡ 16
  pub each : (p : ℕ) → p < 16 → get_or table p 0 ≡ value p

-- no second table is so
pub sixteen_one : (value : ℕ → ℕ) (a b : List ℕ) → Sixteen value a → Sixteen value b → a ≡ b
sixteen_one value a b x y = ext_get_or 0 a b (x.size ∙ sym y.size) (λ i h. let l : i < 16 = (let s = x.size in omega arith) in x.each i l ∙ sym (y.each i l))

-- entry p of the table is the number of p's rows
abbrev pub Counted : List Row → List ℕ → Type 0
Counted rows counts = Sixteen (count rows) counts

-- the sum of the first p entries
unfoldable pub sum_to : List ℕ → ℕ → ℕ
sum_to counts zero = 0
sum_to counts (suc p) = sum_to counts p + get_or counts p 0

-- entry p of the table is the sum of the counts before p
abbrev pub Summed : List ℕ → List ℕ → Type 0
Summed counts firsts = Sixteen (sum_to counts) firsts

-- a row counts at most once: below p, of p, or later
pub first_suc : (rows : List Row) (p : ℕ) → first rows (suc p) ≡ first rows p + count rows p
unfolding first count
first_suc [] p = refl
first_suc (r ∷ rows) p = go (ltb r.process (suc p)) refl (ltb r.process p) refl (eqb r.process p) refl (first_suc rows p)
  where
    go : (a : Bool) → ltb r.process (suc p) ≡ a → (b : Bool) → ltb r.process p ≡ b → (c : Bool) → eqb r.process p ≡ c → first rows (suc p) ≡ first rows p + count rows p
        → cond a (suc (first rows (suc p))) (first rows (suc p)) ≡ cond b (suc (first rows p)) (first rows p) + cond c (suc (count rows p)) (count rows p)
    go true x true y true z ih = absurd (let g = ltb-true r.process p y in let e = eqb-true r.process p z in omega arith)
    go true x true y false z ih = omega arith
    go true x false y true z ih = omega arith
    go true x false y false z ih = absurd (let g = ltb-true r.process (suc p) x in let k = ltb-false r.process p y in eqb-false r.process p z (omega arith))
    go false x true y c z ih = absurd (let g = ltb-false r.process (suc p) x in let k = ltb-true r.process p y in omega arith)
    go false x false y true z ih = absurd (let g = ltb-false r.process (suc p) x in let e = eqb-true r.process p z in omega arith)
    go false x false y false z ih = ih

pub first_fits : (rows : List Row) (p : ℕ) → first rows p ≤ length rows
unfolding first
first_fits [] p = omega arith
first_fits (r ∷ rows) p = go (ltb r.process p) (first_fits rows p)
  where
    go : (b : Bool) → first rows p ≤ length rows → cond b (suc (first rows p)) (first rows p) ≤ suc (length rows)
    go true h = omega arith
    go false h = omega arith

-- a process's rows are in the file
pub last_fits : (rows : List Row) (p : ℕ) → first rows p + count rows p ≤ length rows
last_fits rows p = let e = first_suc rows p in let h = first_fits rows (suc p) in omega arith

pub count_fits : (rows : List Row) (p : ℕ) → count rows p ≤ length rows
count_fits rows p = let h = last_fits rows p in omega arith

none_below : (rows : List Row) → first rows 0 ≡ 0
unfolding first
none_below [] = refl
none_below (r ∷ rows) = rw (le-ltb r.process 0 (omega arith)) (none_below rows)

-- the two tables together
pub sums_are : (rows : List Row) (counts : List ℕ) → Counted rows counts → (p : ℕ) → p ≤ 16 → sum_to counts p ≡ first rows p
unfolding sum_to
sums_are rows counts c zero h = sym (none_below rows)
sums_are rows counts c (suc p) h = rw (sums_are rows counts c p (omega arith), c.each p (omega arith), first_suc rows p)

-- number p of the table of sums
pub first-at : (rows : List Row) (counts firsts : List ℕ) → Counted rows counts → Summed counts firsts → (p : ℕ) → p < 16 → get_or firsts p 0 ≡ first rows p
first-at rows counts firsts c s p h = s.each p h ∙ sums_are rows counts c p (omega arith)

-- all the rows of a table, which are few
pub sum_fits : (stride : ℕ) (table : List ℕ) (n : ℕ) (counts : List ℕ) → n ≤ 512 → Counted (rows_from stride table 0 n) counts → sum_to counts 16 < 65536
sum_fits stride table n counts few c =
    let rows = rows_from stride table 0 n in
    let e = sums_are rows counts c 16 (omega arith) in
    let f = first_fits rows 16 in
    let g = length-rows_from stride table 0 n in
    omega arith
