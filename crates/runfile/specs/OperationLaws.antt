-- Laws of the start words and of the rows as lists: how many there are, row k stands at its place, one row more at the end, and a process's
-- rows are within the file.
use Prim.Native.Nat.{ℕ, zero, suc, ◌+◌, ◌*◌, ◌≤◌, ◌<◌}
use Rattle.std.specs.Prelude.{◌≡◌, Bool, true, false, cond, List, [], ◌∷◌, ◌++◌, ltb, length}
use Rattle.std.proofs.Math.Path.{refl, ap}
use Rattle.std.proofs.Common.{◌∙◌, arith, zero-add, zero-mul, suc-mul, mul-le-mul_right, add-one, length-append}
use Rattle.std.proofs.Math.Dec.{eqb}
use Rattle.runfile.specs.declared.Row.{Row}
use Rattle.runfile.specs.Format.{word_size}
use Rattle.runfile.specs.Layout.{row_at, row_of_table, word_place, word_in}
use Rattle.runfile.specs.Operations.{words_from, rows_from, blank, row_numbered, first, count, names}

-- word i of n is among them
pub word-within : (version i n : ℕ) → i < n → word_place version (i + 1) ≤ word_place version n
word-within version i n h = let a = mul-le-mul_right (word_size version) (next h) in omega arith
  where
    next : i < n → i + 1 ≤ n
    next h = omega arith

pub length-words_from : (version : ℕ) (f : List ℕ) (n : ℕ) → length (words_from version f n) ≡ n
length-words_from version f zero = refl
length-words_from version f (suc n) = length-append (words_from version f n) (word_in version f n ∷ []) ∙ (ap (λ (k : ℕ). k + 1) (length-words_from version f n) ∙ add-one n)

next : (stride at k : ℕ) → at + stride + k * stride ≡ at + suc k * stride
next stride at k = rw (suc-mul k stride) (omega arith)

here : (stride at : ℕ) → at ≡ at + 0 * stride
here stride at = rw (zero-mul stride) (omega arith)

module _ (stride : ℕ) where
  pub length-rows_from : (b : List ℕ) (at n : ℕ) → length (rows_from stride b at n) ≡ n
  unfolding rows_from
  length-rows_from b at zero = refl
  length-rows_from b at (suc n) = ap suc (length-rows_from b (at + stride) n)

  -- row k of the table
  pub row_numbered-rows_from : (b : List ℕ) (at n k : ℕ) → k < n → row_numbered (rows_from stride b at n) k ≡ row_at stride b (at + k * stride)
  unfolding row_numbered rows_from
  row_numbered-rows_from b at zero k h = absurd (omega arith)
  row_numbered-rows_from b at (suc n) zero h = ap (row_at stride b) (here stride at)
  row_numbered-rows_from b at (suc n) (suc k) h = row_numbered-rows_from b (at + stride) n k (omega arith) ∙ ap (row_at stride b) (next stride at k)

  pub row_numbered_past : (b : List ℕ) (at n k : ℕ) → n ≤ k → row_numbered (rows_from stride b at n) k ≡ blank
  unfolding row_numbered rows_from
  row_numbered_past b at zero k h = refl
  row_numbered_past b at (suc n) zero h = absurd (omega arith)
  row_numbered_past b at (suc n) (suc k) h = row_numbered_past b (at + stride) n k (omega arith)

  pub names_there : (b : List ℕ) (at n k w : ℕ) → k < n → names (rows_from stride b at n) k w ≡ eqb (row_at stride b (at + k * stride)).word w
  unfolding names rows_from
  names_there b at zero k w h = absurd (omega arith)
  names_there b at (suc n) zero w h = ap (λ i. eqb (row_at stride b i).word w) (here stride at)
  names_there b at (suc n) (suc k) w h = names_there b (at + stride) n k w (omega arith) ∙ ap (λ i. eqb (row_at stride b i).word w) (next stride at k)

  pub names_past : (b : List ℕ) (at n k w : ℕ) → n ≤ k → names (rows_from stride b at n) k w ≡ false
  unfolding names rows_from
  names_past b at zero k w h = refl
  names_past b at (suc n) zero w h = absurd (omega arith)
  names_past b at (suc n) (suc k) w h = names_past b (at + stride) n k w (omega arith)

  -- one row more, at the end
  pub rows_from_snoc : (b : List ℕ) (at n : ℕ) → rows_from stride b at (suc n) ≡ rows_from stride b at n ++ (row_at stride b (at + n * stride) ∷ [])
  unfolding rows_from
  rows_from_snoc b at zero = ap (λ i. row_at stride b i ∷ []) (here stride at)
  rows_from_snoc b at (suc n) = ap (λ l. row_at stride b at ∷ l) (rows_from_snoc b (at + stride) n ∙ ap (λ i. rows_from stride b (at + stride) n ++ (row_at stride b i ∷ [])) (next stride at n))

  -- of a table that begins at 0, row k is as `row_at` reads it
  pub row_numbered-table : (table : List ℕ) (n k : ℕ) → k < n → row_numbered (rows_from stride table 0 n) k ≡ row_of_table stride table k
  row_numbered-table table n k h = row_numbered-rows_from table 0 n k h ∙ ap (row_at stride table) (zero-add (k * stride))

  pub names_table : (table : List ℕ) (n k w : ℕ) → k < n → names (rows_from stride table 0 n) k w ≡ eqb (row_of_table stride table k).word w
  names_table table n k w h = names_there table 0 n k w h ∙ ap (λ i. eqb (row_at stride table i).word w) (zero-add (k * stride))

-- two tests that count
swap : (c d : Bool) (n : ℕ) → cond c (suc (cond d (suc n) n)) (cond d (suc n) n) ≡ cond d (suc (cond c (suc n) n)) (cond c (suc n) n)
swap true true n = refl
swap true false n = refl
swap false true n = refl
swap false false n = refl

pub first_snoc : (rows : List Row) (r : Row) (p : ℕ) → first (rows ++ (r ∷ [])) p ≡ cond (ltb r.process p) (suc (first rows p)) (first rows p)
unfolding first
first_snoc [] r p = refl
first_snoc (q ∷ rows) r p = rw (first_snoc rows r p) (swap (ltb q.process p) (ltb r.process p) (first rows p))

pub count_snoc : (rows : List Row) (r : Row) (p : ℕ) → count (rows ++ (r ∷ [])) p ≡ cond (eqb r.process p) (suc (count rows p)) (count rows p)
unfolding count
count_snoc [] r p = refl
count_snoc (q ∷ rows) r p = rw (count_snoc rows r p) (swap (eqb q.process p) (eqb r.process p) (count rows p))
