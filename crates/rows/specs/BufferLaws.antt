-- Laws of rows in a buffer: rows that are written are read back, what is behind them stays, and later rows cover earlier ones.
use Rattle.std.specs.Prelude.{ℕ, zero, suc, ◌+◌, ◌*◌, ◌-◌, ◌≤◌, ◌<◌, ◌≡◌, refl, List, [], ◌∷◌, ◌++◌, take, drop, get_or}
use Rattle.std.proofs.Common.{sym, ap, ◌∙◌, append_assoc, append-nil, ⊎_elim, eq-or-lt_of_le, arith, add-one, length-append, length-drop, take-append-drop, length-take-le, take-add, drop-cons, get_or-append-add}
use Rattle.std.proofs.Math.Numerals.{unary_clauses}
use Rattle.std.proofs.Math.ListN.{length, get_or-append}
use Rattle.std.proofs.Math.Seq.{drop-append-add, drop-drop, get_or-drop}
use Rattle.std.proofs.lemmas.List.{get_or_at}
use Rattle.rows.specs.declared.Entry.{Entry}
use Rattle.rows.specs.Buffers.{five, flat, entry_at, rows_of, infront}

-- how many numbers many rows have, and how many rows are read
pub length-flat : (es : List Entry) → length (flat es) ≡ length es * 5
unfolding five
length-flat [] = refl
length-flat (e ∷ es) = omega (arith, length-flat es)

pub length-rows_of : (n : ℕ) (xs : List ℕ) → length (rows_of n xs) ≡ n
length-rows_of zero xs = refl
length-rows_of (suc n) xs = length-append (rows_of n xs) (entry_at xs (n * 5) ∷ []) ∙ (ap (λ (k : ℕ). k + 1) (length-rows_of n xs) ∙ add-one n)

-- row i of those that are read
pub get_or_rows_of : (n : ℕ) (xs : List ℕ) (d : Entry) (i : ℕ) → i < n → get_or (rows_of n xs) i d ≡ entry_at xs (i * 5)
get_or_rows_of zero xs d i h = elim h [ ]
get_or_rows_of (suc n) xs d i h =
    ⊎_elim
    (λ e. rw e (get_or_at (rows_of n xs) (entry_at xs (n * 5)) [] d n (length-rows_of n xs)))
    (λ l.
    let k : i < length (rows_of n xs) = rw (length-rows_of n xs) l in
    get_or-append (rows_of n xs) (entry_at xs (n * 5) ∷ []) d i k ∙ get_or_rows_of n xs d i l)
    (eq-or-lt_of_le (omega arith))

pub length_snoc : (e : Entry) (es : List Entry) → length (es ++ (e ∷ [])) ≡ length es + 1
length_snoc e es = length-append es (e ∷ [])

pub flat_append : (es fs : List Entry) → flat (es ++ fs) ≡ flat es ++ flat fs
flat_append [] fs = refl
flat_append (e ∷ es) fs = ap (λ (l : List ℕ). five e ++ l) (flat_append es fs) ∙ sym (append_assoc (five e) (flat es) (flat fs))

-- the numbers of the rows that are read are the buffer's
five-entry_at : (xs : List ℕ) (k : ℕ) → k + 5 ≤ length xs → five (entry_at xs k) ≡ take 5 (drop k xs)
unfolding five entry_at
five-entry_at xs k h =
    let h0 : k < length xs = omega arith in
    let h1 : suc k < length xs = omega arith in
    let h2 : suc (suc k) < length xs = omega arith in
    let h3 : suc (suc (suc k)) < length xs = omega arith in
    let h4 : suc (suc (suc (suc k))) < length xs = omega arith in
    simp unary_clauses
    (rw (drop-cons xs k 0, drop-cons xs (suc k) 0, drop-cons xs (suc (suc k)) 0, drop-cons xs (suc (suc (suc k))) 0, drop-cons xs (suc (suc (suc (suc k)))) 0))

pub flat-rows_of : (n : ℕ) (xs : List ℕ) → n * 5 ≤ length xs → flat (rows_of n xs) ≡ take (n * 5) xs
flat-rows_of zero xs h = refl
flat-rows_of (suc n) xs h =
    let e : suc n * 5 ≡ n * 5 + 5 = omega arith in
    flat_append (rows_of n xs) (entry_at xs (n * 5) ∷ [])
    ∙ ap (λ (l : List ℕ). l ++ (five (entry_at xs (n * 5)) ++ [])) (flat-rows_of n xs (omega arith))
    ∙ rw (append-nil (five (entry_at xs (n * 5))), five-entry_at xs (n * 5) (omega arith), e) (sym (take-add (n * 5) 5 xs))

-- a buffer has its own rows in front
pub rows_same : (n : ℕ) (xs : List ℕ) → n * 5 ≤ length xs → xs ≡ infront (flat (rows_of n xs)) xs
unfolding infront
rows_same n xs h = rw (flat-rows_of n xs h, length-take-le (n * 5) xs h) (sym (take-append-drop (n * 5) xs))

-- rows that are written are read back
row_past : (e : Entry) (ys : List ℕ) (k : ℕ) → entry_at (five e ++ ys) (suc k * 5) ≡ entry_at ys (k * 5)
unfolding entry_at five
row_past e ys k = let s : suc k * 5 ≡ suc (suc (suc (suc (suc (k * 5))))) = omega arith in rw s (simp unary_clauses)

rows_cons : (n : ℕ) (e : Entry) (ys : List ℕ) → rows_of (suc n) (five e ++ ys) ≡ e ∷ rows_of n ys
unfolding entry_at five
rows_cons zero e ys = refl
rows_cons (suc n) e ys =
    ap (λ (l : List Entry). l ++ (entry_at (five e ++ ys) (suc n * 5) ∷ [])) (rows_cons n e ys)
    ∙ ap (λ (x : Entry). (e ∷ rows_of n ys) ++ (x ∷ [])) (row_past e ys n)

pub rows-flat : (es : List Entry) (ys : List ℕ) → rows_of (length es) (flat es ++ ys) ≡ es
rows-flat [] ys = refl
rows-flat (e ∷ es) ys =
    ap (rows_of (suc (length es))) (append_assoc (five e) (flat es) ys)
    ∙ (rows_cons (length es) e (flat es ++ ys) ∙ ap (λ (l : List Entry). e ∷ l) (rows-flat es ys))

pub rows_back : (es : List Entry) (xs : List ℕ) → rows_of (length es) (infront (flat es) xs) ≡ es
unfolding infront
rows_back es xs = rows-flat es (drop (length (flat es)) xs)

module _ (ns xs : List ℕ) where
  apart : (k : ℕ) → length ns ≤ k → k ≡ length ns + (k - length ns)
  apart k h = omega arith

  -- what is behind stays (R184)
  pub drop-infront : (k : ℕ) → length ns ≤ k → drop k (infront ns xs) ≡ drop k xs
  unfolding infront
  drop-infront k h = rw (apart k h) (drop-append-add ns (drop (length ns) xs) (k - length ns) ∙ drop-drop (k - length ns) (length ns) xs)

  pub beyond : (k : ℕ) → length ns ≤ k → get_or (infront ns xs) k 0 ≡ get_or xs k 0
  unfolding infront
  beyond k h = rw (apart k h) (get_or-append-add ns (drop (length ns) xs) (k - length ns) 0 ∙ get_or-drop (length ns) xs (k - length ns) 0)

  pub length-infront : length ns ≤ length xs → length (infront ns xs) ≡ length xs
  unfolding infront
  length-infront h = simp (length-append, length-drop) (omega arith)

-- later rows cover earlier ones
pub again : (es fs : List Entry) (xs : List ℕ) → length es ≤ length fs → infront (flat fs) (infront (flat es) xs) ≡ infront (flat fs) xs
unfolding infront
again es fs xs h = ap (λ (l : List ℕ). flat fs ++ l) (drop-infront (flat es) xs (length (flat fs)) (rw (length-flat es, length-flat fs) (omega arith)))
