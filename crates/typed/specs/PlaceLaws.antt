-- Laws of places: going to a place's line and column leads to the character whose place it is, and no two characters have one place.
use Rattle.std.specs.Prelude.{ℕ, zero, suc, ◌+◌, ◌-◌, ◌<◌, ◌≡◌, refl, Bool, true, false, cond, List, [], ◌∷◌, eqb, ltb, length, get_or, take}
use Rattle.std.proofs.Common.{sym, arith, ltb-true, ltb-false}
use Rattle.typed.specs.declared.Place.{Place}
use Rattle.typed.specs.Places.{next_place, behind, front, place_at, place_next}

-- the text after so many newlines, and the character at a place of it
abbrev pub lines_on : ℕ → List ℕ → List ℕ
lines_on zero text = text
lines_on (suc n) [] = []
lines_on (suc n) (c ∷ cs) = cond (eqb c 10) (lines_on n cs) (lines_on (suc n) cs)

abbrev pub char_at : List ℕ → Place → ℕ
char_at text p = get_or (lines_on (p.line - 1) text) (p.column - 1) 0

-- from p on over i characters: still in p's line, or in a later one, where the character is found
data Reaches (p : Place) (text : List ℕ) (i : ℕ) (q : Place) : Type 0 where
  same : q.line ≡ p.line → q.column ≡ p.column + i → Reaches p text i q
  later : (n : ℕ) → q.line ≡ p.line + suc n → get_or (lines_on (suc n) text) (q.column - 1) 0 ≡ get_or text i 0 → Reaches p text i q

reaches : (text : List ℕ) (i : ℕ) (p : Place) → i < length text → Reaches p text i (behind next_place p (take i text))
unfolding behind
reaches [] i p h = absurd (omega arith)
reaches (c ∷ cs) zero p h = same refl (omega arith)
reaches (c ∷ cs) (suc i) p h = go (eqb c 10) refl (λ q. reaches cs i q (omega arith))
  where
    down : (q : Place) → eqb c 10 ≡ true → Reaches (record { line = p.line + 1; column = 1 }) cs i q → Reaches p (c ∷ cs) (suc i) q
    down q e (same l k) = later 0 (omega arith) (let z : q.column - 1 ≡ i = omega arith in rw (e, z))
    down q e (later n l k) = later (suc n) (omega arith) (rw e k)

    right : (q : Place) → eqb c 10 ≡ false → Reaches (record { line = p.line; column = p.column + 1 }) cs i q → Reaches p (c ∷ cs) (suc i) q
    right q e (same l k) = same l (omega arith)
    right q e (later n l k) = later n l (rw e k)

    go : (b : Bool) → eqb c 10 ≡ b → ((q : Place) → Reaches q cs i (behind next_place q (take i cs)))
        → Reaches p (c ∷ cs) (suc i) (behind next_place (cond b (record { line = p.line + 1; column = 1 }) (record { line = p.line; column = p.column + 1 })) (take i cs))
    go true e more = down _ e (more (record { line = p.line + 1; column = 1 }))
    go false e more = right _ e (more (record { line = p.line; column = p.column + 1 }))

-- at the place of index i stands the character of index i
pub char_at-place : (text : List ℕ) (i : ℕ) → i < length text → char_at text (place_at text i) ≡ get_or text i 0
unfolding place_at
char_at-place text i h = go (behind next_place front (take i text)) (reaches text i front h)
  where
    go : (q : Place) → Reaches front text i q → char_at text q ≡ get_or text i 0
    go q (same l k) = let a : q.line - 1 ≡ 0 = omega arith in let b : q.column - 1 ≡ i = omega arith in rw (a, b)
    go q (later n l k) = let a : q.line - 1 ≡ suc n = omega arith in rw a k

-- a place further on
data Before (p q : Place) : Type 0 where
  line : p.line < q.line → Before p q
  column : p.line ≡ q.line → p.column < q.column → Before p q

before_next : (p : Place) (c : ℕ) → Before p (next_place p c)
before_next p c = go (eqb c 10)
  where
    go : (b : Bool) → Before p (cond b (record { line = p.line + 1; column = 1 }) (record { line = p.line; column = p.column + 1 }))
    go true = line (omega arith)
    go false = column refl (omega arith)

before_trans : (p q r : Place) → Before p q → Before q r → Before p r
before_trans p q r (line a) (line b) = line (omega arith)
before_trans p q r (line a) (column b c) = line (omega arith)
before_trans p q r (column a c) (line b) = line (omega arith)
before_trans p q r (column a c) (column b d) = column (omega arith) (omega arith)

before_self : (p : Place) → Before p p → ⊥
before_self p (line a) = omega arith
before_self p (column a c) = omega arith

before_later : (text : List ℕ) (i n : ℕ) → i + n < length text → Before (place_at text i) (place_at text (suc (i + n)))
before_later text i zero h = let z : i + 0 ≡ i = omega arith in rw (z, place_next text i (omega arith)) (before_next (place_at text i) (get_or text i 0))
before_later text i (suc n) h =
    let z : i + suc n ≡ suc (i + n) = omega arith in
    rw (z, place_next text (suc (i + n)) (omega arith))
    (before_trans _ _ _ (before_later text i n (omega arith)) (before_next (place_at text (suc (i + n))) (get_or text (suc (i + n)) 0)))

apart : (text : List ℕ) (i j : ℕ) → i < j → j < length text → place_at text i ≡ place_at text j → ⊥
apart text i j h l e =
    let z : suc (i + (j - suc i)) ≡ j = omega arith in
    let b = before_later text i (j - suc i) (omega arith) in
    let b' : Before (place_at text i) (place_at text j) = rw z at b in
    before_self (place_at text j) (rw e at b')

-- no two characters have one place
pub one_place : (text : List ℕ) (i j : ℕ) → i < length text → j < length text → place_at text i ≡ place_at text j → i ≡ j
one_place text i j h l e = go (ltb i j) refl (ltb j i) refl
  where
    go : (a : Bool) → ltb i j ≡ a → (b : Bool) → ltb j i ≡ b → i ≡ j
    go true p b q = absurd (apart text i j (ltb-true i j p) l e)
    go false p true q = absurd (apart text j i (ltb-true j i q) h (sym e))
    go false p false q = let x = ltb-false i j p in let y = ltb-false j i q in omega arith
