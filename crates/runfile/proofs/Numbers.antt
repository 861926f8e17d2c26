-- Numbers of several bytes, lowest byte first, as `from_le_bytes` reads them off the bytes that stand from a place on; and the mark, as `starts_with` reads it.
use Rattle.std.specs.Prelude.{ℕ, ◌+◌, ◌≤◌, ◌<◌, ◌≡◌, refl, Bool, true, false, ◌&&◌, List, [], ◌∷◌, eqb, get_or, take, drop, length}
use Rattle.std.proofs.Common.{sym, ◌∙◌, arith, add-zero, eqb-true, eq-eqb, ne_eqb}
use Rattle.std.proofs.lemmas.Bool.{eqb-false}
use Rattle.std.specs.Cmp.Lexicographic.{pointwise}
use Rattle.std.proofs.lemmas.List.{get_or-take, get_or-drop}
use Rattle.std.specs.Int.{w16, w32, w64, from_le_bytes}
use Rattle.runfile.specs.Layout.{u16_at, u32_at, u64_at, marked}

byte_in : (f : List ℕ) (at n i : ℕ) → i < n → get_or (take n (drop at f)) i 0 ≡ get_or f (at + i) 0
byte_in f at n i h = get_or-take n (drop at f) i 0 h ∙ get_or-drop at f i 0

pub two_bytes : (f : List ℕ) (at : ℕ) → from_le_bytes w16 (take 2 (drop at f)) ≡ u16_at f at
unfolding u16_at
two_bytes f at = rw (byte_in f at 2 0 (omega arith), byte_in f at 2 1 (omega arith), add-zero at)

pub four_bytes : (f : List ℕ) (at : ℕ) → from_le_bytes w32 (take 4 (drop at f)) ≡ u32_at f at
unfolding u32_at
four_bytes f at = rw (byte_in f at 4 0 (omega arith), byte_in f at 4 1 (omega arith), byte_in f at 4 2 (omega arith), byte_in f at 4 3 (omega arith), add-zero at)

pub eight_bytes : (f : List ℕ) (at : ℕ) → from_le_bytes w64 (take 8 (drop at f)) ≡ u64_at f at
unfolding u32_at u64_at
eight_bytes f at =
    let five : at + 4 + 1 ≡ at + 5 = omega arith in
    let six : at + 4 + 2 ≡ at + 6 = omega arith in
    let seven : at + 4 + 3 ≡ at + 7 = omega arith in
    rw (
      five,
      six,
      seven,
      byte_in f at 8 0 (omega arith),
      byte_in f at 8 1 (omega arith),
      byte_in f at 8 2 (omega arith),
      byte_in f at 8 3 (omega arith),
      byte_in f at 8 4 (omega arith),
      byte_in f at 8 5 (omega arith),
      byte_in f at 8 6 (omega arith),
      byte_in f at 8 7 (omega arith),
      add-zero at,
    )
    (omega arith)

-- the mark's letters one by one
eqb_turned : (a b : ℕ) → eqb a b ≡ eqb b a
eqb_turned a b = go (eqb a b) refl
  where
    go : (t : Bool) → eqb a b ≡ t → t ≡ eqb b a
    go true e = sym (eq-eqb b a (sym (eqb-true a b e)))
    go false e = sym (ne_eqb b a (λ q. eqb-false a b e (sym q)))

and-true : (a : Bool) → (a && true) ≡ a
and-true true = refl
and-true false = refl

pub mark_stands : (f : List ℕ) → 3 ≤ length f → pointwise eqb (83 ∷ 87 ∷ 82 ∷ []) (take 3 f) ≡ marked f
unfolding marked
mark_stands [] h = absurd (omega arith)
mark_stands (a ∷ []) h = absurd (omega arith)
mark_stands (a ∷ b ∷ []) h = absurd (omega arith)
mark_stands (a ∷ b ∷ c ∷ f) h = rw (eqb_turned 83 a, eqb_turned 87 b, eqb_turned 82 c, and-true (eqb c 82))
