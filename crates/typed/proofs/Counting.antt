-- What the loop that counts lines and columns keeps, one turn of it, and its end.
use Prim.Native.Nat.{ℕ, ◌+◌, ◌≤◌, ◌<◌}
use mathlib.Core.Path.{◌≡◌, sym, ap, ◌∙◌}
use mathlib.Core.List.{List}
use native.Mathlib.Numerals.{add-one}
use native.Mathlib.Omega.{arith}
use lib.ListN.{length, get_or, take}
use borrow.Author.Tests.{eq-eqb, ne_eqb}
use Rattle.std.proofs.Common.{take_all}
use Rattle.typed.specs.declared.Place.{Place}
use Rattle.typed.specs.Places.{next_place, place_at, place_next}

-- the place of an index, and neither its line nor its column is over the index by more than 1
pub record Counting (text : List ℕ) (i : ℕ) (p : Place) : Type 0 where
  pub few_lines : p.line ≤ i + 1
  pub few_columns : p.column ≤ i + 1
  pub is : p ≡ place_at text i

module _ {text : List ℕ} {i : ℕ} {p : Place} (k : Counting text i p) (h : i < length text) where
  next : place_at text (i + 1) ≡ next_place p (get_or text i 0)
  next = rw (add-one i, k.is) (place_next text i h)

  pub down : {q : Place} → get_or text i 0 ≡ 10 → q ≡ record { line = p.line + 1; column = 1 } → Counting text (i + 1) q
  down t e =
      let line = ap (λ x. x.line) e in
      let column = ap (λ x. x.column) e in
      let few = k.few_lines in
      record { few_lines = omega arith; few_columns = omega arith; is = e ∙ sym (next ∙ rw (eq-eqb _ _ t)) }

  pub right : {q : Place} → (get_or text i 0 ≡ 10 → ⊥) → q ≡ record { line = p.line; column = p.column + 1 } → Counting text (i + 1) q
  right t e =
      let line = ap (λ x. x.line) e in
      let column = ap (λ x. x.column) e in
      let few = k.few_lines in
      let near = k.few_columns in
      record { few_lines = omega arith; few_columns = omega arith; is = e ∙ sym (next ∙ rw (ne_eqb _ _ t)) }

pub counted_all : (text : List ℕ) (at i : ℕ) → length (take at text) ≤ i → place_at (take at text) i ≡ place_at text at
unfolding place_at
counted_all text at i h = rw (take_all i (take at text) h)
