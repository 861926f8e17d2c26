-- A character is in a comment exactly when a `#` stands before it and no newline between the two. By induction on the index.
use Rattle.std.specs.Prelude.{ℕ, zero, suc, ◌<◌, ◌≡◌, refl, Bool, true, false, List, ◌↔◌, eqb}
use Rattle.std.proofs.Common.{arith, eqb-true}
use Rattle.std.proofs.lemmas.Bool.{eqb-false}
use Rattle.typed.specs.declared.chars.Class.{Class}
use Rattle.typed.specs.declared.chars.Class.TheVariants.{Digit, Blank, NewLine, Hash, Other}
use Rattle.typed.specs.Offences.{class_at, comment_after, in_comment}

pub record InComment (text : List ℕ) (i : ℕ) : Type 0 where
  pub start : ℕ
  pub before : start < i
  pub hash : class_at text start ≡ Hash
  pub same_line : (j : ℕ) → start < j → j < i → class_at text j ≡ NewLine → ⊥

module _ (text : List ℕ) where
  -- a comment goes on over a character that is no newline
  longer : (i : ℕ) → (class_at text i ≡ NewLine → ⊥) → InComment text i → InComment text (suc i)
  longer i n m = record { start = m.start; before = let b = m.before in omega arith; hash = m.hash; same_line = λ j a b. go j a b (eqb j i) refl }
    where
      go : (j : ℕ) → m.start < j → j < suc i → (t : Bool) → eqb j i ≡ t → class_at text j ≡ NewLine → ⊥
      go j a b true t e = let z : j ≡ i = eqb-true j i t in n (rw z at e)
      go j a b false t e = m.same_line j a (let z = eqb-false j i t in omega arith) e

  begun-here : (i : ℕ) → class_at text i ≡ Hash → InComment text (suc i)
  begun-here i e = record { start = i; before = omega arith; hash = e; same_line = λ j a b n. absurd (omega arith) }

  -- and comes from the character before
  shorter : (i : ℕ) → (class_at text i ≡ Hash → ⊥) → InComment text (suc i) → InComment text i
  shorter i n m = go (eqb m.start i) refl
    where
      go : (t : Bool) → eqb m.start i ≡ t → InComment text i
      go true t = let z : m.start ≡ i = eqb-true m.start i t in absurd (n (rw z at m.hash))
      go false t =
          record { start = m.start; before = let z = eqb-false m.start i t in let b = m.before in omega arith; hash = m.hash; same_line = λ j a b e. m.same_line j a (omega arith) e }

  no_comment : (i : ℕ) → class_at text i ≡ NewLine → InComment text (suc i) → ⊥
  no_comment i e m = go (eqb m.start i) refl
    where
      go : (t : Bool) → eqb m.start i ≡ t → ⊥
      go true t =
          let z : m.start ≡ i = eqb-true m.start i t in
          let h : class_at text i ≡ Hash = rw z at m.hash in
          let y : ◌≡◌ {A = ℕ} 0 1 = cc in
          omega arith
      go false t = m.same_line i (let z = eqb-false m.start i t in let b = m.before in omega arith) (omega arith) e

  pub comment_is : (i : ℕ) → (in_comment text i ≡ true) ↔ InComment text i
  comment_is zero = (λ e. absurd (let z : ◌≡◌ {A = ℕ} 0 1 = cc in omega arith), λ m. absurd (let b = m.before in omega arith))
  comment_is (suc i) = go (class_at text i) refl (comment_is i)
    where
      go : (k : Class) → class_at text i ≡ k → (in_comment text i ≡ true) ↔ InComment text i → (comment_after k (in_comment text i) ≡ true) ↔ InComment text (suc i)
      go Digit q h = (λ e. longer i (λ n. let z : ◌≡◌ {A = ℕ} 0 1 = cc in omega arith) (h.0 e), λ m. h.1 (shorter i (λ n. let z : ◌≡◌ {A = ℕ} 0 1 = cc in omega arith) m))
      go Blank q h = (λ e. longer i (λ n. let z : ◌≡◌ {A = ℕ} 0 1 = cc in omega arith) (h.0 e), λ m. h.1 (shorter i (λ n. let z : ◌≡◌ {A = ℕ} 0 1 = cc in omega arith) m))
      go Other q h = (λ e. longer i (λ n. let z : ◌≡◌ {A = ℕ} 0 1 = cc in omega arith) (h.0 e), λ m. h.1 (shorter i (λ n. let z : ◌≡◌ {A = ℕ} 0 1 = cc in omega arith) m))
      go NewLine q h = (λ e. absurd (let z : ◌≡◌ {A = ℕ} 0 1 = cc in omega arith), λ m. absurd (no_comment i q m))
      go Hash q h = (λ e. begun-here i q, λ m. refl)
