-- Columns as an editor counts them, in characters of UTF-8: a byte from 128 to 191 goes on with the character that began before it. Wherever a place is
-- told, that is the column which counting bytes gives: such bytes stand in comments only, or are themselves the slip, and behind a `#` nothing of its
-- line is told. By induction on the index; here for the bytes of a text, in proofs/Editor.antt for its slip.
use Prim.Native.Nat.{ℕ, zero, suc, ◌+◌, ◌≤◌, ◌<◌}
use Rattle.std.specs.Prelude.{◌≡◌, Bool, true, false, cond, List, eqb, length, get_or, take}
use Rattle.std.proofs.Math.Path.{refl}
use Rattle.std.proofs.Common.{ap, arith, eqb-true}
use Rattle.typed.specs.declared.Slip.{Slip}
use Rattle.typed.specs.declared.Slip.TheVariants.{Stray}
use Rattle.typed.specs.declared.Place.{Place}
use Rattle.typed.specs.declared.chars.Class.{Class}
use Rattle.typed.specs.declared.chars.Class.TheVariants.{Digit, Blank, NewLine, Hash, Other}
use Rattle.typed.specs.Chars.{within, within_parts, class_of, newline_class, wide_class}
use Rattle.typed.specs.Places.{next_place, behind, behind_next, front, place_at, place_next}
use Rattle.typed.specs.Offences.{class_at, comment_after, in_comment, begins, Offends, stray}
use Rattle.typed.specs.Exactly.{true_false, begins_outside}

unfoldable pub is_continuation : ℕ → Bool
is_continuation c = within 128 191 c

abbrev pub next_shown : Place → ℕ → Place
next_shown p c = cond (is_continuation c) p (next_place p c)

unfoldable pub shown_at : List ℕ → ℕ → Place
shown_at text at = behind next_shown front (take at text)

shown_next : (text : List ℕ) (i : ℕ) → i < length text → shown_at text (suc i) ≡ next_shown (shown_at text i) (get_or text i 0)
unfolding shown_at
shown_next text i h = behind_next next_shown front text i h

-- the two counts give one line, and outside comments one column
record Same (p q : Place) (commented : Bool) : Type 0 where
  line : p.line ≡ q.line
  column : commented ≡ false → p.column ≡ q.column

-- a comment that is not there after a character was not there before it
before : (k : Class) (b : Bool) → (k ≡ NewLine → ⊥) → comment_after k b ≡ false → b ≡ false
before Digit b n e = e
before Blank b n e = e
before NewLine b n e = absurd (n refl)
before Hash b n e = absurd (let z : ◌≡◌ {A = ℕ} 0 1 = cc in omega arith)
before Other b n e = e

same_next : (c : ℕ) (p q : Place) (b : Bool) → Same p q b → (b ≡ false → class_of c ≡ Other → ⊥) → Same (next_shown p c) (next_place q c) (comment_after (class_of c) b)
unfolding is_continuation
same_next c p q b s n = go (is_continuation c) refl (eqb c 10) refl
  where
    go : (g : Bool) → is_continuation c ≡ g → (e : Bool) → eqb c 10 ≡ e
        → Same (cond g p (cond e (record { line = p.line + 1; column = 1 }) (record { line = p.line; column = p.column + 1 })))
        (cond e (record { line = q.line + 1; column = 1 }) (record { line = q.line; column = q.column + 1 })) (comment_after (class_of c) b)
    go true t true e = absurd (let w = within_parts 128 191 c t in let z = eqb-true c 10 e in omega arith)
    go true t false e =
        let w = within_parts 128 191 c t in
        let o = wide_class c w.0 in
        record { line = s.line; column = λ x. absurd (n (rw o at x) o) }
    go false t true e = record { line = ap (λ l. l + 1) s.line; column = λ x. refl }
    go false t false e =
        let goes_on : class_of c ≡ NewLine → ⊥ = λ y. true_false (eqb c 10) (newline_class c y) e in
        record { line = s.line; column = λ x. ap (λ k. k + 1) (s.column (before (class_of c) b goes_on x)) }

module _ (text : List ℕ) where
  abbrev Unstrayed : ℕ → Type 0
  Unstrayed i = (j : ℕ) → j < i → in_comment text j ≡ false → class_at text j ≡ Other → ⊥

  same_at : (i : ℕ) → i ≤ length text → Unstrayed i → Same (shown_at text i) (place_at text i) (in_comment text i)
  unfolding shown_at place_at behind
  same_at zero h n = record { line = refl; column = λ x. refl }
  same_at (suc i) h n =
      rw (shown_next text i (omega arith), place_next text i (omega arith))
      (same_next (get_or text i 0) (shown_at text i) (place_at text i) (in_comment text i) (same_at i (omega arith) (λ j l. n j (omega arith))) (n i (omega arith)))

  pub shown_is : (i : ℕ) → i ≤ length text → in_comment text i ≡ false → Unstrayed i → shown_at text i ≡ place_at text i
  shown_is i h c n = let s = same_at i h n in both (shown_at text i) (place_at text i).line (place_at text i).column s.line (s.column c)
    where
      both : (p : Place) (l k : ℕ) → p.line ≡ l → p.column ≡ k → p ≡ record { line = l; column = k }
      both p l k a b = rw (← a, ← b)

  -- where a byte of an accepted text stands
  pub byte_shown : (room i : ℕ) → i < length text → ((k : Slip) (j : ℕ) → Offends text room k j → ⊥) → begins text i ≡ true → shown_at text i ≡ place_at text i
  byte_shown room i h n b = shown_is i (omega arith) (begins_outside text i b) (λ j l c o. n Stray j (stray (omega arith) c o))
