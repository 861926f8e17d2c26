-- What the machine remembers is what Offences.antt says of the characters before: so a byte begins where it stands, with as many bytes before it. By
-- induction on what is still to be read. That a text is told a slip exactly when that is its first offence is proved in proofs/Exactly.antt.
use Rattle.std.specs.Prelude.{ℕ, zero, suc, ◌+◌, ◌≤◌, ◌<◌, ◌≡◌, refl, Bool, false, not, ◌&&◌, length, get_or, drop, Err, Ok, Result, Some}
use Rattle.std.proofs.Common.{sym, ◌∙◌, arith}
use Rattle.std.proofs.Math.Path.{ap}
use Rattle.std.proofs.Math.Bool.{true}
use mathlib.Core.List.{List, [], ◌∷◌}
use Rattle.typed.specs.declared.Slip.{Slip}
use Rattle.typed.specs.declared.chars.Class.{Class}
use Rattle.typed.specs.declared.chars.Class.TheVariants.{Digit, Blank, NewLine, Hash, Other}
use Rattle.typed.specs.declared.scan.State.{State}
use Rattle.typed.specs.declared.scan.State.TheVariants.{Between, Comment, Half}
use Rattle.typed.specs.declared.scan.Step.{Step}
use Rattle.typed.specs.declared.scan.Step.TheVariants.{To, Whole, Stop}
use Rattle.typed.specs.Chars.{digit_class, class_digit, is_digit, class_of}
use Rattle.typed.specs.Reading.{Reading, end, slips, byte, meets, act, go_on, at_end, reading, reading_of, spot}
use Rattle.typed.specs.Offences.{class_at, digit_at, in_comment, begins, begun, separates, Offends}
use Rattle.typed.specs.Spots.{peel}
use Rattle.typed.specs.declared.scan.Offence.{Offence}

pub true_false : {A : Type 0} (b : Bool) → b ≡ true → b ≡ false → A
true_false b p q = absurd (let z : ◌≡◌ {A = Bool} true false = sym p ∙ q in let y : ◌≡◌ {A = ℕ} 0 1 = cc in omega arith)

-- what separates bytes is no digit, and may stand where it does
pub parting_digit : (k : Class) → separates k ≡ true → k ≡ Digit → ⊥
parting_digit k s e = true_false (separates Digit) (rw e at s) refl

-- what is of another class than digits is no digit
pub no_digit : (c : ℕ) (k : Class) → class_of c ≡ k → (k ≡ Digit → ⊥) → is_digit c ≡ false
no_digit c k e n = go (is_digit c) refl
  where
    go : (d : Bool) → is_digit c ≡ d → d ≡ false
    go true q = absurd (n (sym e ∙ class_digit c q))
    go false q = refl

and_second : (a b : Bool) → b ≡ false → a && b ≡ false
and_second true b e = e
and_second false b e = refl

module _ (text : List ℕ) where
  -- whether the character before an index begins a byte
  abbrev prior : ℕ → Bool
  prior zero = false
  prior (suc i) = begins text i

  begins-here : (i : ℕ) → digit_at text i ≡ true → in_comment text i ≡ false → prior i ≡ false → begins text i ≡ true
  begins-here zero d c p = d
  begins-here (suc i) d c p = rw (d, c, p)

  begins_no_digit : (i : ℕ) → digit_at text i ≡ false → begins text i ≡ false
  begins_no_digit zero d = d
  begins_no_digit (suc i) d = rw d

  pub begins-in_comment : (i : ℕ) → in_comment text i ≡ true → begins text i ≡ false
  begins-in_comment zero c = absurd (let z : ◌≡◌ {A = ℕ} 0 1 = cc in omega arith)
  begins-in_comment (suc i) c = rw (and_second (digit_at text (suc i)) (not (in_comment text (suc i))) (rw c))

  pub begins_outside : (i : ℕ) → begins text i ≡ true → in_comment text i ≡ false
  begins_outside i b = go (in_comment text i) refl
    where
      go : (c : Bool) → in_comment text i ≡ c → c ≡ false
      go true e = true_false (begins text i) b (begins-in_comment i e)
      go false e = refl

  pub begins-after : (i : ℕ) → begins text i ≡ true → begins text (suc i) ≡ false
  begins-after i b = and_second (digit_at text (suc i) && not (in_comment text (suc i))) (not (begins text i)) (rw b)

  -- what a state with n bytes behind it remembers of the characters before `at`
  abbrev pub Agrees : State → ℕ → ℕ → Type 0
  Agrees Between at n = (in_comment text at ≡ false) × (prior at ≡ false) × (begun text at ≡ n)
  Agrees Comment at n = (in_comment text at ≡ true) × (begun text at ≡ n)
  Agrees (Half high first) at n = (at ≡ suc first) × (begins text first ≡ true) × (in_comment text at ≡ false) × (begun text first ≡ n)

  -- what the next state then remembers; a byte that is whole began where it says, with n before it
  abbrev pub Next : ℕ → ℕ → Step → Type 0
  Next at n (To t) = Agrees t (suc at) n
  Next at n (Whole b) = (begins text b.first ≡ true) × (begun text b.first ≡ n) × Agrees Between (suc at) (suc n)
  Next at n (Stop o) = Unit

  -- what separates bytes begins none
  pub plain : (at : ℕ) (k : Class) → separates k ≡ true → class_at text at ≡ k → begins text at ≡ false
  plain at k n q = begins_no_digit at (no_digit (get_or text at 0) k q (parting_digit k n))

  same-begun : (at : ℕ) → begins text at ≡ false → begun text (suc at) ≡ begun text at
  same-begun at b = rw b

  agrees_whole : (high first at n : ℕ) → Agrees (Half high first) at n → class_at text at ≡ Digit → Agrees Between (suc at) (suc n)
  agrees_whole high first at n a q =
      let not-here : begins text at ≡ false = rw a.0 (begins-after first a.1) in
      (rw q a.2, not-here, rw (not-here, a.0, a.1, a.3))

  pub agrees_next : (at n c : ℕ) (s : State) (k : Class) → Agrees s at n → class_at text at ≡ k → Next at n (meets s at c k)
  agrees_next at n c Between Digit a q = (refl, begins-here at (digit_class _ q) a.0 a.1, rw q a.0, a.2)
  agrees_next at n c Between Blank a q = let b = plain at Blank refl q in (rw q a.0, b, same-begun at b ∙ a.2)
  agrees_next at n c Between NewLine a q = let b = plain at NewLine refl q in (rw q, b, same-begun at b ∙ a.2)
  agrees_next at n c Between Hash a q = let b = plain at Hash refl q in (rw q, same-begun at b ∙ a.2)
  agrees_next at n c Between Other a q = tt
  agrees_next at n c Comment Digit a q = (rw q a.0, same-begun at (begins-in_comment at a.0) ∙ a.1)
  agrees_next at n c Comment Blank a q = (rw q a.0, same-begun at (begins-in_comment at a.0) ∙ a.1)
  agrees_next at n c Comment NewLine a q = let b = begins-in_comment at a.0 in (rw q, b, same-begun at b ∙ a.1)
  agrees_next at n c Comment Hash a q = (rw q, same-begun at (begins-in_comment at a.0) ∙ a.1)
  agrees_next at n c Comment Other a q = (rw q a.0, same-begun at (begins-in_comment at a.0) ∙ a.1)
  agrees_next at n c (Half high first) Digit a q = (a.1, a.3, agrees_whole high first at n a q)
  agrees_next at n c (Half high first) Blank a q = tt
  agrees_next at n c (Half high first) NewLine a q = tt
  agrees_next at n c (Half high first) Hash a q = tt
  agrees_next at n c (Half high first) Other a q = tt

  -- byte i of a reading begins where it stands, with i bytes before it
  abbrev Begun : ℕ → Reading → Type 0
  Begun n end = Unit
  Begun n (slips slip at) = Unit
  Begun n (byte v first r) = (begins text first ≡ true) × (begun text first ≡ n) × Begun (suc n) r

  begun-at_end : (n : ℕ) (s : State) → Begun n (at_end s)
  begun-at_end n Between = tt
  begun-at_end n Comment = tt
  begun-at_end n (Half high first) = tt

  begun-from : (cs : List ℕ) (s : State) (at n : ℕ) → drop at text ≡ cs → Agrees s at n → Begun n (reading s at cs)
  unfolding reading act
  begun-from [] s at n e a = begun-at_end n s
  begun-from (c ∷ cs) s at n e a =
      let p = peel text at c cs e in
      go (meets s at c (class_of c)) (agrees_next at n c s (class_of c) a (ap class_of p.1)) (λ t m. begun-from cs t (suc at) m p.2)
    where
      go : (d : Step) → Next at n d → ((t : State) (m : ℕ) → Agrees t (suc at) m → Begun m (reading t (suc at) cs)) → Begun n (go_on d (λ t. reading t (suc at) cs))
      go (To t) a more = more t n a
      go (Whole b) a more = (a.0, a.1, more Between (suc n) a.2)
      go (Stop o) a more = tt

  begun-spot : (i n : ℕ) (r : Reading) → Begun n r → (at : ℕ) → spot i r ≡ Some at → (begins text at ≡ true) × (begun text at ≡ n + i)
  begun-spot i n end b at e = absurd (let z : ◌≡◌ {A = ℕ} 0 1 = cc in omega arith)
  begun-spot i n (slips slip j) b at e = absurd (let z : ◌≡◌ {A = ℕ} 0 1 = cc in omega arith)
  begun-spot zero n (byte v first r) b at e = let z : first ≡ at = cc in (rw (← z) b.0, rw (← z) (let y = b.1 in omega arith))
  begun-spot (suc i) n (byte v first r) b at e = let w = begun-spot i (suc n) r b.2 at e in (w.0, let y = w.1 in omega arith)

  -- byte i stands where a byte begins that has i before it
  pub spot-begins : (i at : ℕ) → spot i (reading_of text) ≡ Some at → (begins text at ≡ true) × (begun text at ≡ i)
  spot-begins i at e =
      let w = begun-spot i 0 (reading_of text) (begun-from text Between 0 0 refl (refl, refl, refl)) at e in
      (w.0, let y = w.1 in omega arith)

  module _ (room : ℕ) where
    -- index i does not offend
    abbrev pub Quiet : ℕ → Type 0
    Quiet i = (k : Slip) → Offends text room k i → ⊥

    -- what is told is the first offence from an index on
    abbrev pub Verdict : ℕ → Result ℕ Offence → Type 0
    Verdict from (Ok m) = (begun text (length text) ≡ m) × ((k : Slip) (j : ℕ) → from ≤ j → Offends text room k j → ⊥)
    Verdict from (Err o) = Offends text room o.slip o.at × (from ≤ o.at) × ((k : Slip) (j : ℕ) → from ≤ j → j < o.at → Offends text room k j → ⊥)

    -- from which index on nothing is settled
    abbrev pub since : State → ℕ → ℕ
    since Between at = at
    since Comment at = at
    since (Half high first) at = first
