-- Characters of a typed text, by their byte: what each is, and what a digit is worth.
use Rattle.std.specs.Prelude.{ℕ, ◌+◌, ◌*◌, ◌-◌, ◌≤◌, ◌<◌, ◌≡◌, refl, Bool, true, false, cond, ◌&&◌, ◌||◌, leb, ltb, eqb}
use Rattle.std.proofs.Common.{subst, arith, leb-true, le-leb, ne_eqb}
use Rattle.std.proofs.lemmas.Bool.{lt-leb}
use Rattle.typed.specs.declared.chars.Class.{Class}
use Rattle.typed.specs.declared.chars.Class.TheVariants.{Digit, Blank, NewLine, Hash, Other}

unfoldable pub within : ℕ → ℕ → ℕ → Bool
within low high c = leb low c && leb c high

-- 0 to 9, A to F, a to f
unfoldable pub is_digit : ℕ → Bool
is_digit c = within 48 57 c || within 65 70 c || within 97 102 c

-- a space, a tab, a carriage return
unfoldable pub is_blank : ℕ → Bool
is_blank c = eqb c 32 || eqb c 9 || eqb c 13

unfoldable pub class_of : ℕ → Class
class_of c = cond (is_digit c) Digit (cond (is_blank c) Blank (cond (eqb c 10) NewLine (cond (eqb c 35) Hash Other)))

-- what a digit is worth, in either case; what is no digit is worth 0, and no reading asks for it
unfoldable pub value_of : ℕ → ℕ
value_of c = cond (within 48 57 c) (c - 48) (cond (within 65 70 c) (c - 55) (cond (within 97 102 c) (c - 87) 0))

-- the byte of two digits, the high one first
unfoldable pub byte_of : ℕ → ℕ → ℕ
byte_of high low = value_of high * 16 + value_of low

-- the digit that is worth so much, in capitals
unfoldable pub digit_of : ℕ → ℕ
digit_of v = cond (ltb v 10) (v + 48) (v + 55)

-- what a test of a range tells
pub within_parts : (low high c : ℕ) → within low high c ≡ true → (low ≤ c) × (c ≤ high)
unfolding within
within_parts low high c e = go (leb low c) refl (leb c high) refl e
  where
    go : (a : Bool) → leb low c ≡ a → (b : Bool) → leb c high ≡ b → a && b ≡ true → (low ≤ c) × (c ≤ high)
    go true p true q r = (leb-true low c p, leb-true c high q)
    go true p false q r = absurd (let z : ◌≡◌ {A = ℕ} 0 1 = cc in omega arith)
    go false p b q r = absurd (let z : ◌≡◌ {A = ℕ} 0 1 = cc in omega arith)

pub in_range : (low high c : ℕ) → low ≤ c → c ≤ high → within low high c ≡ true
unfolding within
in_range low high c a b = rw (le-leb low c a, le-leb c high b)

pub above : (low high c : ℕ) → high < c → within low high c ≡ false
unfolding within
above low high c h = go (leb low c)
  where
    go : (a : Bool) → a && leb c high ≡ false
    go true = lt-leb c high h
    go false = refl

-- what the class of a character says of two of the tests
abbrev Shows : Class → Bool → Bool → Type 0
Shows Digit digit newline = digit ≡ true
Shows Blank digit newline = Unit
Shows NewLine digit newline = newline ≡ true
Shows Hash digit newline = Unit
Shows Other digit newline = Unit

shows : (c : ℕ) → Shows (class_of c) (is_digit c) (eqb c 10)
unfolding class_of
shows c = go (is_digit c) (is_blank c) (eqb c 10) (eqb c 35)
  where
    go : (d b n h : Bool) → Shows (cond d Digit (cond b Blank (cond n NewLine (cond h Hash Other)))) d n
    go true b n h = refl
    go false true n h = tt
    go false false true h = refl
    go false false false true = tt
    go false false false false = tt

-- the digits, and only they, are of their class, and only the newline is of its
pub digit_class : (c : ℕ) → class_of c ≡ Digit → is_digit c ≡ true
digit_class c e = subst (λ k. Shows k (is_digit c) (eqb c 10)) e (shows c)

pub newline_class : (c : ℕ) → class_of c ≡ NewLine → eqb c 10 ≡ true
newline_class c e = subst (λ k. Shows k (is_digit c) (eqb c 10)) e (shows c)

pub class_digit : (c : ℕ) → is_digit c ≡ true → class_of c ≡ Digit
unfolding class_of
class_digit c e = rw e

-- outside ASCII nothing may stand but in comments
pub wide_class : (c : ℕ) → 128 ≤ c → class_of c ≡ Other
unfolding class_of is_digit is_blank
wide_class c h =
    rw (above 48 57 c (omega arith), above 65 70 c (omega arith), above 97 102 c (omega arith))
    (rw (ne_eqb c 32 (λ e. omega arith), ne_eqb c 9 (λ e. omega arith), ne_eqb c 13 (λ e. omega arith), ne_eqb c 10 (λ e. omega arith), ne_eqb c 35 (λ e. omega arith)))
