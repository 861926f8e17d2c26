-- The slips in propositions, index by index, with no machine: which characters stand in a comment, which digits begin a byte, and
-- what offends where. proofs/Exactly.antt proves that the first offence is what is told.
use Rattle.std.specs.Prelude.{ℕ, zero, suc, ◌≤◌, ◌<◌, ◌≡◌, Bool, true, false, cond, not, ◌&&◌, List, length, get_or}
use Rattle.typed.specs.declared.Slip.{Slip}
use Rattle.typed.specs.declared.Slip.TheVariants.{Stray, Alone, TooMany}
use Rattle.typed.specs.declared.chars.Class.{Class}
use Rattle.typed.specs.declared.chars.Class.TheVariants.{Digit, Blank, NewLine, Hash, Other}
use Rattle.typed.specs.Chars.{is_digit, class_of}

-- past the end there is nothing: 0 is no digit
abbrev pub class_at : List ℕ → ℕ → Class
class_at text i = class_of (get_or text i 0)

abbrev pub digit_at : List ℕ → ℕ → Bool
digit_at text i = is_digit (get_or text i 0)

-- whether index i is in a comment: after a `#`, up to and with the newline that ends its line
abbrev pub comment_after : Class → Bool → Bool
comment_after Digit before = before
comment_after Blank before = before
comment_after NewLine before = false
comment_after Hash before = true
comment_after Other before = before

abbrev pub in_comment : List ℕ → ℕ → Bool
in_comment text zero = false
in_comment text (suc i) = comment_after (class_at text i) (in_comment text i)

-- a digit begins a byte if it is in no comment and the character before it does not begin one
abbrev pub begins : List ℕ → ℕ → Bool
begins text zero = digit_at text 0
begins text (suc i) = digit_at text (suc i) && not (in_comment text (suc i)) && not (begins text i)

-- how many bytes begin before index i
abbrev pub begun : List ℕ → ℕ → ℕ
begun text zero = 0
begun text (suc i) = cond (begins text i) (suc (begun text i)) (begun text i)

-- what separates bytes: a space, a tab, a carriage return, a newline, the `#` of a comment
abbrev pub separates : Class → Bool
separates Digit = false
separates Blank = true
separates NewLine = true
separates Hash = true
separates Other = false

-- at index i bytes are separated, or the text has ended
pub data Parts (text : List ℕ) (i : ℕ) : Type 0 where
  ends : length text ≤ i → Parts text i
  apart : separates (class_at text i) ≡ true → Parts text i

-- 1: the character at i is none of those that may stand there; 2: a digit begins a byte there, and what comes next parts bytes; 3: a byte begins there
-- with its two digits, and the bytes before it take all the room
pub data Offends (text : List ℕ) (room : ℕ) : Slip → ℕ → Type 0 where
  stray : {i : ℕ} → i < length text → in_comment text i ≡ false → class_at text i ≡ Other → Offends text room Stray i
  alone : {i : ℕ} → begins text i ≡ true → Parts text (suc i) → Offends text room Alone i
  too_many : {i : ℕ} → begins text i ≡ true → digit_at text (suc i) ≡ true → room ≤ begun text i → Offends text room TooMany i

-- the first offence
pub record First (text : List ℕ) (room : ℕ) (slip : Slip) (i : ℕ) : Type 0 where
  pub offends : Offends text room slip i
  pub none_before : (k : Slip) (j : ℕ) → j < i → Offends text room k j → ⊥
