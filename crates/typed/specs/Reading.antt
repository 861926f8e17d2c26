-- What a text says: its bytes in order, each with the index of its first digit, up to the end of the text or the first slip. A machine goes over the
-- text from left to right, one character a step; it knows no lines.
use Rattle.std.specs.Prelude.{ℕ, zero, suc, ◌≡◌, cond, List, [], ◌∷◌, ltb, drop, Err, None, Ok, Option, Result, Some}
use Rattle.std.proofs.Common.{ap}
use Rattle.typed.specs.declared.Slip.{Slip}
use Rattle.typed.specs.declared.Slip.TheVariants.{Stray, Alone, TooMany}
use Rattle.typed.specs.declared.chars.Class.{Class}
use Rattle.typed.specs.declared.chars.Class.TheVariants.{Digit, Blank, NewLine, Hash, Other}
use Rattle.typed.specs.declared.scan.State.{State}
use Rattle.typed.specs.declared.scan.State.TheVariants.{Between, Comment, Half}
use Rattle.typed.specs.declared.scan.Step.{Step}
use Rattle.typed.specs.declared.scan.Step.TheVariants.{To, Whole, Stop}
use Rattle.typed.specs.Chars.{class_of, byte_of}
use Rattle.typed.specs.declared.scan.Byte.{Byte}
use Rattle.typed.specs.declared.scan.Offence.{Offence}
use Rattle.typed.specs.declared.scan.Scan.{Scan}

-- 1: a character that is neither a digit nor a space, tab, carriage return, newline or `#`; 2: a digit alone; 3: more bytes than there is room for
abbrev pub number_of : Slip → ℕ
number_of Stray = 1
number_of Alone = 2
number_of TooMany = 3

-- a slip, and the index at which it is told
abbrev pub offence : Slip → ℕ → Offence
offence slip at = record { slip = slip; at = at }

-- what the character c at index `at` leads to: a comment goes from `#` to the end of the line, and a byte's two digits stand together. After a first
-- digit, whatever separates bytes shows that the digit is alone, and what may stand nowhere is told itself
abbrev pub meets : State → ℕ → ℕ → Class → Step
meets Between at c Digit = To (Half c at)
meets Between at c Blank = To Between
meets Between at c NewLine = To Between
meets Between at c Hash = To Comment
meets Between at c Other = Stop (offence Stray at)
meets Comment at c Digit = To Comment
meets Comment at c Blank = To Comment
meets Comment at c NewLine = To Between
meets Comment at c Hash = To Comment
meets Comment at c Other = To Comment
meets (Half high first) at c Digit = Whole (record { value = byte_of high c; first = first })
meets (Half high first) at c Blank = Stop (offence Alone first)
meets (Half high first) at c NewLine = Stop (offence Alone first)
meets (Half high first) at c Hash = Stop (offence Alone first)
meets (Half high first) at c Other = Stop (offence Stray at)

unfoldable pub act : State → ℕ → ℕ → Step
act s at c = meets s at c (class_of c)

-- the bytes, each with its value and the index of its first digit, and how it ends
pub data Reading : Type 0 where
  end : Reading
  slips : Slip → ℕ → Reading
  byte : ℕ → ℕ → Reading → Reading

abbrev pub at_end : State → Reading
at_end Between = end
at_end Comment = end
at_end (Half high first) = slips Alone first

abbrev pub go_on : Step → (State → Reading) → Reading
go_on (To s) rest = rest s
go_on (Whole b) rest = byte b.value b.first (rest Between)
go_on (Stop o) rest = slips o.slip o.at

-- what is read from index `at` on, in a state
unfoldable pub reading : State → ℕ → List ℕ → Reading
reading s at [] = at_end s
reading s at (c ∷ cs) = go_on (act s at c) (λ t. reading t (suc at) cs)

abbrev pub reading_of : List ℕ → Reading
reading_of text = reading Between 0 text

abbrev pub bytes_in : Reading → List ℕ
bytes_in end = []
bytes_in (slips slip at) = []
bytes_in (byte v first r) = v ∷ bytes_in r

-- where two are one, so are their parts
pub offence_parts : {k m : Slip} {i j : ℕ} → ◌≡◌ {A = Result ℕ Offence} (Err (offence k i)) (Err (offence m j)) → (k ≡ m) × (i ≡ j)
offence_parts {k} {m} {i} {j} e = let z : offence k i ≡ offence m j = cc in (ap (λ o. o.slip) z, ap (λ o. o.at) z)

-- with room for so many bytes, of which n are taken: how many there are in all, or the first slip
abbrev pub checked : ℕ → ℕ → Reading → Result ℕ Offence
checked room n end = Ok n
checked room n (slips slip at) = Err (offence slip at)
checked room n (byte v first r) = cond (ltb n room) (checked room (suc n) r) (Err (offence TooMany first))

abbrev pub checked_of : List ℕ → ℕ → Result ℕ Offence
checked_of text room = checked room 0 (reading_of text)

-- the index of the first digit of byte n
abbrev pub spot : ℕ → Reading → Option ℕ
spot n end = None
spot n (slips slip at) = None
spot zero (byte v first r) = Some first
spot (suc n) (byte v first r) = spot n r

-- a reading one by one: the bytes, and behind them the first slip
abbrev pub items_in : Reading → List (Result Byte Offence)
items_in end = []
items_in (slips slip at) = Err (offence slip at) ∷ []
items_in (byte v first r) = Ok (record { value = v; first = first }) ∷ items_in r

-- what a walk over a text has still to give
abbrev pub items_left : Scan → List (Result Byte Offence)
items_left scan = items_in (reading scan.state scan.at (drop scan.at scan.text.now))
