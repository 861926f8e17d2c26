-- The contracts of the public functions, one record each, and that each leaves no second outcome. They ask nothing of the caller, and hold of every text
-- and every buffer.
use Rattle.std.specs.Prelude.{ℕ, ◌+◌, ◌≡◌, Bool, true, false, List, ◌++◌, leb, length, take, drop, Err, None, Ok, Option, Result, Some, codes}
use Rattle.std.proofs.Common.{sym, ◌∙◌}
use Rattle.typed.specs.declared.Slip.{Slip}
use Rattle.typed.specs.Reading.{number_of, reading_of, bytes_in, checked_of, spot}
use Rattle.typed.specs.Places.{place_at}
use Rattle.typed.specs.Writing.{text_of}
use Rattle.std.specs.Fmt.{decimal}
use Rattle.typed.specs.declared.scan.Offence.{Offence}
use Rattle.typed.specs.declared.Slipped.{Slipped}
use Rattle.typed.specs.declared.Place.{Place}

-- `u32::from(slip)`
pub record Numbers (slip : Slip) (r : ℕ) : Type 0 where
  pub result : r ≡ number_of slip

abbrev pub slip_at : Slip → Place → Slipped
slip_at slip place = record { slip = slip; place = place }

-- what a slip prints: its number, its line and its column
abbrev pub slip_text : Slipped → List ℕ
slip_text s = codes "slip " ++ decimal (number_of s.slip) ++ codes " " ++ decimal s.place.line ++ codes " " ++ decimal s.place.column

-- a slip is told by the place of its character
abbrev pub told : List ℕ → Result ℕ Offence → Result ℕ Slipped
told text (Ok n) = Ok n
told text (Err o) = Err (slip_at o.slip (place_at text o.at))

abbrev pub typed_of : List ℕ → ℕ → Result ℕ Slipped
typed_of text room = told text (checked_of text room)

abbrev pub bytes_of : List ℕ → List ℕ
bytes_of text = bytes_in (reading_of text)

-- numbers put at the front of a buffer
abbrev pub infront : List ℕ → List ℕ → List ℕ
infront ns out = ns ++ drop (length ns) out

-- what stands in the buffer afterwards: the bytes in front, and after a slip what stood there before
abbrev pub left : Result ℕ Offence → List ℕ → List ℕ → List ℕ
left (Ok n) bytes out = infront bytes out
left (Err o) bytes out = out

abbrev pub left_of : List ℕ → List ℕ → List ℕ
left_of text out = left (checked_of text (length out)) (bytes_of text) out

-- `read(text, out)`
pub record Reads (text out : List ℕ) (r : Result ℕ Slipped) (out' : List ℕ) : Type 0 where
  pub result : r ≡ typed_of text (length out)
  pub buffer : out' ≡ left_of text out

-- `place_of(text, i)`
abbrev pub located : List ℕ → Option ℕ → Option Place
located text None = None
located text (Some at) = Some (place_at text at)

abbrev pub located_of : List ℕ → ℕ → Option Place
located_of text i = located text (spot i (reading_of text))

pub record Locates (text : List ℕ) (i : ℕ) (r : Option Place) : Type 0 where
  pub result : r ≡ located_of text i

-- `put_bytes(out, at, bytes, comment)`: the whole text from `at` on where it has room, else nothing
abbrev pub fits : List ℕ → ℕ → List ℕ → Bool
fits out at ns = leb (at + length ns) (length out)

abbrev pub written_to : Bool → ℕ → Option ℕ
written_to true end = Some end
written_to false end = None

abbrev pub leaves : Bool → ℕ → List ℕ → List ℕ → List ℕ
leaves true at ns out = take at out ++ ns ++ drop (at + length ns) out
leaves false at ns out = out

pub record Puts (out : List ℕ) (at : ℕ) (bytes comment : List ℕ) (r : Option ℕ) (out' : List ℕ) : Type 0 where
  pub result : r ≡ written_to (fits out at (text_of bytes comment)) (at + length (text_of bytes comment))
  pub buffer : out' ≡ leaves (fits out at (text_of bytes comment)) at (text_of bytes comment) out

-- no second outcome
pub numbers_one : (slip : Slip) (r q : ℕ) → Numbers slip r → Numbers slip q → r ≡ q
numbers_one slip r q x y = x.result ∙ sym y.result

pub reads_one : (text out : List ℕ) (r q : Result ℕ Slipped) (a b : List ℕ) → Reads text out r a → Reads text out q b → (r ≡ q) × (a ≡ b)
reads_one text out r q a b x y = (x.result ∙ sym y.result, x.buffer ∙ sym y.buffer)

pub locates_one : (text : List ℕ) (i : ℕ) (r q : Option Place) → Locates text i r → Locates text i q → r ≡ q
locates_one text i r q x y = x.result ∙ sym y.result

pub puts_one : (out : List ℕ) (at : ℕ) (bytes comment : List ℕ) (r q : Option ℕ) (a b : List ℕ)
    → Puts out at bytes comment r a → Puts out at bytes comment q b → (r ≡ q) × (a ≡ b)
puts_one out at bytes comment r q a b x y = (x.result ∙ sym y.result, x.buffer ∙ sym y.buffer)
