-- What is put reads back. A text says some bytes if, whatever follows it, a reader finds first these bytes and then what follows. Texts one behind the
-- other say the bytes one behind the other, and a text that says some bytes is typed again to them. That the text of `put_bytes` says its bytes, whatever
-- the comments are, is proved in proofs/Says.antt.
use Rattle.std.specs.Prelude.{ℕ, suc, ◌+◌, ◌≤◌, ◌<◌, ◌≡◌, refl, List, [], ◌∷◌, ◌++◌, length, get_or, Ok, Result}
use Rattle.std.proofs.Common.{add-zero, ap, ◌∙◌, append_assoc, append-nil, arith, length-append, lt-ltb}
use Rattle.typed.specs.declared.scan.State.TheVariants.{Between}
use Rattle.typed.specs.Reading.{Reading, end, byte, reading, reading_of, bytes_in, checked, checked_of}
use Rattle.typed.specs.Promises.{told, left, bytes_of, infront, Reads}
use Rattle.typed.specs.declared.Slipped.{Slipped}

-- in front of a reading stand some bytes
pub data Leads : List ℕ → Reading → Reading → Type 0 where
  none : {r : Reading} → Leads [] r r
  more : {b first : ℕ} {bs : List ℕ} {r q : Reading} → Leads bs r q → Leads (b ∷ bs) r (byte b first q)

-- the text, and whatever follows it
abbrev pub Ahead : List ℕ → List ℕ → Type 0
Ahead text bytes = (at : ℕ) (cs : List ℕ) → Leads bytes (reading Between (at + length text) cs) (reading Between at (text ++ cs))

pub record Says (text bytes : List ℕ) : Type 0 where
  ahead : Ahead text bytes

leads_append : {xs ys : List ℕ} {r m q : Reading} → Leads xs m q → Leads ys r m → Leads (xs ++ ys) r q
leads_append none b = b
leads_append (more a) b = more (leads_append a b)

leads_bytes : {bs : List ℕ} {r q : Reading} → Leads bs r q → bytes_in q ≡ bs ++ bytes_in r
leads_bytes none = refl
leads_bytes (more {b} l) = ap (λ s. b ∷ s) (leads_bytes l)

leads_checked : {bs : List ℕ} {r q : Reading} (room n : ℕ) → Leads bs r q → n + length bs ≤ room → checked room n q ≡ checked room (n + length bs) r
leads_checked {r = r} room n none h = ap (λ k. checked room k r) (omega arith)
leads_checked {r = r} room n (more {b} {first} {bs} l) h =
    let fits_one : n < room = omega arith in
    rw (lt-ltb n room fits_one) (leads_checked room (suc n) l (omega arith) ∙ ap (λ k. checked room k r) (omega arith))

-- no text says no bytes, and texts one behind the other say the bytes one behind the other
pub nothing : Ahead [] []
nothing at cs = rw (add-zero at) none

pub joined : (a b xs ys : List ℕ) → Ahead a xs → Ahead b ys → Ahead (a ++ b) (xs ++ ys)
joined a b xs ys x y at cs =
    let whole : at + length (a ++ b) ≡ at + length a + length b = rw (length-append a b) (omega arith) in
    rw (append_assoc a b cs, whole) (leads_append (x at (b ++ cs)) (y (at + length a) cs))

pub says_ahead : {text bytes : List ℕ} → Ahead text bytes → Says text bytes
says_ahead x = record { ahead = x }

pub says_none : Says [] []
says_none = record { ahead = nothing }

pub says-append : {a b xs ys : List ℕ} → Says a xs → Says b ys → Says (a ++ b) (xs ++ ys)
says-append {a} {b} {xs} {ys} x y = record { ahead = joined a b xs ys x.ahead y.ahead }

-- numbers that are bytes
abbrev pub Small : List ℕ → Type 0
Small bs = (i : ℕ) → get_or bs i 0 < 256

-- a character that is passed over between bytes
abbrev pub Passed : ℕ → Type 0
Passed c = (at : ℕ) (cs : List ℕ) → reading Between at (c ∷ cs) ≡ reading Between (suc at) cs

-- typed again, a text that says some bytes gives them back, in every buffer that has room
pub says_back : (text bytes into : List ℕ) (r : Result ℕ Slipped) (into' : List ℕ) → Says text bytes → length bytes ≤ length into → Reads text into r into'
    → (r ≡ Ok (length bytes)) × (into' ≡ infront bytes into)
unfolding reading
says_back text bytes into r into' s h d =
    (d.result ∙ ap (told text) good, d.buffer ∙ ap (λ c. left c (bytes_of text) into) good ∙ ap (λ ns. infront ns into) whole)
  where
    back : Leads bytes end (reading_of text)
    back = rw append-nil at (s.ahead 0 [])

    good : checked_of text (length into) ≡ Ok (length bytes)
    good = leads_checked (length into) 0 back (omega arith) ∙ ap Ok (omega arith)

    whole : bytes_of text ≡ bytes
    whole = leads_bytes back ∙ append-nil bytes
