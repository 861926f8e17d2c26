-- Where a reading's bytes stand: at each byte's index are its two digits, which give its value, and every slip's index is in the text. That every reading
-- is so is proved in proofs/Spots.antt; here, that every byte has a spot, and how many bytes an accepted text has. By induction on what is still to be read.
use Rattle.std.specs.Prelude.{ℕ, zero, suc, ◌+◌, ◌≤◌, ◌<◌, ◌≡◌, refl, Bool, true, false, cond, List, [], ◌∷◌, ltb, length, get_or, drop, Err, Ok, Some}
use Rattle.std.proofs.Common.{arith, ltb-true}
use Rattle.typed.specs.declared.Slip.TheVariants.{TooMany}
use Rattle.typed.specs.declared.scan.State.{State}
use Rattle.typed.specs.declared.scan.State.TheVariants.{Between, Comment, Half}
use Rattle.typed.specs.Chars.{is_digit, byte_of}
use Rattle.typed.specs.Reading.{Reading, end, slips, byte, reading_of, bytes_in, checked, checked_of, spot, offence}

-- the head of what is left of a list
pub peel : (text : List ℕ) (at c : ℕ) (cs : List ℕ) → drop at text ≡ c ∷ cs → (at < length text) × (get_or text at 0 ≡ c) × (drop (suc at) text ≡ cs)
peel [] zero c cs e = absurd (let z : ◌≡◌ {A = ℕ} 0 1 = cc in omega arith)
peel [] (suc at) c cs e = absurd (let z : ◌≡◌ {A = ℕ} 0 1 = cc in omega arith)
peel (x ∷ xs) zero c cs e = (omega arith, cc, cc)
peel (x ∷ xs) (suc at) c cs e = let r = peel xs at c cs e in (omega arith, r.1, r.2)

-- two digits stand at an index, and are worth v
pub record Pair (text : List ℕ) (v at : ℕ) : Type 0 where
  pub inside : suc at < length text
  pub high : is_digit (get_or text at 0) ≡ true
  pub low : is_digit (get_or text (suc at) 0) ≡ true
  pub value : v ≡ byte_of (get_or text at 0) (get_or text (suc at) 0)

abbrev pub Faithful : List ℕ → Reading → Type 0
Faithful text end = Unit
Faithful text (slips slip at) = at < length text
Faithful text (byte v first r) = Pair text v first × Faithful text r

-- what a state remembers is so
abbrev pub Remembers : List ℕ → State → ℕ → Type 0
Remembers text Between at = Unit
Remembers text Comment at = Unit
Remembers text (Half high first) at = (at ≡ suc first) × (first < length text) × (high ≡ get_or text first 0) × (is_digit high ≡ true)

-- every byte has a spot
pub spot_there : (i : ℕ) (r : Reading) → i < length (bytes_in r) → (at : ℕ) × (spot i r ≡ Some at)
spot_there i end h = absurd (omega arith)
spot_there i (slips k j) h = absurd (omega arith)
spot_there zero (byte v first r) h = (first, refl)
spot_there (suc i) (byte v first r) h = spot_there i r (omega arith)

-- an accepted text has as many bytes as it is told, and no more than there is room for
count-from : (room n : ℕ) (r : Reading) (m : ℕ) → n ≤ room → checked room n r ≡ Ok m → (m ≤ room) × (n + length (bytes_in r) ≡ m)
count-from room n end m h e = let z : n ≡ m = cc in (omega arith, omega arith)
count-from room n (slips k j) m h e = absurd (let z : ◌≡◌ {A = ℕ} 0 1 = cc in omega arith)
count-from room n (byte v first r) m h e = go (ltb n room) refl (count-from room (suc n) r m) e
  where
    go : (b : Bool) → ltb n room ≡ b → (suc n ≤ room → checked room (suc n) r ≡ Ok m → (m ≤ room) × (suc n + length (bytes_in r) ≡ m))
        → cond b (checked room (suc n) r) (Err (offence TooMany first)) ≡ Ok m → (m ≤ room) × (n + suc (length (bytes_in r)) ≡ m)
    go true q more e = let w = more (ltb-true n room q) e in (w.0, let z = w.1 in omega arith)
    go false q more e = absurd (let z : ◌≡◌ {A = ℕ} 0 1 = cc in omega arith)

pub count_is : (text : List ℕ) (room m : ℕ) → checked_of text room ≡ Ok m → (m ≤ room) × (length (bytes_in (reading_of text)) ≡ m)
count_is text room m e = let w = count-from room 0 (reading_of text) m (omega arith) e in (w.0, let z = w.1 in omega arith)
