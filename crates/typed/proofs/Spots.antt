-- Every reading is faithful: at each byte's index are its two digits, which give its value, and every slip's index is in the text. By induction on what is
-- still to be read, with what a state remembers.
use Rattle.std.specs.Prelude.{ℕ, zero, suc, ◌<◌, ◌≡◌, refl, Bool, true, false, cond, List, [], ◌∷◌, ltb, length, get_or, drop, Err, Some}
use Rattle.std.proofs.Common.{sym, arith}
use Rattle.typed.specs.declared.Slip.{Slip}
use Rattle.typed.specs.declared.Slip.TheVariants.{TooMany}
use Rattle.typed.specs.declared.chars.Class.{Class}
use Rattle.typed.specs.declared.chars.Class.TheVariants.{Digit, Blank, NewLine, Hash, Other}
use Rattle.typed.specs.declared.scan.State.{State}
use Rattle.typed.specs.declared.scan.State.TheVariants.{Between, Comment, Half}
use Rattle.typed.specs.declared.scan.Offence.{Offence}
use Rattle.typed.specs.Chars.{digit_class, class_of, byte_of}
use Rattle.typed.specs.Reading.{Reading, end, slips, byte, meets, act, go_on, reading, reading_of, bytes_in, checked, checked_of, spot, offence, offence_parts}
use Rattle.typed.specs.Spots.{peel, Pair, Faithful, Remembers}

pair : (text : List ℕ) (high first at c : ℕ) → Remembers text (Half high first) at → at < length text → get_or text at 0 ≡ c → class_of c ≡ Digit → Pair text (byte_of high c) first
pair text high first at c m l g k =
    let here : get_or text (suc first) 0 ≡ c = rw (← m.0) g in
    let e = m.0 in
    record { inside = omega arith; high = rw (← m.2) m.3; low = rw here (digit_class c k); value = rw (here, m.2) }

faithful_from : (text cs : List ℕ) (s : State) (at : ℕ) → drop at text ≡ cs → Remembers text s at → Faithful text (reading s at cs)
unfolding reading act
faithful_from text [] Between at e m = tt
faithful_from text [] Comment at e m = tt
faithful_from text [] (Half high first) at e m = m.1
faithful_from text (c ∷ cs) s at e m = let p = peel text at c cs e in go s m p (class_of c) refl (λ t. faithful_from text cs t (suc at) p.2)
  where
    go : (s : State) → Remembers text s at → (at < length text) × (get_or text at 0 ≡ c) × (drop (suc at) text ≡ cs) → (k : Class) → class_of c ≡ k
        → ((t : State) → Remembers text t (suc at) → Faithful text (reading t (suc at) cs))
        → Faithful text (go_on (meets s at c k) (λ t. reading t (suc at) cs))
    go Between m p Digit q more = more (Half c at) (refl, p.0, sym p.1, digit_class c q)
    go Between m p Blank q more = more Between tt
    go Between m p NewLine q more = more Between tt
    go Between m p Hash q more = more Comment tt
    go Between m p Other q more = p.0
    go Comment m p Digit q more = more Comment tt
    go Comment m p Blank q more = more Comment tt
    go Comment m p NewLine q more = more Between tt
    go Comment m p Hash q more = more Comment tt
    go Comment m p Other q more = more Comment tt
    go (Half high first) m p Digit q more = (pair text high first at c m p.0 p.1 q, more Between tt)
    go (Half high first) m p Blank q more = m.1
    go (Half high first) m p NewLine q more = m.1
    go (Half high first) m p Hash q more = m.1
    go (Half high first) m p Other q more = p.0

pub faithful : (text : List ℕ) → Faithful text (reading_of text)
faithful text = faithful_from text text Between 0 refl tt

-- a slip's index is in the text
slip_in : (text : List ℕ) (room n : ℕ) (r : Reading) → Faithful text r → (slip : Slip) (at : ℕ) → checked room n r ≡ Err (offence slip at) → at < length text
slip_in text room n end f slip at e = absurd (let z : ◌≡◌ {A = ℕ} 0 1 = cc in omega arith)
slip_in text room n (slips k j) f slip at e = let z = (offence_parts e).1 in rw (← z) f
slip_in text room n (byte v first r) f slip at e = go (ltb n room) (slip_in text room (suc n) r f.1 slip at) e
  where
    go : (b : Bool) → (checked room (suc n) r ≡ Err (offence slip at) → at < length text) → cond b (checked room (suc n) r) (Err (offence TooMany first)) ≡ Err (offence slip at) → at < length text
    go true more e = more e
    go false more e = let z = (offence_parts e).1 in let i = f.0.inside in omega arith

pub slip_inside : (text : List ℕ) (room : ℕ) (slip : Slip) (at : ℕ) → checked_of text room ≡ Err (offence slip at) → at < length text
slip_inside text room slip at e = slip_in text room 0 (reading_of text) (faithful text) slip at e

pub stop_inside : (text : List ℕ) (room : ℕ) (o : Offence) → checked_of text room ≡ Err o → o.at < length text
stop_inside text room o e = slip_inside text room o.slip o.at e

-- byte i stands where its spot says
spot_in : (text : List ℕ) (i : ℕ) (r : Reading) → Faithful text r → (at : ℕ) → spot i r ≡ Some at → (i < length (bytes_in r)) × Pair text (get_or (bytes_in r) i 0) at
spot_in text i end f at e = absurd (let z : ◌≡◌ {A = ℕ} 0 1 = cc in omega arith)
spot_in text i (slips k j) f at e = absurd (let z : ◌≡◌ {A = ℕ} 0 1 = cc in omega arith)
spot_in text zero (byte v first r) f at e = let z : first ≡ at = cc in (omega arith, rw (← z) f.0)
spot_in text (suc i) (byte v first r) f at e = let m = spot_in text i r f.1 at e in (omega arith, m.1)

pub spot_stands : (text : List ℕ) (i at : ℕ) → spot i (reading_of text) ≡ Some at → (i < length (bytes_in (reading_of text))) × Pair text (get_or (bytes_in (reading_of text)) i 0) at
spot_stands text i at e = spot_in text i (reading_of text) (faithful text) at e

pub spot_inside : (text : List ℕ) (i at : ℕ) → spot i (reading_of text) ≡ Some at → at < length text
spot_inside text i at e = let w = (spot_stands text i at e).1.inside in omega arith
