-- What the contracts of `read` and `place_of` promise, said of the answers alone: each slip exactly when it is the first offence, the bytes exactly when
-- nothing offends, and the place of a byte. From what is told of the first offence, and of the bytes' spots.
use Rattle.std.specs.Prelude.{ℕ, ◌≤◌, ◌<◌, ◌≡◌, refl, Bool, true, false, ltb, List, ◌↔◌, length, get_or, drop, Err, None, Ok, Option, Result, Some}
use Rattle.std.proofs.Common.{sym, ap, ◌∙◌, ltb-true, ltb-false, arith}
use Rattle.std.proofs.Math.ListN.{get_or-append}
use Rattle.typed.specs.declared.Slip.{Slip}
use Rattle.typed.specs.declared.Place.{Place}
use Rattle.typed.specs.declared.Slipped.{Slipped}
use Rattle.typed.specs.Reading.{reading_of, checked_of, spot}
use Rattle.typed.specs.Places.{place_at}
use Rattle.typed.specs.Offences.{begun, Offends}
use Rattle.typed.specs.Spots.{spot_there}
use Rattle.typed.specs.Exactly.{spot-begins}
use Rattle.typed.specs.Editor.{shown_at, byte_shown}
use Rattle.typed.specs.PlaceLaws.{char_at-place}
use Rattle.typed.specs.Promises.{told, bytes_of, located, Reads, Locates, slip_at}
use Rattle.typed.specs.Told.{FirstAt, told_good, told-bad, bytes-put, Stood}
use Rattle.typed.proofs.Spots.{slip_inside, spot_stands}
use Rattle.typed.proofs.Exactly.{slips_exactly, accepts_exactly}
use Rattle.typed.proofs.Editor.{slip_shown}

-- the place of the first offence is where an editor shows it
pub slip_column : (text : List ℕ) (room : ℕ) (slip : Slip) (p : Place) (f : FirstAt text room slip p) → shown_at text f.index ≡ p
slip_column text room slip p f = slip_shown text room slip f.index f.first ∙ f.stands

module _ (text out : List ℕ) (r : Result ℕ Slipped) (out' : List ℕ) (d : Reads text out r out') where
  -- each slip exactly when it is the first offence, at its place
  pub slip_told : (slip : Slip) (p : Place) → (r ≡ Err (slip_at slip p)) ↔ FirstAt text (length out) slip p
  slip_told slip p = (forth, back)
    where
      forth : r ≡ Err (slip_at slip p) → FirstAt text (length out) slip p
      forth e =
          let w = told-bad text (checked_of text (length out)) slip p (sym d.result ∙ e) in
          record { index = w.0; inside = slip_inside text (length out) slip w.0 w.1; first = (slips_exactly text (length out) slip w.0).0 w.1; stands = w.2 }

      back : FirstAt text (length out) slip p → r ≡ Err (slip_at slip p)
      back f = d.result ∙ ap (told text) ((slips_exactly text (length out) slip f.index).1 f.first) ∙ ap (λ x. Err (slip_at slip x)) f.stands

  -- the bytes exactly when nothing offends
  pub bytes-told : (n : ℕ) → (r ≡ Ok n) ↔ (((k : Slip) (i : ℕ) → Offends text (length out) k i → ⊥) × (begun text (length text) ≡ n))
  bytes-told n = (
    λ e. (accepts_exactly text (length out) n).0 (told_good text (checked_of text (length out)) n (sym d.result ∙ e)),
    λ f. d.result ∙ ap (told text) ((accepts_exactly text (length out) n).1 f),
  )

pub byte-place : (text out out' : List ℕ) (n : ℕ) → Reads text out (Ok n) out' → (i : ℕ) → i < n → (q : Option Place) → Locates text i q → Stood text i (get_or out' i 0) q
byte-place text out out' n d i h q o =
    let w = bytes-put text out (Ok n) out' d n refl in
    let size = w.0 in
    let inside : i < length (bytes_of text) = omega arith in
    let s = spot_there i (reading_of text) inside in
    let p = spot_stands text i s.0 s.1 in
    let b = spot-begins text i s.0 s.1 in
    let same : get_or out' i 0 ≡ get_or (bytes_of text) i 0 = rw w.1 (get_or-append (bytes_of text) (drop (length (bytes_of text)) out) 0 i inside) in
    let far = p.1.inside in
    let fine = ((bytes-told text out (Ok n) out' d n).0 refl).0 in
    record {
      index = s.0;
      answer = o.result ∙ ap (located text) s.1;
      digits = rw same p.1;
      starts = b.0;
      number = b.1;
      character = char_at-place text s.0 (omega arith);
      shown = byte_shown text (length out) s.0 (omega arith) fine b.0;
    }

-- and byte i has no place exactly when no more than i bytes stand before the first stray character or lone digit, or in the whole text
pub no_place : (text : List ℕ) (i : ℕ) (q : Option Place) → Locates text i q → (q ≡ None) ↔ (length (bytes_of text) ≤ i)
no_place text i q o = (λ e. few (ltb i (length (bytes_of text))) refl e, λ h. o.result ∙ none (spot i (reading_of text)) refl h)
  where
    few : (b : Bool) → ltb i (length (bytes_of text)) ≡ b → q ≡ None → length (bytes_of text) ≤ i
    few true t e =
        let s = spot_there i (reading_of text) (ltb-true i (length (bytes_of text)) t) in
        let a : Some (place_at text s.0) ≡ None = sym (ap (located text) s.1) ∙ sym o.result ∙ e in
        absurd (let z : ◌≡◌ {A = ℕ} 0 1 = cc in omega arith)
    few false t e = ltb-false i (length (bytes_of text)) t

    none : (s : Option ℕ) → spot i (reading_of text) ≡ s → length (bytes_of text) ≤ i → located text s ≡ None
    none None e h = refl
    none (Some at) e h = absurd (let p = spot_stands text i at e in omega arith)
