-- What the contracts of `read` and `place_of` promise, said of the answers alone: a buffer that stays on a slip, and the bytes in front of it on none. That
-- each slip is told exactly when it is the first offence, and a byte where it stands, is proved in proofs/Told.antt.
use Rattle.std.specs.Prelude.{ℕ, ◌≤◌, ◌<◌, ◌≡◌, true, List, length, get_or, Err, Ok, Option, Result, Some}
use Rattle.std.proofs.Common.{sym, ap, ◌∙◌, arith}
use Rattle.typed.specs.declared.Slip.{Slip}
use Rattle.typed.specs.declared.Place.{Place}
use Rattle.typed.specs.Reading.{checked_of, offence}
use Rattle.typed.specs.Places.{place_at}
use Rattle.typed.specs.Offences.{begins, begun, First}
use Rattle.typed.specs.Spots.{Pair, count_is}
use Rattle.typed.specs.Editor.{shown_at}
use Rattle.typed.specs.PlaceLaws.{char_at}
use Rattle.typed.specs.Promises.{told, left, bytes_of, infront, Reads, slip_at}
use Rattle.typed.specs.declared.scan.Offence.{Offence}
use Rattle.typed.specs.declared.Slipped.{Slipped}

-- the first offence, and where it stands
pub record FirstAt (text : List ℕ) (room : ℕ) (slip : Slip) (place : Place) : Type 0 where
  pub index : ℕ
  pub inside : index < length text
  pub first : First text room slip index
  pub stands : place_at text index ≡ place

pub told_good : (text : List ℕ) (c : Result ℕ Offence) (n : ℕ) → told text c ≡ Ok n → c ≡ Ok n
told_good text (Ok m) n e = ap Ok (cc)
told_good text (Err o) n e = absurd (let z : ◌≡◌ {A = ℕ} 0 1 = cc in omega arith)

pub told-bad : (text : List ℕ) (c : Result ℕ Offence) (slip : Slip) (p : Place) → told text c ≡ Err (slip_at slip p) → (i : ℕ) × (c ≡ Err (offence slip i)) × (place_at text i ≡ p)
told-bad text (Ok m) slip p e = absurd (let z : ◌≡◌ {A = ℕ} 0 1 = cc in omega arith)
told-bad text (Err o) slip p e =
    let z : slip_at o.slip (place_at text o.at) ≡ slip_at slip p = cc in (o.at, ap (λ x. Err (offence x.slip o.at)) z, ap (λ x. x.place) z)

module _ (text out : List ℕ) (r : Result ℕ Slipped) (out' : List ℕ) (d : Reads text out r out') where
  -- on a slip the buffer is as it was
  pub slip_keeps : (slip : Slip) (p : Place) → r ≡ Err (slip_at slip p) → out' ≡ out
  slip_keeps slip p e =
      let w = told-bad text (checked_of text (length out)) slip p (sym d.result ∙ e) in
      d.buffer ∙ ap (λ c. left c (bytes_of text) out) w.1

  -- else the n bytes stand in front, and what is behind them is as it was
  pub bytes-put : (n : ℕ) → r ≡ Ok n → (length (bytes_of text) ≡ n) × (out' ≡ infront (bytes_of text) out)
  bytes-put n e =
      let g = told_good text (checked_of text (length out)) n (sym d.result ∙ e) in
      ((count_is text (length out) n g).1, d.buffer ∙ ap (λ c. left c (bytes_of text) out) g)

-- and there was room for them
pub bytes_fit : (text out : List ℕ) (r : Result ℕ Slipped) (out' : List ℕ) (n : ℕ) → Reads text out r out' → r ≡ Ok n → n ≤ length out
bytes_fit text out r out' n d e = (count_is text (length out) n (told_good text (checked_of text (length out)) n (sym d.result ∙ e))).0

-- byte i of a text stands at a place: its two digits are there, they begin the byte that has i before it, and they are worth b; whoever goes to that
-- line and column comes to the first of them, and an editor shows it there
pub record Stood (text : List ℕ) (i b : ℕ) (q : Option Place) : Type 0 where
  pub index : ℕ
  pub answer : q ≡ Some (place_at text index)
  pub digits : Pair text b index
  pub starts : begins text index ≡ true
  pub number : begun text index ≡ i
  pub character : char_at text (place_at text index) ≡ get_or text index 0
  pub shown : shown_at text index ≡ place_at text index
