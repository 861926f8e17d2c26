-- What a text has when `put` leaves its loop: all bytes are put, or there is no room for more.
use Rattle.std.proofs.Common.{ℕ, suc, ◌≡◌, ◌∙◌, sym, ◌+◌, ◌-◌, ◌≤◌, List, [], ◌∷◌, length, drop, refl, arith}
use lib.ListN.{drop_of_length-le}
use lib.Seq.{sets, set_out}
use Rattle.lines.specs.Room.{Behind}

-- behind the room nothing is stored
pub sets_out : (xs room : List ℕ) (end : ℕ) → length room ≤ end → sets room end xs ≡ room
sets_out [] room end h = refl
sets_out (x ∷ xs) room end h = rw (set_out room end x h) (sets_out xs room (suc end) (omega arith))

pub all_put : (bytes room room' : List ℕ) (end i end' : ℕ) → length bytes ≤ i → i ≤ length bytes
    → end' ≡ end + i → i ≤ length room - end → sets room' end' (drop i bytes) ≡ sets room end bytes → Behind end room bytes end' room'
all_put bytes room room' end i end' h k e f g = record {
  end_is = omega arith;
  room_is = rw (drop_of_length-le bytes h) at g;
}

pub no_room : (bytes room room' : List ℕ) (end i end' : ℕ) → i ≤ length bytes → length room' ≤ end'
    → end' ≡ end + i → i ≤ length room - end → length room' ≡ length room → sets room' end' (drop i bytes) ≡ sets room end bytes
    → Behind end room bytes end' room'
no_room bytes room room' end i end' k h e f l g = record {
  end_is = omega arith;
  room_is = sym (sets_out (drop i bytes) room' end' h) ∙ g;
}
