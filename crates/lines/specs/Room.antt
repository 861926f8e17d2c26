-- What stands in lent room when bytes are put into it from a place on: as many as it has room for, and behind them what stood there.
use Rattle.std.specs.Prelude.{ℕ, ◌+◌, ◌-◌, ◌≡◌, List, length, min}
use Rattle.std.proofs.Common.{sym, ◌∙◌}
use lib.Seq.{sets}

-- `put` of `Text`: where the text ends, and the room, before and after
pub record Behind (end : ℕ) (room bytes : List ℕ) (end' : ℕ) (room' : List ℕ) : Type 0 where
  pub end_is : end' ≡ end + min (length bytes) (length room - end)
  pub room_is : room' ≡ sets room end bytes

-- it leaves no second outcome
pub behind_one : (end : ℕ) (room bytes : List ℕ) (e f : ℕ) (xs ys : List ℕ) → Behind end room bytes e xs → Behind end room bytes f ys → (e ≡ f) × (xs ≡ ys)
behind_one end room bytes e f xs ys a b = (a.end_is ∙ sym b.end_is, a.room_is ∙ sym b.room_is)
