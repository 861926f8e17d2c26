-- A slip is told at the place that an editor shows: no character before it is stray, and it stands in no comment.
use Rattle.std.specs.Prelude.{ℕ, ◌≡◌, false, List}
use Rattle.std.proofs.Common.{arith}
use Rattle.typed.specs.declared.Slip.{Slip}
use Rattle.typed.specs.declared.Slip.TheVariants.{Stray}
use Rattle.typed.specs.Places.{place_at}
use Rattle.typed.specs.Offences.{in_comment, Offends, stray, alone, too_many, First}
use Rattle.typed.specs.Exactly.{begins_outside}
use Rattle.typed.specs.Editor.{shown_at, shown_is}
use Rattle.typed.proofs.Spots.{slip_inside}
use Rattle.typed.proofs.Exactly.{slips_exactly}

module _ (text : List ℕ) where
  -- where a slip is told
  pub slip_shown : (room : ℕ) (slip : Slip) (i : ℕ) → First text room slip i → shown_at text i ≡ place_at text i
  slip_shown room slip i f =
      let inside = slip_inside text room slip i ((slips_exactly text room slip i).1 f) in
      shown_is text i (omega arith) (outside slip i f.offends) (λ j h c o. f.none_before Stray j h (stray (omega arith) c o))
    where
      outside : (k : Slip) (j : ℕ) → Offends text room k j → in_comment text j ≡ false
      outside k j (stray l c o) = c
      outside k j (alone b e) = begins_outside text j b
      outside k j (too_many b d r) = begins_outside text j b
