-- Laws of a row as it is read: the rows of a file's part that begins at a place are the rows of the file from there on; and how large the
-- numbers of a row are.
use Rattle.std.specs.Prelude.{ℕ, zero, suc, ◌+◌, ◌<◌, ◌≡◌, refl, Bool, List, eqb, drop}
use Rattle.std.proofs.Common.{ap₂, add_assoc, get_or-drop}
use Rattle.std.proofs.Math.Bool.{true, false, cond}
use native.Mathlib.Omega.{arith}
use Rattle.runfile.specs.Format.{row_size, new_place}
use Rattle.runfile.specs.Layout.{byte_at, u16_at, u32_at, number_at, row_at}
use Rattle.runfile.specs.Operations.{rows_from}

u16_part : (f : List ℕ) (start at : ℕ) → u16_at (drop start f) at ≡ u16_at f (start + at)
unfolding u16_at
u16_part f start at = rw (get_or-drop start f at 0, get_or-drop start f (at + 1) 0, add_assoc start at 1)

u32_part : (f : List ℕ) (start at : ℕ) → u32_at (drop start f) at ≡ u32_at f (start + at)
unfolding u32_at
u32_part f start at =
    rw (
      get_or-drop start f at 0,
      get_or-drop start f (at + 1) 0,
      get_or-drop start f (at + 2) 0,
      get_or-drop start f (at + 3) 0,
      add_assoc start at 1,
      add_assoc start at 2,
      add_assoc start at 3,
    )

number-part : (stride : ℕ) (f : List ℕ) (start at : ℕ) → number_at stride (drop start f) at ≡ number_at stride f (start + at)
unfolding number_at
number-part stride f start at = ap₂ (cond (eqb stride 8)) (u16_part f start at) (u32_part f start at)

pub row-part : (stride : ℕ) (f : List ℕ) (start at : ℕ) → row_at stride (drop start f) at ≡ row_at stride f (start + at)
unfolding row_at
row-part stride f start at =
    rw (
      get_or-drop start f at 0,
      get_or-drop start f (at + 1) 0,
      get_or-drop start f (at + 2) 0,
      number-part stride f start (at + 4),
      number-part stride f start (at + new_place stride),
      add_assoc start at 1,
      add_assoc start at 2,
      add_assoc start at 4,
      add_assoc start at (new_place stride),
    )

pub rows-part : (stride : ℕ) (f : List ℕ) (start at n : ℕ) → rows_from stride (drop start f) at n ≡ rows_from stride f (start + at) n
unfolding rows_from
rows-part stride f start at zero = refl
rows-part stride f start at (suc n) = rw (row-part stride f start at, rows-part stride f start (at + stride) n, ← (add_assoc start at stride))

-- of a file of bytes
module _ (f : List ℕ) (bytes : (at : ℕ) → byte_at f at < 256) where
  u16_fits : (at : ℕ) → u16_at f at < 65536
  unfolding u16_at
  u16_fits at = let a : byte_at f at < 256 = bytes at in let b : byte_at f (at + 1) < 256 = bytes (at + 1) in omega arith

  u32_fits : (at : ℕ) → u32_at f at < 4294967296
  unfolding u32_at
  u32_fits at =
      let a : byte_at f at < 256 = bytes at in
      let b : byte_at f (at + 1) < 256 = bytes (at + 1) in
      let c : byte_at f (at + 2) < 256 = bytes (at + 2) in
      let d : byte_at f (at + 3) < 256 = bytes (at + 3) in
      omega arith

  number_fits : (stride at : ℕ) → number_at stride f at < 4294967296
  unfolding number_at
  number_fits stride at = go (eqb stride 8)
    where
      go : (narrow : Bool) → cond narrow (u16_at f at) (u32_at f at) < 4294967296
      go true = let h = u16_fits at in omega arith
      go false = u32_fits at

  pub new_fits : (stride at : ℕ) → (row_at stride f at).new < 4294967296
  unfolding row_at
  new_fits stride at = number_fits stride (at + new_place stride)

  -- in a row of version 1
  pub narrow-fits : (at : ℕ) → (row_at (row_size 1) f at).new < 65536
  unfolding row_at number_at row_size
  narrow-fits at = u16_fits (at + new_place (row_size 1))
