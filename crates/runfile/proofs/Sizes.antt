-- Products of a count and a size: they are small, so no sum of places goes wrong.
use Prim.Native.Nat.{ℕ, ◌*◌, ◌≤◌, ◌<◌}
use native.Mathlib.Nat.{mul-le-mul}
use native.Mathlib.Omega.{arith}
use Rattle.runfile.specs.Format.{RowSize}

pub words_fit : (n size : ℕ) → n < 256 → size ≤ 8 → n * size ≤ 2040
words_fit n size a b = let p : n * size ≤ 255 * 8 = mul-le-mul (few a) b in omega arith
  where
    few : n < 256 → n ≤ 255
    few a = omega arith

pub rows_fit : (n size : ℕ) → n < 65536 → RowSize size → n * size ≤ 786420
rows_fit n size a s = let p : n * size ≤ 65535 * 12 = mul-le-mul (few a) s.most in omega arith
  where
    few : n < 65536 → n ≤ 65535
    few a = omega arith
