-- Refusal 10 at row k, read off the bytes as the code reads them: the row before stands one row's size earlier.
use mathlib.Core.Path.{◌≡◌}
use mathlib.Core.List.{List}
use Prim.Native.Nat.{ℕ, ◌+◌, ◌*◌, ◌-◌, ◌≤◌}
use native.Mathlib.Omega.{arith}
use lib.Dec.{ltb}
use Rattle.runfile.specs.Format.{one_before}
use Rattle.runfile.specs.Layout.{byte_at, row_at}
use Rattle.runfile.specs.Refusals.{below}

module _ (s : ℕ) (f : List ℕ) (start k : ℕ) (h : 1 ≤ k) where
  before : start + (k - 1) * s ≡ start + k * s - s
  before = let e = one_before s start k h in omega arith

  pub below_read : ltb (byte_at f (start + k * s)) (byte_at f (start + k * s - s)) ≡ below s f start k
  unfolding row_at
  below_read = rw before
