-- `word_at` meets its contract: the word is in the file, and is read as its version says.
use Rattle.runfile.specs.Format.{head_size, word_size, one_more, word_wide}
use mathlib.Core.Path.{◌≡◌, ap, ◌∙◌}
use Prim.Native.Nat.{ℕ, ◌+◌, ◌*◌, ◌≤◌}
use native.Mathlib.Omega.{arith}
use Rattle.runfile.proofs.read.word_at.Goals as goal

-- the word is in the file
fits : (version i head size len : ℕ) → head ≡ head_size version → size ≡ word_size version
    → head_size version + (i + 1) * word_size version ≤ len → head + i * size + size ≤ len
fits version i head size len x s p =
    let e = one_more i size in
    let y : (i + 1) * size ≡ (i + 1) * word_size version = ap (λ n. (i + 1) * n) s in
    omega arith

pub u64_at-requires : goal.u64_at-requires
u64_at-requires c =
    let w = fits _ c.args.i _ _ _ c.head_size.ensures.0 c.word_size.ensures.0 c.requires in
    let s = c.word_size.ensures.0 ∙ word_wide _ c.if-header-eq1.false in
    omega arith
