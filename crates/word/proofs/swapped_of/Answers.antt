-- `swapped_of` meets its contract: the exclusive or turns bit `width` + p and no other (`put_in`), and what the value leaves of 2^64 has room for new.
use Rattle.std.proofs.Common.{◌≡◌, ℕ, ◌+◌, ◌-◌, ◌*◌, ◌%◌, ◌^◌, ◌<◌, ap, ◌∙◌, mod-eq_of_lt, one-mul, arith}
use lib.Pow.{pow-lt}
use lib.Bits.{bit_xor, xor_lt}
use Rattle.word.specs.Word.{width, value_in}
use Rattle.word.proofs.Turned.{put_in}
use Rattle.word.proofs.swapped_of.Goals as goal

-- the shift loses nothing
own : (p : ℕ) → width + p < 64 → (1 * 2 ^ (width + p)) % 2 ^ 64 ≡ 2 ^ (width + p)
own p h = rw (one-mul (2 ^ (width + p))) (mod-eq_of_lt (pow-lt {i = width + p} {j = 64} (omega arith)))

-- a word of 64 bits, whatever bits are turned in it, has room for another value when its own is taken out
room : (w o v n : ℕ) → w < 2 ^ 64 → v ≡ value_in width (bit_xor w (o % 2 ^ 64)) → n < 2 ^ width → bit_xor w (o % 2 ^ 64) - v + n < 2 ^ 64
unfolding value_in
room w o v n h e f = omega (arith, xor_lt 64 w (o % 2 ^ 64) h (omega arith))

pub overflow_sub-result : goal.overflow_sub-result
unfolding value_in
overflow_sub-result c = omega (arith, c.from-value.ensures, c.value_of.ensures)

pub overflow_add-result : goal.overflow_add-result
overflow_add-result c = record { fits = rw c.from.ensures (room c.args.word _ _ _ (omega arith) (c.from-value.ensures ∙ c.value_of.ensures) (omega arith)) }

pub returns : goal.returns
returns c =
    let a = c.args in
    rw c.from.ensures (put_in width a.process a.word a.new _ _ (ap (bit_xor a.word) (own a.process (omega (arith, c.requires)))) (c.from-value.ensures ∙ c.value_of.ensures))
