-- The contracts of the public functions, and that each leaves no second outcome. Each is one equation under a name,
-- so that a caller rewrites with it as it stands.
use Rattle.std.specs.Prelude.{◌≡◌, ℕ, ◌+◌, ◌%◌, ◌^◌, ◌<◌, Bool}
use Rattle.std.proofs.Common.{sym, ◌∙◌, subst}
use Rattle.word.specs.Word.{width, value, flips, bit, swapped}
use Rattle.word.specs.Laws.{AfterSwap, after_swap, after_swap_one}

-- `value_of(word)`
abbrev pub Valued : (w r : ℕ) → Type 0
Valued w r = r ≡ value w

-- `flips_of(word)`
abbrev pub HasFlips : (w r : ℕ) → Type 0
HasFlips w r = r ≡ flips w

-- `bit_of(process, word)`
abbrev pub Flipped : (p w : ℕ) (r : Bool) → Type 0
Flipped p w r = r ≡ bit p w

-- `swapped_of(process, new, word)`
abbrev pub Swapped : (p n w r : ℕ) → Type 0
Swapped p n w r = r ≡ swapped p n w

-- `sum_of(value, amount)`
abbrev pub Summed : (v n r : ℕ) → Type 0
Summed v n r = r ≡ (v + n) % 2 ^ width

pub valued_one : (w r q : ℕ) → Valued w r → Valued w q → r ≡ q
valued_one w r q a b = a ∙ sym b

pub has_flips_one : (w r q : ℕ) → HasFlips w r → HasFlips w q → r ≡ q
has_flips_one w r q a b = a ∙ sym b

pub flipped_one : (p w : ℕ) (r q : Bool) → Flipped p w r → Flipped p w q → r ≡ q
flipped_one p w r q a b = a ∙ sym b

pub swapped_one : (p n w r q : ℕ) → Swapped p n w r → Swapped p n w q → r ≡ q
swapped_one p n w r q a b = a ∙ sym b

pub summed_one : (v n r q : ℕ) → Summed v n r → Summed v n q → r ≡ q
summed_one v n r q a b = a ∙ sym b

-- what `swapped_of` promises, bit by bit (R114, R17): the word that it gives is what the swap comes to, and no other word is
pub swapped-after : (p n w r : ℕ) → n < 2 ^ width → Swapped p n w r → AfterSwap width p n w r
swapped-after p n w r h e = subst (AfterSwap width p n w) (sym e) (after_swap width p n w h)

pub after-swapped : (p n w r : ℕ) → n < 2 ^ width → AfterSwap width p n w r → Swapped p n w r
after-swapped p n w r h s = after_swap_one width p n w r (swapped p n w) s (after_swap width p n w h)
