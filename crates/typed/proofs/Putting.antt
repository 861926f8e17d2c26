-- One turn of each loop that puts text, in the loop's own terms: what is still to be put, from here on, gives the whole.
use Prim.Native.Nat.{ℕ, suc, ◌+◌, ◌*◌, ◌/◌, ◌%◌, ◌≤◌, ◌<◌}
use native.Mathlib.Nat.{add-zero}
use mathlib.Core.Path.{◌≡◌, refl}
use mathlib.Core.List.{List, [], ◌∷◌, ◌++◌}
use native.Mathlib.Numerals.{add-one}
use native.Mathlib.Omega.{arith}
use lib.ListN.{length, get_or, drop, set, drop_of_length-le}
use lib.Seq.{drop-cons, sets}
use Rattle.typed.specs.Chars.{digit_of}
use Rattle.typed.specs.Writing.{after_byte, paired, on_one_line, lined, remark}

-- a byte more, and no byte left
pub one_more : (bytes out all : List ℕ) (n last i : ℕ) (d e s : ℕ) → i < length bytes
    → d ≡ digit_of (get_or bytes i 0 / 16) → e ≡ digit_of (get_or bytes i 0 % 16) → s ≡ after_byte n last (i + 1)
    → sets out (3 * i) (paired n last i (drop i bytes)) ≡ all
    → sets (set (set (set out (3 * i) d) (3 * i + 1) e) (3 * i + 2) s) (3 * (i + 1)) (paired n last (i + 1) (drop (i + 1) bytes)) ≡ all
unfolding paired
one_more bytes out all n last i d e s h p q r x =
    let two : 3 * i + 2 ≡ suc (suc (3 * i)) = omega arith in
    let three : 3 * (i + 1) ≡ suc (suc (suc (3 * i))) = omega arith in
    rw (p, q, r, two, three, add-one (3 * i), add-one i) (rw (drop-cons bytes i 0 h) at x)

pub done : (bytes out all : List ℕ) (n last at i : ℕ) → length bytes ≤ i → sets out at (paired n last i (drop i bytes)) ≡ all → out ≡ all
unfolding paired
done bytes out all n last at i h x = rw (drop_of_length-le bytes h) at x

-- a comment's beginning, a character of it more, and the end of its line
pub opened : (comment out : List ℕ) → sets (set (set out 0 35) 1 32) 2 (lined comment) ≡ sets out 0 (remark comment)
unfolding remark
opened comment out = refl

pub lined_more : (comment out all : List ℕ) (i c : ℕ) → i < length comment → c ≡ on_one_line (get_or comment i 0)
    → sets out (2 + i) (lined (drop i comment)) ≡ all → sets (set out (2 + i) c) (2 + (i + 1)) (lined (drop (i + 1) comment)) ≡ all
unfolding lined
lined_more comment out all i c h e x =
    let next : 2 + (i + 1) ≡ suc (2 + i) = omega arith in
    rw (e, next, add-one i) (rw (drop-cons comment i 0 h) at x)

pub ended : (comment out all : List ℕ) (i : ℕ) → i ≤ length comment → length comment ≤ i → sets out (2 + i) (lined (drop i comment)) ≡ all
    → set out (2 + length comment) 10 ≡ all
unfolding lined
ended comment out all i l h x =
    let same : i ≡ length comment = omega arith in
    rw (← same) (rw (drop_of_length-le comment h) at x)

-- what is stored behind what was stored
pub sets_append : (out : List ℕ) (at : ℕ) (xs ys : List ℕ) → sets (sets out at xs) (at + length xs) ys ≡ sets out at (xs ++ ys)
sets_append out at [] ys = rw (add-zero at)
sets_append out at (x ∷ xs) ys =
    let far : at + suc (length xs) ≡ suc at + length xs = omega arith in
    rw far (sets_append (set out at x) (suc at) xs ys)
