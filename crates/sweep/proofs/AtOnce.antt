-- The sum over several numbers at once is the sum over them one by one: powers, products and their sums may all be taken by the modulus.
use Rattle.std.proofs.Common.{rules, ◌≡◌, ℕ, zero, suc, ◌+◌, ◌*◌, ◌/◌, ◌%◌, ◌<◌, ◌≤◌, List, [], ◌∷◌, ◌++◌, length, get_or, take, drop, sym, refl, ap, ◌∙◌, mod-lt, mod-eq_of_lt, mul_assoc, mul_comm, add-mul, arith, take-append-drop, drop_of_length-le, ext_get_or}
use Rattle.std.specs.Simd.{first_chunks}
use Rattle.std.proofs.lemmas.List.{drop_more}
use lib.ListN.{length-drop}
use lib.Seq.{drop-drop, length-take-le}
use native.Mathlib.Nat.{mod-add-div, add-mod-mod, add-mul-mod_self_left}
use Rattle.sweep.specs.Sum.{factor, modulus, taken, sum_from, sum_over, halves}
use Rattle.sweep.specs.Blocks.{power, weighed, Weighs}

-- a factor may be taken by the modulus first
mul_in : (a b c : ℕ) → (a % modulus * b + c) % modulus ≡ (a * b + c) % modulus
mul_in a b c =
    let apart : a * b ≡ a % modulus * b + modulus * (a / modulus * b) =
    ap (λ x. x * b) (sym (mod-add-div a modulus)) ∙ add-mul (a % modulus) (modulus * (a / modulus)) b ∙ ap (λ x. a % modulus * b + x) (mul_assoc modulus (a / modulus) b) in
    sym (add-mul-mod_self_left (a % modulus * b + c) modulus (a / modulus * b)) ∙ ap (λ x. x % modulus) (omega arith)

-- and so may the parts of a sum
parts_in : (x y z : ℕ) → (x % modulus + y % modulus + z % modulus) % modulus ≡ (x + y + z) % modulus
parts_in x y z =
    sym (add-mul-mod_self_left (x % modulus + y % modulus + z % modulus) modulus (x / modulus + y / modulus + z / modulus))
    ∙ ap (λ s. s % modulus) (omega arith)

turned : (s x p w : ℕ) → (s * factor + x) * p + w ≡ p * factor * s + (x * p + w)
turned s x p w = omega (arith, add-mul (s * factor) x p, mul_comm (s * factor) p, mul_assoc p factor s, mul_comm s factor)

at_once : (s : ℕ) (xs : List ℕ) → sum_from s xs % modulus ≡ (s * power (length xs) + weighed xs) % modulus
unfolding sum_from taken weighed power
at_once s [] = ap (λ x. x % modulus) (omega arith)
at_once s (x ∷ xs) =
    at_once (taken s x) xs
    ∙ mul_in (s * factor + x) (power (length xs)) (weighed xs)
    ∙ ap (λ y. y % modulus) (turned s x (power (length xs)) (weighed xs))
    ∙ sym (mul_in (power (length xs) * factor) s (x * power (length xs) + weighed xs))
    ∙ ap (λ y. (y + (x * power (length xs) + weighed xs)) % modulus) (mul_comm (power (length xs) * factor % modulus) s)

sum_below : (s : ℕ) (xs : List ℕ) → s < modulus → sum_from s xs < modulus
unfolding sum_from taken
sum_below s [] h = h
sum_below s (x ∷ xs) h = sum_below (taken s x) xs (mod-lt (s * factor + x) (omega arith))

pub sum_over_below : (before : ℕ) (xs : List ℕ) (r : ℕ) → r ≡ sum_over before xs → r < modulus
sum_over_below before xs r e = rw e (sum_below (before % modulus) xs (mod-lt before (omega arith)))

sum_append : (s : ℕ) (xs ys : List ℕ) → sum_from s (xs ++ ys) ≡ sum_from (sum_from s xs) ys
unfolding sum_from
sum_append s [] ys = refl
sum_append s (x ∷ xs) ys = sum_append (taken s x) xs ys

-- eight numbers weighed in three groups, as the code does it
groups : (a b c d e f g h : ℕ) →
    ((a * 916243952 + b * 1379304049 + c * 1574493010) % modulus + (d * 649841061 + e * 1748059978 + g * 1000003) % modulus + (f * 3573588497 + h) % modulus) % modulus
    ≡ weighed (a ∷ b ∷ c ∷ d ∷ e ∷ f ∷ g ∷ h ∷ []) % modulus
unfolding weighed power
groups a b c d e f g h =
    parts_in (a * 916243952 + b * 1379304049 + c * 1574493010) (d * 649841061 + e * 1748059978 + g * 1000003) (f * 3573588497 + h)
    ∙ ap (λ s. s % modulus) (omega arith)

-- a block has eight numbers
eight : (xs : List ℕ) → length xs ≡ 8 → xs ≡ get_or xs 0 0 ∷ get_or xs 1 0 ∷ get_or xs 2 0 ∷ get_or xs 3 0 ∷ get_or xs 4 0 ∷ get_or xs 5 0 ∷ get_or xs 6 0 ∷ get_or xs 7 0 ∷ []
eight xs long = ext_get_or 0 xs _ long (λ k h. search (rules, arith))

pub weighs : (xs : List ℕ) → length xs ≡ 8 →
    Weighs xs ((get_or xs 0 0 * 916243952 + get_or xs 1 0 * 1379304049 + get_or xs 2 0 * 1574493010) % modulus + (get_or xs 3 0 * 649841061 + get_or xs 4 0 * 1748059978 + get_or xs 6 0 * 1000003) % modulus + (get_or xs 5 0 * 3573588497 + get_or xs 7 0) % modulus)
weighs xs long = (groups _ _ _ _ _ _ _ _ ∙ ap (λ l. weighed l % modulus) (sym (eight xs long)), omega arith)

block_taken : (s : ℕ) (block : List ℕ) (r : ℕ) → length block ≡ 8 → s < modulus → Weighs block r → sum_from s block ≡ (s * 1328542826 + r) % modulus
unfolding power
block_taken s block r long b w =
    sym (mod-eq_of_lt (sum_below s block b))
    ∙ at_once s block
    ∙ ap (λ n. (s * power n + weighed block) % modulus) long
    ∙ sym (add-mod-mod (s * 1328542826) (weighed block) modulus)
    ∙ ap (λ x. (s * 1328542826 + x) % modulus) (sym w.0)
    ∙ add-mod-mod (s * 1328542826) r modulus

-- the numbers of blocks, and behind them the rest
abbrev pub all_of : List (List ℕ) → List ℕ → List ℕ
all_of [] rest = rest
all_of (block ∷ blocks) rest = block ++ all_of blocks rest

-- the blocks that a list begins with, and what is behind them, are the list
chunked : (k : ℕ) (xs : List ℕ) → all_of (first_chunks 8 k xs) (drop (k * 8) xs) ≡ xs
chunked zero xs = refl
chunked (suc k) xs =
    let behind : drop (suc k * 8) xs ≡ drop (k * 8) (drop 8 xs) = (let n : suc k * 8 ≡ 8 + k * 8 = omega arith in ap (λ n. drop n xs) n ∙ sym (drop-drop (k * 8) 8 xs)) in
    ap (λ l. take 8 xs ++ all_of (first_chunks 8 k (drop 8 xs)) l) behind ∙ ap (λ l. take 8 xs ++ l) (chunked k (drop 8 xs)) ∙ take-append-drop 8 xs

pub all_there : (xs rest : List ℕ) (blocks : List (List ℕ)) → blocks ≡ first_chunks 8 (length xs / 8) xs → rest ≡ drop (length xs / 8 * 8) xs → all_of blocks rest ≡ xs
all_there xs rest blocks front back = rw (front, back) (chunked (length xs / 8) xs)

-- each of them has eight numbers
long_block : (k : ℕ) (xs : List ℕ) (i : ℕ) → i < k → k * 8 ≤ length xs → length (get_or (first_chunks 8 k xs) i []) ≡ 8
long_block zero xs i inside room = absurd (omega arith)
long_block (suc k) xs zero inside room = length-take-le 8 xs (omega arith)
long_block (suc k) xs (suc i) inside room = long_block k (drop 8 xs) i (omega arith) (simp length-drop (omega arith))

pub long_there : (xs : List ℕ) (blocks : List (List ℕ)) (i : ℕ) → blocks ≡ first_chunks 8 (length xs / 8) xs → i < length blocks → length blocks ≡ length xs / 8 → length (get_or blocks i []) ≡ 8
long_there xs blocks i front inside many = rw front (long_block (length xs / 8) xs i (omega arith) (omega arith))

-- before each turn the sum over what is left is the whole sum: a turn takes a block of eight numbers
pub block_more : (s all : ℕ) (blocks : List (List ℕ)) (rest block : List ℕ) (i r : ℕ) → sum_from s (all_of (drop i blocks) rest) ≡ all → i < length blocks → block ≡ get_or blocks i [] → length block ≡ 8 → s < modulus
    → Weighs block r → sum_from ((s * 1328542826 + r) % modulus) (all_of (drop (i + 1) blocks) rest) ≡ all
block_more s all blocks rest block i r kept inside is long b w =
    ap (λ x. sum_from x (all_of (drop (i + 1) blocks) rest)) (sym (block_taken s block r long b w))
    ∙ sym (sum_append s block (all_of (drop (i + 1) blocks) rest))
    ∙ ap (λ l. sum_from s (l ++ all_of (drop (i + 1) blocks) rest)) is
    ∙ ap (λ l. sum_from s (all_of l rest)) (sym (drop_more blocks i [] inside))
    ∙ kept

pub blocks_over : (s all : ℕ) (blocks : List (List ℕ)) (rest : List ℕ) (i : ℕ) → sum_from s (all_of (drop i blocks) rest) ≡ all → length blocks ≤ i → sum_from s rest ≡ all
blocks_over s all blocks rest i kept past = rw (drop_of_length-le blocks past) at kept

-- or one number, or one word, which is two numbers
module _ (xs : List ℕ) (i : ℕ) where
  first : i < length xs → drop i xs ≡ get_or xs i 0 ∷ drop (i + 1) xs
  first h = drop_more xs i 0 h

  module _ (s all : ℕ) (kept : sum_from s (drop i xs) ≡ all) where
    pub one_more : (x : ℕ) → i < length xs → x ≡ get_or xs i 0 → sum_from ((s * factor + x) % modulus) (drop (i + 1) xs) ≡ all
    unfolding sum_from taken
    one_more x h e = rw e (rw (first h) at kept)

    pub over : length xs ≤ i → s ≡ all
    unfolding sum_from
    over h = rw (drop_of_length-le xs h) at kept

  module _ (s all : ℕ) (kept : sum_from s (halves (drop i xs)) ≡ all) where
    pub word_more : (r : ℕ) → i < length xs → s < modulus → r ≡ sum_over s (halves (get_or xs i 0 ∷ [])) → sum_from r (halves (drop (i + 1) xs)) ≡ all
    unfolding sum_from taken halves
    word_more r h b e = rw (e, mod-eq_of_lt b) (rw (first h) at kept)

    pub words_over : length xs ≤ i → s ≡ all
    unfolding sum_from halves
    words_over h = rw (drop_of_length-le xs h) at kept
