-- Bytes as a text, with a comment behind them: two digits a byte, a space between, sixteen bytes to a line, a newline at each line's end.
use Rattle.std.specs.Prelude.{ℕ, zero, suc, ◌+◌, ◌*◌, ◌-◌, ◌/◌, ◌%◌, ◌≡◌, refl, cond, List, [], ◌∷◌, ◌++◌, eqb, ltb, length}
use Rattle.std.proofs.Common.{ap, arith, length-append}
use Rattle.typed.specs.Chars.{digit_of}

-- what stands behind the kth byte of n, if `last` stands behind the last
unfoldable pub after_byte : ℕ → ℕ → ℕ → ℕ
after_byte n last k = cond (eqb k n) last (cond (eqb (k % 16) 0) 10 32)

-- the bytes from the one on that has k before it, of n
unfoldable pub paired : ℕ → ℕ → ℕ → List ℕ → List ℕ
paired n last k [] = []
paired n last k (b ∷ bs) = digit_of (b / 16) ∷ digit_of (b % 16) ∷ after_byte n last (suc k) ∷ paired n last (suc k) bs

-- the spaces in front of a comment, besides the one behind the last byte: the `#` stands in column 17, or behind two spaces where the last line has more
-- than five bytes; with no byte it begins the line
abbrev pub gap_behind : ℕ → ℕ
gap_behind k = cond (ltb k 5) (16 - 3 * k) 1

unfoldable pub gap : ℕ → ℕ
gap n = cond (eqb n 0) 0 (gap_behind ((n - 1) % 16 + 1))

unfoldable pub spaces : ℕ → List ℕ
spaces zero = []
spaces (suc n) = 32 ∷ spaces n

-- a comment ends where its line does: a newline in it becomes a space
unfoldable pub on_one_line : ℕ → ℕ
on_one_line c = cond (eqb c 10) 32 c

unfoldable pub lined : List ℕ → List ℕ
lined [] = 10 ∷ []
lined (c ∷ cs) = on_one_line c ∷ lined cs

unfoldable pub remark : List ℕ → List ℕ
remark comment = 35 ∷ 32 ∷ lined comment

-- behind the last byte its line ends, or a comment of m characters follows; an empty one is none
abbrev pub last_of : ℕ → ℕ
last_of zero = 10
last_of (suc m) = 32

abbrev pub comment_of : ℕ → List ℕ → List ℕ
comment_of n [] = []
comment_of n (c ∷ cs) = spaces (gap n) ++ remark (c ∷ cs)

unfoldable pub text_of : List ℕ → List ℕ → List ℕ
text_of bytes comment = paired (length bytes) (last_of (length comment)) 0 bytes ++ comment_of (length bytes) comment

-- how long it is
abbrev pub comment_size : ℕ → ℕ → ℕ
comment_size n zero = 0
comment_size n (suc m) = gap n + 3 + suc m

abbrev pub text_size : ℕ → ℕ → ℕ
text_size n m = 3 * n + comment_size n m

pub length-paired : (n last k : ℕ) (bs : List ℕ) → length (paired n last k bs) ≡ 3 * length bs
unfolding paired
length-paired n last k [] = refl
length-paired n last k (b ∷ bs) = let r = length-paired n last (suc k) bs in omega arith

pub length-spaces : (n : ℕ) → length (spaces n) ≡ n
unfolding spaces
length-spaces zero = refl
length-spaces (suc n) = ap suc (length-spaces n)

pub length-lined : (cs : List ℕ) → length (lined cs) ≡ suc (length cs)
unfolding lined
length-lined [] = refl
length-lined (c ∷ cs) = ap suc (length-lined cs)

pub length-remark : (cs : List ℕ) → length (remark cs) ≡ 3 + length cs
unfolding remark
length-remark cs = let r = length-lined cs in omega arith

pub length_comment : (n : ℕ) (cs : List ℕ) → length (comment_of n cs) ≡ comment_size n (length cs)
length_comment n [] = refl
length_comment n (c ∷ cs) = simp (length-append, length-spaces, length-remark) (omega arith)

pub length_text : (bytes comment : List ℕ) → length (text_of bytes comment) ≡ text_size (length bytes) (length comment)
unfolding text_of
length_text bytes comment = rw (length-append, length-paired, length_comment)
