-- What `put_bytes` puts reads back: its text says its bytes, so that a text that is put piece by piece says the bytes of all pieces, whatever the comments
-- are. By induction on the bytes and on the comment.
use Rattle.std.specs.Prelude.{ℕ, zero, suc, ◌+◌, ◌-◌, ◌/◌, ◌%◌, ◌≤◌, ◌<◌, ◌≡◌, refl, Bool, true, false, cond, List, [], ◌∷◌, ◌++◌, eqb, ltb, length, get_or, take, drop, Ok, Option, Result, Some}
use Rattle.std.proofs.Common.{sym, ap, subst, ◌∙◌, append-nil, arith, length-append, length-take, take_at, take-add, get_or-take, get_or-drop, ltb-true, ltb-false, leb-true}
use Rattle.std.proofs.Math.ListN.{get_or-eq_default}
use Rattle.typed.specs.declared.chars.Class.{Class}
use Rattle.typed.specs.declared.chars.Class.TheVariants.{Digit, Blank, NewLine, Hash, Other}
use Rattle.typed.specs.declared.scan.State.TheVariants.{Between, Comment}
use Rattle.typed.specs.declared.Slipped.{Slipped}
use Rattle.typed.specs.Chars.{in_range, above, class_digit, newline_class, within, is_digit, is_blank, class_of, value_of, byte_of, digit_of}
use Rattle.typed.specs.Reading.{act, meets, go_on, reading}
use Rattle.typed.specs.Writing.{after_byte, paired, gap, spaces, on_one_line, lined, remark, comment_of, text_of}
use Rattle.typed.specs.Exactly.{true_false}
use Rattle.typed.specs.Runs.{two-read}
use Rattle.typed.specs.Promises.{infront, fits, written_to, leaves, Reads, Puts}
use Rattle.typed.specs.Says.{none, more, Ahead, Says, nothing, joined, says_ahead, says_none, says-append, says_back, Small, Passed}

-- the digit of a value is a digit, and worth that value
digit_back : (v : ℕ) → v < 16 → (is_digit (digit_of v) ≡ true) × (value_of (digit_of v) ≡ v)
unfolding is_digit value_of digit_of
digit_back v h = go (ltb v 10) refl
  where
    go : (t : Bool) → ltb v 10 ≡ t → (is_digit (cond t (v + 48) (v + 55)) ≡ true) × (value_of (cond t (v + 48) (v + 55)) ≡ v)
    go true q =
        let l = ltb-true v 10 q in
        let w = in_range 48 57 (v + 48) (omega arith) (omega arith) in
        (rw w, rw w (omega arith))
    go false q =
        let l = ltb-false v 10 q in
        let n = above 48 57 (v + 55) (omega arith) in
        let w = in_range 65 70 (v + 55) (omega arith) (omega arith) in
        (rw (n, w), rw (n, w) (omega arith))

digit_is : (v : ℕ) → v < 16 → class_of (digit_of v) ≡ Digit
digit_is v h = class_digit (digit_of v) (digit_back v h).0

byte_back : (b : ℕ) → b < 256 → byte_of (digit_of (b / 16)) (digit_of (b % 16)) ≡ b
unfolding byte_of
byte_back b h = rw ((digit_back (b / 16) (omega arith)).1, (digit_back (b % 16) (omega arith)).1) (omega arith)

space_passed : Passed 32
unfolding reading act class_of is_digit is_blank within
space_passed at cs = refl

newline_passed : Passed 10
unfolding reading act class_of is_digit is_blank within
newline_passed at cs = refl

after_passed : (n last k : ℕ) → Passed last → Passed (after_byte n last k)
unfolding after_byte
after_passed n last k p at cs = go (eqb k n) (eqb (k % 16) 0)
  where
    go : (a b : Bool) → reading Between at (cond a last (cond b 10 32) ∷ cs) ≡ reading Between (suc at) cs
    go true b = p at cs
    go false true = newline_passed at cs
    go false false = space_passed at cs

pairs_ahead : (n last k : ℕ) (bs : List ℕ) → Passed last → Small bs → Ahead (paired n last k bs) bs
unfolding paired
pairs_ahead n last k [] p s at cs = nothing at cs
pairs_ahead n last k (b ∷ bs) p s at cs =
    let small : b < 256 = s 0 in
    let two = two-read at (digit_of (b / 16)) (digit_of (b % 16)) (after_byte n last (suc k) ∷ (paired n last (suc k) bs ++ cs)) (digit_is (b / 16) (omega arith)) (digit_is (b % 16) (omega arith)) in
    let three = after_passed n last (suc k) p (suc (suc at)) (paired n last (suc k) bs ++ cs) in
    let rest = pairs_ahead n last (suc k) bs p (λ i. s (suc i)) (suc (suc (suc at))) cs in
    let far : suc (suc (suc at)) + length (paired n last (suc k) bs) ≡ at + suc (suc (suc (length (paired n last (suc k) bs)))) = omega arith in
    rw (two, byte_back b small, three, ← far) (more rest)

spaces_ahead : (n : ℕ) → Ahead (spaces n) []
unfolding spaces
spaces_ahead zero at cs = nothing at cs
spaces_ahead (suc n) at cs =
    let far : suc at + length (spaces n) ≡ at + suc (length (spaces n)) = omega arith in
    rw (space_passed at (spaces n ++ cs), ← far) (spaces_ahead n (suc at) cs)

-- in a comment everything is passed over but a newline
noted : (c at : ℕ) (r : List ℕ) (k : Class) → (k ≡ NewLine → ⊥) → go_on (meets Comment at c k) (λ t. reading t (suc at) r) ≡ reading Comment (suc at) r
noted c at r Digit n = refl
noted c at r Blank n = refl
noted c at r NewLine n = absurd (n refl)
noted c at r Hash n = refl
noted c at r Other n = refl

lined_passed : (c at : ℕ) (r : List ℕ) → reading Comment at (on_one_line c ∷ r) ≡ reading Comment (suc at) r
unfolding reading act on_one_line class_of is_digit is_blank within
lined_passed c at r = go (eqb c 10) refl
  where
    go : (t : Bool) → eqb c 10 ≡ t → reading Comment at (cond t 32 c ∷ r) ≡ reading Comment (suc at) r
    go true t = refl
    go false t = noted c at r (class_of c) (λ e. true_false (eqb c 10) (newline_class c e) t)

comment_passed : (comment : List ℕ) (at : ℕ) (cs : List ℕ) → reading Comment at (lined comment ++ cs) ≡ reading Between (at + length (lined comment)) cs
unfolding reading act lined class_of is_digit is_blank within
comment_passed [] at cs = ap (λ k. reading Between k cs) (omega arith)
comment_passed (c ∷ comment) at cs =
    lined_passed c at (lined comment ++ cs) ∙ comment_passed comment (suc at) cs ∙ ap (λ k. reading Between k cs) (omega arith)

remark_ahead : (comment : List ℕ) → Ahead (remark comment) []
unfolding reading act remark class_of is_digit is_blank within
remark_ahead comment at cs =
    let far : suc (suc at) + length (lined comment) ≡ at + suc (suc (length (lined comment))) = omega arith in
    rw (comment_passed comment (suc (suc at)) cs, far) none

text_ahead : (bytes comment : List ℕ) → Small bytes → Ahead (text_of bytes comment) bytes
unfolding text_of
text_ahead bytes [] s = rw append-nil (pairs_ahead (length bytes) 10 0 bytes newline_passed s)
text_ahead bytes (c ∷ cs) s =
    let noted-ahead = joined (spaces (gap (length bytes))) (remark (c ∷ cs)) [] [] (spaces_ahead (gap (length bytes))) (remark_ahead (c ∷ cs)) in
    let whole = joined (paired (length bytes) 32 0 bytes) (comment_of (length bytes) (c ∷ cs)) bytes [] (pairs_ahead (length bytes) 32 0 bytes space_passed s) noted-ahead in
    subst (Ahead (text_of bytes (c ∷ cs))) (append-nil bytes) whole

pub says_text : (bytes comment : List ℕ) → Small bytes → Says (text_of bytes comment) bytes
says_text bytes comment s = says_ahead (text_ahead bytes comment s)

-- one piece more: what stood up to `at` said some bytes, and what stands up to the new end says those and the piece's
pub puts_says : {out : List ℕ} {at : ℕ} {bytes comment : List ℕ} {r : Option ℕ} {out' : List ℕ} {m : ℕ} {before : List ℕ}
    → Puts out at bytes comment r out' → r ≡ Some m → Small bytes → Says (take at out) before → Says (take m out') (before ++ bytes)
puts_says {out} {at} {bytes} {comment} {r} {out'} {m} {before} p q s x = go (fits out at (text_of bytes comment)) refl (sym q ∙ p.result) p.buffer
  where
    go : (b : Bool) → fits out at (text_of bytes comment) ≡ b → Some m ≡ written_to b (at + length (text_of bytes comment)) → out' ≡ leaves b at (text_of bytes comment) out
        → Says (take m out') (before ++ bytes)
    go false t q e = absurd (let z : ◌≡◌ {A = ℕ} 0 1 = cc in omega arith)
    go true t q e =
        let end : m ≡ at + length (text_of bytes comment) = cc in
        let room = leb-true (at + length (text_of bytes comment)) (length out) t in
        let size : length (take at out ++ text_of bytes comment) ≡ m = simp (length-append, length-take) (omega arith) in
        let text : take m out' ≡ take at out ++ text_of bytes comment = rw e (take_at (take at out ++ text_of bytes comment) (drop (at + length (text_of bytes comment)) out) m size) in
        rw text (says-append x (says_text bytes comment s))

-- a part of a file holds bytes, as the file does
small_piece : (file : List ℕ) (i n : ℕ) → Small file → Small (take n (drop i file))
small_piece file i n s j = go (ltb j n) refl
  where
    go : (b : Bool) → ltb j n ≡ b → get_or (take n (drop i file)) j 0 < 256
    go true t = let b = s (i + j) in rw (get_or-take n (drop i file) j 0 (ltb-true j n t), get_or-drop i file j 0) b
    go false t =
        let h = ltb-false j n t in
        let short : length (take n (drop i file)) ≤ j = simp length-take (omega arith) in
        rw (get_or-eq_default (take n (drop i file)) 0 short) (omega arith)

-- the same of a file that is put piece by piece, this one from i to e
pub puts_piece : {out : List ℕ} {at : ℕ} {comment : List ℕ} {r : Option ℕ} {out' : List ℕ} {m : ℕ} (file : List ℕ) (i e : ℕ)
    → Puts out at (take (e - i) (drop i file)) comment r out' → r ≡ Some m → i ≤ e → Small file → Says (take at out) (take i file) → Says (take m out') (take e file)
puts_piece {out' = out'} {m = m} file i e p q h s x =
    let reach : i + (e - i) ≡ e = omega arith in
    let join : take i file ++ take (e - i) (drop i file) ≡ take e file = sym (take-add i (e - i) file) ∙ ap (λ k. take k file) reach in
    subst (Says (take m out')) join (puts_says p q (small_piece file i (e - i) s) x)

-- said of the two functions: what one `put_bytes` left from the front on, `read` takes back
pub round_trip : (bytes comment out out' into into' : List ℕ) (m : ℕ) (r : Result ℕ Slipped) → Small bytes
    → Puts out 0 bytes comment (Some m) out' → length bytes ≤ length into → Reads (take m out') into r into' → (r ≡ Ok (length bytes)) × (into' ≡ infront bytes into)
round_trip bytes comment out out' into into' m r s p h d = says_back (take m out') bytes into r into' (puts_says p refl s says_none) h d
