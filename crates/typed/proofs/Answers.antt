-- What the calls of a public function come to: its contract, from its callees'.
use Prim.Native.Nat.{ℕ, zero, suc, ◌+◌, ◌-◌, ◌*◌, ◌≤◌, ◌<◌}
use native.Mathlib.Nat.{zero-add}
use mathlib.Core.Path.{◌≡◌, refl, sym, ap, ◌∙◌}
use mathlib.Core.List.{List, [], ◌∷◌, ◌++◌}
use native.Mathlib.Omega.{arith}
use borrow.Author.Tests.{lt-leb, le-leb}
use lib.ListN.{length, take, drop, replicate, drop_of_length-le}
use borrow.Rule.Slice.PartMut.{put_mid}
use lib.Seq.{sets, sets-eq, drop-drop, length-sets, take_all}
use Rattle.std.proofs.Common.{append_assoc, append-nil, length-take, length-drop}
use Rattle.std.specs.Prelude.{None, Ok, Some}
use Rattle.typed.specs.Reading.{checked_of}
use Rattle.typed.specs.Writing.{paired, length-paired, gap, spaces, length-spaces, remark, length-remark, length_comment, last_of, comment_of, comment_size, text_of, text_size, length_text}
use Rattle.typed.specs.Spots.{count_is}
use Rattle.typed.specs.Promises.{told, left, bytes_of, infront, written_to, leaves, Reads, Puts}
use Rattle.typed.proofs.Putting.{sets_append}

-- numbers stored from the front on stand in front
pub stored : (ns out : List ℕ) → length ns ≤ length out → sets out 0 ns ≡ infront ns out
stored ns out h = rw (← (zero-add (length ns))) (sets-eq ns out 0 (rw zero-add h))

pub accepted : (text out out' : List ℕ) (n : ℕ) → checked_of text (length out) ≡ Ok n → out' ≡ sets out 0 (bytes_of text) → Reads text out (Ok n) out'
accepted text out out' n e f =
    let w = count_is text (length out) n e in
    let fits : length (bytes_of text) ≤ length out = rw w.1 w.0 in
    record { result = sym (ap (told text) e); buffer = f ∙ stored (bytes_of text) out fits ∙ sym (ap (λ c. left c (bytes_of text) out) e) }

-- a buffer from an index on, as `&mut out[at..]` lends it, and the buffer afterwards
abbrev End : ℕ → List ℕ → List ℕ
End at out = take (length out - at) (drop at out)

abbrev With : ℕ → List ℕ → List ℕ → List ℕ
With at out part = put_mid at (length out - at) out part

-- numbers stored at the front of what is lent are stored from the index on
behind : (out part : List ℕ) (at : ℕ) (ns : List ℕ) → at + length ns ≤ length out → part ≡ sets (End at out) 0 ns → With at out part ≡ sets out at ns
behind out part at ns h e =
    let size : length (drop at out) ≡ length out - at = length-drop at out in
    let all : take (length out - at) (drop at out) ≡ drop at out = take_all (length out - at) (drop at out) (omega arith) in
    let none : drop (length out - at) (drop at out) ≡ [] = drop_of_length-le (drop at out) (omega arith) in
    let front : sets (drop at out) 0 ns ≡ infront ns (drop at out) = stored ns (drop at out) (omega arith) in
    rw (e, all, front, none, sets-eq ns out at h) (rw (append-nil, drop-drop, append_assoc))

-- numbers stored behind others
onward : (out mid : List ℕ) (at i : ℕ) (xs ys : List ℕ) → mid ≡ sets out at xs → i ≡ at + length xs → sets mid i ys ≡ sets out at (xs ++ ys)
onward out mid at i xs ys e f = rw (e, f) (sets_append out at xs ys)

-- the front of a buffer, filled with spaces
spaces_are : (n : ℕ) → replicate n 32 ≡ spaces n
unfolding spaces
spaces_are zero = refl
spaces_are (suc n) = ap (λ s. 32 ∷ s) (spaces_are n)

blanked : (out part : List ℕ) (g : ℕ) → g ≤ length out → part ≡ replicate (length (take g out)) 32 → part ++ drop g out ≡ sets out 0 (spaces g)
blanked out part g h e =
    let size : length (take g out) ≡ g = simp length-take (omega arith) in
    let front : sets out 0 (spaces g) ≡ infront (spaces g) out = stored (spaces g) out (rw (length-spaces g) h) in
    rw (e, size, spaces_are g, front, length-spaces g)

-- a comment that is one: the spaces, and behind them the remark
pub commented : (out part rest comment : List ℕ) (n g : ℕ) → (length comment ≡ 0 → ⊥) → g ≡ gap n → comment_size n (length comment) ≤ length out
    → part ≡ replicate (length (take g out)) 32 → rest ≡ sets (End g (part ++ drop g out)) 0 (remark comment)
    → (g + 3 + length comment ≡ comment_size n (length comment)) × (With g (part ++ drop g out) rest ≡ sets out 0 (comment_of n comment))
commented out part rest [] n g h e l f k = absurd (h refl)
commented out part rest (c ∷ cs) n g h e l f k =
    let blank : part ++ drop g out ≡ sets out 0 (spaces g) = blanked out part g (omega arith) f in
    let as_long : length (part ++ drop g out) ≡ length out = rw blank (length-sets out 0 (spaces g)) in
    let size : length (remark (c ∷ cs)) ≡ 3 + length (c ∷ cs) = length-remark (c ∷ cs) in
    let far : g ≡ 0 + length (spaces g) = rw (length-spaces g) (omega arith) in
    let whole : With g (part ++ drop g out) rest ≡ sets (part ++ drop g out) g (remark (c ∷ cs)) = behind (part ++ drop g out) rest g (remark (c ∷ cs)) (omega arith) k in
    (rw e (omega arith), whole ∙ onward out (part ++ drop g out) 0 g (spaces g) (remark (c ∷ cs)) blank far ∙ ap (λ k. sets out 0 (spaces k ++ remark (c ∷ cs))) e)

-- the text of some bytes has no room, or it has
pub no_room : (out : List ℕ) (at : ℕ) (bytes comment : List ℕ) → length out < at + text_size (length bytes) (length comment) → Puts out at bytes comment None out
no_room out at bytes comment h =
    let t = lt-leb (at + length (text_of bytes comment)) (length out) (rw (length_text bytes comment) h) in
    record { result = sym (ap (λ b. written_to b (at + length (text_of bytes comment))) t); buffer = sym (ap (λ b. leaves b at (text_of bytes comment) out) t) }

has_room : (out : List ℕ) (at : ℕ) (bytes comment : List ℕ) (m : ℕ) (out' : List ℕ) → at + text_size (length bytes) (length comment) ≤ length out
    → m ≡ at + text_size (length bytes) (length comment) → out' ≡ sets out at (text_of bytes comment) → Puts out at bytes comment (Some m) out'
has_room out at bytes comment m out' h e f =
    let size = length_text bytes comment in
    let inside : at + length (text_of bytes comment) ≤ length out = rw size h in
    let t = le-leb (at + length (text_of bytes comment)) (length out) inside in
    let there : m ≡ at + length (text_of bytes comment) = rw size e in
    record {
      result = ap Some there ∙ sym (ap (λ b. written_to b (at + length (text_of bytes comment))) t);
      buffer = f ∙ sets-eq (text_of bytes comment) out at inside ∙ sym (ap (λ b. leaves b at (text_of bytes comment) out) t);
    }

-- the bytes, and behind them their comment
pub written : (out front rest : List ℕ) (at : ℕ) (bytes comment : List ℕ) (last m : ℕ) → at + text_size (length bytes) (length comment) ≤ length out
    → last ≡ last_of (length comment) → front ≡ sets (End at out) 0 (paired (length bytes) last 0 bytes)
    → m ≡ comment_size (length bytes) (length comment) → rest ≡ sets (End (at + 3 * length bytes) (With at out front)) 0 (comment_of (length bytes) comment)
    → Puts out at bytes comment (Some (at + 3 * length bytes + m)) (With (at + 3 * length bytes) (With at out front) rest)
unfolding text_of
written out front rest at bytes comment last m h e f g k =
    let size : length (paired (length bytes) last 0 bytes) ≡ 3 * length bytes = length-paired (length bytes) last 0 bytes in
    let remark_size : length (comment_of (length bytes) comment) ≡ comment_size (length bytes) (length comment) = length_comment (length bytes) comment in
    let first : With at out front ≡ sets out at (paired (length bytes) last 0 bytes) = behind out front at (paired (length bytes) last 0 bytes) (omega arith) f in
    let as_long : length (With at out front) ≡ length out = rw first (length-sets out at (paired (length bytes) last 0 bytes)) in
    let second : With (at + 3 * length bytes) (With at out front) rest ≡ sets (With at out front) (at + 3 * length bytes) (comment_of (length bytes) comment) =
    behind (With at out front) rest (at + 3 * length bytes) (comment_of (length bytes) comment) (omega arith) k in
    let far : at + 3 * length bytes ≡ at + length (paired (length bytes) last 0 bytes) = rw size in
    let whole : With (at + 3 * length bytes) (With at out front) rest ≡ sets out at (text_of bytes comment) =
    second ∙ onward out (With at out front) at (at + 3 * length bytes) (paired (length bytes) last 0 bytes) (comment_of (length bytes) comment) first far
    ∙ ap (λ k. sets out at (paired (length bytes) k 0 bytes ++ comment_of (length bytes) comment)) e in
    has_room out at bytes comment (at + 3 * length bytes + m) _ h (omega arith) whole
