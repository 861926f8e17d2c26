-- The start words, written one after the other: before turn i the first i stand in front.
use mathlib.Core.Path.{◌≡◌, sym, ◌∙◌}
use mathlib.Core.List.{List, [], ◌∷◌, append_assoc, append-nil}
use Prim.Native.Nat.{ℕ, suc, ◌+◌, ◌<◌}
use native.Mathlib.Numerals.{add-one}
use lib.ListN.{length, set, get_or, drop}
use lib.Seq.{drop-cons, set_at, drop-length}
use Rattle.rows.specs.Buffers.{infront}
use Rattle.runfile.specs.Layout.{word_in}
use Rattle.runfile.specs.Operations.{words_from}
use Rattle.runfile.specs.OperationLaws.{length-words_from}

pub load_turn : (version : ℕ) (f xs words : List ℕ) (i x : ℕ) → i < length xs → words ≡ infront (words_from version f i) xs → x ≡ word_in version f i → set words i x ≡ infront (words_from version f (i + 1)) xs
unfolding infront
load_turn version f xs words i x h e g =
    let l : length (words_from version f i) ≡ i = length-words_from version f i in
    rw (add-one i, length-words_from version f (suc i), g, e, l, drop-cons xs i 0 h)
    (set_at (words_from version f i) (get_or xs i 0) (drop (suc i) xs) (word_in version f i) i l
    ∙ sym (append_assoc (words_from version f i) (word_in version f i ∷ []) (drop (suc i) xs)))

-- all of a buffer of as many numbers
pub load_end : (version : ℕ) (f xs : List ℕ) → infront (words_from version f (length xs)) xs ≡ words_from version f (length xs)
unfolding infront
load_end version f xs = rw (length-words_from version f (length xs), drop-length xs, append-nil (words_from version f (length xs)))
