-- `run_accepted` meets its contract: the front of the words buffer is lent on, and behind it stands what stood there.
use Prim.Native.Nat.{ℕ, ◌≤◌}
use mathlib.Core.List.{List, ◌++◌}
use mathlib.Core.Path.{◌≡◌, sym, ap, ◌∙◌}
use native.Mathlib.Omega.{arith}
use lib.ListN.{length, take, drop}
use lib.Seq.{length-take-le}
use Rattle.run.proofs.Finish.{finish, part_lawful}
use Rattle.run.proofs.run_accepted.Goals as goal

-- the part that is lent on has as many numbers as the file has words
part_size : (words : List ℕ) (count n : ℕ) → n ≡ count → count ≤ length words → length (take n words) ≡ n
part_size words count n e room = length-take-le n words (omega arith)

pub slice_bounds-run_words-end-2 : goal.slice_bounds-run_words-end-2
slice_bounds-run_words-end-2 c = sym (part_size _ _ _ c.from-count.ensures c.requires.words_room)

pub run_words-requires : goal.run_words-requires
run_words-requires c =
    let a = c.args in
    let size = part_size _ _ _ c.from-count.ensures c.requires.words_room ∙ c.from-count.ensures in
    (size, part_lawful a.header a.file.now a.words.now a.log.now a.answers.now c.requires (take c.from-count.result a.words.now) size)

pub returns : goal.returns
returns c =
    let a = c.args in
    let new = c.run_words.new.words in
    finish a.header a.file.now a.words.now a.log.now a.answers.now c.requires _ _ new _ _ _ c.run_words.ensures (ap (λ (n : ℕ). new ++ drop n a.words.now) c.from-count.ensures)
