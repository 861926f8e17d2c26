-- A loop that brings records down one by one: before each turn the first are down; and at the end all that were to go down are.
use Rattle.std.specs.Prelude.{ℕ, min, ◌+◌, ◌≤◌, ◌<◌, ◌≡◌, Bool, true, false, List, ◌++◌, map, take, drop, length, get_or, ltb, slice_set}
use Rattle.std.proofs.Common.{refl, ap, arith, append-nil, take_all}
use Rattle.std.proofs.lemmas.List.{get_or_default}
use Rattle.std.proofs.lemmas.List.Edits.{map_over_more}
use lib.ListN.{drop_of_length-le}
use lib.Seq.{length-take-le}
use borrow.Author.Tests.{ltb-true, ltb-false}
use Rattle.machine.specs.declared.Process.{Process}
use Rattle.machine.specs.Records.{crashed, nobody, down_to}

pub fell : (ps out : List Process) (i : ℕ) → i < length ps → i < length out → out ≡ down_to i ps → slice_set out i (crashed (get_or out i nobody)) ≡ down_to (i + 1) ps
fell ps out i g h e = map_over_more crashed ps out i (get_or out i nobody) g e (get_or_default out i nobody (get_or out i nobody) h)

-- past the last record there is none to bring down
past : (ps : List Process) (count : ℕ) → length ps ≡ 16 → down_to (min count 16) ps ≡ down_to count ps
past ps count e = go (ltb count 16) refl
  where
    go : (c : Bool) → ltb count 16 ≡ c → down_to (min count 16) ps ≡ down_to count ps
    go true x = let h = ltb-true count 16 x in ap (λ n. down_to n ps) (omega arith)
    go false x =
        let h : 16 ≤ count = ltb-false count 16 x in
        let few : min count 16 ≡ 16 = omega arith in
        rw (few, take_all 16 ps (omega arith), take_all count ps (omega arith), drop_of_length-le ps {i = 16} (omega arith), drop_of_length-le ps {i = count} (omega arith)) refl

pub all_fell : (ps : List Process) (count : ℕ) → length ps ≡ 16 → down_to (min count 16) (take (min count 16) ps) ++ drop (min count 16) ps ≡ down_to count ps
all_fell ps count e =
    let few : length (take (min count 16) ps) ≡ min count 16 = length-take-le (min count 16) ps (omega arith) in
    rw (take_all (min count 16) (take (min count 16) ps) (omega arith), drop_of_length-le (take (min count 16) ps) {i = min count 16} (omega arith), append-nil (map crashed (take (min count 16) ps))) (past ps count e)
