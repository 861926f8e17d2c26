-- `push` meets its contract: the five numbers stand directly behind those of the rows before.
use Prim.Native.Nat.{ℕ, ◌+◌, ◌*◌, ◌≤◌}
use mathlib.Core.Path.{◌≡◌, sym, ◌∙◌}
use mathlib.Core.List.{List, [], ◌∷◌, ◌++◌, append_assoc}
use native.Mathlib.Omega.{arith}
use lib.ListN.{length, take, drop, length-append}
use lib.Seq.{length-take-le}
use Rattle.rows.specs.declared.Entry.{Entry}
use Rattle.rows.specs.Buffers.{rows_of, placed, five, flat, infront}
use Rattle.rows.specs.BufferLaws.{flat_append, flat-rows_of}
use Rattle.rows.proofs.Entries.push.Goals as goal

added : (n : ℕ) (xs : List ℕ) (e : Entry) → n * 5 + 5 ≤ length xs → placed (n * 5) (five e) xs ≡ infront (flat (rows_of n xs ++ (e ∷ []))) xs
unfolding placed infront five
added n xs e room =
    rw (flat_append (rows_of n xs) (e ∷ []), flat-rows_of n xs (omega arith), length-append (take (n * 5) xs) (five e), length-take-le (n * 5) xs (omega arith))
    (sym (append_assoc (take (n * 5) xs) (five e) (drop (n * 5 + 5) xs)))

pub returns-clause-added : goal.returns-clause-added
returns-clause-added c = c.write_row.ensures ∙ added c.args.self.now.count c.args.self.now.numbers.now c.args.entry c.requires
