-- `first_swap_after` meets its contract. Invariant: what the search finds from row i on is what the whole search finds.
use Prim.Native.Nat.{ℕ}
use mathlib.Core.Path.{◌≡◌}
use mathlib.Core.List.{List}
use lib.ListN.{drop}
use Rattle.runfile.specs.declared.Row.{Row}
use Rattle.runfile.specs.Operations.{rows_from}
use Rattle.rows.specs.declared.Sought.{Sought}
use Rattle.rows.specs.Log.{first_swap}
use Rattle.rows.specs.Buffers.{rows_of}
use Rattle.rows.proofs.Rows.first_swap_after.Given as goal

abbrev pub found_from : List Row → List ℕ → ℕ → Sought → ℕ → ℕ
found_from operations log rows sought i = first_swap operations sought.word sought.after sought.none (drop i (rows_of rows log))

abbrev pub invariant-loop-i : goal.invariant-loop-i
invariant-loop-i l =
    let operations = rows_from l.operations.stride l.operations.table.now 0 l.operations.count in
    found_from operations l.self.numbers.now l.self.count l.sought l.i ≡ found_from operations l.self.numbers.now l.self.count l.sought 0
