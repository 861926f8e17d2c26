-- `counts` meets its contract. Invariant: the table counts the first k rows.
use Rattle.runfile.specs.Shares.{Counted}
use Rattle.runfile.specs.Operations.{rows_from}
use Rattle.runfile.proofs.operations.Operations.counts.Given as goal

abbrev pub invariant-loop-k : goal.invariant-loop-k
invariant-loop-k l = Counted (rows_from l.self.stride l.self.table.now 0 l.k) l.counts
