-- `firsts_of` meets its contract. Invariant: the first p entries are made, and the sum is that of the counts before p.
use Rattle.runfile.proofs.Tables.{Upto}
use Rattle.runfile.specs.Shares.{sum_to}
use mathlib.Core.Path.{◌≡◌}
use Rattle.runfile.proofs.operations.firsts_of.Given as goal

abbrev pub invariant-loop-p : goal.invariant-loop-p
invariant-loop-p l = (l.sum ≡ sum_to l.counts l.p) × Upto l.counts l.firsts l.p
