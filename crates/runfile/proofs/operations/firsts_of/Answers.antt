-- `firsts_of` meets its contract. Invariant: the first p entries are made, and the sum is that of the counts before p. Measure: the entries left.
use Rattle.runfile.proofs.Tables.{sum_next}
use Rattle.runfile.proofs.Tables.{upto_next, sum_fits}
use native.Mathlib.Omega.{arith}
use Rattle.runfile.specs.Shares.{sum_to}
use mathlib.Core.Path.{refl}
use Rattle.runfile.proofs.operations.firsts_of.Goals as goal

pub loop-p-init : goal.loop-p-init
unfolding sum_to
loop-p-init c = (refl, record { size = refl; each = λ j l. absurd (omega arith) })

pub overflow_add-sum : goal.overflow_add-sum
overflow_add-sum c =
    let l = c.loop-p in
    let f = sum_fits c.args.counts l.p c.loop-p-test.true c.requires in
    let e = l.invariant.0 in
    omega arith

pub loop-p-preserved : goal.loop-p-preserved
loop-p-preserved c =
    let l = c.loop-p in
    let i = l.invariant in
    let counts = c.args.counts in
    (sum_next counts l.firsts l.p l.sum i.1 c.loop-p-test.true i.0, upto_next counts l.firsts l.p l.sum i.1 c.loop-p-test.true i.0)
