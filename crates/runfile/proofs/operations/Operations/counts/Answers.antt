-- `counts` meets its contract. Invariant: the table counts the first k rows.
use Rattle.runfile.proofs.Tables.{zeros, few, counted_next}
use native.Mathlib.Omega.{arith}
use mathlib.Core.Path.{refl, ◌∙◌}
use Rattle.runfile.specs.Operations.{rows_from, count}
use Prim.Native.Nat.{◌<◌}
use Rattle.runfile.proofs.operations.Operations.counts.Goals as goal

pub loop-k-init : goal.loop-k-init
unfolding count rows_from
loop-k-init c = record { size = refl; each = λ p l. zeros 16 p }

pub overflow_add-counts : goal.overflow_add-counts
overflow_add-counts c =
    let a = c.args in
    let l = c.loop-k in
    -- what is read is the row's process, and so an index of the table
    let named = c.from-p.ensures ∙ c.process.ensures in
    let small : c.from-p.result < 16 = rw named (c.requires.processes l.k c.loop-k-test.true) in
    let f = few a.self.stride a.self.table.now l.k l.counts l.invariant c.from-p.result named small in
    omega arith

pub loop-k-preserved : goal.loop-k-preserved
loop-k-preserved c =
    let a = c.args in
    let l = c.loop-k in
    let named = c.from-p.ensures ∙ c.process.ensures in
    let small : c.from-p.result < 16 = rw named (c.requires.processes l.k c.loop-k-test.true) in
    counted_next a.self.stride a.self.table.now l.k l.counts l.invariant c.from-p.result named small
