-- `fill` meets its contract. Invariant: as many places as turns were taken are filled, and filling goes on with the number that comes next.
use Rattle.std.proofs.Common.{arith, add-one, sym, ◌∙◌}
use Rattle.sweep.proofs.Onward.{none_yet, turn, all_filled}
use Rattle.sweep.proofs.buffers.fill.Goals as goal

pub loop-place-init : goal.loop-place-init
loop-place-init g c = none_yet g.T.Number.next c.args.first c.args.buffer.now

pub loop-place-preserved : goal.loop-place-preserved
loop-place-preserved g c =
    let l = c.loop-place in
    let h = c.loop-place-test.true in
    let a = l.auto.buffer in
    rw (c.wrapping_next-number.ensures, add-one l.place-index)
    (turn g.T.Number.next l.place-index l.number l.buffer (omega arith) ∙ l.invariant)

pub returns : goal.returns
returns g c =
    let l = c.loop-place in
    let h = c.loop-place-test.false in
    let a = l.auto.buffer in
    sym (all_filled g.T.Number.next l.place-index l.number l.buffer (omega arith)) ∙ l.invariant
