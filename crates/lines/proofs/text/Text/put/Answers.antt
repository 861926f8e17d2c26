-- `put` meets its contract: the loop ends where all bytes are put, or where there is no room for more.
use Rattle.lines.proofs.Putting.{all_put, no_room}
use Rattle.lines.proofs.text.Text.put.Goals.{else-loop-byte-test, then-loop-byte-test+then-end-self}
use Rattle.lines.proofs.text.Text.put.Goals as goal

pub returns : goal.returns
returns c =
    let (e, f, l, g) = c.loop-byte.invariant in
    elim c.loop-byte-test.branch [
      | else-loop-byte-test w ↦ all_put _ _ _ _ _ _ w.loop-byte-test.false c.loop-byte.auto.byte-index-end e f g
      | then-loop-byte-test+then-end-self w ↦ no_room _ _ _ _ _ _ c.loop-byte.auto.byte-index-end w.if-end-self.true e f l g
    ]
