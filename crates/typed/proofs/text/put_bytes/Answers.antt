-- `put_bytes` meets its contract: no room, or the bytes and behind them their comment.
use mathlib.Core.Path.{sym}
use native.Mathlib.Omega.{arith}
use borrow.Author.Tests.{leb-true, leb-false}
use Rattle.typed.proofs.Answers.{no_room, written}
use Rattle.typed.proofs.text.put_bytes.Goals as goal

pub returns-in_err-room : goal.returns-in_err-room
returns-in_err-room c = let past = c.in_err-room.ensures in rw c.from_residual.ensures (no_room _ _ _ _ (omega arith))

pub returns-then-not-has_room : goal.returns-then-not-has_room
returns-then-not-has_room c =
    let room = c.in_ok-room.ensures in
    let more = leb-false _ _ (sym c.if-not-has_room.ensures) in
    no_room _ _ _ _ (omega arith)

pub returns : goal.returns
returns c =
    let room = c.in_ok-room.ensures in
    let fits = leb-true _ _ (sym c.if-not-has_room.ensures) in
    written _ _ _ _ _ _ _ _ (omega arith) c.last_of.ensures c.put_pairs.ensures c.put_comment.ensures.0 c.put_comment.ensures.1
