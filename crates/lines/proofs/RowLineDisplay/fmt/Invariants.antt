-- `RowLine` writes its text: before each number its name and the numbers before it are written.
use Rattle.std.proofs.Common.{take, ◌++◌, flat_map}
use Rattle.std.specs.Fmt.{HasWritten, IsPlainFormatter}
use Rattle.lines.specs.Text.{numbered}
use Rattle.lines.proofs.RowLineDisplay.fmt.Given as goal

abbrev pub invariant-loop-number : goal.invariant-loop-number
invariant-loop-number g l =
    IsPlainFormatter l.fn.f → HasWritten g.W.Write.write_str_gives l.fn.f (l.self.name.now ++ flat_map numbered (take l.number-index l.numbers)) l.f
