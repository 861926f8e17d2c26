-- `fill` meets its contract. Invariant: the bytes of the items left, put from here on, give what all bytes put from the front on give.
use mathlib.Core.Path.{◌≡◌}
use lib.ListN.{length}
use lib.Seq.{sets}
use Rattle.typed.specs.Reading.{reading_of, bytes_in, items_left}
use Rattle.typed.proofs.Scanning.{values}
use Rattle.typed.proofs.scan.fill.Given as goal

abbrev pub invariant-loop-i : goal.invariant-loop-i
invariant-loop-i l =
    (l.i-iterator.a.end ≡ length l.out)
    × (sets l.out l.i-iterator.a.start (values (items_left l.i-iterator.b)) ≡ sets l.initial.out 0 (bytes_in (reading_of l.text)))
