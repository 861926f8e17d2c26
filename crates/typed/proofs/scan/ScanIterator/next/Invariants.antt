-- `next` keeps what the iterator says of itself. Invariant: what is still to be given is what was to be given. Measure: the characters left.
use Prim.Native.Nat.{◌-◌}
use mathlib.Core.Path.{◌≡◌}
use lib.ListN.{length}
use Rattle.typed.specs.Reading.{items_left}
use Rattle.typed.proofs.scan.ScanIterator.next.Given as goal

abbrev pub invariant-loop-c : goal.invariant-loop-c
invariant-loop-c l = items_left l.self ≡ items_left l.initial.self

abbrev pub decreases-loop-c : goal.decreases-loop-c
decreases-loop-c l = length l.self.text.now - l.self.at
