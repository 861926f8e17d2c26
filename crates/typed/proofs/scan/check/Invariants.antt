-- `check` meets its contract. Invariant: what is told of the items left, with the bytes counted so far, is what is to be told of the text.
use mathlib.Core.Path.{◌≡◌}
use Rattle.typed.specs.Reading.{checked_of, items_left}
use Rattle.typed.proofs.Scanning.{counted}
use Rattle.typed.proofs.scan.check.Given as goal

abbrev pub invariant-loop-item : goal.invariant-loop-item
invariant-loop-item l = counted l.room l.count (items_left l.item-iterator) ≡ checked_of l.text l.room
