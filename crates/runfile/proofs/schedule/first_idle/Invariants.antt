-- `first_idle` meets its contract. Invariant: the table says who is up after the first i bytes, and what the search finds from i on is what the whole
-- search finds.
use Rattle.runfile.proofs.First.{From}
use Rattle.runfile.proofs.Idle.{Ups}
use Rattle.runfile.specs.Refusals.{first_offender, offends_at}
use Rattle.runfile.specs.Ups.{idles}
use lib.ListN.{length, take}
use Prim.Native.Nat.{◌+◌}
use mathlib.Core.Path.{◌≡◌}
use Rattle.runfile.proofs.schedule.first_idle.Given as goal

abbrev pub invariant-loop-i : goal.invariant-loop-i
invariant-loop-i l = Ups (take l.i l.schedule) l.up × (From (λ j. l.start + j) (offends_at idles l.schedule) (length l.schedule) l.i ≡ first_offender (λ j. l.start + j) (offends_at idles l.schedule) 0 (length l.schedule))
