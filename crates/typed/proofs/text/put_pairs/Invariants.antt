-- `put_pairs` meets its contract. Invariant: the bytes still to be put, from here on, give the whole.
use Prim.Native.Nat.{◌*◌}
use mathlib.Core.Path.{◌≡◌}
use lib.ListN.{length, drop}
use lib.Seq.{sets}
use Rattle.typed.specs.Writing.{paired}
use Rattle.typed.proofs.text.put_pairs.Given as goal

abbrev pub invariant-loop-i : goal.invariant-loop-i
invariant-loop-i l =
    sets l.out (3 * l.i) (paired (length l.bytes) l.last l.i (drop l.i l.bytes)) ≡ sets l.initial.out 0 (paired (length l.bytes) l.last 0 l.bytes)
