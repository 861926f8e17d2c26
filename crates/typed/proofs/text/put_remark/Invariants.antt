-- `put_remark` meets its contract. Invariant: what is still to be put of the comment, from here on, gives the whole behind `# `.
use Prim.Native.Nat.{◌+◌}
use mathlib.Core.Path.{◌≡◌}
use lib.ListN.{drop}
use lib.Seq.{sets}
use Rattle.typed.specs.Writing.{lined}
use Rattle.typed.proofs.text.put_remark.Given as goal

abbrev pub invariant-loop-i : goal.invariant-loop-i
invariant-loop-i l = sets l.out (2 + l.i) (lined (drop l.i l.comment)) ≡ sets l.initial.out 2 (lined l.comment)
