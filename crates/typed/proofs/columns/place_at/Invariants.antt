-- `place_at` meets its contract. Invariant: the place is that of the index, in the characters in front of the one that is asked for.
use Rattle.typed.proofs.Counting.{Counting}
use Rattle.typed.proofs.columns.place_at.Given as goal

abbrev pub invariant-loop-c : goal.invariant-loop-c
invariant-loop-c l = Counting l.c-items l.c-index l.place
