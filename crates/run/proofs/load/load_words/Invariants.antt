-- `load_words` meets its contract. Invariant: the first i start words stand in front.
use Rattle.rows.specs.Buffers.{infront}
use Rattle.runfile.specs.Operations.{words_from}
use mathlib.Core.Path.{◌≡◌}
use Rattle.run.proofs.load.load_words.Given as goal

abbrev pub invariant-loop-i : goal.invariant-loop-i
invariant-loop-i l = l.words ≡ infront (words_from l.header.version l.file l.i) l.initial.words
