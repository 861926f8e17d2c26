-- `bit_of` meets its contract: bit `width` + p of the word (`bit_stands`), as a shift reads it (`bit_of-div`).
use Rattle.std.proofs.Common.{◌+◌, sym, ◌∙◌}
use Rattle.word.specs.Word.{width}
use Rattle.word.specs.Bits.{bit_of-div}
use Rattle.word.specs.Laws.{bit_stands}
use Rattle.word.proofs.bit_of.Goals as goal

pub returns : goal.returns
returns c = let a = c.args in sym (bit_stands width a.process a.word ∙ bit_of-div (width + a.process) a.word)
