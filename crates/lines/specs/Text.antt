-- What a line says (R191 to R194): a name and numbers, with a space before each number (R196).
use Rattle.std.specs.Prelude.{ℕ, nat_lt, List, [], ◌++◌, length, take, flat_map, codes, decimal, if◌then◌else◌}
use Rattle.word.specs.Word.{value, flips}
use Rattle.lines.specs.declared.WordLine.{WordLine}
use Rattle.lines.specs.declared.RowLine.{RowLine}
use Rattle.lines.specs.declared.HeaderLine.{HeaderLine}

-- a number in its place in a line
abbrev pub numbered : ℕ → List ℕ
numbered n = codes " " ++ decimal n

-- `WordLine`: the number of the word, its value and its flip bits (R192)
abbrev pub word_text : WordLine → List ℕ
word_text line = codes "word" ++ numbered line.number ++ numbered (value line.word) ++ numbered (flips line.word)

-- `RowLine`: the name and the five numbers that the list begins with; of fewer there is no text (R193, R194)
abbrev pub row_text : RowLine → List ℕ
row_text line = if nat_lt (length line.numbers.now) 5 then [] else line.name.now ++ flat_map numbered (take 5 line.numbers.now)

-- `HeaderLine`: P, W, the number of rows and S (R191)
abbrev pub header_text : HeaderLine → List ℕ
header_text line = codes "run" ++ numbered line.0.processes ++ numbered line.0.words ++ numbered line.0.rows ++ numbered line.0.steps
