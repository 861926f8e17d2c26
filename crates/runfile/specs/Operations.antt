-- The start words and the operation rows of a file, as lists (R6, R7), and which rows a process has.
use Rattle.std.specs.Prelude.{ℕ, zero, suc, ◌+◌, Bool, false, cond, List, [], ◌∷◌, ◌++◌, eqb, ltb, get_or}
use Rattle.runfile.specs.declared.Header.{Header}
use Rattle.runfile.specs.declared.Row.{Row}
use Rattle.runfile.specs.Layout.{rows_start, stride_of, row_at, word_in}

-- the first n start words of a file of this version (R6)
abbrev pub words_from : ℕ → List ℕ → ℕ → List ℕ
words_from version f zero = []
words_from version f (suc n) = words_from version f n ++ (word_in version f n ∷ [])

unfoldable pub words_of : Header → List ℕ → List ℕ
words_of h f = words_from h.version f h.words

-- the n rows that stand from a place on, so many bytes from one to the next (R7)
unfoldable pub rows_from : ℕ → List ℕ → ℕ → ℕ → List Row
rows_from stride f start zero = []
rows_from stride f start (suc n) = row_at stride f start ∷ rows_from stride f (start + stride) n

unfoldable pub table_of : Header → List ℕ → List Row
table_of h f = rows_from (stride_of h) f (rows_start h) h.rows

-- row k, counted from 0 through the whole file (R13), or a row of zeros where there is none
abbrev pub blank : Row
blank = record { process = 0; kind = 0; word = 0; old = 0; new = 0 }

unfoldable pub row_numbered : List Row → ℕ → Row
row_numbered rows k = get_or rows k blank

-- how many rows stand for processes below p, which is the number of p's first row (R50); and how many rows p has (R87)
unfoldable pub first : List Row → ℕ → ℕ
first [] p = 0
first (row ∷ rows) p = cond (ltb row.process p) (suc (first rows p)) (first rows p)

unfoldable pub count : List Row → ℕ → ℕ
count [] p = 0
count (row ∷ rows) p = cond (eqb row.process p) (suc (count rows p)) (count rows p)

-- row k is in the file, and is on word w (R168)
unfoldable pub names : List Row → ℕ → ℕ → Bool
names [] k w = false
names (row ∷ rows) zero w = eqb row.word w
names (row ∷ rows) (suc k) w = names rows k w
