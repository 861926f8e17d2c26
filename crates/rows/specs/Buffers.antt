-- Rows in a lent buffer of numbers (R180): they stand in it from the front (R183), and the numbers behind them are as they were (R184).
use Rattle.std.specs.Prelude.{ℕ, zero, suc, ◌+◌, ◌*◌, List, [], ◌∷◌, ◌++◌, take, drop, get_or, length}
use Rattle.rows.specs.declared.Entry.{Entry}

-- the five numbers of a row, in their order (R160); and the numbers of many rows, one after the other (R183)
unfoldable pub five : Entry → List ℕ
five e = e.position ∷ e.process ∷ e.row ∷ e.verdict ∷ e.value ∷ []

abbrev pub flat : List Entry → List ℕ
flat [] = []
flat (e ∷ es) = five e ++ flat es

-- read: the five numbers from place k on, as a row; and the first n rows of a buffer
unfoldable pub entry_at : List ℕ → ℕ → Entry
entry_at xs k =
    record { position = get_or xs k 0; process = get_or xs (k + 1) 0; row = get_or xs (k + 2) 0; verdict = get_or xs (k + 3) 0; value = get_or xs (k + 4) 0 }

abbrev pub rows_of : ℕ → List ℕ → List Entry
rows_of zero xs = []
rows_of (suc n) xs = rows_of n xs ++ (entry_at xs (n * 5) ∷ [])

-- written: a buffer with these numbers in front, and behind them what stood there (R184)
unfoldable pub infront : List ℕ → List ℕ → List ℕ
infront ns xs = ns ++ drop (length ns) xs

-- with these numbers from place `at` on
unfoldable pub placed : ℕ → List ℕ → List ℕ → List ℕ
placed at ns xs = take at xs ++ (ns ++ drop (at + length ns) xs)

-- n numbers moved up by one row (R171): the first five as they were, then the first n, then what stood behind them
unfoldable pub shifted : ℕ → List ℕ → List ℕ
shifted n xs = take 5 xs ++ (take n xs ++ drop (n + 5) xs)
