-- What a step may reach: the open row in its table, the word that the row is on, and the rows of the log.
use Rattle.std.specs.Prelude.{ℕ, ◌*◌, ◌≤◌, ◌<◌, ◌≡◌, List, length}
use Rattle.std.proofs.Common.{sym}
use Rattle.runfile.specs.Format.{RowSize}
use Rattle.runfile.specs.Layout.{row_of_table, HasRow}
use Rattle.runfile.specs.Operations.{rows_from, row_numbered}
use Rattle.runfile.specs.OperationLaws.{row_numbered-table}

-- row k of a table, and its word
pub record Reach (stride : ℕ) (table : List ℕ) (k : ℕ) (words : List ℕ) : Type 0 where
  pub row : HasRow stride table k
  pub word : (row_of_table stride table k).word < length words

-- row k of a table of n, and m rows of the log
pub record Looked (stride : ℕ) (table : List ℕ) (n k : ℕ) (log : List ℕ) (m : ℕ) : Type 0 where
  pub size : RowSize stride
  pub whole : n * stride ≤ length table
  pub row : k < n
  pub rows : m * 5 ≤ length log

-- the row as it is read from the table is the row of that number
pub row_is : (stride : ℕ) (table : List ℕ) (n k : ℕ) → k < n → row_of_table stride table k ≡ row_numbered (rows_from stride table 0 n) k
row_is stride table n k h = sym (row_numbered-table stride table n k h)
