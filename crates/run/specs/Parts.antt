-- The rows of the file's part that begins at a place are the rows of the file from there on.
use Rattle.runfile.specs.Lawful.{LawfulFile}
use Rattle.runfile.specs.Shares.{Lined}
use Rattle.runfile.specs.declared.Header.{Header}
use Rattle.runfile.specs.declared.Row.{Row}
use Rattle.std.specs.Prelude.{◌≡◌, List, ℕ, ◌-◌, ◌*◌, ◌<◌, length, take, drop}
use Rattle.std.proofs.Common.{sym, ap, subst, ◌∙◌, arith, add-zero, length-drop, take_all}
use Rattle.runfile.specs.Format.{row_size_lem}
use Rattle.runfile.specs.Layout.{row_in, row_of_table, rows_start, stride_of}
use Rattle.runfile.specs.RowLaws.{row-part, rows-part}
use Rattle.runfile.specs.Operations.{rows_from, table_of}

-- a part to the end
pub part_all : (f : List ℕ) (at : ℕ) → take (length f - at) (drop at f) ≡ drop at f
part_all f at = take_all (length f - at) (drop at f) (simp length-drop (omega arith))

-- the table of a lawful file is the part of it that begins after the start words
abbrev pub table_part : Header → List ℕ → List ℕ
table_part h f = drop (rows_start h) f

pub table-part : (h : Header) (f : List ℕ) → rows_from (stride_of h) (table_part h f) 0 h.rows ≡ table_of h f
unfolding table_of
table-part h f = rows-part (stride_of h) f (rows_start h) 0 h.rows ∙ ap (λ i. rows_from (stride_of h) f i h.rows) (add-zero (rows_start h))

module _ (h : Header) (f : List ℕ) (l : LawfulFile h f) where
  row_there : (k : ℕ) → row_of_table (stride_of h) (table_part h f) k ≡ row_in (stride_of h) f (rows_start h) k
  row_there k = row-part (stride_of h) f (rows_start h) (k * stride_of h)

  pub lined-part : Lined (stride_of h) (table_part h f) h.rows
  lined-part =
      let exact = l.head.exact in
      record {
        size = row_size_lem h.version;
        whole = simp length-drop (omega arith);
        few = l.head.rows;
        processes = λ k i. subst (λ (row : Row). row.process < 16) (sym (row_there k)) (let a = (l.rows k i).process in let b = l.head.processes in omega arith);
      }

  pub words_part : (k : ℕ) → k < h.rows → (row_of_table (stride_of h) (table_part h f) k).word < h.words
  words_part k i = subst (λ (row : Row). row.word < h.words) (sym (row_there k)) (l.rows k i).word
