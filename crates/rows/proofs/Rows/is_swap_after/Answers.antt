-- `is_swap_after` meets its contract: each test of the row is one of `is_swap`, in whatever order they are made, and the table's byte is the word that
-- the row names.
use Prim.Native.Nat.{ℕ, ◌+◌, ◌≤◌, ◌<◌}
use mathlib.Core.Path.{◌≡◌, sym, ◌∙◌}
use mathlib.Core.Bool.{Bool, true, false, and-false}
use mathlib.Core.List.{List}
use native.Mathlib.Omega.{arith}
use lib.Dec.{eqb}
use lib.ListN.{get_or}
use borrow.Author.Tests.{le-ltb, lt-ltb}
use Rattle.runfile.specs.Layout.{row_of_table}
use Rattle.runfile.specs.Shares.{has_row}
use Rattle.runfile.specs.Operations.{rows_from}
use Rattle.runfile.specs.OperationLaws.{names_table, names_past}
use Rattle.rows.specs.Entries.{swap_verdict, is_swapped}
use Rattle.rows.specs.Log.{is_swap}
use Rattle.rows.specs.Buffers.{entry_at}
use Rattle.rows.proofs.Rows.is_swap_after.Goals as goal

module _ (stride : ℕ) (table log : List ℕ) (n w a k : ℕ) where
  abbrev found : Bool
  found = is_swap (rows_from stride table 0 n) w a (entry_at log k)

  lost : swap_verdict (get_or log (k + 3) 0) ≡ false → false ≡ found
  unfolding is_swap is_swapped entry_at
  lost h = rw h

  early : get_or log k 0 ≤ a → false ≡ found
  unfolding is_swap is_swapped entry_at
  early h = rw (le-ltb a (get_or log k 0) h) (sym (and-false (swap_verdict (get_or log (k + 3) 0))))

  -- of a successful swap that is late enough the row that it names decides
  module _ (won : swap_verdict (get_or log (k + 3) 0) ≡ true) (later : a < get_or log k 0) where
    past : n ≤ get_or log (k + 2) 0 → false ≡ found
    unfolding is_swap is_swapped entry_at
    past h = rw (won, lt-ltb a (get_or log k 0) later, names_past stride table 0 n (get_or log (k + 2) 0) w h)

    there : get_or log (k + 2) 0 < n → (x : ℕ) → x ≡ (row_of_table stride table (get_or log (k + 2) 0)).word → eqb x w ≡ found
    unfolding is_swap is_swapped entry_at
    there h x is = rw (won, lt-ltb a (get_or log k 0) later, names_table stride table n (get_or log (k + 2) 0) w h, is)

pub returns-then-verdict-eq0 : goal.returns-then-verdict-eq0
returns-then-verdict-eq0 c = lost _ _ _ _ _ _ _ (simp c.if-verdict-eq0.true)

pub returns-then-log-at : goal.returns-then-log-at
returns-then-log-at c = early _ _ _ _ _ _ _ (omega arith)

pub returns-then-not-is_swapped : goal.returns-then-not-is_swapped
returns-then-not-is_swapped c = lost _ _ _ _ _ _ _ (sym c.is_swapped.ensures ∙ c.if-not-is_swapped.true)

pub returns-then-row-operations : goal.returns-then-row-operations
returns-then-row-operations c = past _ _ _ _ _ _ _ (sym c.is_swapped.ensures ∙ c.if-not-is_swapped.false) (omega (arith, c.if-log-at.false)) c.if-row-operations.true

pub word-requires : goal.word-requires
word-requires c =
    let pre = c.requires in
    has_row _ _ _ _ pre.size pre.whole c.if-row-operations.false

pub returns : goal.returns
returns c =
    there _ _ _ _ _ _ _ (sym c.is_swapped.ensures ∙ c.if-not-is_swapped.false) (omega (arith, c.if-log-at.false)) c.if-row-operations.false _ c.word.ensures
