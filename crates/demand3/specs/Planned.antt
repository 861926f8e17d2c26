-- Whether rows pass refusals 9, 10 and 11 is computed here, row by row; rows that pass are a plan. For instances, whose rows are written out.
use Prim.Native.Nat.{ℕ, zero, suc, ◌^◌, ◌≤◌, ◌<◌}
use Rattle.std.specs.Prelude.{◌≡◌, Bool, not, ◌&&◌, ltb, leb, length}
use Rattle.std.proofs.Math.Bool.{true}
use mathlib.Core.List.{List, [], ◌∷◌}
use Rattle.std.proofs.Common.{arith}
use borrow.Author.Tests.{ltb-true, leb-true, not-true}
use Rattle.runfile.specs.declared.Row.{Row}
use Rattle.runfile.specs.Operations.{row_numbered}
use Rattle.runfile.specs.Refusals.{same_fields}
use Rattle.runfile.specs.Lawful.{not_same}
use Rattle.word.specs.Word.{width}
use Rattle.replay.specs.Replay.{Good, good_row, both_true_0, both_true_1}
use Rattle.demand3.specs.Plans.{Plan}

module _ (P W : ℕ) where
  -- its process and its word are there, its new is a value, and refusal 11 is not given for it
  unfoldable pub passes : Row → Bool
  passes row = ltb row.process P && (ltb row.word W && (ltb row.new (2 ^ width) && not (same_fields row)))

  -- and no row has a smaller process than the row in front of it, nor the first one a smaller one than `least`
  unfoldable pub all_pass : (least : ℕ) → List Row → Bool
  all_pass least [] = true
  all_pass least (row ∷ rows) = passes row && (leb least row.process && all_pass row.process rows)

  is_good : (row : Row) → passes row ≡ true → Good W row
  unfolding passes
  is_good row e =
      let after-process = both_true_1 (ltb row.process P) _ e in
      let after-word = both_true_1 (ltb row.word W) _ after-process in
      good_row W row (ltb-true row.word W (both_true_0 (ltb row.word W) _ after-process)) (ltb-true row.new (2 ^ width) (both_true_0 (ltb row.new (2 ^ width)) _ after-word))
      (not_same row (not-true (same_fields row) (both_true_1 (ltb row.new (2 ^ width)) (not (same_fields row)) after-word)))

  is_present : (row : Row) → passes row ≡ true → row.process < P
  unfolding passes
  is_present row e = ltb-true row.process P (both_true_0 (ltb row.process P) _ e)

  each : (Q : Row → Type 0) → ((row : Row) → passes row ≡ true → Q row) → (least : ℕ) (rows : List Row) → all_pass least rows ≡ true → (k : ℕ) → k < length rows → Q (row_numbered rows k)
  unfolding all_pass row_numbered
  each Q h least [] e k l = absurd (omega arith)
  each Q h least (row ∷ rows) e zero l = h row (both_true_0 (passes row) _ e)
  each Q h least (row ∷ rows) e (suc k) l = each Q h row.process rows (both_true_1 (leb least row.process) (all_pass row.process rows) (both_true_1 (passes row) _ e)) k (omega arith)

  rising : (least : ℕ) (rows : List Row) → all_pass least rows ≡ true → (k : ℕ) → suc k < length rows → (row_numbered rows k).process ≤ (row_numbered rows (suc k)).process
  unfolding all_pass row_numbered
  rising least [] e k l = absurd (omega arith)
  rising least (row ∷ []) e k l = absurd (omega arith)
  rising least (row ∷ next ∷ rows) e zero l =
      let rest : all_pass row.process (next ∷ rows) ≡ true = both_true_1 (leb least row.process) _ (both_true_1 (passes row) _ e) in
      leb-true row.process next.process (both_true_0 (leb row.process next.process) _ (both_true_1 (passes next) _ rest))
  rising least (row ∷ next ∷ rows) e (suc k) l = rising row.process (next ∷ rows) (both_true_1 (leb least row.process) _ (both_true_1 (passes row) _ e)) k (omega arith)

  pub planned : (rows : List Row) → 0 < W → all_pass 0 rows ≡ true → Plan P W rows
  planned rows some e = record { some_word = some; good = each (Good W) is_good 0 rows e; present = each (λ row. row.process < P) is_present 0 rows e; order = rising 0 rows e }
