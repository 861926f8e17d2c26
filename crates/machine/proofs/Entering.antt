-- A5 on the log (R164 to R167): nothing is entered, or one row is.
use Rattle.std.specs.Prelude.{Option, Some, None}
use mathlib.Core.Path.{◌≡◌, refl, sym, ap, ap₂, ◌∙◌}
use mathlib.Core.Bool.{Bool, true, false, cond}
use mathlib.Core.List.{List}
use Prim.Native.Nat.{ℕ, ◌+◌, ◌*◌, ◌≤◌}
use lib.Dec.{eqb}
use lib.ListN.{length}
use Rattle.runfile.specs.declared.Row.{Row}
use Rattle.word.specs.Word.{value}
use Rattle.rows.specs.declared.Entry.{Entry}
use Rattle.rows.specs.Log.{insert, first_swap}
use Rattle.rows.specs.LogLaws.{length-insert}
use Rattle.rows.specs.Buffers.{rows_of, flat, infront}
use Rattle.rows.specs.BufferLaws.{length-rows_of, rows_same}
use Rattle.machine.specs.declared.Answer.{Answer}
use Rattle.machine.specs.declared.Answer.TheVariants.{False, True, Value, Was}
use Rattle.machine.specs.Turn.{Loses, Logs}
use Rattle.machine.specs.declared.Work.{Work}
use Rattle.machine.specs.Records.{nobody}
use Rattle.machine.specs.Steps.{entry, storing, storing_in}
use Rattle.machine.specs.Machine.{effect_of, log_after}
use Rattle.machine.specs.Promises.{false_at, entered, Enters}

module _ (rows : List Row) (row : Row) (log : List ℕ) (m : ℕ) (w : Work) where
  -- what the log holds afterwards, by the answer
  after_as : Option Answer → List Entry
  after_as a = log_after (effect_of rows (rows_of m log) w.process 0 w.row row.word (storing row nobody w.seen w.read_at w.tried_at a)) (rows_of m log)

  is_as : (a : Option Answer) → w.answer ≡ a → entered rows row (rows_of m log) w ≡ after_as a
  unfolding entered after_as
  is_as a e = ap (λ a. log_after (effect_of rows (rows_of m log) w.process 0 w.row row.word (storing row nobody w.seen w.read_at w.tried_at a)) (rows_of m log)) e

  false_as : after_as (Some False) ≡ insert (entry (false_at rows row (rows_of m log) w) w.process w.row (Some False)) (rows_of m log)
  unfolding after_as storing_in false_at
  false_as = go (eqb (value w.seen) row.old)
    where
      go : (c : Bool) → log_after (effect_of rows (rows_of m log) w.process 0 w.row row.word (cond c (Loses nobody w.read_at w.tried_at) (Logs nobody w.read_at False))) (rows_of m log)
          ≡ insert (entry (cond c (first_swap rows row.word w.read_at w.tried_at (rows_of m log)) w.read_at) w.process w.row (Some False)) (rows_of m log)
      go true = refl
      go false = refl

  stays : m * 5 ≤ length log → entered rows row (rows_of m log) w ≡ rows_of m log → Enters rows row log m w m log
  stays room e = record { count = sym (ap length e ∙ length-rows_of m log); log_is = rows_same m log room ∙ ap (λ es. infront (flat es) log) (sym e) }

  -- one row is entered: the log has a row more
  grows : (e : Entry) (r : ℕ) (log' : List ℕ) → r ≡ m + 1 → entered rows row (rows_of m log) w ≡ insert e (rows_of m log) → log' ≡ infront (flat (insert e (rows_of m log))) log → Enters rows row log m w r log'
  grows e r log' more is put = record {
    count = more ∙ sym (ap length is ∙ length-insert e (rows_of m log) ∙ ap (λ n. n + 1) (length-rows_of m log));
    log_is = put ∙ ap (λ es. infront (flat es) log) (sym is);
  }

  pub enter_none : m * 5 ≤ length log → w.answer ≡ None → Enters rows row log m w m log
  unfolding after_as storing_in
  enter_none room e = stays room (is_as None e)

  pub enter_true : m * 5 ≤ length log → w.answer ≡ Some True → Enters rows row log m w m log
  unfolding after_as storing_in
  enter_true room e = stays room (is_as (Some True) e)

  pub enter_was : m * 5 ≤ length log → (v : ℕ) → w.answer ≡ Some (Was v) → Enters rows row log m w m log
  unfolding after_as storing_in
  enter_was room v e = stays room (is_as (Some (Was v)) e)

  pub enter_value : (v : ℕ) → w.answer ≡ Some (Value v) → (q r : ℕ) (e : Entry) (log' : List ℕ) → r ≡ m + 1 → q ≡ w.read_at → e ≡ entry q w.process w.row w.answer
      → log' ≡ infront (flat (insert e (rows_of m log))) log → Enters rows row log m w r log'
  unfolding after_as storing_in
  enter_value v a q r e log' more at en put =
      grows e r log' more (is_as (Some (Value v)) a ∙ ap (λ e. insert e (rows_of m log)) (sym (en ∙ ap₂ (λ q s. entry q w.process w.row s) at a))) put

  pub enter_false : w.answer ≡ Some False → (q r : ℕ) (e : Entry) (log' : List ℕ) → r ≡ m + 1 → q ≡ false_at rows row (rows_of m log) w → e ≡ entry q w.process w.row w.answer
      → log' ≡ infront (flat (insert e (rows_of m log))) log → Enters rows row log m w r log'
  enter_false a q r e log' more at en put =
      grows e r log' more (is_as (Some False) a ∙ false_as ∙ ap (λ e. insert e (rows_of m log)) (sym (en ∙ ap₂ (λ q s. entry q w.process w.row s) at a))) put
