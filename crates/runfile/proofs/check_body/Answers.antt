-- `check_body` meets its contract: each search finds what its line of the table finds, and the first that finds something decides.
use Rattle.std.proofs.Common.{◌≡◌, List, ℕ, ◌-◌, length}
use mathlib.Core.Path.{sym, ◌∙◌}
use native.Mathlib.Omega.{arith}
use lib.ListN.{take, drop, length-drop}
use lib.Seq.{take_all}
use Rattle.runfile.specs.Layout.{RowsOf, schedule_start}
use Rattle.runfile.specs.Refusals.{found, no_room, first_bad_field, first_later_row, below, first_row, same, first_byte, bad_byte}
use Rattle.std.specs.Prelude.{Option}
use Rattle.runfile.specs.declared.Header.{Header}
use Rattle.runfile.specs.declared.Refusal.TheVariants as refusal
use Rattle.runfile.proofs.check_body.Goals as goal

-- each search over the rows finds what its line of the table finds
module _ {f : List ℕ} {h : Header} {g : List ℕ} {at stride rows : ℕ} (on : RowsOf h f g at stride rows) where
  row_found : {r : Option ℕ} → r ≡ first_bad_field h stride g at rows → found h f no_room refusal.Row ≡ r
  row_found q = sym (rw (on.bytes, on.begins, on.each, on.all) at q)

  order_found : {r : Option ℕ} → r ≡ first_later_row stride at rows (below stride g at) → found h f no_room refusal.Order ≡ r
  order_found q = sym (rw (on.bytes, on.begins, on.each, on.all) at q)

  same_found : {r : Option ℕ} → r ≡ first_row stride at rows (same stride g at) → found h f no_room refusal.Same ≡ r
  same_found q = sym (rw (on.bytes, on.begins, on.each, on.all) at q)

-- the schedule is handed on as the file's part from its start to the end
action_found : (f : List ℕ) (h : Header) {at : ℕ} → at ≡ schedule_start h → {r : Option ℕ} → r ≡ first_byte at (λ before. bad_byte h.processes) (take (length f - at) (drop at f)) → found h f no_room refusal.Action ≡ r
action_found f h a q =
    let at : ℕ = schedule_start h in
    sym (rw (a, take_all (length f - at) (drop at f) (simp length-drop (omega arith))) at q)

pub returns-in-Some : goal.returns-in-Some
returns-in-Some c =
    let f = c.args.file.now in
    let on = c.of-rows.ensures in
    rw (row_found on c.first_bad_field.ensures ∙ c.in-Some.is)

pub returns-in-Some-first_below : goal.returns-in-Some-first_below
returns-in-Some-first_below c =
    let f = c.args.file.now in
    let on = c.of-rows.ensures in
    rw (row_found on c.first_bad_field.ensures ∙ c.in_default.is, order_found on c.first_below.ensures ∙ c.in-Some-first_below.is)

pub returns-in-Some-first_same : goal.returns-in-Some-first_same
returns-in-Some-first_same c =
    let f = c.args.file.now in
    let on = c.of-rows.ensures in
    rw (row_found on c.first_bad_field.ensures ∙ c.in_default.is, order_found on c.first_below.ensures ∙ c.in_default-first_below.is, same_found on c.first_same.ensures ∙ c.in-Some-first_same.is)

pub returns-in-Some-first_bad_byte : goal.returns-in-Some-first_bad_byte
returns-in-Some-first_bad_byte c =
    let f = c.args.file.now in
    let on = c.of-rows.ensures in
    rw (row_found on c.first_bad_field.ensures ∙ c.in_default.is, order_found on c.first_below.ensures ∙ c.in_default-first_below.is, same_found on c.first_same.ensures ∙ c.in_default-first_same.is, action_found f c.args.header c.schedule_start-start.ensures.0 c.first_bad_byte.ensures ∙ c.in-Some-first_bad_byte.is)

pub returns : goal.returns
returns c =
    let f = c.args.file.now in
    let on = c.of-rows.ensures in
    rw (row_found on c.first_bad_field.ensures ∙ c.in_default.is, order_found on c.first_below.ensures ∙ c.in_default-first_below.is, same_found on c.first_same.ensures ∙ c.in_default-first_same.is, action_found f c.args.header c.schedule_start-start.ensures.0 c.first_bad_byte.ensures ∙ c.in_default-first_bad_byte.is)
