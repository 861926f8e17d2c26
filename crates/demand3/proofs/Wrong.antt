-- Each of the five wrong machines of `specs/Wrong.antt` breaks demand 3: its short run is computed, and the statement says otherwise of it.
use Rattle.std.specs.Prelude.{ℕ, ◌+◌, ◌<◌, ◌≡◌, refl, List, [], ◌∷◌, Option, Some, None}
use Rattle.std.proofs.Common.{sym, ◌∙◌, ap, subst, arith}
use Rattle.runfile.specs.Operations.{row_numbered, first, count, names}
use Rattle.rows.specs.declared.Entry.{Entry}
use Rattle.word.specs.Word.{value_in, bit_in, swapped_in, bit_of, turn_of, flips_in}
use Rattle.rows.specs.Entries.{is_swapped}
use Rattle.rows.specs.Log.{one_past, place, insert, is_swap, first_swap}
use Rattle.machine.specs.Steps.{spoken, tried_in, storing_in, decide_in, step_turn_in}
use Rattle.machine.specs.Machine.{applied, apply, proc_at, turn_in, act_in, step_in, after_in, begin}
use Rattle.replay.specs.Plain.{answer_of, leaves}
use Rattle.demand3.specs.Statement.{of, Once, Logged, owner_of, through, Ended, state_after, Meets}
use Rattle.demand3.specs.Rule.{turn_by, act_by, step_by}
use Rattle.demand3.specs.Wrong.{swap, recovering, by_value, capture_rows, capture_schedule, capturing, captured, told-alone, at_its_a4, back_rows, back_schedule, placing, announcing, opens_early, early_rows, early_schedule, opening, early, kept_position, at_its_try, read_rows, read_schedule, reading, read, rereading, as_it_stands, advance, mark_rows, mark_schedule, rereads, marked}
use Rattle.machine.specs.Laws.{closed_open}
use Rattle.machine.specs.declared.Answer.{Answer}

-- 1. Recovery that goes by whether the value is new: it has ended worker 0's row and told it true, and has only worker 1's swap in its log
row-begun : first capture_rows 0 + (proc_at 0 captured).begun ≡ 1
unfolding captured capture_rows capture_schedule swap by_value recovering turn_by act_by step_by through of row_numbered first count value_in bit_in swapped_in bit_of turn_of flips_in is_swapped one_past place insert spoken tried_in storing_in decide_in step_turn_in applied apply proc_at turn_in act_in step_in after_in begin
row-begun = refl

row_shut : (proc_at 0 captured).opened ≡ None
unfolding captured capture_rows capture_schedule swap by_value recovering turn_by act_by step_by through of row_numbered first count value_in bit_in swapped_in bit_of turn_of flips_in is_swapped one_past place insert spoken tried_in storing_in decide_in step_turn_in applied apply proc_at turn_in act_in step_in after_in begin
row_shut = refl

row-ended : Ended capturing capture_rows 0 captured
unfolding capture_rows swap row_numbered
row-ended = record { begun = subst (λ n. 0 < n) (sym row-begun) (omega arith); shut = λ o. closed_open (sym row_shut ∙ o) }

told_true : of 0 captured.answers ≡ record { position = 19; process = 0; row = 0; verdict = 1; value = 0 } ∷ []
unfolding captured capture_rows capture_schedule swap by_value recovering turn_by act_by step_by through of row_numbered first count value_in bit_in swapped_in bit_of turn_of flips_in is_swapped one_past place insert spoken tried_in storing_in decide_in step_turn_in applied apply proc_at turn_in act_in step_in after_in begin
told_true = refl

not_logged : of 0 captured.log ≡ []
unfolding captured capture_rows capture_schedule swap by_value recovering turn_by act_by step_by through of row_numbered first count value_in bit_in swapped_in bit_of turn_of flips_in is_swapped one_past place insert spoken tried_in storing_in decide_in step_turn_in applied apply proc_at turn_in act_in step_in after_in begin
not_logged = refl

pub capture_breaks : Meets capturing capture_rows capture_schedule → ⊥
unfolding captured capture_rows
capture_breaks d =
    let t = d.ended 0 (omega arith) row-ended in
    told-alone (owner_of capture_rows 0) 0 (record { position = 19; process = 0; row = 0; verdict = 1; value = 0 }) captured.log captured.answers told_true refl not_logged t.answer t.answered t.logged

-- 2. A lost swap that takes the position of its own A4: at that place the replay says true
pub back_breaks : Meets placing back_rows back_schedule → ⊥
unfolding back_rows back_schedule swap at_its_a4 turn_by act_by step_by through row_numbered first count value_in bit_in swapped_in bit_of turn_of flips_in is_swapped one_past place insert spoken tried_in storing_in decide_in step_turn_in applied apply proc_at turn_in act_in step_in after_in begin names is_swap first_swap answer_of leaves
back_breaks d = let z : ◌≡◌ {A = ℕ} 0 1 = ap (λ d. d.verdict) d.replayed.1.1.0 in omega arith

-- 3. The row opened before the checkpoint is cleared: it has ended the second row and told it true, and has only the first one's swap in its log
told-early : of 1 early.answers ≡ record { position = 17; process = 0; row = 1; verdict = 1; value = 0 } ∷ []
unfolding early early_rows early_schedule swap opens_early announcing turn_by act_by step_by through of row_numbered first count value_in bit_in swapped_in bit_of turn_of flips_in is_swapped one_past place insert spoken tried_in storing_in decide_in step_turn_in applied apply proc_at turn_in act_in step_in after_in begin
told-early = refl

early-begun : first early_rows 0 + (proc_at 0 early).begun ≡ 2
unfolding early early_rows early_schedule swap opens_early announcing turn_by act_by step_by through of row_numbered first count value_in bit_in swapped_in bit_of turn_of flips_in is_swapped one_past place insert spoken tried_in storing_in decide_in step_turn_in applied apply proc_at turn_in act_in step_in after_in begin
early-begun = refl

early_shut : (proc_at 0 early).opened ≡ None
unfolding early early_rows early_schedule swap opens_early announcing turn_by act_by step_by through of row_numbered first count value_in bit_in swapped_in bit_of turn_of flips_in is_swapped one_past place insert spoken tried_in storing_in decide_in step_turn_in applied apply proc_at turn_in act_in step_in after_in begin
early_shut = refl

early-ended : Ended opening early_rows 1 early
unfolding early_rows swap row_numbered
early-ended = record { begun = subst (λ n. 1 < n) (sym early-begun) (omega arith); shut = λ o. closed_open (sym early_shut ∙ o) }

early_unlogged : of 1 early.log ≡ []
unfolding early early_rows early_schedule swap opens_early announcing turn_by act_by step_by through of row_numbered first count value_in bit_in swapped_in bit_of turn_of flips_in is_swapped one_past place insert spoken tried_in storing_in decide_in step_turn_in applied apply proc_at turn_in act_in step_in after_in begin
early_unlogged = refl

pub early_breaks : Meets opening early_rows early_schedule → ⊥
unfolding early early_rows
early_breaks d =
    let t = d.ended 1 (omega arith) early-ended in
    told-alone (owner_of early_rows 1) 1 (record { position = 17; process = 0; row = 1; verdict = 1; value = 0 }) early.log early.answers told-early refl early_unlogged t.answer t.answered t.logged

-- 4. A read logged at the position that the record keeps for the A4: it stands at position 0
logged_first : of 0 read.log ≡ record { position = 0; process = 0; row = 0; verdict = 3; value = 7 } ∷ []
unfolding read read_rows read_schedule at_its_try kept_position turn_by act_by step_by through of row_numbered first count value_in bit_in swapped_in bit_of turn_of flips_in is_swapped one_past place insert spoken tried_in storing_in decide_in step_turn_in applied apply proc_at turn_in act_in step_in after_in begin
logged_first = refl

-- no row was open when the first byte came
closed_then : (proc_at 0 (state_after reading read_schedule 0)).opened ≡ None
unfolding read_rows read_schedule through proc_at begin
closed_then = refl

pub read_breaks : Meets reading read_rows read_schedule → ⊥
unfolding read read_rows row_numbered
read_breaks d = closed_open (sym closed_then ∙ (d.log_times 0 (omega arith) (record { position = 0; process = 0; row = 0; verdict = 3; value = 7 }) logged_first).open_then)

-- 5. Recovery that takes the value before from the word as it stands: it has ended worker 0's row and told it 15, and has 7 in its log
told-late : of 0 marked.answers ≡ record { position = 22; process = 0; row = 0; verdict = 4; value = 15 } ∷ []
unfolding marked mark_rows mark_schedule advance as_it_stands rereading turn_by act_by step_by through of row_numbered first count value_in bit_in swapped_in bit_of turn_of flips_in is_swapped one_past place insert spoken tried_in storing_in decide_in step_turn_in applied apply proc_at turn_in act_in step_in after_in begin
told-late = refl

logged_before : of 0 marked.log ≡ record { position = 6; process = 0; row = 0; verdict = 4; value = 7 } ∷ []
unfolding marked mark_rows mark_schedule advance as_it_stands rereading turn_by act_by step_by through of row_numbered first count value_in bit_in swapped_in bit_of turn_of flips_in is_swapped one_past place insert spoken tried_in storing_in decide_in step_turn_in applied apply proc_at turn_in act_in step_in after_in begin
logged_before = refl

mark_begun : first mark_rows 0 + (proc_at 0 marked).begun ≡ 1
unfolding marked mark_rows mark_schedule advance as_it_stands rereading turn_by act_by step_by through of row_numbered first count value_in bit_in swapped_in bit_of turn_of flips_in is_swapped one_past place insert spoken tried_in storing_in decide_in step_turn_in applied apply proc_at turn_in act_in step_in after_in begin
mark_begun = refl

mark_shut : (proc_at 0 marked).opened ≡ None
unfolding marked mark_rows mark_schedule advance as_it_stands rereading turn_by act_by step_by through of row_numbered first count value_in bit_in swapped_in bit_of turn_of flips_in is_swapped one_past place insert spoken tried_in storing_in decide_in step_turn_in applied apply proc_at turn_in act_in step_in after_in begin
mark_shut = refl

mark_ended : Ended rereads mark_rows 0 marked
unfolding mark_rows advance row_numbered
mark_ended = record { begun = subst (λ n. 0 < n) (sym mark_begun) (omega arith); shut = λ o. closed_open (sym mark_shut ∙ o) }

-- whatever was told, by a machine that has something else of it in its log
told_other : (p k : ℕ) (e f : Entry) (log answers : List Entry) → of k answers ≡ e ∷ [] → of k log ≡ f ∷ [] → (e.value ≡ f.value → ⊥) → (m : Option Answer) → Once p k m answers → Logged p k m log → ⊥
told_other p k e f log answers told stood ne None a l = let same : f ∷ [] ≡ [] = sym stood ∙ l in let z : ◌≡◌ {A = ℕ} 0 1 = cc in omega arith
told_other p k e f log answers told stood ne (Some x) a l =
    let there : e ∷ [] ≡ a.entry ∷ [] = sym told ∙ a.once in
    let here : f ∷ [] ≡ l.entry ∷ [] = sym stood ∙ l.once in
    let left : e.value ≡ a.entry.value = cc in
    let right : f.value ≡ l.entry.value = cc in
    ne (left ∙ ap (λ d. d.value) (a.says_so ∙ sym l.says_so) ∙ sym right)

pub mark_breaks : Meets rereads mark_rows mark_schedule → ⊥
unfolding marked mark_rows
mark_breaks d =
    let t = d.ended 0 (omega arith) mark_ended in
    told_other (owner_of mark_rows 0) 0 (record { position = 22; process = 0; row = 0; verdict = 4; value = 15 }) (record { position = 6; process = 0; row = 0; verdict = 4; value = 7 }) marked.log marked.answers
    told-late logged_before (λ e. omega arith) t.answer t.answered t.logged
