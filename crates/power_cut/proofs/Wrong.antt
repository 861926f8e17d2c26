-- Each of the two wrong machines of `specs/Wrong.antt` breaks the claim: its short run is computed, and the claim says otherwise of it.
use Rattle.std.specs.Prelude.{ℕ, ◌≡◌, refl, true, [], ◌∷◌, ◌++◌, get_or, Some}
use Rattle.std.proofs.Common.{sym, ◌∙◌, ap, arith}
use Rattle.runfile.specs.Operations.{row_numbered, first, count}
use Rattle.word.specs.Word.{value_in, bit_in, swapped_in, bit_of, turn_of, flips_in}
use Rattle.rows.specs.Entries.{is_swapped}
use Rattle.rows.specs.Log.{one_past, place, insert}
use Rattle.machine.specs.Steps.{spoken, tried_in, storing_in, decide_in, step_turn_in}
use Rattle.machine.specs.Machine.{applied, apply, proc_at, turn_in, act_in, step_in, begin}
use Rattle.demand3.specs.Statement.{of, owner_of, through}
use Rattle.demand3.specs.Rule.{turn_by, act_by, step_by}
use Rattle.demand3.specs.Wrong.{recovering, by_value, told-alone}
use Rattle.power_cut.specs.Statement.{cut, dark, end_of, Answered, Safe, Leaves}
use Rattle.power_cut.specs.Computed.{all_idle, recovers, is_recovery}
use Rattle.power_cut.specs.Wrong.{guess_rows, guessing, guess_before, guess_more, guess_cut, guess_end, again, from_the_start, again_rows, restarting, again_before, again_more}

-- 1. A V3 that goes by whether the value is new: worker 0 is told true, and the log has only worker 1's swap
told_true : of 0 guess_end.answers ≡ record { position = 19; process = 0; row = 0; verdict = 1; value = 0 } ∷ []
unfolding guess_end by_value recovering turn_by act_by step_by through of row_numbered first count value_in bit_in swapped_in bit_of turn_of flips_in is_swapped one_past place insert spoken tried_in storing_in decide_in step_turn_in applied apply proc_at turn_in act_in step_in begin
told_true = refl

not_logged : of 0 guess_cut.log ≡ []
unfolding guess_cut by_value recovering turn_by act_by step_by through of row_numbered first count value_in bit_in swapped_in bit_of turn_of flips_in is_swapped one_past place insert spoken tried_in storing_in decide_in step_turn_in applied apply proc_at turn_in act_in step_in begin
not_logged = refl

-- worker 0's row was open, and none had been told anything
was_open : (proc_at (owner_of guess_rows 0) guess_cut).opened ≡ Some 0
unfolding guess_cut by_value recovering turn_by act_by step_by through row_numbered first count value_in bit_in swapped_in bit_of turn_of flips_in tried_in storing_in decide_in step_turn_in applied apply proc_at turn_in act_in step_in begin
was_open = refl

none_told : guess_cut.answers ≡ []
unfolding guess_cut by_value recovering turn_by act_by step_by through row_numbered first count value_in bit_in swapped_in bit_of turn_of flips_in tried_in storing_in decide_in step_turn_in applied apply proc_at turn_in act_in step_in begin
none_told = refl

-- the bytes wake both and step them until they are idle
guess_recovers : recovers guessing 2 14 guess_more (dark guessing 2 guess_rows (7 ∷ []) guess_before) ≡ true
unfolding all_idle recovers by_value recovering turn_by act_by step_by through row_numbered first count value_in bit_in swapped_in bit_of turn_of flips_in tried_in storing_in decide_in step_turn_in applied apply proc_at turn_in act_in step_in begin
guess_recovers = refl

pub guess_breaks : Leaves guessing 2 guess_rows (7 ∷ []) guess_before → ⊥
unfolding guess_cut guess_end
guess_breaks d =
    let s : Safe guessing 2 guess_rows (7 ∷ []) guess_cut guess_end = d.safe guess_more (is_recovery guessing 2 14 guess_more (dark guessing 2 guess_rows (7 ∷ []) guess_before) guess_recovers) in
    let x : Answered guess_rows 0 guess_cut.log s.new = s.answered 0 was_open in
    let new_is : guess_end.answers ≡ s.new = s.answers ∙ ap (λ l. l ++ s.new) none_told in
    told-alone (owner_of guess_rows 0) 0 (record { position = 19; process = 0; row = 0; verdict = 1; value = 0 }) guess_cut.log s.new (ap (of 0) (sym new_is) ∙ told_true) refl not_logged x.answer x.told x.logged

-- 2. A recovery that begins the operation again: the word has changed since the cut
word_then : get_or (cut restarting 1 again_rows (7 ∷ []) again_before).words 0 0 ≡ 7
unfolding from_the_start again turn_by act_by step_by through row_numbered first count value_in bit_in swapped_in bit_of turn_of flips_in tried_in storing_in decide_in step_turn_in applied apply proc_at turn_in act_in step_in begin
word_then = refl

word-now : get_or (end_of restarting 1 again_rows (7 ∷ []) again_before again_more).words 0 0 ≡ 4294967304
unfolding from_the_start again turn_by act_by step_by through row_numbered first count value_in bit_in swapped_in bit_of turn_of flips_in tried_in storing_in decide_in step_turn_in applied apply proc_at turn_in act_in step_in begin
word-now = refl

again-recovers : recovers restarting 1 7 again_more (dark restarting 1 again_rows (7 ∷ []) again_before) ≡ true
unfolding all_idle recovers from_the_start again turn_by act_by step_by through row_numbered first count value_in bit_in swapped_in bit_of turn_of flips_in tried_in storing_in decide_in step_turn_in applied apply proc_at turn_in act_in step_in begin
again-recovers = refl

pub again_breaks : Leaves restarting 1 again_rows (7 ∷ []) again_before → ⊥
again_breaks d =
    let s = d.safe again_more (is_recovery restarting 1 7 again_more (dark restarting 1 again_rows (7 ∷ []) again_before) again-recovers) in
    let z : ◌≡◌ {A = ℕ} 4294967304 7 = sym word-now ∙ ap (λ l. get_or l 0 0) s.words ∙ word_then in
    omega arith
