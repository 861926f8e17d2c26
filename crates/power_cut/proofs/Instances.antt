-- How many steps each worker needs at the two cuts of bench case f, by computation; and the claim holds of these cuts and of the two advances, as an
-- instance of the theorem.
use Rattle.std.specs.Prelude.{ℕ, ◌≡◌, refl, true, List, [], ◌∷◌}
use Rattle.std.proofs.Common.{arith}
use Rattle.runfile.specs.Operations.{row_numbered, first, count}
use Rattle.runfile.specs.Refusals.{same_fields}
use Rattle.word.specs.Word.{value_in, bit_in, swapped_in, bit_of, turn_of, flips_in}
use Rattle.machine.specs.Steps.{tried_in, storing_in, decide_in, step_turn_in}
use Rattle.machine.specs.Machine.{turn_in, apply, applied, proc_at, act_in, step, step_in, begin}
use Rattle.demand3.specs.Statement.{through}
use Rattle.demand3.specs.Planned.{passes, all_pass, planned}
use Rattle.power_cut.specs.Statement.{steps_by, cut, dark, end_of, Safe, Leaves}
use Rattle.power_cut.specs.Computed.{all_idle, recovers, is_recovery, recovers_with_cuts, is_recovery_with_cuts}
use Rattle.power_cut.specs.Instances.{rows, plan, lost, by_turns, bytes_cut_again, stored, marks, steps_of}
use Rattle.power_cut.proofs.PowerCut.{leaves}

-- worker 0 needs V1 V2 V3 V6, worker 1 V1 V2 V3 V4 V5
pub four_and_five : (steps_of rows lost 0 ≡ 4) × (steps_of rows lost 1 ≡ 5)
unfolding rows lost through steps_by row_numbered first count value_in bit_in swapped_in bit_of turn_of flips_in tried_in storing_in decide_in step_turn_in applied apply proc_at turn_in act_in step_in begin
four_and_five = (refl, refl)

-- by turns, worker 1 first
by_turns_recovers : recovers (step rows) 2 15 by_turns (dark (step rows) 2 rows (7 ∷ []) lost) ≡ true
unfolding rows lost by_turns all_idle recovers through row_numbered first count value_in bit_in swapped_in bit_of turn_of flips_in tried_in storing_in decide_in step_turn_in applied apply proc_at turn_in act_in step_in begin
by_turns_recovers = refl

pub safe_by_turns : Safe (step rows) 2 rows (7 ∷ []) (cut (step rows) 2 rows (7 ∷ []) lost) (end_of (step rows) 2 rows (7 ∷ []) lost by_turns)
unfolding lost
safe_by_turns = (leaves rows (7 ∷ []) 2 plan lost).safe by_turns (is_recovery (step rows) 2 15 by_turns (dark (step rows) 2 rows (7 ∷ []) lost) by_turns_recovers)

-- with the power cut again
cut_again_recovers : recovers_with_cuts (step rows) 2 15 bytes_cut_again (dark (step rows) 2 rows (7 ∷ []) lost) ≡ true
unfolding rows lost bytes_cut_again all_idle recovers_with_cuts through row_numbered first count value_in bit_in swapped_in bit_of turn_of flips_in tried_in storing_in decide_in step_turn_in applied apply proc_at turn_in act_in step_in begin
cut_again_recovers = refl

pub safe_cut_again : Safe (step rows) 2 rows (7 ∷ []) (cut (step rows) 2 rows (7 ∷ []) lost) (end_of (step rows) 2 rows (7 ∷ []) lost bytes_cut_again)
unfolding lost
safe_cut_again = (leaves rows (7 ∷ []) 2 plan lost).safe_with_cuts bytes_cut_again (is_recovery_with_cuts (step rows) 2 15 bytes_cut_again (dark (step rows) 2 rows (7 ∷ []) lost) cut_again_recovers)

-- cut one byte later, worker 0 needs V1 V5
pub two_and_five : (steps_of rows stored 0 ≡ 2) × (steps_of rows stored 1 ≡ 5)
unfolding rows stored through steps_by row_numbered first count value_in bit_in swapped_in bit_of turn_of flips_in tried_in storing_in decide_in step_turn_in applied apply proc_at turn_in act_in step_in begin
two_and_five = (refl, refl)

-- the two advances
pub marks_leave : (before : List ℕ) → Leaves (step marks) 2 marks (7 ∷ []) before
unfolding marks passes all_pass same_fields
marks_leave before = leaves marks (7 ∷ []) 2 (planned 2 1 marks (omega arith) refl) before
