-- Advances, run: short schedules, by computation. And that refusal 11 is needed of an advance, too (R51): with amount 0 the machine itself breaks
-- demand 3, and exactly where an old like new would, at the lost compare, whose false has no place in the log. Two workers move one mark, worker 0
-- by 5 and worker 1 by 3; the mark starts at 7.
use Rattle.std.specs.Prelude.{ℕ, zero, suc, ◌+◌, ◌-◌, ◌%◌, ◌^◌, ◌<◌, ◌≡◌, refl, Bool, true, false, List, [], ◌∷◌, ◌++◌, map, get_or, replicate}
use Rattle.std.proofs.Common.{ap, arith}
use Rattle.runfile.specs.declared.Row.{Row}
use Rattle.runfile.specs.declared.Kind.TheVariants.{Compare, Advance}
use Rattle.runfile.specs.Operations.{row_numbered, first, count, names}
use Rattle.runfile.specs.Kinds.{kind_of}
use Rattle.runfile.specs.Refusals.{same_fields}
use Rattle.word.specs.Word.{width, value, bit, value_in, bit_in, swapped_in, bit_of, turn_of, flips_in}
use Rattle.word.specs.Laws.{value-fits}
use Rattle.rows.specs.declared.Entry.{Entry}
use Rattle.rows.specs.Entries.{is_swapped}
use Rattle.rows.specs.Log.{one_past, place, insert, is_swap, first_swap}
use Rattle.machine.specs.Steps.{spoken, tried_in, storing_in, decide_in, step_turn_in}
use Rattle.machine.specs.Machine.{State, applied, apply, proc_at, turn_in, act_in, step_in, after, after_in, begin}
use Rattle.replay.specs.Plain.{answer_of, leaves}
use Rattle.replay.specs.Lists.{many}
use Rattle.replay.specs.Sum.{added}
use Rattle.demand3.specs.Statement.{through, Meets}
use Rattle.demand3.specs.FlipBit.{flip_bit, round_count, is_rival, rivals, OfFlipBit}
use Rattle.demand3.specs.Plans.{Plan}
use Rattle.demand3.specs.Planned.{passes, all_pass, planned}
use Rattle.demand3.specs.Demand.{demand3}
use Rattle.demand3.specs.Sum.{mark_of_rows}

-- a row that advances word 0; one that compares and swaps there
abbrev advance : (process amount : ℕ) → Row
advance process amount = record { process = process; kind = 2; word = 0; old = 0; new = amount }

abbrev compare : (process old new : ℕ) → Row
compare process old new = record { process = process; kind = 1; word = 0; old = old; new = new }

abbrev says : (position process row verdict value : ℕ) → Entry
says position process row verdict value = record { position = position; process = process; row = row; verdict = verdict; value = value }

-- what a run comes to: the log, the answers, the mark's value, and the flip bits of workers 0 and 1
record Outcome : Type 0 where
  log : List Entry
  answers : List Entry
  mark : ℕ
  bits : List Bool

unfoldable comes_to : State → Outcome
comes_to s = record { log = s.log; answers = s.answers; mark = value (get_or s.words 0 0); bits = bit 0 (get_or s.words 0 0) ∷ bit 1 (get_or s.words 0 0) ∷ [] }

unfoldable ran : List Row → ℕ → List ℕ → Outcome
ran rows mark schedule = comes_to (after rows 0 schedule (begin 2 (mark ∷ [])))

unfoldable pub two : List Row
two = advance 0 5 ∷ advance 1 3 ∷ []

-- worker 0 alone: told 7, the value before
alone : ran two 7 (replicate 9 0x00) ≡ record {
  log = says 6 0 0 4 7 ∷ [];
  answers = says 8 0 0 4 7 ∷ [];
  mark = 12;
  bits = true ∷ false ∷ [];
}
unfolding two ran comes_to row_numbered first count value_in bit_in swapped_in bit_of turn_of flips_in is_swapped one_past place insert spoken tried_in storing_in decide_in step_turn_in applied apply proc_at turn_in act_in step_in after_in begin
alone = refl

-- worker 0 stands before its A4 when worker 1 moves the mark; its A4, at 15, loses, and the second one, at 19, wins: told 10, the value before
unfoldable losing : List ℕ
losing = replicate 6 0x00 ++ (replicate 9 0x01 ++ replicate 7 0x00)

loses_once : ran two 7 losing ≡ record {
  log = says 12 1 1 4 7 ∷ says 19 0 0 4 10 ∷ [];
  answers = says 14 1 1 4 7 ∷ says 21 0 0 4 10 ∷ [];
  mark = 15;
  bits = true ∷ true ∷ [];
}
unfolding two losing ran comes_to row_numbered first count value_in bit_in swapped_in bit_of turn_of flips_in is_swapped one_past place insert spoken tried_in storing_in decide_in step_turn_in applied apply proc_at turn_in act_in step_in after_in begin
loses_once = refl

-- it has had two rounds, and one swap of another stands in the log: the bound of `rounds` is met
two_rounds : (round_count two 0 0 losing (begin 2 (7 ∷ [])) ≡ 2) × (rivals two 0 0 (after two 0 losing (begin 2 (7 ∷ []))).log ≡ 1)
unfolding two losing round_count many is_rival row_numbered first count value_in bit_in swapped_in bit_of turn_of flips_in is_swapped one_past place insert spoken tried_in storing_in decide_in step_turn_in applied apply proc_at turn_in act_in step_in after_in begin
two_rounds = (refl, refl)

-- worker 0 is cut off between A4 and A5, and worker 1 moves the mark on; recovered, worker 0 is told 7, the value before its own move
cut-after : ran two 7 (replicate 7 0x00 ++ (0x10 ∷ (replicate 9 0x01 ++ (0x20 ∷ replicate 5 0x00)))) ≡ record {
  log = says 6 0 0 4 7 ∷ says 14 1 1 4 12 ∷ [];
  answers = says 16 1 1 4 12 ∷ says 22 0 0 4 7 ∷ [];
  mark = 15;
  bits = true ∷ true ∷ [];
}
unfolding two ran comes_to row_numbered first count value_in bit_in swapped_in bit_of turn_of flips_in is_swapped one_past place insert spoken tried_in storing_in decide_in step_turn_in applied apply proc_at turn_in act_in step_in after_in begin
cut-after = refl

-- worker 0 is cut off before its A4, and worker 1 moves the mark: worker 0 does not take that move for its own, and is told fail
cut_before : ran two 7 (replicate 6 0x00 ++ (0x10 ∷ (replicate 9 0x01 ++ (0x20 ∷ replicate 4 0x00)))) ≡ record {
  log = says 13 1 1 4 7 ∷ [];
  answers = says 15 1 1 4 7 ∷ says 20 0 0 2 0 ∷ [];
  mark = 10;
  bits = false ∷ true ∷ [];
}
unfolding two ran comes_to row_numbered first count value_in bit_in swapped_in bit_of turn_of flips_in is_swapped one_past place insert spoken tried_in storing_in decide_in step_turn_in applied apply proc_at turn_in act_in step_in after_in begin
cut_before = refl

-- worker 0 has lost, at 15, and is cut off at A1 or, with n steps more, at A2, A3 or A4 of its second round: it is told fail, and does not stand in the
-- log
unfoldable failing : ℕ → List ℕ
failing n = replicate 6 0x00 ++ (replicate 9 0x01 ++ (replicate (suc n) 0x00 ++ (0x10 ∷ 0x20 ∷ replicate 4 0x00)))

abbrev failed : ℕ → Outcome
failed at = record {
  log = says 12 1 1 4 7 ∷ [];
  answers = says 14 1 1 4 7 ∷ says at 0 0 2 0 ∷ [];
  mark = 10;
  bits = false ∷ true ∷ [];
}

cut_after_loss : map (λ n. ran two 7 (failing n)) (0 ∷ 1 ∷ 2 ∷ 3 ∷ []) ≡ map failed (21 ∷ 22 ∷ 23 ∷ 24 ∷ [])
unfolding two failing ran comes_to row_numbered first count value_in bit_in swapped_in bit_of turn_of flips_in is_swapped one_past place insert spoken tried_in storing_in decide_in step_turn_in applied apply proc_at turn_in act_in step_in after_in begin
cut_after_loss = refl

-- the sum goes round: from the last value but one, 5 further is 3
goes_round : ran (advance 0 5 ∷ []) (2 ^ width - 2) (replicate 9 0x00) ≡ record {
  log = says 6 0 0 4 (2 ^ width - 2) ∷ [];
  answers = says 8 0 0 4 (2 ^ width - 2) ∷ [];
  mark = 3;
  bits = true ∷ false ∷ [];
}
unfolding ran comes_to row_numbered first count value_in bit_in swapped_in bit_of turn_of flips_in is_swapped one_past place insert spoken tried_in storing_in decide_in step_turn_in applied apply proc_at turn_in act_in step_in after_in begin
goes_round = refl

-- an advance is a successful swap for a compare that it beats: worker 0's false stands where worker 1 moved the mark
beats_compare : ran (compare 0 7 8 ∷ advance 1 3 ∷ []) 7 (replicate 6 0x00 ++ (replicate 9 0x01 ++ replicate 3 0x00)) ≡ record {
  log = says 12 1 1 4 7 ∷ says 12 0 0 0 0 ∷ [];
  answers = says 14 1 1 4 7 ∷ says 17 0 0 0 0 ∷ [];
  mark = 10;
  bits = false ∷ true ∷ [];
}
unfolding ran comes_to names is_swap first_swap row_numbered first count value_in bit_in swapped_in bit_of turn_of flips_in is_swapped one_past place insert spoken tried_in storing_in decide_in step_turn_in applied apply proc_at turn_in act_in step_in after_in begin
beats_compare = refl

-- The same with amount 0. The advance turns worker 1's flip bit and leaves the value, so that the compare is lost although its word is 7 at every
-- time: there is no place in the log at which it answers false
unfoldable pub zero_rows : List Row
zero_rows = compare 0 7 8 ∷ advance 1 0 ∷ []

unfoldable pub zero_schedule : List ℕ
zero_schedule = replicate 6 0x00 ++ (replicate 9 0x01 ++ replicate 3 0x00)

pub zero_breaks : Meets (flip_bit zero_rows 2 (7 ∷ [])) zero_rows zero_schedule → ⊥
unfolding zero_rows zero_schedule through names is_swap first_swap answer_of leaves row_numbered first count value_in bit_in swapped_in bit_of turn_of flips_in is_swapped one_past place insert spoken tried_in storing_in decide_in step_turn_in applied apply proc_at turn_in act_in step_in after_in begin
zero_breaks d = let z : ◌≡◌ {A = ℕ} 0 1 = ap (λ d. d.verdict) d.replayed.1.0 in omega arith

-- the premises can be met: the two rows pass the refusals, so demand 3 holds of every schedule, and the mark is 7 and what was added
pub plan : Plan 2 1 two
unfolding two passes all_pass same_fields
plan = planned 2 1 two (omega arith) refl

pub every_schedule : (schedule : List ℕ) → let end = after two 0 schedule (begin 2 (7 ∷ [])) in OfFlipBit two 2 (7 ∷ []) schedule end.log end.answers (map value end.words)
every_schedule schedule = demand3 two (7 ∷ []) 2 plan schedule

pub mark_adds : (schedule : List ℕ) → let end = after two 0 schedule (begin 2 (7 ∷ [])) in get_or (map value end.words) 0 0 ≡ (value 7 + added two 0 end.log) % 2 ^ width
unfolding two row_numbered begin
mark_adds schedule = mark_of_rows (flip_bit two 2 (7 ∷ [])) two schedule _ _ _ (every_schedule schedule).demand 0 (omega arith) (value-fits width 7) none
  where
    none : (k : ℕ) → k < 2 → (row_numbered two k).word ≡ 0 → kind_of (row_numbered two k) ≡ Compare → ⊥
    none zero l on e = let z : ◌≡◌ {A = ℕ} 0 1 = (let q : Advance ≡ Compare = e in cc) in omega arith
    none (suc zero) l on e = let z : ◌≡◌ {A = ℕ} 0 1 = (let q : Advance ≡ Compare = e in cc) in omega arith
    none (suc (suc k)) l on e = absurd (omega arith)
