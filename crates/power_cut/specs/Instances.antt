-- Two cuts of bench case f, which `docs/POWER-CUT.md` works out, and two advances: what is told, in whichever order the bytes come, by computation. The
-- premises of the claim can be met.
use Rattle.std.specs.Prelude.{ℕ, ◌≡◌, refl, List, [], ◌∷◌, ◌++◌, replicate, Some, None}
use Rattle.std.proofs.Common.{arith}
use Rattle.runfile.specs.declared.Row.{Row}
use Rattle.runfile.specs.Operations.{row_numbered, first, count, names}
use Rattle.runfile.specs.Refusals.{same_fields}
use Rattle.word.specs.Word.{value_in, bit_in, swapped_in, bit_of, turn_of, flips_in}
use Rattle.rows.specs.Entries.{is_swapped}
use Rattle.rows.specs.Log.{place, insert, one_past, is_swap, first_swap}
use Rattle.rows.specs.declared.Entry.{Entry}
use Rattle.machine.specs.declared.Answer.TheVariants.{False, True, Was}
use Rattle.machine.specs.Steps.{entry, spoken, tried_in, storing_in, decide_in, step_turn_in}
use Rattle.machine.specs.Machine.{turn_in, apply, applied, proc_at, act_in, step, step_in, begin}
use Rattle.demand3.specs.Statement.{through}
use Rattle.demand3.specs.Plans.{Plan}
use Rattle.demand3.specs.Planned.{passes, all_pass, planned}
use Rattle.power_cut.specs.Statement.{power_cut, needed, cut, end_of}

-- what is told, and the log, at the end
pub record End : Type 0 where
  pub words : List ℕ
  pub log : List Entry
  pub answers : List Entry

module _ (rows : List Row) (before : List ℕ) where
  abbrev pub steps_of : ℕ → ℕ
  steps_of p = needed rows (cut (step rows) 2 rows (7 ∷ []) before) p

  abbrev ends : List ℕ → End
  ends more = let s = end_of (step rows) 2 rows (7 ∷ []) before more in record { words = s.words; log = s.log; answers = s.answers }

-- Case f (R266): worker 0 moves 7 to 8, worker 1 moves 7 to 9
unfoldable pub rows : List Row
rows = record { process = 0; kind = 1; word = 0; old = 7; new = 8 } ∷ record { process = 1; kind = 1; word = 0; old = 7; new = 9 } ∷ []

pub plan : Plan 2 1 rows
unfolding rows passes all_pass same_fields
plan = planned 2 1 rows (omega arith) refl

-- cut after 14 bytes: worker 1 has swapped, worker 0 has lost, and neither has stored its answer
unfoldable pub lost : List ℕ
lost = replicate 4 0x00 ++ (replicate 7 0x01 ++ replicate 3 0x00)

-- in turn, worker 0 first: it is told fail and worker 1 true; the log has worker 1's swap alone, and the word is as it was
pub in_turn_lem : ends rows lost (0x20 ∷ replicate 4 0x00 ++ 0x21 ∷ replicate 5 0x01) ≡ record {
  words = 8589934601 ∷ [];
  log = entry 10 1 1 (Some True) ∷ [];
  answers = entry 19 0 0 None ∷ entry 25 1 1 (Some True) ∷ [];
}
unfolding rows lost through row_numbered first count value_in bit_in swapped_in bit_of turn_of flips_in is_swapped one_past place insert spoken tried_in storing_in decide_in step_turn_in applied apply proc_at turn_in act_in step_in begin
in_turn_lem = refl

-- by turns, worker 1 first
unfoldable pub by_turns : List ℕ
by_turns = 0x21 ∷ 0x20 ∷ 0x01 ∷ 0x00 ∷ 0x01 ∷ 0x00 ∷ 0x01 ∷ 0x00 ∷ 0x01 ∷ 0x00 ∷ 0x01 ∷ []

pub by_turns_lem : ends rows lost by_turns ≡ record {
  words = 8589934601 ∷ [];
  log = entry 10 1 1 (Some True) ∷ [];
  answers = entry 24 0 0 None ∷ entry 25 1 1 (Some True) ∷ [];
}
unfolding rows lost by_turns through row_numbered first count value_in bit_in swapped_in bit_of turn_of flips_in is_swapped one_past place insert spoken tried_in storing_in decide_in step_turn_in applied apply proc_at turn_in act_in step_in begin
by_turns_lem = refl

-- the power is cut again when worker 1 has been told and worker 0 is in the midst of recovery: worker 0 recovers from V1 on, and worker 1 wakes idle
unfoldable pub bytes_cut_again : List ℕ
bytes_cut_again = 0x21 ∷ replicate 5 0x01 ++ 0x20 ∷ 0x00 ∷ 0x00 ∷ power_cut ∷ 0x21 ∷ 0x20 ∷ replicate 4 0x00

pub cut_again : ends rows lost bytes_cut_again ≡ record {
  words = 8589934601 ∷ [];
  log = entry 10 1 1 (Some True) ∷ [];
  answers = entry 20 1 1 (Some True) ∷ entry 30 0 0 None ∷ [];
}
unfolding rows lost bytes_cut_again through row_numbered first count value_in bit_in swapped_in bit_of turn_of flips_in is_swapped one_past place insert spoken tried_in storing_in decide_in step_turn_in applied apply proc_at turn_in act_in step_in begin
cut_again = refl

-- cut one byte later: worker 0 has stored false, and its log row is there. Now it needs V1 V5 and is told false
unfoldable pub stored : List ℕ
stored = replicate 4 0x00 ++ (replicate 7 0x01 ++ replicate 4 0x00)

pub told_false : ends rows stored (0x20 ∷ replicate 2 0x00 ++ 0x21 ∷ replicate 5 0x01) ≡ record {
  words = 8589934601 ∷ [];
  log = entry 10 1 1 (Some True) ∷ entry 10 0 0 (Some False) ∷ [];
  answers = entry 18 0 0 (Some False) ∷ entry 24 1 1 (Some True) ∷ [];
}
unfolding rows stored through names is_swap first_swap row_numbered first count value_in bit_in swapped_in bit_of turn_of flips_in is_swapped one_past place insert spoken tried_in storing_in decide_in step_turn_in applied apply proc_at turn_in act_in step_in begin
told_false = refl

-- Two advances of a mark at 7, by 5 and by 3. Worker 1 has moved the mark on, worker 0 has lost and gone back to A1 (R118); worker 1 is told the value
-- before, as the log has it, and worker 0 fail
unfoldable pub marks : List Row
marks = record { process = 0; kind = 2; word = 0; old = 0; new = 5 } ∷ record { process = 1; kind = 2; word = 0; old = 0; new = 3 } ∷ []

pub told_was : ends marks lost (0x20 ∷ replicate 4 0x00 ++ 0x21 ∷ replicate 5 0x01) ≡ record {
  words = 8589934602 ∷ [];
  log = entry 10 1 1 (Some (Was 7)) ∷ [];
  answers = entry 19 0 0 None ∷ entry 25 1 1 (Some (Was 7)) ∷ [];
}
unfolding marks lost through row_numbered first count value_in bit_in swapped_in bit_of turn_of flips_in is_swapped one_past place insert spoken tried_in storing_in decide_in step_turn_in applied apply proc_at turn_in act_in step_in begin
told_was = refl
