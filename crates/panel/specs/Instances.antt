-- The definitions of a key at records and keys, by computation: of each condition of 21 a record that meets it and one beside it that does not
-- (R231b to R231i); the order of the refusals (R220); which keys are idle (R226); and case f (R266), key after key.
use Rattle.std.specs.Prelude.{ℕ, ◌+◌, ◌*◌, ◌^◌, ◌≡◌, refl, true, false, List, [], ◌∷◌, ◌++◌, map, replicate, Option, Some, None, Ok, Err}
use Rattle.runfile.specs.declared.Row.{Row}
use Rattle.runfile.specs.declared.Refusal.TheVariants as refused
use Rattle.runfile.specs.Format.{head_size, word_size, row_size, new_place}
use Rattle.runfile.specs.Layout.{u16_at, u32_at, marked, header_in, number_at, row_at}
use Rattle.runfile.specs.Operations.{rows_from, table_of, row_numbered, first, count, names}
use Rattle.runfile.specs.Refusals.{bad_field, same_fields, bad_byte, first_bad_field, first_row, first_later_row, first_byte, file_refusal}
use Rattle.machine.specs.declared.Answer.{Answer}
use Rattle.machine.specs.declared.Process.{Process}
use Rattle.machine.specs.declared.Stage.TheVariants.{A1, A2, A4, A5, A6, V2, V3, V4, V5}
use Rattle.machine.specs.declared.Answer.TheVariants.{False, True, Value, Was}
use Rattle.machine.specs.declared.Stage.{Stage}
use Rattle.machine.specs.declared.Status.{Status}
use Rattle.machine.specs.declared.Status.TheVariants.{Down, Idle, N2, N3, Busy}
use Rattle.word.specs.Word.{width, bit_of, turn_of, value_in, flips_in, bit_in, swapped_in}
use Rattle.rows.specs.Entries.{is_swapped}
use Rattle.rows.specs.Log.{one_past, place, insert, is_swap, first_swap}
use Rattle.rows.specs.Buffers.{five, entry_at, infront}
use Rattle.machine.specs.Records.{fresh, unkept}
use Rattle.machine.specs.Steps.{spoken, tried_in, storing_in, decide_in, step_turn_in}
use Rattle.machine.specs.Machine.{turn_in, apply, applied, proc_at, act_in, step_in}
use Rattle.panel.specs.declared.Stroke.{Stroke}
use Rattle.panel.specs.declared.Why.TheVariants.{Run}
use Rattle.panel.specs.Possible.{misplaced, misdone, impossible, any_impossible}
use Rattle.panel.specs.Press.{Outcome, done, refuses, number_of_why, judged, verdict_of, state_of, stepped, Pressed, pressed}
use Rattle.panel.specs.Key.{keyed}
use Rattle.panel.specs.Through.{stepping, ready}

-- process 0 reads word 0, and then moves it from 7 to 8
abbrev rows : List Row
rows = record { process = 0; kind = 0; word = 0; old = 0; new = 0 } ∷ record { process = 0; kind = 1; word = 0; old = 7; new = 8 } ∷ []

abbrev with : (begun : ℕ) → Option ℕ → (stored : Option Answer) → Status → Process
with begun opened stored status = record { status = status; opened = opened; stored = stored; checkpoint = false; kept = unkept; begun = begun }

abbrev at : Stage → Option Answer → Status
at stage answer = Busy stage 7 0 0 answer

-- one or more for each condition, in the order of R231b to R231i
abbrev meets : List Process
meets =
    with 3 None None Idle  -- fewer rows than are begun (R231b)
    ∷ with 2 (Some 0) None Down  -- another row open than the last one begun (R231c)
    ∷ with 0 (Some 0) None Down
    ∷ with 1 (Some 0) None Idle  -- a row open while idle (R231d)
    ∷ with 1 (Some 0) None N2  -- at N2 or at N3 (R231d)
    ∷ with 1 (Some 0) None N3
    ∷ with 1 None None (at A1 None)  -- no row open in the midst of work (R231e)
    ∷ with 2 None None N2  -- no row to announce (R231f)
    ∷ with 2 None None N3
    ∷ with 1 (Some 0) None (at A5 None)  -- no answer where one is needed (R231g)
    ∷ with 1 (Some 0) (Some (Value 7)) (at A6 None)
    ∷ with 1 (Some 0) None (at V5 None)
    ∷ with 1 (Some 0) None (at A2 None)  -- a stage that no read has (R231h)
    ∷ with 1 (Some 0) None (at V3 None)
    ∷ with 1 (Some 0) None (at A5 (Some True))  -- an answer that no read gives (R231i)
    ∷ with 1 (Some 0) (Some False) Down
    ∷ with 1 (Some 0) (Some (Value (2 ^ width))) (at V5 None)  -- a number that is no value (R231i)
    ∷ with 2 (Some 1) None (at A5 (Some (Value 7)))  -- and no compare (R231i)
    ∷ with 2 (Some 1) (Some (Value 7)) Down
    ∷ []

-- the nearest records that can be
abbrev can_be : List Process
can_be =
    with 2 None None Idle
    ∷ with 2 (Some 1) None Down
    ∷ with 1 (Some 0) None Down
    ∷ with 1 None None Idle
    ∷ with 1 None None N2
    ∷ with 1 None None N3
    ∷ with 1 (Some 0) None (at A1 None)
    ∷ with 1 None (Some True) N3
    ∷ with 1 (Some 0) None (at A5 (Some (Value 7)))
    ∷ with 1 (Some 0) (Some (Value 7)) (at A6 (Some (Value 7)))
    ∷ with 1 (Some 0) (Some (Value 7)) (at V5 None)
    ∷ with 1 (Some 0) None (at V2 None)
    ∷ with 2 (Some 1) None (at A2 None)
    ∷ with 2 (Some 1) None (at V3 None)
    ∷ with 2 (Some 1) None (at A5 (Some True))
    ∷ with 2 (Some 1) (Some False) Down
    ∷ with 1 None (Some (Value 7)) Down  -- an answer left over from a row that is closed (R231i)
    ∷ []

pub each_met : map (impossible rows 0) meets ≡ replicate 19 true
unfolding impossible misplaced misdone row_numbered first count value_in
each_met = refl

pub none_met : map (impossible rows 0) can_be ≡ replicate 17 false
unfolding impossible misplaced misdone row_numbered first count value_in
none_met = refl

-- the same two rows, and then it advances word 0 by 5: what only an advance answers, and what it never does (R231i)
abbrev three : List Row
three = rows ++ (record { process = 0; kind = 2; word = 0; old = 0; new = 5 } ∷ [])

abbrev no_advance : List Process
no_advance =
    with 1 (Some 0) (Some (Was 7)) Down
    ∷ with 2 (Some 1) (Some (Was 7)) Down
    ∷ with 3 (Some 2) None (at A5 (Some True))
    ∷ with 3 (Some 2) None (at A5 (Some False))
    ∷ with 3 (Some 2) (Some (Value 7)) Down
    ∷ with 3 (Some 2) (Some (Was (2 ^ width))) Down
    ∷ []

-- it has every stage (R231h)
abbrev advance : List Process
advance =
    with 3 (Some 2) None (at A1 None)
    ∷ with 3 (Some 2) None (at A4 None)
    ∷ with 3 (Some 2) None (at A5 (Some (Was 7)))
    ∷ with 3 (Some 2) (Some (Was 7)) (at A6 (Some (Was 7)))
    ∷ with 3 (Some 2) None (at V4 None)
    ∷ with 3 (Some 2) (Some (Was 7)) (at V5 None)
    ∷ []

pub advances-judged : (map (impossible three 0) no_advance ≡ replicate 6 true) × (map (impossible three 0) advance ≡ replicate 6 false)
unfolding impossible misplaced misdone row_numbered first count value_in
advances-judged = (refl, refl)

-- two processes, one word, the two rows, no schedule
abbrev file : List ℕ
file = 83 ∷ 87 ∷ 82 ∷ 1 ∷ 0 ∷ 2 ∷ 1 ∷ 2 ∷ 0 ∷ 0 ∷ 0 ∷ 7 ∷ 0 ∷ 0 ∷ 0 ∷ 0 ∷ 0 ∷ 0 ∷ 0 ∷ 0 ∷ 0 ∷ 0 ∷ 0 ∷ 0 ∷ 1 ∷ 0 ∷ 0 ∷ 7 ∷ 0 ∷ 8 ∷ 0 ∷ []

-- the same with its mark spoilt
abbrev damaged : List ℕ
damaged = 83 ∷ 87 ∷ 83 ∷ 1 ∷ 0 ∷ 2 ∷ 1 ∷ 2 ∷ 0 ∷ 0 ∷ 0 ∷ 7 ∷ 0 ∷ 0 ∷ 0 ∷ 0 ∷ 0 ∷ 0 ∷ 0 ∷ 0 ∷ 0 ∷ 0 ∷ 0 ∷ 0 ∷ 1 ∷ 0 ∷ 0 ∷ 7 ∷ 0 ∷ 8 ∷ 0 ∷ []

-- a record that cannot be, at process 1, which has no row
abbrev spoilt : List Process
spoilt = fresh ∷ with 1 None None Idle ∷ []

abbrev idle : List Process
idle = fresh ∷ fresh ∷ []

-- both are down
abbrev down : List Process
down = with 0 None None Down ∷ with 0 None None Down ∷ []

-- the number of the refusal, 0 for none
abbrev refusal : Outcome → ℕ
refusal (Ok counts) = 0
refusal (Err r) = number_of_why r.why

-- a key: the byte, its position, and the two row counts
abbrev key_of : (byte position log answers : ℕ) → Stroke
key_of byte position log answers = record { byte = byte; position = position; counts = record { log = log; answers = answers } }

-- everything is wrong, and one thing after the other is put right: a damaged file; no word; one record; room for no log row; a log count past the
-- buffer; room for no answer; position 1,024; a record that cannot be; bytes that are no action, of which the last two are a crash of one that is down
-- by its record and a wake of one that is awake, so that they would be idle; a wake that is idle; and at last nothing
pub in_order :
    refusal (keyed damaged (fresh ∷ []) [] [] [] (key_of 48 1024 0 0)).outcome
    ∷ refusal (keyed file (fresh ∷ []) [] [] [] (key_of 48 1024 0 0)).outcome
    ∷ refusal (keyed file (fresh ∷ []) (7 ∷ []) [] [] (key_of 48 1024 0 0)).outcome
    ∷ refusal (keyed file spoilt (7 ∷ []) (replicate 4 0) [] (key_of 48 1024 0 0)).outcome
    ∷ refusal (keyed file spoilt (7 ∷ []) (replicate 14 0) [] (key_of 48 1024 2 0)).outcome
    ∷ refusal (keyed file spoilt (7 ∷ []) (replicate 15 0) [] (key_of 48 1024 2 0)).outcome
    ∷ refusal (keyed file spoilt (7 ∷ []) (replicate 15 0) (replicate 5 0) (key_of 48 1024 2 0)).outcome
    ∷ refusal (keyed file spoilt (7 ∷ []) (replicate 15 0) (replicate 5 0) (key_of 48 1023 2 0)).outcome
    ∷ refusal (keyed file idle (7 ∷ []) (replicate 15 0) (replicate 5 0) (key_of 48 1023 2 0)).outcome
    ∷ refusal (keyed file idle (7 ∷ []) (replicate 15 0) (replicate 5 0) (key_of 2 1023 2 0)).outcome
    ∷ refusal (keyed file idle (7 ∷ []) (replicate 15 0) (replicate 5 0) (key_of 241 1023 2 0)).outcome
    ∷ refusal (keyed file (idle ++ down) (7 ∷ []) (replicate 15 0) (replicate 5 0) (key_of 18 1023 2 0)).outcome
    ∷ refusal (keyed file (idle ++ idle) (7 ∷ []) (replicate 15 0) (replicate 5 0) (key_of 34 1023 2 0)).outcome
    ∷ refusal (keyed file idle (7 ∷ []) (replicate 15 0) (replicate 5 0) (key_of 33 1023 2 0)).outcome
    ∷ refusal (keyed file idle (7 ∷ []) (replicate 15 0) (replicate 5 0) (key_of 0 1023 2 0)).outcome
    ∷ []
    ≡ 2 ∷ 13 ∷ 13 ∷ 14 ∷ 14 ∷ 15 ∷ 21 ∷ 21 ∷ 22 ∷ 22 ∷ 22 ∷ 22 ∷ 22 ∷ 16 ∷ 0 ∷ []
unfolding keyed pressed verdict_of judged file_refusal header_in u16_at u32_at marked head_size word_size row_size new_place number_at row_at bad_field same_fields bad_byte first_bad_field first_row first_later_row first_byte table_of rows_from any_impossible impossible misplaced misdone row_numbered first count
in_order = refl

-- Which keys are idle (R226). Both are awake: a crash of one goes, a wake does not. Both are down: a crash does not go, a wake does, and so do a step
-- and F0. One is down and one is awake: the record of the process named is asked, and no other. The place of 16 is 0.
abbrev pressed_by : (byte : ℕ) → List Process → ℕ
pressed_by byte records = refusal (keyed file records (7 ∷ []) (replicate 5 0) (replicate 5 0) (key_of byte 0 0 0)).outcome

pub idle-keys :
    (pressed_by 16 idle ∷ pressed_by 32 idle ∷ pressed_by 0 idle ∷ pressed_by 240 idle ∷ [] ≡ 0 ∷ 16 ∷ 0 ∷ 0 ∷ [])
    × (pressed_by 16 down ∷ pressed_by 32 down ∷ pressed_by 0 down ∷ pressed_by 240 down ∷ [] ≡ 16 ∷ 0 ∷ 0 ∷ 0 ∷ [])
    × (map (λ byte. pressed_by byte (with 0 None None Down ∷ fresh ∷ [])) (16 ∷ 17 ∷ 32 ∷ 33 ∷ []) ≡ 16 ∷ 0 ∷ 0 ∷ 16 ∷ [])
    × ((keyed file idle (7 ∷ []) (replicate 5 0) (replicate 5 0) (key_of 32 0 0 0)).outcome ≡ refuses (Run refused.Idle) 0)
unfolding keyed pressed verdict_of judged file_refusal header_in u16_at u32_at marked head_size word_size row_size new_place number_at row_at bad_field same_fields bad_byte first_bad_field first_row first_later_row first_byte table_of rows_from any_impossible impossible misplaced misdone row_numbered first count
idle-keys = (refl, refl, refl, refl)

-- case f (R266), key after key: two rows in the log, the swap of process 1 and behind it the one that lost to it, and one answer
abbrev keys : List ℕ
keys = 0 ∷ 0 ∷ 0 ∷ 0 ∷ 1 ∷ 1 ∷ 1 ∷ 1 ∷ 1 ∷ 1 ∷ 1 ∷ 0 ∷ 0 ∷ 0 ∷ 0 ∷ 0 ∷ []

abbrev case_f : List ℕ
case_f =
    83 ∷ 87 ∷ 82 ∷ 1 ∷ 0 ∷ 2 ∷ 1 ∷ 2 ∷ 0 ∷ 16 ∷ 0 ∷ 7 ∷ 0 ∷ 0 ∷ 0 ∷ 0 ∷ 1 ∷ 0 ∷ 0 ∷ 7 ∷ 0 ∷ 8 ∷ 0 ∷ 1 ∷ 1 ∷ 0 ∷ 0 ∷ 7 ∷ 0 ∷ 9 ∷ 0 ∷ keys

abbrev ended : Pressed
ended = stepping case_f 0 keys (ready idle (7 ∷ []) (replicate 80 99) (replicate 80 99))

pub f_stepped :
    (ended.outcome ≡ done 2 1)
    × (ended.words ≡ (9 + 2 * 4294967296) ∷ [])
    × (ended.log ≡ 10 ∷ 1 ∷ 1 ∷ 1 ∷ 0 ∷ 10 ∷ 0 ∷ 0 ∷ 0 ∷ 0 ∷ replicate 70 99)
    × (ended.answers ≡ 15 ∷ 0 ∷ 0 ∷ 0 ∷ 0 ∷ replicate 75 99)
unfolding keyed pressed verdict_of judged file_refusal header_in u16_at u32_at marked head_size word_size row_size new_place number_at row_at bad_field same_fields bad_byte first_bad_field first_row first_later_row first_byte table_of rows_from any_impossible impossible misplaced misdone row_numbered first count stepping stepped state_of names bit_of turn_of value_in flips_in bit_in swapped_in is_swapped one_past place insert is_swap first_swap five entry_at infront spoken tried_in storing_in decide_in step_turn_in turn_in apply applied proc_at act_in step_in
f_stepped = (refl, refl, refl, refl)
