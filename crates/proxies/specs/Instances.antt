-- Two small inputs, and what the premises of the claim are for. Process 0 and word 0 belong to proxy one, process 1 and word 1 to proxy two. Two inputs that
-- differ in proxy two's row, start word and bytes. And three pairs of inputs, each with one premise dropped, in which a proxy does see what the other
-- did: a row on the other's word, F0 replaced, another number of rows. By computation; what rests on the claim is in `proofs/Instances.antt`.
use Rattle.std.specs.Prelude.{ℕ, ◌≡◌, refl, [], ◌∷◌, ◌++◌, get_or, replicate, Some, None}
use Rattle.std.proofs.Common.{sym, ◌∙◌, ap, arith}
use Rattle.runfile.specs.declared.Row.{Row}
use Rattle.runfile.specs.Operations.{row_numbered, first, count}
use Rattle.word.specs.Word.{value_in, bit_in, swapped_in, bit_of, turn_of, flips_in}
use Rattle.rows.specs.declared.Entry.{Entry}
use Rattle.rows.specs.Entries.{is_swapped}
use Rattle.rows.specs.Log.{one_past, place, insert}
use Rattle.machine.specs.declared.Answer.TheVariants.{Was}
use Rattle.machine.specs.Steps.{entry, spoken, tried_in, storing_in, decide_in, step_turn_in}
use Rattle.machine.specs.Machine.{turn_in, apply, applied, proc_at, act_in, step, step_in, begin}
use Rattle.demand3.specs.Statement.{through}
use Rattle.proxies.specs.Statement.{one, two, Split, proxy_of, owns, part, Input, entries_of, Seen, seen_at_end}

abbrev pub split : Split
split = record { processes = 1; words = 1 }

abbrev read : (process word : ℕ) → Row
read process word = record { process = process; kind = 0; word = word; old = 0; new = 0 }

abbrev compare : (process word old new : ℕ) → Row
compare process word old new = record { process = process; kind = 1; word = word; old = old; new = new }

abbrev advance : (process word amount : ℕ) → Row
advance process word amount = record { process = process; kind = 2; word = word; old = 0; new = amount }

abbrev pub one_sees : Input → Seen
one_sees = seen_at_end split one step 2

abbrev two_sees : Input → Seen
two_sees = seen_at_end split two step 2

-- process 0 advances word 0 and process 1 compares word 1, by turns, and then the power is cut; or process 1 reads another word 1, and is crashed and woken
-- on the way
unfoldable pub here : Input
here = record { rows = advance 0 0 5 ∷ compare 1 1 7 9 ∷ []; words = 7 ∷ 7 ∷ []; schedule = 0x00 ∷ 0x01 ∷ 0x00 ∷ 0x01 ∷ 0x00 ∷ 0x01 ∷ 0x00 ∷ 0x01 ∷ 0x00 ∷ 0x00 ∷ 0x00 ∷ 0x00 ∷ 0xF0 ∷ [] }

unfoldable pub there : Input
there = record { rows = advance 0 0 5 ∷ read 1 1 ∷ []; words = 7 ∷ 500 ∷ []; schedule = 0x00 ∷ 0x11 ∷ 0x00 ∷ 0x21 ∷ 0x00 ∷ 0x01 ∷ 0x00 ∷ 0x11 ∷ 0x00 ∷ 0x00 ∷ 0x00 ∷ 0x00 ∷ 0xF0 ∷ [] }

-- what proxy one sees is its advance, at position 10; proxy two sees other words of its own
pub its_own : one_sees here ≡ record { words = 4294967308 ∷ []; log = entry 10 0 0 (Some (Was 7)) ∷ []; answers = [] }
unfolding here through owns proxy_of part entries_of row_numbered first count value_in bit_in swapped_in bit_of turn_of flips_in is_swapped one_past place insert spoken tried_in storing_in decide_in step_turn_in applied apply proc_at turn_in act_in step_in begin
its_own = refl

pub not_its_own : ((two_sees here).words ≡ 7 ∷ []) × ((two_sees there).words ≡ 500 ∷ [])
unfolding here there through owns proxy_of part row_numbered first count value_in bit_in swapped_in bit_of turn_of flips_in tried_in storing_in decide_in step_turn_in applied apply proc_at turn_in act_in step_in begin
not_its_own = (refl, refl)

-- Refusal 17 is needed: process 1 reads word 0, or swaps on it (`on_the_others_word` in `proofs/Instances.antt`)
unfoldable pub reading : Input
reading = record { rows = read 1 0 ∷ []; words = 7 ∷ 7 ∷ []; schedule = replicate 7 0x01 }

unfoldable pub swapping : Input
swapping = record { rows = compare 1 0 7 9 ∷ []; words = 7 ∷ 7 ∷ []; schedule = replicate 7 0x01 }

-- F0 stays where it is, for it is no byte of the other proxy: process 0 is brought down before its A4, or goes on
pub with_byte : ℕ → Input
with_byte byte = record { rows = compare 0 0 7 8 ∷ []; words = 7 ∷ 7 ∷ []; schedule = replicate 6 0x00 ++ (byte ∷ 0x00 ∷ []) }

brought_down : get_or (one_sees (with_byte 0xF0)).words 0 0 ≡ 7
unfolding with_byte through part row_numbered first count value_in bit_in swapped_in bit_of turn_of flips_in tried_in storing_in decide_in step_turn_in applied apply proc_at turn_in act_in step_in begin
brought_down = refl

goes_on : get_or (one_sees (with_byte 0x01)).words 0 0 ≡ 4294967304
unfolding with_byte through part row_numbered first count value_in bit_in swapped_in bit_of turn_of flips_in tried_in storing_in decide_in step_turn_in applied apply proc_at turn_in act_in step_in begin
goes_on = refl

pub f0_replaced : one_sees (with_byte 0xF0) ≡ one_sees (with_byte 0x01) → ⊥
f0_replaced e = let z : ◌≡◌ {A = ℕ} 7 4294967304 = sym brought_down ∙ ap (λ v. get_or v.words 0 0) e ∙ goes_on in omega arith

-- the number of rows is kept: without proxy one's row, proxy two's has another number
pub second : Input
second = record { rows = read 0 0 ∷ read 1 1 ∷ []; words = 7 ∷ 7 ∷ []; schedule = replicate 6 0x01 }

pub only : Input
only = record { rows = read 1 1 ∷ []; words = 7 ∷ 7 ∷ []; schedule = replicate 6 0x01 }

abbrev nothing : Entry
nothing = entry 0 0 9 None

row_one : (get_or (two_sees second).answers 0 nothing).row ≡ 1
unfolding second through owns proxy_of part entries_of row_numbered first count value_in one_past place insert spoken tried_in storing_in decide_in step_turn_in applied apply proc_at turn_in act_in step_in begin
row_one = refl

row_zero : (get_or (two_sees only).answers 0 nothing).row ≡ 0
unfolding only through owns proxy_of part entries_of row_numbered first count value_in one_past place insert spoken tried_in storing_in decide_in step_turn_in applied apply proc_at turn_in act_in step_in begin
row_zero = refl

pub number_not_kept : two_sees second ≡ two_sees only → ⊥
number_not_kept e = let z : ◌≡◌ {A = ℕ} 1 0 = sym row_one ∙ ap (λ v. (get_or v.answers 0 nothing).row) e ∙ row_zero in omega arith
