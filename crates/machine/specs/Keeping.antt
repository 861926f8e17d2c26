-- What A2 keeps, and what changes it (R84, R112). What process p keeps after a byte is what it kept before, unless the byte is a step of p at A2; that
-- step keeps the bit and, of an advance, the value that A1 read, both in its one byte (`kept_byte`). So whatever the bytes are, crashes and wakes and the
-- steps of others among them, the kept value stays until p makes A2 of an advance, and the kept bit until p makes any A2 (`value_stays`, `kept_stays`). The
-- three are proved in proofs/Keeping.antt.
use Rattle.std.specs.Prelude.{ℕ, suc, ◌≡◌, Bool, not, ◌&&◌, eqb, replicate, Option, Some, None}
use Rattle.std.proofs.Math.Path.{refl}
use Rattle.std.proofs.Math.Bool.{true, false, cond}
use mathlib.Core.List.{List, [], ◌∷◌, ◌++◌}
use Rattle.runfile.specs.declared.Row.{Row}
use Rattle.runfile.specs.declared.Kind.{Kind}
use Rattle.runfile.specs.declared.Kind.TheVariants.{Read, Compare, Advance}
use Rattle.runfile.specs.Kinds.{kind_of}
use Rattle.runfile.specs.Actions.{action, named}
use Rattle.runfile.specs.Operations.{row_numbered, first, count}
use Rattle.word.specs.Word.{value, bit, value_in, flips_in, bit_in, bit_of, swapped_in, turn_of}
use Rattle.machine.specs.declared.Process.{Process}
use Rattle.machine.specs.declared.Kept.{Kept}
use Rattle.machine.specs.declared.Status.{Status}
use Rattle.machine.specs.declared.Status.TheVariants.{Down, Idle, N2, N3, Busy}
use Rattle.machine.specs.Records.{row_open}
use Rattle.machine.specs.Stages.{stage_number}
use Rattle.machine.specs.Steps.{kept_by, tried_in, decide_in, step_turn_in}
use Rattle.machine.specs.Machine.{State, turn_in, apply, applied, proc_at, act_in, step, step_in, after_in, begin}
use Rattle.machine.specs.Limits.{step_of, record_of}

-- at A2 of an open row; and the word in hand, which is the one that A1 read
abbrev pub at_a2 : Status → Option ℕ → Bool
at_a2 Down opened = false
at_a2 Idle opened = false
at_a2 N2 opened = false
at_a2 N3 opened = false
at_a2 (Busy stage seen read_at tried_at answer) None = false
at_a2 (Busy stage seen read_at tried_at answer) (Some k) = eqb (stage_number stage) 1

abbrev pub in_hand : Status → ℕ
in_hand Down = 0
in_hand Idle = 0
in_hand N2 = 0
in_hand N3 = 0
in_hand (Busy stage seen read_at tried_at answer) = seen

-- the kind of the open row, and what A2 of it keeps
abbrev pub kind_at : List Row → Process → Kind
kind_at rows r = kind_of (row_numbered rows (row_open r.opened))

abbrev pub kept_anew : List Row → (p : ℕ) → Process → Kept
kept_anew rows p r = kept_by (kind_at rows r) r.kept (not (bit p (in_hand r.status))) (value (in_hand r.status))

-- the byte is a step of p at A2
abbrev pub keeps_at : (p byte : ℕ) → State → Bool
keeps_at p byte s = step_of p (action byte) (named byte) && at_a2 (proc_at p s).status (proc_at p s).opened

-- How many of the bytes are steps of p at A2 of a row of such kinds
abbrev pub advances : Kind → Bool
advances Read = false
advances Compare = false
advances Advance = true

module _ (rows : List Row) (p : ℕ) (sort : Kind → Bool) where
  abbrev pub keeps_sort : ℕ → State → Bool
  keeps_sort byte s = keeps_at p byte s && sort (kind_at rows (proc_at p s))

  unfoldable pub keepings : ℕ → List ℕ → State → ℕ
  keepings t [] s = 0
  keepings t (byte ∷ bytes) s = cond (keeps_sort byte s) (suc (keepings (suc t) bytes (step rows t byte s))) (keepings (suc t) bytes (step rows t byte s))

-- An advance that lost keeps anew in its next round (R118). On a word with value 7 process 0 advances by 5 and reads 7; process 1 advances by 3 and swaps;
-- process 0 keeps 7, loses, reads 10 and keeps that
module _ where
  abbrev by : (process amount : ℕ) → Row
  by process amount = record { process = process; kind = 2; word = 0; old = 0; new = amount }

  abbrev kept_after : List ℕ → Kept
  kept_after bytes = (record_of (by 0 5 ∷ by 1 3 ∷ []) 2 (7 ∷ []) 0 (replicate 4 0 ++ replicate 7 1 ++ bytes)).kept

  pub kept_anew_lem : (kept_after (replicate 1 0) ≡ record { bit = true; value = 7 }) × (kept_after (replicate 5 0) ≡ record { bit = true; value = 10 })
  unfolding proc_at after_in step_in act_in applied apply begin turn_in step_turn_in decide_in tried_in count first row_numbered value_in flips_in bit_in bit_of swapped_in turn_of
  kept_anew_lem = (refl, refl)
