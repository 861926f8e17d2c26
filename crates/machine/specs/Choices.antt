-- Recovery goes by the own bit. What V1, V2 and V3 decide depends on nothing but the stored answer, the checkpoint, the kept bit and the own flip
-- bit of the word: not on the row, nor on the word's value, nor on the other bits, nor on when the step is made (for two words: `by_own_bit`, in
-- proofs/Choices.antt). And what V4 stores depends on nothing but the row's kind and, of an advance, the kept value: not on the word, which others may
-- have changed since.
use Rattle.std.specs.Prelude.{ℕ, ◌≡◌, Bool, cond, Option, Some, None}
use Rattle.std.proofs.Math.Path.{refl, ap}
use Rattle.std.proofs.Common.{◌∙◌}
use Rattle.std.proofs.Math.Bool.{true, false}
use Rattle.runfile.specs.declared.Row.{Row}
use Rattle.runfile.specs.declared.Kind.TheVariants.{Compare, Advance}
use Rattle.runfile.specs.Kinds.{kind_of}
use Rattle.word.specs.Word.{bit}
use Rattle.machine.specs.declared.Process.{Process}
use Rattle.machine.specs.declared.Stage.{Stage}
use Rattle.machine.specs.declared.Stage.TheVariants.{V1, V2, V3, V4, V5, V6}
use Rattle.machine.specs.declared.Answer.{Answer}
use Rattle.machine.specs.declared.Answer.TheVariants.{True, Was}
use Rattle.machine.specs.declared.Status.TheVariants.{Busy}
use Rattle.machine.specs.Turn.{Turn, Quiet}
use Rattle.machine.specs.Records.{with_status, with_stored}
use Rattle.machine.specs.Steps.{swap_says, same_bit, recovered, decide, decide_in}

-- a step that leads to a stage, and changes nothing that is kept and nothing else
pub record LeadsTo (r : Process) (stage : Stage) (u : Turn) : Type 0 where
  pub seen : ℕ
  pub read_at : ℕ
  pub tried_at : ℕ
  pub answer : Option Answer
  pub is : u ≡ Quiet (with_status (Busy stage seen read_at tried_at answer) r)

-- at whatever row, with whatever in hand
module _ (row : Row) (p t now : ℕ) (r : Process) (seen read_at tried_at : ℕ) (answer : Option Answer) where
  -- V1 goes by whether an answer is stored (R121)
  pub v1_stored : (a : Answer) → r.stored ≡ Some a → LeadsTo r V5 (decide row p t now r V1 seen read_at tried_at answer)
  unfolding decide_in
  v1_stored a e = record { seen = seen; read_at = read_at; tried_at = tried_at; answer = answer; is = ap (λ m. Quiet (with_status (Busy (recovered m) seen read_at tried_at answer) r)) e }

  pub v1_none : r.stored ≡ None → LeadsTo r V2 (decide row p t now r V1 seen read_at tried_at answer)
  unfolding decide_in
  v1_none e = record { seen = seen; read_at = read_at; tried_at = tried_at; answer = answer; is = ap (λ m. Quiet (with_status (Busy (recovered m) seen read_at tried_at answer) r)) e }

  -- V2 goes by the checkpoint (R122)
  pub v2_by : LeadsTo r (cond r.checkpoint V3 V6) (decide row p t now r V2 seen read_at tried_at answer)
  unfolding decide_in
  v2_by = record { seen = seen; read_at = read_at; tried_at = tried_at; answer = answer; is = refl }

  -- V3 goes by whether the own flip bit is the kept bit (R123)
  pub v3_same : bit p now ≡ r.kept.bit → LeadsTo r V4 (decide row p t now r V3 seen read_at tried_at answer)
  unfolding decide_in
  v3_same e = record { seen = now; read_at = read_at; tried_at = tried_at; answer = answer; is = ap (λ c. Quiet (with_status (Busy (cond c V4 V6) now read_at tried_at answer) r)) (ap (λ b. same_bit b r.kept.bit) e ∙ same r.kept.bit) }
    where
      same : (b : Bool) → same_bit b b ≡ true
      same true = refl
      same false = refl

  pub v3_other : (bit p now ≡ r.kept.bit → ⊥) → LeadsTo r V6 (decide row p t now r V3 seen read_at tried_at answer)
  unfolding decide_in
  v3_other n = record { seen = now; read_at = read_at; tried_at = tried_at; answer = answer; is = ap (λ c. Quiet (with_status (Busy (cond c V4 V6) now read_at tried_at answer) r)) (other (bit p now) r.kept.bit n) }
    where
      other : (b c : Bool) → (b ≡ c → ⊥) → same_bit b c ≡ false
      other true true n = absurd (n refl)
      other true false n = refl
      other false true n = refl
      other false false n = absurd (n refl)

-- V4 stores what its swap said, by the kept value, whatever the word is by then (R124)
module _ (row : Row) (p t now : ℕ) (r : Process) (seen read_at tried_at : ℕ) (answer : Option Answer) where
  pub v4_advance : kind_of row ≡ Advance → decide row p t now r V4 seen read_at tried_at answer ≡ Quiet (with_stored (Busy V5 seen read_at tried_at answer) (Some (Was r.kept.value)) r)
  unfolding decide_in
  v4_advance e = ap (λ kind. Quiet (with_stored (Busy V5 seen read_at tried_at answer) (Some (swap_says kind r.kept.value)) r)) e

  pub v4_compare : kind_of row ≡ Compare → decide row p t now r V4 seen read_at tried_at answer ≡ Quiet (with_stored (Busy V5 seen read_at tried_at answer) (Some True) r)
  unfolding decide_in
  v4_compare e = ap (λ kind. Quiet (with_stored (Busy V5 seen read_at tried_at answer) (Some (swap_says kind r.kept.value)) r)) e
