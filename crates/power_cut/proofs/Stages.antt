-- A step of recovery (R121 to R126), whatever its stage: the process goes on to a stage with one step fewer to go, its row still open, and nothing else
-- is touched; or an answer is returned and the row is closed. By cases of the six stages, for all kinds alike; what follows looks at no stage.
use Prim.Native.Nat.{ℕ, suc}
use Rattle.std.specs.Prelude.{◌≡◌, Bool, Option, Some, None}
use Rattle.std.proofs.Math.Path.{refl}
use Rattle.std.proofs.Math.Bool.{true, false, cond}
use Rattle.std.proofs.Common.{arith}
use Rattle.runfile.specs.declared.Row.{Row}
use Rattle.word.specs.Word.{bit}
use Rattle.machine.specs.declared.Answer.{Answer}
use Rattle.machine.specs.declared.Process.{Process}
use Rattle.machine.specs.declared.Stage.{Stage}
use Rattle.machine.specs.declared.Stage.TheVariants.{A1, A2, A3, A4, A5, A6, V1, V2, V3, V4, V5, V6}
use Rattle.machine.specs.Steps.{recovered, same_bit, decide, decide_in}
use Rattle.power_cut.specs.Statement.{steps_by}
use Rattle.power_cut.specs.Stages.{InRecovery, left, Mended, on, over}

-- as many as these, one at least
pub left_some : (stage : Stage) (stored : Option Answer) (checkpoint same : Bool) → InRecovery stage → (n : ℕ) × (left stage stored checkpoint same ≡ suc n)
unfolding left steps_by
left_some A1 stored checkpoint same h = absurd h
left_some A2 stored checkpoint same h = absurd h
left_some A3 stored checkpoint same h = absurd h
left_some A4 stored checkpoint same h = absurd h
left_some A5 stored checkpoint same h = absurd h
left_some A6 stored checkpoint same h = absurd h
left_some V1 (Some a) checkpoint same h = (1, refl)
left_some V1 None false same h = (2, refl)
left_some V1 None true false h = (3, refl)
left_some V1 None true true h = (4, refl)
left_some V2 stored false same h = (1, refl)
left_some V2 stored true false h = (2, refl)
left_some V2 stored true true h = (3, refl)
left_some V3 stored checkpoint false h = (1, refl)
left_some V3 stored checkpoint true h = (2, refl)
left_some V4 stored checkpoint same h = (1, refl)
left_some V5 stored checkpoint same h = (0, refl)
left_some V6 stored checkpoint same h = (0, refl)

module _ (row : Row) (p t now n : ℕ) (r : Process) where
  pub mended : (stage : Stage) (seen read_at tried_at : ℕ) (answer : Option Answer) → InRecovery stage → left stage r.stored r.checkpoint (same_bit (bit p now) r.kept.bit) ≡ suc n
      → Mended p now n r (decide row p t now r stage seen read_at tried_at answer)
  unfolding decide_in left steps_by
  mended A1 seen read_at tried_at answer h l = absurd h
  mended A2 seen read_at tried_at answer h l = absurd h
  mended A3 seen read_at tried_at answer h l = absurd h
  mended A4 seen read_at tried_at answer h l = absurd h
  mended A5 seen read_at tried_at answer h l = absurd h
  mended A6 seen read_at tried_at answer h l = absurd h
  mended V1 seen read_at tried_at answer h l = on _ refl refl (go r.stored r.checkpoint (same_bit (bit p now) r.kept.bit) l)
    where
      go : (stored : Option Answer) (c m : Bool) → steps_by stored c m ≡ suc n → InRecovery (recovered stored) × (left (recovered stored) stored c m ≡ n)
      go (Some a) c m l = (tt, omega arith)
      go None false m l = (tt, omega arith)
      go None true false l = (tt, omega arith)
      go None true true l = (tt, omega arith)
  mended V2 seen read_at tried_at answer h l = on _ refl refl (go r.checkpoint (same_bit (bit p now) r.kept.bit) l)
    where
      go : (c m : Bool) → cond c (cond m 4 3) 2 ≡ suc n → InRecovery (cond c V3 V6) × (left (cond c V3 V6) r.stored c m ≡ n)
      go false m l = (tt, omega arith)
      go true false l = (tt, omega arith)
      go true true l = (tt, omega arith)
  mended V3 seen read_at tried_at answer h l = on _ refl refl (go (same_bit (bit p now) r.kept.bit) l)
    where
      go : (m : Bool) → cond m 3 2 ≡ suc n → InRecovery (cond m V4 V6) × (left (cond m V4 V6) r.stored r.checkpoint m ≡ n)
      go false l = (tt, omega arith)
      go true l = (tt, omega arith)
  mended V4 seen read_at tried_at answer h l = let g : InRecovery V5 × (◌≡◌ {A = ℕ} 1 n) = (tt, omega arith) in on _ refl refl g
  mended V5 seen read_at tried_at answer h l = over r.stored (omega arith)
  mended V6 seen read_at tried_at answer h l = over None (omega arith)
