-- What has ended stays as it is: an operation that has been begun and is no longer open never opens again, so the log rows that it has, or
-- has not, stay whatever the bytes are; for an effect is at the open row of a process, and no two processes have the same row.
use Rattle.std.specs.Prelude.{ℕ, suc, ◌+◌, ◌≤◌, ◌<◌, ◌≡◌, Bool, true, false, eqb, length, Some}
use Rattle.std.proofs.Math.Path.{refl, subst}
use Rattle.std.proofs.Common.{sym, ◌∙◌, ap, arith, eqb-true}
use mathlib.Core.List.{List, [], ◌∷◌}
use Rattle.std.proofs.lemmas.Bool.{eqb-false}
use Rattle.runfile.specs.declared.Row.{Row}
use Rattle.runfile.specs.Operations.{row_numbered, first, count}
use Rattle.runfile.specs.Actions.{named}
use Rattle.machine.specs.declared.Process.{Process}
use Rattle.machine.specs.declared.Status.{Status}
use Rattle.machine.specs.declared.Status.TheVariants.{Down, Idle, N2, N3, Busy}
use Rattle.machine.specs.Records.{waked}
use Rattle.machine.specs.Machine.{State, Effect, quiet, swaps, logs, replies, log_after, proc_at, step, after, after_in}
use Rattle.machine.specs.Laws.{Turned, still, first_store, second_store, third_store, works, on, ends, closed_open}
use Rattle.machine.proofs.Laws.{each_after}
use Rattle.replay.specs.Logs.{Sorted, put}
use Rattle.replay.specs.Replay.{Good}
use Rattle.demand3.specs.Statement.{of}
use Rattle.demand3.specs.Invariant.{Times, Inv, Allowed}
use Rattle.demand3.specs.Effects.{of-put}
use Rattle.demand3.specs.Preserve.{distinct, inv_step}
use Rattle.demand3.specs.Moves.{Does, nothing, allowed, does}

-- row i of process p has been begun and is not open
pub record Passed (rows : List Row) (p i : ℕ) (r : Process) : Type 0 where
  pub begun : i < r.begun
  pub shut : r.opened ≡ Some (first rows p + i) → ⊥

module _ (rows : List Row) (p i : ℕ) where
  passed_turned : (r next : Process) → Passed rows p i r → Turned rows p r next → Passed rows p i next
  passed_turned r next h still = h
  passed_turned r next h (first_store l) = record { begun = h.begun; shut = h.shut }
  passed_turned r next h (second_store e) = record { begun = h.begun; shut = h.shut }
  passed_turned r next h (third_store e) =
      let g : i < r.begun = h.begun in
      record { begun = omega arith; shut = λ e. let q : first rows p + r.begun ≡ first rows p + i = cc in omega arith }
  passed_turned r next h (works k q (on o b n)) = record { begun = subst (λ n. i < n) (sym b) h.begun; shut = λ e. h.shut (sym o ∙ e) }
  passed_turned r next h (works k q (ends o idle b)) = record { begun = subst (λ n. i < n) (sym b) h.begun; shut = λ e. closed_open (sym o ∙ e) }

  passed_waked : (r : Process) (status : Status) → Passed rows p i r → Passed rows p i (waked r status)
  passed_waked r Down h = record { begun = h.begun; shut = h.shut }
  passed_waked r Idle h = h
  passed_waked r N2 h = h
  passed_waked r N3 h = h
  passed_waked r (Busy stage seen read_at tried_at answer) h = h

  Of : ℕ → Process → Type 0
  Of q r = q ≡ p → Passed rows p i r

  pub passed_after : (t : ℕ) (bytes : List ℕ) (s : State) → Passed rows p i (proc_at p s) → Passed rows p i (proc_at p (after rows t bytes s))
  unfolding Of
  passed_after t bytes s h =
      each_after rows Of
      (λ q r next g u e. passed_turned r next (g e) (subst (λ q. Turned rows q r next) e u))
      (λ q r g e. record { begun = (g e).begun; shut = (g e).shut })
      (λ q r g e. passed_waked r r.status (g e))
      t bytes s (λ q e. subst (λ q. Passed rows p i (proc_at q s)) (sym e) h) p refl

module _ (rows : List Row) (start : List ℕ) (good : (k : ℕ) → Good (length start) (row_numbered rows k))
    (owner : (p i : ℕ) → i < count rows p → (row_numbered rows (first rows p + i)).process ≡ p)
    (Late : Times) (mono : (k a b : ℕ) → a ≤ b → Late k a → Late k b) where
  -- an effect at row k leaves the log rows of others
  of_effect : (p k t j : ℕ) (f : Effect) (s : State) → Sorted s.log → Allowed rows start Late p k t s f → (k ≡ j → ⊥) → of j (log_after f s.log) ≡ of j s.log
  of_effect p k t j quiet s so a n = refl
  of_effect p k t j (swaps w x e) s so a n = of-put j e (put e s.log so) (λ m. n (sym a.row ∙ m))
  of_effect p k t j (logs e) s so a n = of-put j e (put e s.log so) (λ m. n (sym a.row ∙ m))
  of_effect p k t j (replies e) s so a n = refl

  module _ (P p i : ℕ) (fits : i < count rows p) where
    kept_step : (t : ℕ) (s : State) (now : (p k : ℕ) → (proc_at p s).opened ≡ Some k → Late k t) (v : Inv rows start Late P t s) → Passed rows p i (proc_at p s) → (byte : ℕ)
        → of (first rows p + i) (step rows t byte s).log ≡ of (first rows p + i) s.log
    kept_step t s now v passed byte = go (does rows start good owner Late mono P t s now v byte)
      where
        q : ℕ
        q = named byte

        other : (j : ℕ) → j < count rows q → (proc_at q s).opened ≡ Some (first rows q + j) → (c : Bool) → eqb q p ≡ c → first rows q + j ≡ first rows p + i → ⊥
        other j g o true c e = passed.shut (ap (λ q. (proc_at q s).opened) (sym (eqb-true q p c)) ∙ o ∙ ap Some e)
        other j g o false c e = distinct rows start good owner Late mono p q i j fits g (eqb-false q p c) (sym e)

        go : Does rows start Late q t s (step rows t byte s) → of (first rows p + i) (step rows t byte s).log ≡ of (first rows p + i) s.log
        go (nothing w l n) = ap (of (first rows p + i)) l
        go (allowed j f g o a w l n) = ap (of (first rows p + i)) l ∙ of_effect q (first rows q + j) t (first rows p + i) f s v.global.sorted a (λ e. other j g o (eqb q p) refl e)

    pub kept_after_lem : (t : ℕ) (bytes : List ℕ) (s : State) → ((k a : ℕ) → t ≤ a → Late k a) → Inv rows start Late P t s → Passed rows p i (proc_at p s)
        → of (first rows p + i) (after rows t bytes s).log ≡ of (first rows p + i) s.log
    unfolding after_in
    kept_after_lem t [] s now v passed = refl
    kept_after_lem t (byte ∷ bytes) s now v passed =
        kept_after_lem (suc t) bytes (step rows t byte s) (λ k a g. now k a (omega arith)) (inv_step rows start good owner Late mono t s (λ p k o. now k t (omega arith)) P v byte)
        (passed_after rows p i t (byte ∷ []) s passed)
        ∙ kept_step t s (λ p k o. now k t (omega arith)) v passed byte
