-- The bytes for processes 0, 1, .., P - 1 in turn do to each of them one wake and so many steps. By induction on P; a byte names one process of
-- sixteen, which is where P is at most 16.
use Prim.Native.Nat.{ℕ, zero, suc, ◌+◌, ◌≤◌, ◌<◌, ◌/◌}
use Rattle.std.specs.Prelude.{◌≡◌, Bool}
use Rattle.std.proofs.Math.Path.{refl, ap₂, subst}
use Rattle.std.proofs.Common.{sym, ◌∙◌, ap, arith}
use Rattle.std.proofs.Math.Bool.{true, false}
use mathlib.Core.List.{List, [], ◌∷◌, ◌++◌, map, append-nil}
use Rattle.std.proofs.Math.Dec.{eqb}
use Rattle.std.proofs.Math.ListN.{replicate}
use borrow.Author.Tests.{eqb-true, eqb-false}
use Rattle.runfile.specs.Actions.{step as steps, wake as wakes, action_of, action, named}
use Rattle.replay.specs.Lists.{All, all_join, all_map, keep, keep_join}
use Rattle.power_cut.specs.Statement.{done_to, in_turn}
use Rattle.power_cut.specs.Through.{done_own, done_other}

map_join : {A B : Type 0} (f : A → B) (a b : List A) → map f (a ++ b) ≡ map f a ++ map f b
map_join f [] b = refl
map_join f (x ∷ a) b = ap (λ l. f x ∷ l) (map_join f a b)

done_join : (p : ℕ) (a b : List ℕ) → done_to p (a ++ b) ≡ done_to p a ++ done_to p b
unfolding done_to
done_join p a b = ap (map action) (keep_join (λ byte. eqb (named byte) p) a b) ∙ map_join action (keep (λ byte. eqb (named byte) p) a) (keep (λ byte. eqb (named byte) p) b)

-- byte p is a step of process p, and byte 32 + p is a wake of it
module _ (q : ℕ) (few : q < 16) where
  step-names : named q ≡ q
  step-names = omega arith

  step_steps : action q ≡ steps
  step_steps = let e : q / 16 ≡ 0 = omega arith in ap action_of e

  wake_names : named (32 + q) ≡ q
  wake_names = omega arith

  wake_wakes : action (32 + q) ≡ wakes
  wake_wakes = let e : (32 + q) / 16 ≡ 2 = omega arith in ap action_of e

  abbrev turn_of : ℕ → List ℕ
  turn_of n = (32 + q) ∷ replicate n q

  steps_done : (n : ℕ) → done_to q (replicate n q) ≡ replicate n steps
  unfolding done_to
  steps_done zero = refl
  steps_done (suc n) = subst (λ x. done_to x (q ∷ replicate n q) ≡ action q ∷ done_to x (replicate n q)) step-names (done_own q (replicate n q)) ∙ ap₂ (λ a l. a ∷ l) step_steps (steps_done n)

  turn_done : (n : ℕ) → done_to q (turn_of n) ≡ wakes ∷ replicate n steps
  turn_done n = subst (λ x. done_to x (turn_of n) ≡ action (32 + q) ∷ done_to x (replicate n q)) wake_names (done_own (32 + q) (replicate n q)) ∙ ap₂ (λ a l. a ∷ l) wake_wakes (steps_done n)

  steps_other : (p n : ℕ) → (p ≡ q → ⊥) → done_to p (replicate n q) ≡ []
  unfolding done_to
  steps_other p zero ne = refl
  steps_other p (suc n) ne = done_other p q (replicate n q) (λ e. ne (e ∙ step-names)) ∙ steps_other p n ne

  turn_other : (p n : ℕ) → (p ≡ q → ⊥) → done_to p (turn_of n) ≡ []
  turn_other p n ne = done_other p (32 + q) (replicate n q) (λ e. ne (e ∙ wake_names)) ∙ steps_other p n ne

  turn-named : (n : ℕ) → All (λ byte. named byte < suc q) (turn_of n)
  turn-named n = (subst (λ x. x < suc q) (sym wake_names) (omega arith), go n)
    where
      go : (n : ℕ) → All (λ byte. named byte < suc q) (replicate n q)
      go zero = tt
      go (suc n) = (subst (λ x. x < suc q) (sym step-names) (omega arith), go n)

module _ (often : ℕ → ℕ) where
  later : (n : ℕ) → n ≤ 16 → (p : ℕ) → n ≤ p → done_to p (in_turn n often) ≡ []
  unfolding in_turn done_to
  later zero few p l = refl
  later (suc n) few p l = done_join p (in_turn n often) (turn_of n (omega arith) (often n)) ∙ ap₂ (λ a b. a ++ b) (later n (omega arith) p (omega arith)) (turn_other n (omega arith) p (often n) (λ e. omega arith))

  pub in_turn_done : (n : ℕ) → n ≤ 16 → (p : ℕ) → p < n → done_to p (in_turn n often) ≡ wakes ∷ replicate (often p) steps
  unfolding in_turn
  in_turn_done zero few p l = absurd (omega arith)
  in_turn_done (suc n) few p l = done_join p (in_turn n often) (turn_of n (omega arith) (often n)) ∙ go (eqb p n) refl (in_turn_done n (omega arith) p)
    where
      go : (c : Bool) → eqb p n ≡ c → (p < n → done_to p (in_turn n often) ≡ wakes ∷ replicate (often p) steps)
          → done_to p (in_turn n often) ++ done_to p (turn_of n (omega arith) (often n)) ≡ wakes ∷ replicate (often p) steps
      go true e ih =
          let is : p ≡ n = eqb-true p n e in
          ap₂ (λ a b. a ++ b) (later n (omega arith) p (omega arith)) (subst (λ p. done_to p (turn_of n (omega arith) (often n)) ≡ wakes ∷ replicate (often p) steps) (sym is) (turn_done n (omega arith) (often n)))
      go false e ih =
          let ne : p ≡ n → ⊥ = eqb-false p n e in
          ap₂ (λ a b. a ++ b) (ih (omega arith)) (turn_other n (omega arith) p (often n) ne) ∙ append-nil (wakes ∷ replicate (often p) steps)

  pub in_turn-named : (n : ℕ) → n ≤ 16 → All (λ byte. named byte < n) (in_turn n often)
  unfolding in_turn
  in_turn-named zero few = tt
  in_turn-named (suc n) few =
      all_join (λ byte. named byte < suc n) (in_turn n often) (turn_of n (omega arith) (often n))
      (all_map (λ byte. named byte < n) (λ byte. named byte < suc n) (λ byte h. omega arith) (in_turn n often) (in_turn-named n (omega arith)))
      (turn-named n (omega arith) (often n))
