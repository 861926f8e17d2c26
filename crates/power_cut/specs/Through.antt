-- What a whole recovery comes to: it leaves words and log as they were, adds answer rows of open rows only and closes all rows, also if the power is cut
-- again in its midst. `proofs/Through.antt` proves it.
use Rattle.std.specs.Prelude.{ℕ, suc, ◌<◌, ◌≡◌, None}
use Rattle.std.proofs.Math.Path.{refl, sym}
use mathlib.Core.List.{List, [], ◌∷◌}
use borrow.Author.Tests.{eq-eqb, ne_eqb}
use Rattle.runfile.specs.declared.Row.{Row}
use Rattle.runfile.specs.Actions.{action, named}
use Rattle.machine.specs.Machine.{State, proc_at, step}
use Rattle.power_cut.specs.Statement.{mends, AllIdle, Recovery, RecoveryWithCuts, done_to}
use Rattle.power_cut.specs.Since.{Since}

-- a byte counts for the process that it names
pub done_own : (byte : ℕ) (bytes : List ℕ) → done_to (named byte) (byte ∷ bytes) ≡ action byte ∷ done_to (named byte) bytes
unfolding done_to
done_own byte bytes = rw (eq-eqb (named byte) (named byte) refl)

pub done_other : (q byte : ℕ) (bytes : List ℕ) → (q ≡ named byte → ⊥) → done_to q (byte ∷ bytes) ≡ done_to q bytes
unfolding done_to
done_other q byte bytes n = rw (ne_eqb (named byte) q (λ e. n (sym e)))

module _ (rows : List Row) (P : ℕ) where
  -- all bytes: what is kept, and that each process is idle with no row open
  pub record Healed (s end : State) : Type 0 where
    pub since : Since s end
    pub all_idle_lem : AllIdle (step rows) P end
    pub shut : (p : ℕ) → p < P → (proc_at p end).opened ≡ None

  -- a recovery without further cuts is one
  pub with_cuts : (t : ℕ) (bytes : List ℕ) (s : State) → Recovery (step rows) P t bytes s → RecoveryWithCuts (step rows) P t bytes s
  with_cuts t [] s r = r
  with_cuts t (byte ∷ bytes) s (m, rest) = (mends m, with_cuts (suc t) bytes (step rows t byte s) rest)
