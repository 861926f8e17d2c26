-- `place_of` meets its contract. Invariant: the place among the first `last` rows is the place among all, since every row behind them is of
-- larger position.
use mathlib.Core.Path.{◌≡◌, ◌∙◌, sym}
use Prim.Native.Nat.{◌+◌, ◌-◌}
use native.Mathlib.Omega.{arith}
use Rattle.rows.specs.Log as log
use Rattle.rows.proofs.Place.{place_took, place_kept}
use Rattle.rows.proofs.Rows.place_of.Goals as goal

pub returns-then-self-last : goal.returns-then-self-last
returns-then-self-last c =
    let l = c.loop-last.last in
    let one : l - 1 + 1 ≡ l = omega arith in
    rw one (record { result = sym (c.loop-last.invariant ∙ place_took c.args.position c.args.self.numbers.now l (omega arith) (omega arith)); within = omega arith })

pub loop-last-preserved : goal.loop-last-preserved
loop-last-preserved c = c.loop-last.invariant ∙ place_kept c.args.position c.args.self.numbers.now c.loop-last.last (omega arith) (omega arith)

pub returns : goal.returns
unfolding log.place
returns c =
    let none : c.loop-last.last ≡ 0 = omega arith in
    record { result = sym (rw none at c.loop-last.invariant); within = omega arith }
