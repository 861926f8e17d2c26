-- `place_of` meets its contract. Invariant: the place among the first `last` rows is the place among all, since every row behind them is of
-- larger position.
use mathlib.Core.Path.{◌≡◌}
use Rattle.rows.specs.Log.{place}
use Rattle.rows.specs.Buffers.{rows_of}
use Rattle.rows.proofs.Rows.place_of.Given as goal

abbrev pub invariant-loop-last : goal.invariant-loop-last
invariant-loop-last l = place l.position (rows_of l.self.count l.self.numbers.now) ≡ place l.position (rows_of l.last l.self.numbers.now)
