-- The search for a record that cannot be, over the numbers of the processes.
use Rattle.std.specs.Prelude.{ℕ, zero, suc, ◌+◌, ◌<◌, ◌≡◌, refl, Bool, ◌||◌, List, get_or}
use Rattle.std.proofs.Common.{ap, ◌∙◌, arith}
use Rattle.std.specs.List.{range_with_len, list_any}
use Rattle.runfile.specs.declared.Row.{Row}
use Rattle.machine.specs.declared.Process.{Process}
use Rattle.machine.specs.Records.{nobody}
use Rattle.panel.specs.Possible.{impossible, any_impossible}

-- a test that says of each number of the range whether that record cannot be
pub any_tested : (rows : List Row) (ps : List Process) (test : ℕ → Bool) (from n : ℕ) → ((p : ℕ) → p < from + n → test p ≡ impossible rows p (get_or ps p nobody))
    → list_any test (range_with_len from n) ≡ any_impossible rows ps from n
unfolding any_impossible
any_tested rows ps test from zero h = refl
any_tested rows ps test from (suc n) h =
    ap (λ b. b || list_any test (range_with_len (from + 1) n)) (h from (omega arith))
    ∙ ap (λ b. impossible rows from (get_or ps from nobody) || b) (any_tested rows ps test (from + 1) n (λ p l. h p (omega arith)) ∙ ap (λ q. any_impossible rows ps q n) (next from))
  where
    next : (p : ℕ) → p + 1 ≡ suc p
    next p = omega arith
