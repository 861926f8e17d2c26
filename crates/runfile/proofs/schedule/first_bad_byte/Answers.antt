-- `first_bad_byte` meets its contract: `position` gives the first byte that the test holds of, and its place is what the table says.
use Rattle.std.proofs.Common.{◌≡◌, ℕ, ◌+◌, List, true, false, Some, None, get_or, length, rules, tests, arith}
use Rattle.std.proofs.lemmas.Iterator.{IsFirst-from_position, YieldsList-from_slice}
use Rattle.runfile.proofs.First.{first_in}
use Rattle.runfile.specs.Refusals.{first_byte, bad_byte}
use Rattle.runfile.proofs.schedule.first_bad_byte.Goals as goal

pub returns : goal.returns
unfolding first_byte
returns c =
    let s : List ℕ = c.args.schedule.now in
    let t = bad_byte c.args.processes in
    let found = IsFirst-from_position _ _ (Some c.in_ok-i.i) (λ b. t b ≡ true) (λ b. t b ≡ false) c.in_ok-i.ensures.ran (YieldsList-from_slice s cc) (λ x q k. search (rules, tests)) (λ x q k. search (rules, tests)) in
    first_in (λ j. c.args.start + j) (λ j. t (get_or s j 0)) 0 (length s) (length s) (omega arith) (Some c.in_ok-i.i) (omega arith, found.0, found.1 0, λ k a b. found.2 k 0 a b)

pub returns-in_err-i : goal.returns-in_err-i
unfolding first_byte
returns-in_err-i c =
    let s : List ℕ = c.args.schedule.now in
    let t = bad_byte c.args.processes in
    let found = IsFirst-from_position _ _ None (λ b. t b ≡ true) (λ b. t b ≡ false) c.in_err-i.ensures.ran (YieldsList-from_slice s cc) (λ x q k. search (rules, tests)) (λ x q k. search (rules, tests)) in
    rw c.from_residual.ensures (first_in (λ j. c.args.start + j) (λ j. t (get_or s j 0)) 0 (length s) (length s) (omega arith) None (λ k a b. found k 0 a b))
