-- `first_same` meets its contract: `find` gives the first row of the range that the test holds of, and its place is what the table says.
use Rattle.std.proofs.Common.{◌≡◌, true, false, Some, None, rules, tests, arith}
use Rattle.std.proofs.lemmas.Iterator.{first_from_Range}
use Rattle.runfile.proofs.First.{first_in}
use Rattle.runfile.specs.Layout.{row_place}
use Rattle.runfile.specs.Refusals.{same, first_row}
use Rattle.runfile.proofs.rows.Rows.first_same.Goals as goal

pub place-requires : goal.place-requires
place-requires c =
    let r = c.args.self.now in
    let t = same r.stride r.file.now r.start in
    (first_from_Range _ _ _ (Some c.in_ok-k.k) (λ k. t k ≡ true) (λ k. t k ≡ false) c.in_ok-k.ensures.ran (λ x q k. search (rules, tests)) (λ x q k. search (rules, tests))).1

pub returns : goal.returns
unfolding first_row
returns c =
    let r = c.args.self.now in
    let t = same r.stride r.file.now r.start in
    let found = first_from_Range _ _ _ (Some c.in_ok-k.k) (λ k. t k ≡ true) (λ k. t k ≡ false) c.in_ok-k.ensures.ran (λ x q k. search (rules, tests)) (λ x q k. search (rules, tests)) in
    rw c.place.ensures.0 (first_in (row_place r.stride r.start) t 0 r.count r.count (omega arith) (Some c.in_ok-k.k) found)

pub returns-in_err-k : goal.returns-in_err-k
unfolding first_row
returns-in_err-k c =
    let r = c.args.self.now in
    let t = same r.stride r.file.now r.start in
    let found = first_from_Range _ _ _ None (λ k. t k ≡ true) (λ k. t k ≡ false) c.in_err-k.ensures.ran (λ x q k. search (rules, tests)) (λ x q k. search (rules, tests)) in
    rw c.from_residual.ensures (first_in (row_place r.stride r.start) t 0 r.count r.count (omega arith) None found)
