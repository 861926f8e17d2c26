-- `first_below` meets its contract: `find` gives the first row of the range that the test holds of, and its place is what the table says.
use Rattle.std.proofs.Common.{◌≡◌, ◌-◌, refl, true, false, Some, None, rules, tests}
use Rattle.std.proofs.lemmas.Iterator.{first_from_Range}
use Rattle.runfile.proofs.First.{first_in}
use Rattle.runfile.specs.Layout.{row_place}
use Rattle.runfile.specs.Refusals.{below, first_later_row}
use Rattle.runfile.proofs.rows.Rows.first_below.Goals as goal

pub place-requires : goal.place-requires
place-requires c =
    let r = c.args.self.now in
    let t = below r.stride r.file.now r.start in
    (first_from_Range _ _ _ (Some c.in_ok-below.below) (λ k. t k ≡ true) (λ k. t k ≡ false) c.in_ok-below.ensures.ran (λ x q k. search (rules, tests)) (λ x q k. search (rules, tests))).1

pub returns : goal.returns
unfolding first_later_row
returns c =
    let r = c.args.self.now in
    let t = below r.stride r.file.now r.start in
    let found = first_from_Range _ _ _ (Some c.in_ok-below.below) (λ k. t k ≡ true) (λ k. t k ≡ false) c.in_ok-below.ensures.ran (λ x q k. search (rules, tests)) (λ x q k. search (rules, tests)) in
    rw c.place.ensures.0 (first_in (row_place r.stride r.start) t 1 r.count (r.count - 1) refl (Some c.in_ok-below.below) found)

pub returns-in_err-below : goal.returns-in_err-below
unfolding first_later_row
returns-in_err-below c =
    let r = c.args.self.now in
    let t = below r.stride r.file.now r.start in
    let found = first_from_Range _ _ _ None (λ k. t k ≡ true) (λ k. t k ≡ false) c.in_err-below.ensures.ran (λ x q k. search (rules, tests)) (λ x q k. search (rules, tests)) in
    rw c.from_residual.ensures (first_in (row_place r.stride r.start) t 1 r.count (r.count - 1) refl None found)
