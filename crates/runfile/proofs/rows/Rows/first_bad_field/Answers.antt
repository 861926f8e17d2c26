-- `first_bad_field` meets its contract: what the call asks is the test of that field, in file order, of row k.
use Rattle.runfile.proofs.First.{all_left, found_here, none_here, none_left, begin, hit, miss, over}
use Rattle.runfile.specs.Refusals.{bad_field_in, first_bad_field}
use mathlib.Core.Path.{refl, sym, ◌∙◌}
use Rattle.runfile.proofs.rows.Rows.first_bad_field.Invariants.{place, bad_at}
use Rattle.runfile.proofs.rows.Rows.first_bad_field.Goals as goal

pub rows-init : goal.rows-init
rows-init c = let r = c.args.self.now in (refl, all_left (bad_field_in c.args.header r.stride r.file.now r.start) r.count)

pub loop-field-init : goal.loop-field-init
loop-field-init c =
    let r = c.args.self.now in
    (c.rows.invariant.0, begin (place r.stride r.start c.rows.k) (bad_at c.args.header r.stride r.file.now r.start c.rows.k) 6)

pub loop-field-preserved : goal.loop-field-preserved
loop-field-preserved c =
    let r = c.args.self.now in
    let asked = sym (rw c.place-at.ensures.0 at c.is_bad_field.ensures) in
    (c.loop-field.invariant.0, miss (place r.stride r.start c.rows.k) (bad_at c.args.header r.stride r.file.now r.start c.rows.k) 6 c.loop-field.field-index _ c.loop-field-test.true (asked ∙ c.if-is_bad_field.false) c.loop-field.invariant.1)

pub rows-preserved : goal.rows-preserved
rows-preserved c =
    let r = c.args.self.now in
    let clear = over (place r.stride r.start c.rows.k) (bad_at c.args.header r.stride r.file.now r.start c.rows.k) 6 c.loop-field.field-index _ c.loop-field-test.false c.loop-field.invariant.1 in
    (c.loop-field.invariant.0, none_here (bad_field_in c.args.header r.stride r.file.now r.start) r.count c.rows.k _ c.rows-test.true (sym clear) c.rows.invariant.1)

pub returns-after-rows : goal.returns-after-rows
unfolding first_bad_field
returns-after-rows c =
    let r = c.args.self.now in
    c.rows.invariant.0 ∙ none_left (bad_field_in c.args.header r.stride r.file.now r.start) r.count c.rows.k _ c.rows-test.false c.rows.invariant.1

pub returns-then-is_bad_field : goal.returns-then-is_bad_field
unfolding first_bad_field
returns-then-is_bad_field c =
    let r = c.args.self.now in
    let asked = sym (rw c.place-at.ensures.0 at c.is_bad_field.ensures) in
    let here = hit (place r.stride r.start c.rows.k) (bad_at c.args.header r.stride r.file.now r.start c.rows.k) 6 c.loop-field.field-index _ c.loop-field-test.true (asked ∙ c.if-is_bad_field.true) c.loop-field.invariant.1 in
    rw (c.offset_of.ensures.0, c.place-at.ensures.0) (found_here (bad_field_in c.args.header r.stride r.file.now r.start) r.count c.rows.k _ _ c.rows-test.true (sym here) c.rows.invariant.1)
