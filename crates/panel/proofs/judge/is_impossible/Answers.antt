-- `is_impossible` meets its contract: a record that is not misplaced has no row open, or one of the table.
use Rattle.std.proofs.Common.{sym, ◌∙◌, ap, arith, Some}
use Rattle.runfile.specs.Layout.{row_of_table}
use Rattle.runfile.specs.Shares.{has_row}
use Rattle.runfile.specs.Kinds.{kind_of}
use Rattle.machine.specs.Reach.{row_is}
use Rattle.panel.specs.Possible.{wrong_kind, misdone}
use Rattle.panel.specs.Fits.{open_inside}
use Rattle.panel.proofs.judge.is_impossible.Goals as goal

pub row-row-requires : goal.row-row-requires
row-row-requires c =
    let k = open_inside c.args.first c.args.count c.args.process _ c.in-Some.is (sym c.misplaced.ensures ∙ c.if-misplaced.false) in
    let fits = c.requires.fits in
    has_row _ _ _ _ c.requires.lined.size c.requires.lined.whole (omega arith)

pub returns : goal.returns
unfolding misdone
returns c =
    let o = c.args.operations in
    let miss = sym c.misplaced.ensures ∙ c.if-misplaced.false in
    let k = open_inside c.args.first c.args.count c.args.process _ c.in-Some.is miss in
    let fits = c.requires.fits in
    let kind = c.kind_of.ensures ∙ ap kind_of (c.row-row.ensures ∙ ap (λ i. row_of_table o.stride o.table.now i) c.from.ensures ∙ row_is o.stride o.table.now o.count _ (omega arith)) in
    rw (miss, sym c.no_answer.ensures ∙ c.if-no_answer.false, c.in-Some.is) (c.wrong_kind.ensures c.in-Some.k ∙ ap (λ kind. wrong_kind kind (Some c.in-Some.k) c.args.process.stored c.args.process.status) kind)
