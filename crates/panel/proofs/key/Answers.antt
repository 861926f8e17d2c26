-- `key` meets its contract: what is pressed over the table of sixteen and laid back is what is pressed over the lent list.
use Rattle.std.proofs.Common.{ap, ◌++◌, drop}
use Rattle.std.proofs.lemmas.Result.{err_from_is_err_and}
use Rattle.panel.specs.Laid.{laid}
use Rattle.panel.proofs.Joined.{joined, joined_refused}
use Rattle.panel.proofs.key.Goals as goal

pub returns-in_err-left : goal.returns-in_err-left
returns-in_err-left c =
    let p = err_from_is_err_and c.from_residual.result c.from_residual.ensures.1 in
    rw (p.1, p.2)
    (joined_refused c.args.file.now c.args.records.now c.args.words.now c.args.log.now c.args.answers.now c.args.key
    c.of-table.result _ _ _ _ c.of-table.ensures.held c.of-table.ensures.processes c.in_err-left.ensures)

pub returns : goal.returns
unfolding laid
returns c =
    joined c.args.file.now c.args.records.now c.args.words.now c.args.log.now c.args.answers.now c.args.key
    c.of-table.result c.in_ok-left.left _ _ _ _ c.of-table.ensures.held c.of-table.ensures.processes c.in_ok-left.ensures
    (ap (λ l. l ++ drop c.of-table.result.held c.args.records.now) c.copy_from_slice.ensures.after)
