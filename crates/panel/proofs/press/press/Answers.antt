-- `press` meets its contract: refused, or run, as the verdict says.
use Rattle.std.proofs.Common.{sym}
use Rattle.std.proofs.lemmas.Result.{err_from_is_err_and}
use Rattle.panel.proofs.Whole.{refused, begins, able, went}
use Rattle.panel.proofs.press.press.Goals as goal

pub of-operations-requires : goal.of-operations-requires
of-operations-requires c =
    let b = c.args in
    begins b.file.now b.table b.words.now b.log.now b.answers.now b.key _ (sym c.in_ok-header.ensures)

pub run_bytes-requires : goal.run_bytes-requires
run_bytes-requires c =
    let b = c.args in
    able b.file.now b.table b.words.now b.log.now b.answers.now b.key _ (sym c.in_ok-header.ensures) c.of-operations.result _ c.of-operations.ensures c.from.ensures

pub returns-in_err-header : goal.returns-in_err-header
returns-in_err-header c =
    let b = c.args in
    let p = err_from_is_err_and c.from_residual.result c.from_residual.ensures.1 in
    rw (p.1, p.2) (refused b.file.now b.table b.words.now b.log.now b.answers.now b.key _ (sym c.in_err-header.ensures))

pub returns : goal.returns
returns c =
    let b = c.args in
    went b.file.now b.table b.words.now b.log.now b.answers.now b.key _ (sym c.in_ok-header.ensures) c.of-operations.result _ c.of-operations.ensures c.from.ensures _ _ _ _ c.run_bytes.ensures
