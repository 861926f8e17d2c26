-- `carry_out` meets its contract: a key that went came at a position of at most 1,023 (`early`), so the next position is in reach.
use Rattle.std.proofs.Common.{sym, ◌∙◌, arith}
use Rattle.bench_panel.proofs.Early.{early}
use Rattle.bench_panel.proofs.bench.BenchPanel.carry_out.Goals as goal

pub overflow_add-self : goal.overflow_add-self
overflow_add-self c =
    let h = early _ _ _ _ _ _ _ (sym c.lend_records.ensures.lends.result ∙ c.in_ok-self.was) in
    record { fits = omega arith }
