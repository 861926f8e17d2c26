-- `run` meets its contract: what the check refuses leaves everything as it was, and what it accepts is lawful.
use mathlib.Core.Path.{sym, ◌∙◌}
use Rattle.runfile.proofs.Promises.{decides_lawful}
use Rattle.run.proofs.run.Goals as goal

pub run_accepted-requires : goal.run_accepted-requires
run_accepted-requires c = decides_lawful _ _ _ c.check.ensures _ c.in_ok-header.was

pub returns : goal.returns
returns c = rw (sym c.check.ensures.result ∙ c.in_ok-header.was) c.run_accepted.ensures
