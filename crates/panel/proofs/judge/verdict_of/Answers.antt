-- `verdict_of` meets its contract: only a file that is accepted is judged.
use Rattle.std.proofs.Common.{sym}
use Rattle.runfile.proofs.Lawful.{lawful_file}
use Rattle.panel.proofs.judge.verdict_of.Goals as goal

pub sound_verdict-requires : goal.sound_verdict-requires
sound_verdict-requires c = lawful_file _ _ (sym c.in_ok-header.ensures)
