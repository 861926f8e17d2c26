-- `open` meets its contract: a file that the check accepts is lawful (`lawful_file`), so its words are where they are read.
use Rattle.std.proofs.Common.{sym, ◌∙◌}
use Rattle.runfile.proofs.Lawful.{lawful_file}
use Rattle.bench_panel.proofs.open.Goals as goal

pub start_words-words-requires : goal.start_words-words-requires
start_words-words-requires g c = lawful_file _ _ (sym c.check_file.ensures ∙ c.in-Ok.is)
