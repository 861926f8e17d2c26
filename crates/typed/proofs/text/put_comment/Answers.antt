-- `put_comment` meets its contract: nothing, or the spaces and behind them the remark.
use Rattle.std.proofs.Common.{rules}
use Rattle.typed.proofs.Answers.{commented}
use Rattle.typed.proofs.text.put_comment.Goals as goal

pub returns : goal.returns
returns c = commented _ _ _ _ _ _ (search rules) c.gap_of-gap.ensures.0 c.requires (c.fill.ensures.after (λ y e. e)) c.put_remark.ensures
