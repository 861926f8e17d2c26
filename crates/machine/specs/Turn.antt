-- What a step comes to: the record after it, and what is done besides.
use Rattle.std.specs.Prelude.{ℕ, Option}
use Rattle.machine.specs.declared.Process.{Process}
use Rattle.machine.specs.declared.Answer.{Answer}

pub data Turn : Type 0 where
  -- nothing at all: the process is down, or idle with no rows left (R140, R141)
  Still : Turn
  -- the record alone
  Quiet : Process → Turn
  -- the word becomes this, and what the swap says enters the log now (R114, R164)
  Swaps : Process → ℕ → Answer → Turn
  -- an answer enters the log at this position (R165, R166)
  Logs : Process → ℕ → Answer → Turn
  -- a false enters the log at the first swap on the word after the first position (R168); where the log has none, at the second (R169)
  Loses : Process → ℕ → ℕ → Turn
  -- an answer row is added, and the row is closed (R163)
  Replies : Process → Option Answer → Turn
