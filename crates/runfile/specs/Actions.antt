-- What a schedule byte asks: an action, and of which process (R71, R72).
use Rattle.std.specs.Prelude.{ℕ, ◌/◌, ◌%◌, cond, eqb}

pub data Action : Type 0 where
  step crash wake crash_all none : Action

-- the action by the high four bits; 3 to 14 give none (R72)
abbrev pub action_of : ℕ → Action
action_of high = cond (eqb high 0) step (cond (eqb high 1) crash (cond (eqb high 2) wake (cond (eqb high 15) crash_all none)))

-- the action of a byte (R72), and the process that it names (R71)
abbrev pub action : ℕ → Action
action byte = action_of (byte / 16)

abbrev pub named : ℕ → ℕ
named byte = byte % 16
