-- `is_bad_byte` meets its contract: the ranges of the match are those of the actions.
use Rattle.runfile.proofs.Bytes.{names_one, no_action, names_all}
use Rattle.runfile.specs.Refusals.{bad_byte}
use native.Mathlib.Omega.{arith}
use Prim.Native.Nat.{◌/◌, ◌%◌}
use mathlib.Core.Path.{sym}
use Rattle.runfile.proofs.schedule.is_bad_byte.Goals as goal

pub returns-in-0-to-2 : goal.returns-in-0-to-2
unfolding bad_byte
returns-in-0-to-2 c = let a = c.args in sym (names_one a.processes (a.byte % 16) (a.byte / 16) (omega arith))

pub returns-in-3-to-14 : goal.returns-in-3-to-14
unfolding bad_byte
returns-in-3-to-14 c = let a = c.args in sym (no_action a.processes (a.byte % 16) (a.byte / 16) (omega arith) (omega arith))

pub returns-in_default : goal.returns-in_default
unfolding bad_byte
returns-in_default c = let a = c.args in sym (names_all a.processes (a.byte % 16) (a.byte / 16) (omega arith) (omega arith))
