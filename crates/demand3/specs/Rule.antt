-- A machine that differs from the bench machine in one rule: what a step comes to (R100 to R127). So a statement can be held against machines that
-- break a rule (`Wrong.antt`, and the crates above).
use Rattle.std.specs.Prelude.{ℕ, ◌+◌, List, get_or}
use Rattle.runfile.specs.declared.Row.{Row}
use Rattle.runfile.specs.Operations.{row_numbered, first, count}
use Rattle.runfile.specs.Actions.{Action, step as steps, crash as crashes, wake as wakes, crash_all as crashes_all, none as idles, action, named}
use Rattle.rows.specs.declared.Entry.{Entry}
use Rattle.machine.specs.declared.Process.{Process}
use Rattle.machine.specs.Turn.{Turn}
use Rattle.machine.specs.Records.{row_open}
use Rattle.machine.specs.Steps.{step_turn}
use Rattle.machine.specs.Machine.{State, Move, move_of, applied, proc_at, step}

-- `rule` changes what a step of a process on a row comes to, the log being `log`, the row's word `now` and `next` the row that the process is to
-- begin next; whatever is no step goes as it goes
module _ (rule : (log : List Entry) → Row → (now next : ℕ) → Process → Turn → Turn) (rows : List Row) where
  unfoldable pub turn_by : (p t : ℕ) → State → Process → Move
  turn_by p t s r =
      let k = row_open r.opened in
      let row = row_numbered rows k in
      let now = get_or s.words row.word 0 in
      move_of rows s.log p t k row.word r (rule s.log row now (first rows p + r.begun) r (step_turn row p t now (first rows p) (count rows p) r r.status))

  unfoldable pub act_by : (t byte : ℕ) → Action → State → State
  act_by t byte steps s = applied (named byte) (turn_by (named byte) t s (proc_at (named byte) s)) s
  act_by t byte crashes s = step rows t byte s
  act_by t byte wakes s = step rows t byte s
  act_by t byte crashes_all s = step rows t byte s
  act_by t byte idles s = step rows t byte s

  unfoldable pub step_by : (t byte : ℕ) → State → State
  step_by t byte s = act_by t byte (action byte) s
