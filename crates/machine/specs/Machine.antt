-- The machine: what a step comes to is carried out on words, records, log and answers; a byte; a schedule (R70 to R173).
use Rattle.std.specs.Prelude.{ℕ, suc, List, [], ◌∷◌, ◌++◌, map, get_or, set, replicate, Some}
use Rattle.runfile.specs.declared.Row.{Row}
use Rattle.runfile.specs.Actions.{Action, step as steps, crash as crashes, wake as wakes, crash_all as crashes_all, none as idles, action, named}
use Rattle.runfile.specs.Operations.{row_numbered, first, count}
use Rattle.word.specs.Word.{width}
use Rattle.rows.specs.declared.Entry.{Entry}
use Rattle.rows.specs.Log.{insert, first_swap}
use Rattle.machine.specs.declared.Process.{Process}
use Rattle.machine.specs.declared.Answer.TheVariants.{False}
use Rattle.machine.specs.declared.Status.{Status}
use Rattle.machine.specs.Turn.{Turn, Still, Quiet, Swaps, Logs, Loses, Replies}
use Rattle.machine.specs.Records.{fresh, crashed, waked, row_open}
use Rattle.machine.specs.Steps.{entry, step_turn_in}

pub record State : Type 0 where
  pub words : List ℕ
  pub processes : List Process
  pub log : List Entry
  pub answers : List Entry

-- what a step does besides the record: nothing; word w becomes x, and an entry goes into the log; an entry goes into the log; an answer
pub data Effect : Type 0 where
  quiet : Effect
  swaps : (w x : ℕ) → Entry → Effect
  logs : Entry → Effect
  replies : Entry → Effect

-- the record after a step, and its effect
pub record Move : Type 0 where
  pub process : Process
  pub effect : Effect

-- the record that a turn of a process leaves
abbrev pub process_of : Process → Turn → Process
process_of r Still = r
process_of r (Quiet next) = next
process_of r (Swaps next x says) = next
process_of r (Logs next q a) = next
process_of r (Loses next after otherwise) = next
process_of r (Replies next said) = next

-- its effect, for process p at position t, on row k, which is on word w. A lost swap takes the position of the first successful swap from the
-- front, on the same word, that is later than its A1 (R168)
abbrev pub effect_of : List Row → List Entry → (p t k w : ℕ) → Turn → Effect
effect_of rows log p t k w Still = quiet
effect_of rows log p t k w (Quiet next) = quiet
effect_of rows log p t k w (Swaps next x says) = swaps w x (entry t p k (Some says))
effect_of rows log p t k w (Logs next q a) = logs (entry q p k (Some a))
effect_of rows log p t k w (Loses next after otherwise) = logs (entry (first_swap rows w after otherwise log) p k (Some False))
effect_of rows log p t k w (Replies next said) = replies (entry t p k said)

abbrev pub move_of : List Row → List Entry → (p t k w : ℕ) → Process → Turn → Move
move_of rows log p t k w r u = record { process = process_of r u; effect = effect_of rows log p t k w u }

-- a record that changes alone
abbrev pub alone : Process → Move
alone r = record { process = r; effect = quiet }

-- what an effect does to the words, to the log and to the answers
abbrev pub words_after : Effect → List ℕ → List ℕ
words_after quiet words = words
words_after (swaps w x e) words = set words w x
words_after (logs e) words = words
words_after (replies e) words = words

abbrev pub log_after : Effect → List Entry → List Entry
log_after quiet log = log
log_after (swaps w x e) log = insert e log
log_after (logs e) log = insert e log
log_after (replies e) log = log

abbrev pub answers_after : Effect → List Entry → List Entry
answers_after quiet answers = answers
answers_after (swaps w x e) answers = answers
answers_after (logs e) answers = answers
answers_after (replies e) answers = answers ++ (e ∷ [])

unfoldable pub apply : Effect → List Process → State → State
apply f processes s = record { words = words_after f s.words; processes = processes; log = log_after f s.log; answers = answers_after f s.answers }

unfoldable pub applied : ℕ → Move → State → State
applied p u s = apply u.effect (set s.processes p u.process) s

unfoldable pub proc_at : ℕ → State → Process
proc_at p s = get_or s.processes p fresh

module _ (b : ℕ) where
  -- a step of process p, whose record is r and whose status is `status`
  unfoldable pub turn_in : List Row → (p t : ℕ) → List ℕ → List Entry → Process → Status → Move
  turn_in rows p t words log r status =
      let k = row_open r.opened in
      let row = row_numbered rows k in
      move_of rows log p t k row.word r (step_turn_in b row p t (get_or words row.word 0) (first rows p) (count rows p) r status)

  -- what an action does at position t, p being the process that the byte names (R71, R72)
  unfoldable pub act_in : List Row → ℕ → Action → ℕ → State → State
  act_in rows t steps p s = applied p (turn_in rows p t s.words s.log (proc_at p s) (proc_at p s).status) s
  act_in rows t crashes p s = applied p (alone (crashed (proc_at p s))) s
  act_in rows t wakes p s = applied p (alone (waked (proc_at p s) (proc_at p s).status)) s
  act_in rows t crashes_all p s = apply quiet (map crashed s.processes) s
  act_in rows t idles p s = s

  -- the byte at position t
  unfoldable pub step_in : List Row → ℕ → ℕ → State → State
  step_in rows t byte s = act_in rows t (action byte) (named byte) s

  -- the bytes of a schedule, the first of them at position t; positions go up by one from byte to byte (R70)
  unfoldable pub after_in : List Row → ℕ → List ℕ → State → State
  after_in rows t [] s = s
  after_in rows t (byte ∷ bytes) s = after_in rows (suc t) bytes (step_in rows t byte s)

-- the same at the width of today
abbrev pub turn : List Row → (p t : ℕ) → List ℕ → List Entry → Process → Status → Move
turn = turn_in width

abbrev pub act : List Row → ℕ → Action → ℕ → State → State
act = act_in width

abbrev pub step : List Row → ℕ → ℕ → State → State
step = step_in width

abbrev pub after : List Row → ℕ → List ℕ → State → State
after = after_in width

-- the state before the first byte (R181)
unfoldable pub begin : ℕ → List ℕ → State
begin P words = record { words = words; processes = replicate P fresh; log = []; answers = [] }
