-- A machine over more words than the file has runs as over the file's own: a byte reads and writes none of those beyond. And how much a byte adds
-- to the log and to the answers: a row at most.
use Rattle.std.specs.Prelude.{ℕ, ◌+◌, ◌≤◌, ◌<◌, ◌≡◌, List, [], ◌∷◌, ◌++◌, length, get_or, take}
use Rattle.std.proofs.Math.Path.{refl, ap}
use Rattle.std.proofs.Common.{◌∙◌, arith, length-set}
use Rattle.std.proofs.Math.ListN.{set, get_or-append}
use Rattle.std.proofs.lemmas.List.{length-map, set-append_left}
use Rattle.std.proofs.Math.Seq.{take-length, take-append_seam}
use Rattle.runfile.specs.declared.Row.{Row}
use Rattle.runfile.specs.Actions.{Action, step as steps, crash as crashes, wake as wakes, crash_all as crashes_all, none as idles, action, named}
use Rattle.runfile.specs.Operations.{row_numbered, first, count}
use Rattle.rows.specs.declared.Entry.{Entry}
use Rattle.rows.specs.LogLaws.{length-insert}
use Rattle.rows.specs.BufferLaws.{length_snoc}
use Rattle.machine.specs.declared.Process.{Process}
use Rattle.machine.specs.declared.Status.{Status}
use Rattle.machine.specs.Turn.{Turn, Still, Quiet, Swaps, Logs, Loses, Replies}
use Rattle.machine.specs.Records.{row_open, crashed}
use Rattle.machine.specs.Steps.{step_turn}
use Rattle.machine.specs.Machine.{State, Effect, quiet, swaps, logs, replies, process_of, effect_of, move_of, turn, turn_in, words_after, log_after, answers_after, apply, applied, proc_at, act, act_in, step, step_in}

-- with these words behind its own
abbrev pub longer : List ℕ → State → State
longer more s = record { words = s.words ++ more; processes = s.processes; log = s.log; answers = s.answers }

words_longer : (rows : List Row) (log : List Entry) (p t k w : ℕ) (u : Turn) (words more : List ℕ) → w < length words
    → words_after (effect_of rows log p t k w u) (words ++ more) ≡ words_after (effect_of rows log p t k w u) words ++ more
words_longer rows log p t k w Still words more h = refl
words_longer rows log p t k w (Quiet next) words more h = refl
words_longer rows log p t k w (Swaps next x says) words more h = set-append_left words more w x h
words_longer rows log p t k w (Logs next q a) words more h = refl
words_longer rows log p t k w (Loses next after otherwise) words more h = refl
words_longer rows log p t k w (Replies next said) words more h = refl

module _ (rows : List Row) (more : List ℕ) (t : ℕ) (s : State) (inside : (k : ℕ) → (row_numbered rows k).word < length s.words) where
  turn-longer : (p : ℕ) (r : Process) (status : Status) → turn rows p t (s.words ++ more) s.log r status ≡ turn rows p t s.words s.log r status
  unfolding turn_in
  turn-longer p r status =
      let row = row_numbered rows (row_open r.opened) in
      ap (λ now. move_of rows s.log p t (row_open r.opened) row.word r (step_turn row p t now (first rows p) (count rows p) r status))
      (get_or-append s.words more 0 row.word (inside (row_open r.opened)))

  applied-longer : (p : ℕ) (r : Process) (status : Status) → let m = turn rows p t s.words s.log r status in applied p m (longer more s) ≡ longer more (applied p m s)
  unfolding turn_in applied apply
  applied-longer p r status =
      let k = row_open r.opened in
      let row = row_numbered rows k in
      let u = step_turn row p t (get_or s.words row.word 0) (first rows p) (count rows p) r status in
      ap (λ words. record { words = words; processes = set s.processes p (process_of r u); log = log_after (effect_of rows s.log p t k row.word u) s.log; answers = answers_after (effect_of rows s.log p t k row.word u) s.answers })
      (words_longer rows s.log p t k row.word u s.words more (inside k))

  act-longer : (a : Action) (p : ℕ) → act rows t a p (longer more s) ≡ longer more (act rows t a p s)
  unfolding act_in proc_at applied apply
  act-longer steps p = ap (λ m. applied p m (longer more s)) (turn-longer p (proc_at p s) (proc_at p s).status) ∙ applied-longer p (proc_at p s) (proc_at p s).status
  act-longer crashes p = refl
  act-longer wakes p = refl
  act-longer crashes_all p = refl
  act-longer idles p = refl

  pub step-longer : (byte : ℕ) → step rows t byte (longer more s) ≡ longer more (step rows t byte s)
  unfolding step_in
  step-longer byte = act-longer (action byte) (named byte)

-- how much there is after a byte
pub record Grows (s u : State) : Type 0 where
  pub words : length u.words ≡ length s.words
  pub processes : length u.processes ≡ length s.processes
  pub log_more : length s.log ≤ length u.log
  pub log_one : length u.log ≤ length s.log + 1
  pub answers_more : length s.answers ≤ length u.answers
  pub answers_one : length u.answers ≤ length s.answers + 1
  pub answers_kept : take (length s.answers) u.answers ≡ s.answers

grows_apply : (e : Effect) (ps : List Process) (s : State) → length ps ≡ length s.processes → Grows s (apply e ps s)
unfolding apply
grows_apply quiet ps s h = record { words = refl; processes = h; log_more = omega arith; log_one = omega arith; answers_more = omega arith; answers_one = omega arith; answers_kept = take-length s.answers }
grows_apply (swaps w x e) ps s h =
    let l = length-insert e s.log in
    record { words = length-set s.words w x; processes = h; log_more = omega arith; log_one = omega arith; answers_more = omega arith; answers_one = omega arith; answers_kept = take-length s.answers }
grows_apply (logs e) ps s h =
    let l = length-insert e s.log in
    record { words = refl; processes = h; log_more = omega arith; log_one = omega arith; answers_more = omega arith; answers_one = omega arith; answers_kept = take-length s.answers }
grows_apply (replies e) ps s h =
    let l = length_snoc e s.answers in
    record { words = refl; processes = h; log_more = omega arith; log_one = omega arith; answers_more = omega arith; answers_one = omega arith; answers_kept = take-append_seam s.answers (e ∷ []) }

grows_act : (rows : List Row) (t : ℕ) (a : Action) (p : ℕ) (s : State) → Grows s (act rows t a p s)
unfolding act_in applied
grows_act rows t steps p s = grows_apply _ _ s (length-set s.processes p _)
grows_act rows t crashes p s = grows_apply _ _ s (length-set s.processes p _)
grows_act rows t wakes p s = grows_apply _ _ s (length-set s.processes p _)
grows_act rows t crashes_all p s = grows_apply _ _ s (length-map s.processes crashed)
grows_act rows t idles p s = record { words = refl; processes = refl; log_more = omega arith; log_one = omega arith; answers_more = omega arith; answers_one = omega arith; answers_kept = take-length s.answers }

pub grows : (rows : List Row) (t byte : ℕ) (s : State) → Grows s (step rows t byte s)
unfolding step_in
grows rows t byte s = grows_act rows t (action byte) (named byte) s
