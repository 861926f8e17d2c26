-- Five wrong machines, to be held against demand 3, which is said of each one's own states. Each differs from the bench machine in one rule, and each
-- has a short run that breaks the statement (`proofs/Wrong.antt`): so it is not a statement that any machine would meet.
use Rattle.std.specs.Prelude.{ℕ, ◌≡◌, cond, false, List, [], ◌∷◌, ◌++◌, eqb, replicate, Option, Some, None}
use Rattle.std.proofs.Common.{sym, ◌∙◌, ap, arith}
use Rattle.runfile.specs.declared.Row.{Row}
use Rattle.runfile.specs.Kinds.{kind_of}
use Rattle.rows.specs.declared.Entry.{Entry}
use Rattle.word.specs.Word.{value}
use Rattle.machine.specs.declared.Answer.{Answer}
use Rattle.machine.specs.declared.Answer.TheVariants.{False}
use Rattle.machine.specs.declared.Process.{Process}
use Rattle.machine.specs.declared.Stage.TheVariants.{A1, V4, V5, V6}
use Rattle.machine.specs.declared.Status.{Status}
use Rattle.machine.specs.declared.Status.TheVariants.{Down, Idle, N2, N3, Busy}
use Rattle.machine.specs.Turn.{Turn, Still, Quiet, Swaps, Logs, Loses, Replies}
use Rattle.machine.specs.Stages.{stage_number}
use Rattle.machine.specs.Records.{with_status, with_checkpoint, with_stored, started}
use Rattle.machine.specs.Steps.{spoken, swap_says}
use Rattle.machine.specs.Machine.{State}
use Rattle.demand3.specs.Statement.{Firmware, of, Once, Logged, end_state}
use Rattle.demand3.specs.FlipBit.{machine_of}
use Rattle.demand3.specs.Rule.{step_by}

-- the bench machine with this rule, which asks nothing of the log, for these rows, P processes and these start words
abbrev pub wrong : (Row → (now next : ℕ) → Process → Turn → Turn) → List Row → ℕ → List ℕ → Firmware
wrong rule rows P words = machine_of (step_by (λ log. rule) rows) P words

-- a row that compares and swaps on word 0
unfoldable pub swap : (process old new : ℕ) → Row
swap p old new = record { process = p; kind = 1; word = 0; old = old; new = new }

-- 1. Recovery that goes by whether the value is new (R280), in place of the own flip bit and the kept bit (R123)
unfoldable pub recovering : Row → ℕ → Process → Status → Turn → Turn
recovering row now r Down u = u
recovering row now r Idle u = u
recovering row now r N2 u = u
recovering row now r N3 u = u
recovering row now r (Busy stage seen read_at tried_at answer) u =
    cond (eqb (stage_number stage) 8) (Quiet (with_status (Busy (cond (eqb (value now) row.new) V4 V6) now read_at tried_at answer) r)) u

unfoldable pub by_value : Row → (now next : ℕ) → Process → Turn → Turn
by_value row now next r u = recovering row now r r.status u

-- two workers, 7 to 8; worker 0 is cut off before its swap, worker 1 makes it, and worker 0 takes it for its own
unfoldable pub capture_rows : List Row
capture_rows = swap 0 7 8 ∷ swap 1 7 8 ∷ []

unfoldable pub capture_schedule : List ℕ
capture_schedule = replicate 6 0x00 ++ (replicate 7 0x01 ++ (0x10 ∷ 0x20 ∷ replicate 5 0x00))

abbrev pub capturing : Firmware
capturing = wrong by_value capture_rows 2 (7 ∷ [])

unfoldable pub captured : State
captured = end_state capturing capture_schedule

-- whatever was told true, by a machine that has nothing of it in its log
pub told-alone : (p k : ℕ) (e : Entry) (log answers : List Entry) → of k answers ≡ e ∷ [] → e.verdict ≡ 1 → of k log ≡ [] → (m : Option Answer) → Once p k m answers → Logged p k m log → ⊥
unfolding spoken
told-alone p k e log answers told v none None a l =
    let same : e ∷ [] ≡ a.entry ∷ [] = sym told ∙ a.once in
    let x : e.verdict ≡ a.entry.verdict = cc in
    let y : a.entry.verdict ≡ 2 = ap (λ d. d.verdict) a.says_so in
    omega arith
told-alone p k e log answers told v none (Some x) a l = let same : [] ≡ l.entry ∷ [] = sym none ∙ l.once in let z : ◌≡◌ {A = ℕ} 0 1 = cc in omega arith

-- 2. A lost swap that takes the position of its own A4 (R283), in place of that of the swap that beat it (R167)
unfoldable pub at_its_a4 : Row → (now next : ℕ) → Process → Turn → Turn
at_its_a4 row now k r Still = Still
at_its_a4 row now k r (Quiet next) = Quiet next
at_its_a4 row now k r (Swaps next x says) = Swaps next x says
at_its_a4 row now k r (Logs next q a) = Logs next q a
at_its_a4 row now k r (Loses next after otherwise) = Logs next otherwise False
at_its_a4 row now k r (Replies next said) = Replies next said

-- worker 0 has read 7; worker 1 moves 7 to 9 and worker 2 moves it back; worker 0 loses its swap, at a time when the value is 7 again
unfoldable pub back_rows : List Row
back_rows = swap 0 7 8 ∷ swap 1 7 9 ∷ swap 2 9 7 ∷ []

unfoldable pub back_schedule : List ℕ
back_schedule = replicate 4 0x00 ++ (replicate 7 0x01 ++ (replicate 7 0x02 ++ replicate 4 0x00))

abbrev pub placing : Firmware
placing = wrong at_its_a4 back_rows 3 (7 ∷ [])

-- 3. The row opened before the checkpoint is cleared: R103 done before R102
unfoldable pub announcing : ℕ → Process → Status → Turn → Turn
announcing k r Down u = u
announcing k r Idle u = u
announcing k r N2 u = Quiet (with_status N3 (started k r))
announcing k r N3 u = Quiet (with_checkpoint (Busy A1 0 0 0 None) false r)
announcing k r (Busy stage seen read_at tried_at answer) u = u

unfoldable pub opens_early : Row → (now next : ℕ) → Process → Turn → Turn
opens_early row now next r u = announcing next r r.status u

-- a worker has swapped for its first row and is cut off between the last two stores of its second: it wakes to the checkpoint of the first
unfoldable pub early_rows : List Row
early_rows = swap 0 7 8 ∷ swap 0 8 9 ∷ []

unfoldable pub early_schedule : List ℕ
early_schedule = replicate 11 0x00 ++ (0x10 ∷ 0x20 ∷ replicate 5 0x00)

abbrev pub opening : Firmware
opening = wrong opens_early early_rows 1 (7 ∷ [])

unfoldable pub early : State
early = end_state opening early_schedule

-- 4. A read logged at the position that the record keeps for the A4, which a read has not
unfoldable pub kept_position : Status → ℕ
kept_position Down = 0
kept_position Idle = 0
kept_position N2 = 0
kept_position N3 = 0
kept_position (Busy stage seen read_at tried_at answer) = tried_at

unfoldable pub at_its_try : Row → (now next : ℕ) → Process → Turn → Turn
at_its_try row now k r Still = Still
at_its_try row now k r (Quiet next) = Quiet next
at_its_try row now k r (Swaps next x says) = Swaps next x says
at_its_try row now k r (Logs next q a) = Logs next (kept_position r.status) a
at_its_try row now k r (Loses next after otherwise) = Loses next after otherwise
at_its_try row now k r (Replies next said) = Replies next said

-- a worker announces a read, reads and stores its answer: all is right but the position
unfoldable pub read_rows : List Row
read_rows = record { process = 0; kind = 0; word = 0; old = 0; new = 0 } ∷ []

unfoldable pub read_schedule : List ℕ
read_schedule = replicate 5 0x00

abbrev pub reading : Firmware
reading = wrong at_its_try read_rows 1 (7 ∷ [])

unfoldable pub read : State
read = end_state reading read_schedule

-- 5. Recovery that takes the value before from the word as it stands, in place of the value that A2 kept (R124)
unfoldable pub rereading : Row → ℕ → Process → Status → Turn → Turn
rereading row now r Down u = u
rereading row now r Idle u = u
rereading row now r N2 u = u
rereading row now r N3 u = u
rereading row now r (Busy stage seen read_at tried_at answer) u =
    cond (eqb (stage_number stage) 9) (Quiet (with_stored (Busy V5 seen read_at tried_at answer) (Some (swap_says (kind_of row) (value now))) r)) u

unfoldable pub as_it_stands : Row → (now next : ℕ) → Process → Turn → Turn
as_it_stands row now next r u = rereading row now r r.status u

-- a row that advances word 0
unfoldable pub advance : (process amount : ℕ) → Row
advance p amount = record { process = p; kind = 2; word = 0; old = 0; new = amount }

-- two workers move a mark on from 7, worker 0 by 5 and worker 1 by 3; worker 0 is cut off right after its move, and worker 1 moves the mark on
unfoldable pub mark_rows : List Row
mark_rows = advance 0 5 ∷ advance 1 3 ∷ []

unfoldable pub mark_schedule : List ℕ
mark_schedule = replicate 7 0x00 ++ (0x10 ∷ (replicate 9 0x01 ++ (0x20 ∷ replicate 5 0x00)))

abbrev pub rereads : Firmware
rereads = wrong as_it_stands mark_rows 2 (7 ∷ [])

unfoldable pub marked : State
marked = end_state rereads mark_schedule
