-- One step of an awake process (R100 to R127). `decide_in` has a line for each stage. It looks at the record, the row, the word as it stands now and
-- the position, and at nothing else; what it comes to is carried out in Machine.antt.
-- The rules are stated once, over the width b of the value (R14); `decide` and its neighbours are these at the width of today.
use Rattle.std.specs.Prelude.{ℕ, ◌+◌, ◌≡◌, Bool, true, false, cond, not, eqb, ltb, Option, Some, None}
use Rattle.std.proofs.Common.{ap}
use Rattle.runfile.specs.declared.Row.{Row}
use Rattle.runfile.specs.declared.Kind.{Kind}
use Rattle.runfile.specs.declared.Kind.TheVariants.{Read, Compare, Advance}
use Rattle.runfile.specs.Kinds.{kind_of, new_in}
use Rattle.word.specs.Word.{width, value_in, bit_in, swapped_in}
use Rattle.rows.specs.declared.Entry.{Entry}
use Rattle.rows.specs.Entries.{Said}
use Rattle.machine.specs.declared.Process.{Process}
use Rattle.machine.specs.declared.Kept.{Kept}
use Rattle.machine.specs.declared.Stage.{Stage}
use Rattle.machine.specs.declared.Stage.TheVariants.{A1, A2, A3, A4, A5, A6, V1, V2, V3, V4, V5, V6}
use Rattle.machine.specs.declared.Answer.{Answer}
use Rattle.machine.specs.declared.Answer.TheVariants.{False, True, Value, Was}
use Rattle.machine.specs.declared.Status.{Status}
use Rattle.machine.specs.declared.Status.TheVariants.{Down, Idle, N2, N3, Busy}
use Rattle.machine.specs.Turn.{Turn, Still, Quiet, Swaps, Logs, Loses, Replies}
use Rattle.machine.specs.Records.{with_status, with_kept, with_checkpoint, with_stored, closed, started}

-- what is said, as verdict and value (R161, R162); no answer is fail (R127)
unfoldable pub spoken : Option Answer → Said
spoken None = record { verdict = 2; value = 0 }
spoken (Some False) = record { verdict = 0; value = 0 }
spoken (Some True) = record { verdict = 1; value = 0 }
spoken (Some (Value v)) = record { verdict = 3; value = v }
spoken (Some (Was v)) = record { verdict = 4; value = v }

-- a row of the log or of the answers (R160)
abbrev pub entry : ℕ → ℕ → ℕ → Option Answer → Entry
entry position process row said = record { position = position; process = process; row = row; verdict = (spoken said).verdict; value = (spoken said).value }

-- What A2 keeps, beside what was kept before, where A1 read the value v and the own flip bit turned round is `bit`: a compare the bit alone, an
-- advance both (R112); a read has no A2
abbrev pub kept_by : Kind → (before : Kept) (bit : Bool) (v : ℕ) → Kept
kept_by Read before bit v = record { bit = bit; value = before.value }
kept_by Compare before bit v = record { bit = bit; value = before.value }
kept_by Advance before bit v = record { bit = bit; value = v }

-- What a swap that succeeds at A4 says, by the value v that it found, and what is done when it is lost, at position t (R114): an advance goes back to
-- A1, with nothing in hand, as it stood there when it was announced (R118); a read has no A4
abbrev pub swap_says : Kind → (v : ℕ) → Answer
swap_says Read v = True
swap_says Compare v = True
swap_says Advance v = Was v

abbrev pub lost_by : Kind → (seen read_at t : ℕ) → Status
lost_by Read seen read_at t = Busy A5 seen read_at t (Some False)
lost_by Compare seen read_at t = Busy A5 seen read_at t (Some False)
lost_by Advance seen read_at t = Busy A1 0 0 0 None

-- V4 stores what its swap said (R124): of an advance, which found the value that A2 kept, that value
abbrev pub recalled : Row → Kept → Answer
recalled row kept = swap_says (kind_of row) kept.value

-- V1: with an answer stored to V5, with none to V2 (R121)
abbrev pub recovered : Option Answer → Stage
recovered (Some a) = V5
recovered None = V2

abbrev pub same_bit : Bool → Bool → Bool
same_bit true b = b
same_bit false b = not b

module _ (b : ℕ) where
  -- A1: the word is read (R111). A read has its answer, and so has a compare that met another value than old; a compare that met old goes on to A2,
  -- and an advance always
  abbrev pub read_by_in : Kind → (old word t : ℕ) → Status
  read_by_in Read old word t = Busy A5 word t 0 (Some (Value (value_in b word)))
  read_by_in Compare old word t = cond (eqb (value_in b word) old) (Busy A2 word t 0 None) (Busy A5 word t 0 (Some False))
  read_by_in Advance old word t = Busy A2 word t 0 None

  abbrev pub after_read_in : Row → ℕ → ℕ → Status
  after_read_in row word t = read_by_in (kind_of row) row.old word t

  -- A4: the swap succeeds if the word is to the bit the word that was read, and is lost otherwise (R114)
  unfoldable pub tried_in : ℕ → ℕ → Row → ℕ → Process → ℕ → ℕ → Turn
  tried_in p t row now r seen read_at =
      let says = swap_says (kind_of row) (value_in b seen) in
      cond (eqb now seen)
      (Swaps (with_status (Busy A5 seen read_at t (Some says)) r) (swapped_in b p (new_in b row (value_in b seen)) seen) says)
      (Quiet (with_status (lost_by (kind_of row) seen read_at t) r))

  -- A5: the answer is stored (R115). The log has a successful swap already (R164); a read and a value other than old enter it with the position of
  -- their A1 (R165, R166), and a lost swap with that of the swap that beat it (R167)
  unfoldable pub storing_in : Row → Process → ℕ → ℕ → ℕ → Option Answer → Turn
  storing_in row next seen read_at tried_at None = Quiet next
  storing_in row next seen read_at tried_at (Some True) = Quiet next
  storing_in row next seen read_at tried_at (Some (Was v)) = Quiet next
  storing_in row next seen read_at tried_at (Some (Value v)) = Logs next read_at (Value v)
  storing_in row next seen read_at tried_at (Some False) = cond (eqb (value_in b seen) row.old) (Loses next read_at tried_at) (Logs next read_at False)

  -- process p at position t, in the midst of work on a row whose word is `now`
  unfoldable pub decide_in : Row → ℕ → ℕ → ℕ → Process → Stage → ℕ → ℕ → ℕ → Option Answer → Turn
  decide_in row p t now r A1 seen read_at tried_at answer = Quiet (with_status (after_read_in row now t) r)
  decide_in row p t now r A2 seen read_at tried_at answer = Quiet (with_kept (Busy A3 seen read_at tried_at answer) (kept_by (kind_of row) r.kept (not (bit_in b p seen)) (value_in b seen)) r)
  decide_in row p t now r A3 seen read_at tried_at answer = Quiet (with_checkpoint (Busy A4 seen read_at tried_at answer) true r)
  decide_in row p t now r A4 seen read_at tried_at answer = tried_in p t row now r seen read_at
  decide_in row p t now r A5 seen read_at tried_at answer = storing_in row (with_stored (Busy A6 seen read_at tried_at answer) answer r) seen read_at tried_at answer
  decide_in row p t now r A6 seen read_at tried_at answer = Replies (closed r) answer
  decide_in row p t now r V1 seen read_at tried_at answer = Quiet (with_status (Busy (recovered r.stored) seen read_at tried_at answer) r)
  decide_in row p t now r V2 seen read_at tried_at answer = Quiet (with_status (Busy (cond r.checkpoint V3 V6) seen read_at tried_at answer) r)
  decide_in row p t now r V3 seen read_at tried_at answer = Quiet (with_status (Busy (cond (same_bit (bit_in b p now) r.kept.bit) V4 V6) now read_at tried_at answer) r)
  decide_in row p t now r V4 seen read_at tried_at answer = Quiet (with_stored (Busy V5 seen read_at tried_at answer) (Some (recalled row r.kept)) r)
  decide_in row p t now r V5 seen read_at tried_at answer = Replies (closed r) r.stored
  decide_in row p t now r V6 seen read_at tried_at answer = Replies (closed r) None

  -- A step of a process that is down changes nothing (R140), nor does one of an idle process with no rows left (R141). A row is announced by three
  -- stores, a step each: the stored answer is cleared (R101), the checkpoint becomes 0 (R102), the row is opened (R103). A process in the midst of
  -- work has a row open: that is `row`, and `now` is its word. The process has `count` rows, the first of which is row number `first`
  abbrev pub at_work_in : Row → (p t now : ℕ) → Process → Option ℕ → Stage → (seen read_at tried_at : ℕ) → Option Answer → Turn
  at_work_in row p t now r None stage seen read_at tried_at answer = Still
  at_work_in row p t now r (Some k) stage seen read_at tried_at answer = decide_in row p t now r stage seen read_at tried_at answer

  unfoldable pub step_turn_in : Row → (p t now first count : ℕ) → Process → Status → Turn
  step_turn_in row p t now first count r Down = Still
  step_turn_in row p t now first count r Idle = cond (ltb r.begun count) (Quiet (with_stored N2 None r)) Still
  step_turn_in row p t now first count r N2 = Quiet (with_checkpoint N3 false r)
  step_turn_in row p t now first count r N3 = Quiet (started (first + r.begun) r)
  step_turn_in row p t now first count r (Busy stage seen read_at tried_at answer) = at_work_in row p t now r r.opened stage seen read_at tried_at answer

-- the same at the width of today
abbrev pub read_by : Kind → (old word t : ℕ) → Status
read_by = read_by_in width

abbrev pub after_read : Row → ℕ → ℕ → Status
after_read = after_read_in width

abbrev pub tried : ℕ → ℕ → Row → ℕ → Process → ℕ → ℕ → Turn
tried = tried_in width

abbrev pub storing : Row → Process → ℕ → ℕ → ℕ → Option Answer → Turn
storing = storing_in width

abbrev pub decide : Row → ℕ → ℕ → ℕ → Process → Stage → ℕ → ℕ → ℕ → Option Answer → Turn
decide = decide_in width

abbrev pub at_work : Row → (p t now : ℕ) → Process → Option ℕ → Stage → (seen read_at tried_at : ℕ) → Option Answer → Turn
at_work = at_work_in width

abbrev pub step_turn : Row → (p t now first count : ℕ) → Process → Status → Turn
step_turn = step_turn_in width

pub working : (row : Row) (p t now : ℕ) (r : Process) (opened : Option ℕ) (k : ℕ) (stage : Stage) (seen read_at tried_at : ℕ) (answer : Option Answer) → opened ≡ Some k
    → at_work row p t now r opened stage seen read_at tried_at answer ≡ decide row p t now r stage seen read_at tried_at answer
working row p t now r opened k stage seen read_at tried_at answer e = ap (λ o. at_work row p t now r o stage seen read_at tried_at answer) e
