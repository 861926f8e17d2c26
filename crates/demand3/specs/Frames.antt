-- What a change by others leaves to a process.
use Rattle.std.specs.Prelude.{ℕ, suc, ◌+◌, ◌≤◌, ◌<◌, ◌≡◌, Bool, ◌&&◌, List, get_or, Option, Some, None}
use Rattle.std.proofs.Common.{sym, ◌∙◌, ap, subst, arith}
use Rattle.rows.specs.declared.Entry.{Entry}
use Rattle.runfile.specs.declared.Row.{Row}
use Rattle.machine.specs.declared.Answer.{Answer}
use Rattle.machine.specs.declared.Process.{Process}
use Rattle.machine.specs.declared.Kept.{Kept}
use Rattle.machine.specs.declared.Stage.{Stage}
use Rattle.machine.specs.declared.Stage.TheVariants.{A1, A2, A3, A4, A5, A6, V1, V2, V3, V4, V5, V6}
use Rattle.machine.specs.declared.Status.{Status}
use Rattle.machine.specs.declared.Status.TheVariants.{Down, Idle, N2, N3, Busy}
use Rattle.word.specs.Word.{bit}
use Rattle.runfile.specs.Operations.{row_numbered, first, count}
use Rattle.machine.specs.Machine.{State}
use Rattle.machine.specs.Steps.{same_bit}
use Rattle.replay.specs.Logs.{early}
use Rattle.replay.specs.Replay.{final}
use Rattle.demand3.specs.Statement.{of, Once, Logged}
use Rattle.demand3.specs.Invariant.{Settled, due, Times, says, has_swapped, owed, HasSwap, Seen, Since, Reading, Pending, won, held, lost, AtStage, working, StatusOk, IsOpen, Local}

pub once_alone : {p k : ℕ} {m : Option Answer} {l l' : List Entry} → of k l' ≡ of k l → Once p k m l → Once p k m l'
once_alone e o = record { entry = o.entry; once = e ∙ o.once; process = o.process; says_so = o.says_so }

pub logged_alone : (p k : ℕ) (l l' : List Entry) (m : Option Answer) → of k l' ≡ of k l → Logged p k m l → Logged p k m l'
logged_alone p k l l' None e o = e ∙ o
logged_alone p k l l' (Some a) e o = once_alone e o

pub ended-alone : {p k : ℕ} {l l' m m' : List Entry} → of k l' ≡ of k l → of k m' ≡ of k m → Settled p k l m → Settled p k l' m'
ended-alone {p} {k} {l} {l'} e f d = record { answer = d.answer; answered = once_alone f d.answered; logged = logged_alone p k l l' d.answer e d.logged }

module _ (rows : List Row) (start : List ℕ) where
  -- what a change by others leaves to process p, whose record is r
  pub record Frame (Late Late' : Times) (p t t' : ℕ) (s s' : State) (r : Process) : Type 0 where
    pub later : t ≤ t'
    pub bits : (w : ℕ) → bit p (get_or s'.words w 0) ≡ bit p (get_or s.words w 0)
    pub log : (i : ℕ) → i < count rows p → of (first rows p + i) s'.log ≡ of (first rows p + i) s.log
    pub answers : (i : ℕ) → i < count rows p → of (first rows p + i) s'.answers ≡ of (first rows p + i) s.answers
    pub then : (a w : ℕ) → a < t → get_or (final rows start (early a s'.log)) w 0 ≡ get_or (final rows start (early a s.log)) w 0
    pub has : (w a : ℕ) → HasSwap rows start w a s.log → HasSwap rows start w a s'.log
    pub since : (w a x : ℕ) → a < t → Since rows start p w a (get_or s.words w 0) x s.log → Since rows start p w a (get_or s'.words w 0) x s'.log
    pub late : (k a : ℕ) → r.opened ≡ Some k → Late k a → Late' k a

  module _ (Late Late' : Times) (p t t' : ℕ) (s s' : State) (r : Process) (f : Frame Late Late' p t t' s s' r) where
    seen_frame : (k a x : ℕ) → r.opened ≡ Some k → Seen rows start Late k t a x s.log → Seen rows start Late' k t' a x s'.log
    seen_frame k a x o h =
        let l : t ≤ t' = f.later in
        let g : a < t = h.past in
        record { past = omega arith; late = f.late k a o h.late; then = f.then a (row_numbered rows k).word h.past ∙ h.then }

    reading_frame : (k a x : ℕ) → r.opened ≡ Some k → Reading rows start Late p k t a x s.words s.log → Reading rows start Late' p k t' a x s'.words s'.log
    reading_frame k a x o h =
        record {
          goes_on = h.goes_on;
          seen = seen_frame k a x o h.seen;
          since = f.since (row_numbered rows k).word a x h.seen.past h.since;
          own = h.own ∙ sym (f.bits (row_numbered rows k).word);
        }

    has_frame : (k : ℕ) → has_swapped rows start p k s'.words r ≡ has_swapped rows start p k s.words r
    has_frame k = ap (λ c. r.checkpoint && same_bit c r.kept.bit) (f.bits (row_numbered rows k).word)

    pending_frame : (k a x : ℕ) (has has' : Bool) (kept : Kept) (ans : Option Answer) → r.opened ≡ Some k → has' ≡ has → Pending rows start Late p k t a x s.log has kept ans → Pending rows start Late' p k t' a x s'.log has' kept ans
    pending_frame k a x has has' kept ans o q (won e g) = won e (q ∙ g)
    pending_frame k a x has has' kept ans o q (held h e n g) = held (seen_frame k a x o h) e n (q ∙ g)
    pending_frame k a x has has' kept ans o q (lost h e c v w g) = lost (seen_frame k a x o h) e c v (f.has (row_numbered rows k).word a w) (q ∙ g)

    stage_frame : (k : ℕ) → r.opened ≡ Some k → (stage : Stage) (x a : ℕ) (ans : Option Answer) → AtStage rows start Late p k t s.words s.log r stage x a ans → AtStage rows start Late' p k t' s'.words s'.log r stage x a ans
    stage_frame k o A1 x a ans h = (h.0, has_frame k ∙ h.1)
    stage_frame k o A2 x a ans h = (h.0, has_frame k ∙ h.1, reading_frame k a x o h.2)
    stage_frame k o A3 x a ans h = (h.0, reading_frame k a x o h.1, h.2)
    stage_frame k o A4 x a ans h = (h.0, h.1, reading_frame k a x o h.2, h.3)
    stage_frame k o A5 x a ans h = (h.0, pending_frame k a x (has_swapped rows start p k s.words r) (has_swapped rows start p k s'.words r) r.kept ans o (has_frame k) h.1)
    stage_frame k o A6 x a ans h = h
    stage_frame k o V1 x a ans h = h
    stage_frame k o V2 x a ans h = h
    stage_frame k o V3 x a ans h = h
    stage_frame k o V4 x a ans h = (h.0, has_frame k ∙ h.1)
    stage_frame k o V5 x a ans h = h
    stage_frame k o V6 x a ans h = (h.0, has_frame k ∙ h.1)

    status_frame : (st : Status) → StatusOk rows start Late p t s.words s.log r st → StatusOk rows start Late' p t' s'.words s'.log r st
    status_frame Down h = h
    status_frame Idle h = h
    status_frame N2 h = h
    status_frame N3 h = h
    status_frame (Busy stage x a ta ans) (working k o h) = working k o (stage_frame k o stage x a ans h)

    open_frame : (k : ℕ) → r.begun ≤ count rows p → IsOpen rows start p k s r → IsOpen rows start p k s' r
    open_frame k fits o =
        let b : r.begun ≡ suc o.index = o.begun in
        let i : o.index < count rows p = omega arith in
        record {
          index = o.index;
          begun = o.begun;
          row = o.row;
          unanswered = subst (λ k. of k s'.answers ≡ of k s.answers) (sym o.row) (f.answers o.index i) ∙ o.unanswered;
          stands =
              subst (λ has. Logged p k (due (says rows start k r.kept) r.stored has) s'.log) (sym (has_frame k))
              (logged_alone p k s.log s'.log (owed rows start p k s.words r)
              (subst (λ k. of k s'.log ≡ of k s.log) (sym o.row) (f.log o.index i)) o.stands);
        }

    pub local_frame : Local rows start Late p t s r → Local rows start Late' p t' s' r
    local_frame l =
        record {
          fits = l.fits;
          future_log = λ i h g. f.log i g ∙ l.future_log i h g;
          future_answers = λ i h g. f.answers i g ∙ l.future_answers i h g;
          ended = λ i h g. let k : r.begun ≤ count rows p = l.fits in ended-alone (f.log i (omega arith)) (f.answers i (omega arith)) (l.ended i h g);
          opened = λ k o. open_frame k l.fits (l.opened k o);
          work = status_frame r.status l.work;
        }
