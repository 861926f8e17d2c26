-- What a step keeps for the process that makes it, stage by stage.
use Prim.Native.Nat.{ℕ, suc, ◌+◌, ◌≤◌, ◌<◌}
use Rattle.std.specs.Prelude.{◌≡◌, Bool, not, cond, ◌&&◌, List, [], ◌∷◌, ◌++◌, ltb, length, get_or, set, ◌≢◌, Option, Some, None, ℕ}
use Rattle.std.proofs.Math.Path.{refl, sym, ap, ap₂, subst}
use Rattle.std.proofs.Common.{◌∙◌, true≢false, arith, get_or-set_same}
use Rattle.std.proofs.Math.Bool.{true, false}
use Rattle.std.proofs.Math.Dec.{eqb}
use Rattle.rows.specs.declared.Entry.{Entry}
use Rattle.machine.specs.Machine.{quiet, swaps, logs, replies, Move, State, alone, apply, move_of}
use Rattle.machine.specs.Turn.{Quiet, Swaps}
use Rattle.runfile.specs.declared.Row.{Row}
use Rattle.machine.specs.declared.Process.{Process}
use Rattle.machine.specs.declared.Stage.{Stage}
use Rattle.machine.specs.declared.Stage.TheVariants.{A1, A2, A3, A4, A5, A6, V1, V2, V3, V4, V5, V6}
use Rattle.machine.specs.declared.Answer.{Answer}
use Rattle.machine.specs.declared.Answer.TheVariants.{False, True, Value, Was}
use Rattle.machine.specs.declared.Status.{Status}
use Rattle.machine.specs.declared.Status.TheVariants.{Busy}
use Rattle.word.specs.Word.{value, bit, swapped, width}
use Rattle.runfile.specs.Operations.{row_numbered, first, count}
use Rattle.runfile.specs.declared.Kind.{Kind}
use Rattle.runfile.specs.declared.Kind.TheVariants.{Read, Compare, Advance}
use Rattle.runfile.specs.Kinds.{kind_of, new_of}
use Rattle.rows.specs.Entries.{said, is_swapped}
use Rattle.rows.specs.Log.{insert, first_swap, is_swap}
use borrow.Author.Tests.{eq-eqb, eqb-true, eqb-false, ltb-true}
use Rattle.machine.specs.Steps.{entry, read_by, kept_by, swap_says, lost_by, tried_in, storing, storing_in, recovered, same_bit, decide, decide_in, spoken}
use Rattle.machine.specs.KindLaws.{bit_kept, says-swapped, says_stored}
use Rattle.machine.specs.Records.{with_status, with_kept, with_checkpoint, with_stored, closed, started}
use Rattle.word.specs.Laws.{after_swap}
use Rattle.replay.specs.Lists.{All, all_map, all_right, Found, keep-found}
use Rattle.replay.specs.Logs.{early, early_all, put}
use Rattle.replay.specs.Plain.{answer_of}
use Rattle.replay.specs.Replay.{Good, GoesOn, final, RightAt, swap_on, first_swap_lem}
use Rattle.replay.specs.Replay as replay
use Rattle.demand3.specs.Statement.{of, Logged, word_of}
use Rattle.demand3.specs.Invariant.{Settled, due, Times, says, has_swapped, owed, HasSwap, HasOther, Seen, Since, as_read, overtaken, Reading, Keeps, Pending, won, held, lost, AtStage, working, StatusOk, IsOpen, Local, Global, Swapping, Allowed}
use Rattle.demand3.specs.Frames.{ended-alone}
use Rattle.demand3.specs.Answers.{answer_swap, kept_says, answer_other, answer_read, answer_false, answer_never}
use Rattle.demand3.specs.Effects.{words_length, plain, other_swap, of-put, of_last, of_put_own, of_last_own}

module _ (rows : List Row) (start : List ℕ) (Late : Times) where
  -- a step of process p that comes to u is all right: what it does to the rest is allowed, and what holds of p goes on to hold
  pub data Own (p t : ℕ) (s : State) (r : Process) (u : Move) : Type 0 where
    calm : u.effect ≡ quiet → ((ps : List Process) → Local rows start Late p (suc t) (apply u.effect ps s) u.process) → Own p t s r u
    busy : (i : ℕ) → i < count rows p → r.opened ≡ Some (first rows p + i) → Allowed rows start Late p (first rows p + i) t s u.effect
        → ((ps : List Process) → Local rows start Late p (suc t) (apply u.effect ps s) u.process) → Own p t s r u

  pub open_same : {k j : ℕ} {o : Option ℕ} → o ≡ Some k → o ≡ Some j → k ≡ j
  open_same e f = cc

  pub closed_open : {k : ℕ} {o : Option ℕ} → o ≡ None → o ≡ Some k → ⊥
  closed_open e f = let z : ◌≡◌ {A = ℕ} 0 1 = cc in omega arith

  module _ (p t : ℕ) (s : State) (r : Process) (l : Local rows start Late p t s r) where
    index_fits : (k : ℕ) → (o : r.opened ≡ Some k) → (l.opened k o).index < count rows p
    index_fits k o =
        let b : r.begun ≡ suc (l.opened k o).index = (l.opened k o).begun in
        let f : r.begun ≤ count rows p = l.fits in
        omega arith

    -- a row begun later is not the open one
    not_open : (k i : ℕ) → r.opened ≡ Some k → r.begun ≤ i → first rows p + i ≡ k → ⊥
    not_open k i o h e =
        let w : IsOpen rows start p k s r = l.opened k o in
        let b : r.begun ≡ suc w.index = w.begun in
        let m : k ≡ first rows p + w.index = w.row in
        omega arith

    -- the record changes and the row stays open
    own_step : (k : ℕ) → r.opened ≡ Some k → (s' : State) (r' : Process) → r'.opened ≡ r.opened → r'.begun ≡ r.begun
        → ((j : ℕ) → (j ≡ k → ⊥) → of j s'.log ≡ of j s.log) → s'.answers ≡ s.answers
        → Logged p k (owed rows start p k s'.words r') s'.log
        → StatusOk rows start Late p (suc t) s'.words s'.log r' r'.status
        → Local rows start Late p (suc t) s' r'
    own_step k o s' r' eo eb others ea stands work =
        record {
          fits = rw eb l.fits;
          future_log = λ i h g. let h' : r.begun ≤ i = omega arith in others (first rows p + i) (not_open k i o h') ∙ l.future_log i h' g;
          future_answers = λ i h g. let h' : r.begun ≤ i = omega arith in ap (of (first rows p + i)) ea ∙ l.future_answers i h' g;
          ended = λ i h n.
              let h' : i < r.begun = omega arith in
              ended-alone (others (first rows p + i) (λ e. n (eo ∙ o ∙ ap Some (sym e)))) (ap (of (first rows p + i)) ea) (l.ended i h' (λ e. n (eo ∙ e)));
          opened = λ j e. subst (λ k. IsOpen rows start p k s' r') (open_same o (sym eo ∙ e))
              (record {
                index = (l.opened k o).index;
                begun = eb ∙ (l.opened k o).begun;
                row = (l.opened k o).row;
                unanswered = ap (of k) ea ∙ (l.opened k o).unanswered;
                stands = stands;
              });
          work = work;
        }

    -- the row is closed with the answer row e
    own_close : (k : ℕ) → r.opened ≡ Some k → (e : Entry) (m : Option Answer) (ps : List Process) → e.row ≡ k → e.process ≡ p → said e ≡ spoken m
        → owed rows start p k s.words r ≡ m
        → Local rows start Late p (suc t) (apply (replies e) ps s) (closed r)
    unfolding apply
    own_close k o e m ps er ep es ed =
        record {
          fits = l.fits;
          future_log = l.future_log;
          future_answers = λ i h g. of_last (first rows p + i) s.answers e (λ q. not_open k i o h (sym q ∙ er)) ∙ l.future_answers i h g;
          ended = λ i h n. go i h (eqb (first rows p + i) k) refl;
          opened = λ j q. absurd (closed_open refl q);
          work = refl;
        }
      where
        go : (i : ℕ) → i < r.begun → (c : Bool) → eqb (first rows p + i) k ≡ c → Settled p (first rows p + i) s.log (s.answers ++ e ∷ [])
        go i h true q =
            subst (λ k. Settled p k s.log (s.answers ++ e ∷ [])) (sym (eqb-true (first rows p + i) k q))
            (record {
              answer = m;
              answered = record { entry = e; once = of_last_own k s.answers e er (l.opened k o).unanswered; process = ep; says_so = es };
              logged = subst (λ d. Logged p k d s.log) ed (l.opened k o).stands;
            })
        go i h false q =
            let ne : first rows p + i ≡ k → ⊥ = eqb-false (first rows p + i) k q in
            ended-alone refl (of_last (first rows p + i) s.answers e (λ x. ne (sym x ∙ er))) (l.ended i h (λ x. ne (open_same x o)))

    -- no row is open, and none is begun
    pub own_closed : r.opened ≡ None → (r' : Process) → r'.opened ≡ r.opened → r'.begun ≡ r.begun → (ps : List Process) → StatusOk rows start Late p (suc t) s.words s.log r' r'.status → Local rows start Late p (suc t) (apply quiet ps s) r'
    unfolding apply
    own_closed o r' eo eb ps w =
        record {
          fits = rw eb l.fits;
          future_log = λ i h g. l.future_log i (omega arith) g;
          future_answers = λ i h g. l.future_answers i (omega arith) g;
          ended = λ i h n. l.ended i (omega arith) (closed_open o);
          opened = λ k q. absurd (closed_open (eo ∙ o) q);
          work = w;
        }

    -- row k is begun
    pub own_start : r.opened ≡ None → r.begun < count rows p → r.stored ≡ None → r.checkpoint ≡ false → (ps : List Process) → Local rows start Late p (suc t) (apply quiet ps s) (started (first rows p + r.begun) r)
    unfolding apply due
    own_start o h st ch ps =
        record {
          fits = omega arith;
          future_log = λ i g j. l.future_log i (omega arith) j;
          future_answers = λ i g j. l.future_answers i (omega arith) j;
          ended = λ i g n.
              let ne : i ≢ r.begun = λ e. n (ap (λ i. Some (first rows p + i)) (sym e)) in
              ended-alone refl refl (l.ended i (omega arith) (closed_open o));
          opened = λ j e. subst (λ k. IsOpen rows start p k (apply quiet ps s) (started (first rows p + r.begun) r)) (open_same refl e)
              (record {
                index = r.begun;
                begun = refl;
                row = refl;
                unanswered = l.future_answers r.begun (omega arith) h;
                stands = rw (st, ch) (l.future_log r.begun (omega arith) h);
              });
          work = working (first rows p + r.begun) refl (st, ap (λ c. c && same_bit (bit p (word_of rows (first rows p + r.begun) s.words)) r.kept.bit) ch);
        }

    -- only the status changes
    pub own_status : (st : Status) (ps : List Process) → StatusOk rows start Late p (suc t) s.words s.log (with_status st r) st → Local rows start Late p (suc t) (apply quiet ps s) (with_status st r)
    unfolding apply
    own_status st ps w =
        record {
          fits = l.fits;
          future_log = l.future_log;
          future_answers = l.future_answers;
          ended = l.ended;
          opened = λ k o.
              record {
                index = (l.opened k o).index;
                begun = (l.opened k o).begun;
                row = (l.opened k o).row;
                unanswered = (l.opened k o).unanswered;
                stands = (l.opened k o).stands;
              };
          work = w;
        }

-- the rows of a process are in the file
rows_fit : (rows : List Row) (p : ℕ) → first rows p + count rows p ≤ length rows
unfolding first count
rows_fit [] p = omega arith
rows_fit (r ∷ rows) p = go (ltb r.process p) refl (eqb r.process p) refl (rows_fit rows p)
  where
    go : (c : Bool) → ltb r.process p ≡ c → (d : Bool) → eqb r.process p ≡ d → first rows p + count rows p ≤ length rows
        → cond c (suc (first rows p)) (first rows p) + cond d (suc (count rows p)) (count rows p) ≤ suc (length rows)
    go true e true f ih = let l : r.process < p = ltb-true r.process p e in let m : r.process ≡ p = eqb-true r.process p f in omega arith
    go true e false f ih = omega arith
    go false e true f ih = omega arith
    go false e false f ih = omega arith

row_named : (rows : List Row) (p i : ℕ) → i < count rows p → first rows p + i < length rows
row_named rows p i h = let f : first rows p + count rows p ≤ length rows = rows_fit rows p in omega arith

same_not : (b : Bool) → same_bit b (not b) ≡ false
same_not true = refl
same_not false = refl

same_self : (b : Bool) → same_bit b b ≡ true
same_self true = refl
same_self false = refl

and_false : (b : Bool) → (b && false) ≡ false
and_false true = refl
and_false false = refl

module _ (rows : List Row) (start : List ℕ) (good : (k : ℕ) → Good (length start) (row_numbered rows k)) (Late : Times) (mono : (k a b : ℕ) → a ≤ b → Late k a → Late k b) where
  module _ (p t : ℕ) (s : State) (r : Process) (g : Global rows start Late t s) (l : Local rows start Late p t s r) (k : ℕ) (o : r.opened ≡ Some k) (now : Late k t) where
    abbrev word : ℕ
    word = word_of rows k s.words

    -- where a lost swap would go
    abbrev lost_at : ℕ → ℕ → ℕ
    lost_at a ta = first_swap rows (row_numbered rows k).word a ta s.log

    named : k < length rows
    named = subst (λ k. k < length rows) (sym (l.opened k o).row) (row_named rows p (l.opened k o).index (index_fits rows start Late p t s r l k o))

    make_busy : (u : Move) → Allowed rows start Late p k t s u.effect → ((ps : List Process) → Local rows start Late p (suc t) (apply u.effect ps s) u.process) → Own rows start Late p t s r u
    make_busy u a f =
        busy (l.opened k o).index (index_fits rows start Late p t s r l k o) (o ∙ ap Some (l.opened k o).row) (subst (λ k. Allowed rows start Late p k t s u.effect) (l.opened k o).row a) f

    stood : (m : Option Answer) → owed rows start p k s.words r ≡ m → Logged p k m s.log
    stood m e = subst (λ d. Logged p k d s.log) e (l.opened k o).stands

    -- nothing is stored: with no swap nothing is due, and with one what it says
    none_due : (r' : Process) → r'.stored ≡ None → has_swapped rows start p k s.words r' ≡ false → owed rows start p k s.words r' ≡ None
    unfolding due
    none_due r' st h = ap₂ (due (says rows start k r'.kept)) st h

    swap_due : (words : List ℕ) → r.stored ≡ None → has_swapped rows start p k words r ≡ true → owed rows start p k words r ≡ Some (says rows start k r.kept)
    unfolding due
    swap_due words st h = ap₂ (due (says rows start k r.kept)) st h

    -- a quiet step: what is due stays
    own_quiet : (r' : Process) → r'.opened ≡ r.opened → r'.begun ≡ r.begun
        → owed rows start p k s.words r ≡ owed rows start p k s.words r'
        → StatusOk rows start Late p (suc t) s.words s.log r' r'.status
        → Own rows start Late p t s r (alone r')
    unfolding apply
    own_quiet r' eo eb ed w =
        calm refl (λ ps. own_step rows start Late p t s r l k o (apply quiet ps s) r' eo eb (λ j n. refl) refl (stood (owed rows start p k s.words r') ed) w)

    seen-now : Seen rows start Late k (suc t) t word s.log
    seen-now =
        record {
          past = omega arith;
          late = now;
          then =
              ap (λ l. get_or (final rows start l) (row_numbered rows k).word 0) (early_all t s.log (all_map (λ e. e.position < t) (λ e. e.position ≤ t) (λ e h. omega arith) s.log g.below))
              ∙ plain rows start good Late t s g (row_numbered rows k).word;
        }

    seen_later : (a x : ℕ) → Seen rows start Late k t a x s.log → Seen rows start Late k (suc t) a x s.log
    seen_later a x h = let q : a < t = h.past in record { past = omega arith; late = h.late; then = h.then }

    reading_later : (a x : ℕ) → Reading rows start Late p k t a x s.words s.log → Reading rows start Late p k (suc t) a x s.words s.log
    reading_later a x h = record { goes_on = h.goes_on; seen = seen_later a x h.seen; since = h.since; own = h.own }

    own-A1 : (x a ta : ℕ) (ans : Option Answer) → AtStage rows start Late p k t s.words s.log r A1 x a ans → Own rows start Late p t s r (move_of rows s.log p t k (row_numbered rows k).word r (decide (row_numbered rows k) p t word r A1 x a ta ans))
    unfolding decide_in is_swapped spoken
    own-A1 x a ta ans h = go (kind_of (row_numbered rows k)) refl
      where
        reading : GoesOn (kind_of (row_numbered rows k)) (row_numbered rows k).old (value word) → Own rows start Late p t s r (alone (with_status (Busy A2 word t 0 None) r))
        reading g =
            own_quiet (with_status (Busy A2 word t 0 None) r) refl refl refl
            (working k o ((h.0, h.1, record { goes_on = g; seen = seen-now; since = as_read refl; own = refl })))

        compared : kind_of (row_numbered rows k) ≡ Compare → (d : Bool) → eqb (value word) (row_numbered rows k).old ≡ d
            → Own rows start Late p t s r (alone (with_status (cond d (Busy A2 word t 0 None) (Busy A5 word t 0 (Some False))) r))
        compared q true e = reading (subst (λ kind. GoesOn kind (row_numbered rows k).old (value word)) (sym q) (eqb-true (value word) (row_numbered rows k).old e))
        compared q false e =
            own_quiet (with_status (Busy A5 word t 0 (Some False)) r) refl refl refl
            (working k o ((h.0, held seen-now (sym (answer_other (row_numbered rows k) (value word) q (eqb-false (value word) (row_numbered rows k).old e))) refl h.1)))

        go : (kind : Kind) → kind_of (row_numbered rows k) ≡ kind → Own rows start Late p t s r (alone (with_status (read_by kind (row_numbered rows k).old word t) r))
        go Read q =
            own_quiet (with_status (Busy A5 word t 0 (Some (Value (value word)))) r) refl refl refl
            (working k o ((h.0, held seen-now (sym (answer_read (row_numbered rows k) (value word) q)) refl h.1)))
        go Compare q = compared q (eqb (value word) (row_numbered rows k).old) refl
        go Advance q = reading (subst (λ kind. GoesOn kind (row_numbered rows k).old (value word)) (sym q) tt)

    -- the own bit has not moved since the reading: with what was kept of it, there was no swap
    unmatched : (r' : Process) (a x : ℕ) → Reading rows start Late p k t a x s.words s.log → Keeps rows start p k x r'.kept → has_swapped rows start p k s.words r' ≡ false
    unmatched r' a x h kept =
        ap (λ b. r'.checkpoint && b) (ap (same_bit (bit p word)) (kept.turned ∙ ap not h.own) ∙ same_not (bit p word))
        ∙ and_false r'.checkpoint

    own-A2 : (x a ta : ℕ) (ans : Option Answer) → AtStage rows start Late p k t s.words s.log r A2 x a ans → Own rows start Late p t s r (move_of rows s.log p t k (row_numbered rows k).word r (decide (row_numbered rows k) p t word r A2 x a ta ans))
    unfolding decide_in
    own-A2 x a ta ans h =
        let kind : Kind = kind_of (row_numbered rows k) in
        let r' : Process = with_kept (Busy A3 x a ta ans) (kept_by kind r.kept (not (bit p x)) (value x)) r in
        let keeps : Keeps rows start p k x r'.kept = record { turned = bit_kept kind r.kept (not (bit p x)) (value x); recalls = kept_says kind r.kept (not (bit p x)) (value x) } in
        own_quiet r' refl refl (none_due r h.0 h.1 ∙ sym (none_due r' h.0 (unmatched r' a x h.2 keeps))) (working k o ((h.0, reading_later a x h.2, keeps)))

    own-A3 : (x a ta : ℕ) (ans : Option Answer) → AtStage rows start Late p k t s.words s.log r A3 x a ans → Own rows start Late p t s r (move_of rows s.log p t k (row_numbered rows k).word r (decide (row_numbered rows k) p t word r A3 x a ta ans))
    unfolding decide_in
    own-A3 x a ta ans h =
        let r' : Process = with_checkpoint (Busy A4 x a ta ans) true r in
        own_quiet r' refl refl (none_due r h.0 (unmatched r a x h.1 h.2) ∙ sym (none_due r' h.0 (unmatched r' a x h.1 h.2))) (working k o ((h.0, refl, reading_later a x h.1, h.2)))

    own-A6 : (x a ta : ℕ) (ans : Option Answer) → AtStage rows start Late p k t s.words s.log r A6 x a ans → Own rows start Late p t s r (move_of rows s.log p t k (row_numbered rows k).word r (decide (row_numbered rows k) p t word r A6 x a ta ans))
    unfolding decide_in due
    own-A6 x a ta ans h =
        make_busy (record { process = closed r; effect = replies (entry t p k ans) }) (refl, named, refl) (λ ps. own_close rows start Late p t s r l k o (entry t p k ans) ans ps refl refl refl (rw (h.1, h.2)))

    own-V1 : (x a ta : ℕ) (ans : Option Answer) → Own rows start Late p t s r (move_of rows s.log p t k (row_numbered rows k).word r (decide (row_numbered rows k) p t word r V1 x a ta ans))
    unfolding decide_in
    own-V1 x a ta ans = go r.stored refl
      where
        go : (c : Option Answer) → r.stored ≡ c → Own rows start Late p t s r (alone (with_status (Busy (recovered c) x a ta ans) r))
        go None e = own_quiet (with_status (Busy V2 x a ta ans) r) refl refl refl (working k o e)
        go (Some b) e = own_quiet (with_status (Busy V5 x a ta ans) r) refl refl refl (working k o ((b, e)))

    own-V2 : (x a ta : ℕ) (ans : Option Answer) → AtStage rows start Late p k t s.words s.log r V2 x a ans → Own rows start Late p t s r (move_of rows s.log p t k (row_numbered rows k).word r (decide (row_numbered rows k) p t word r V2 x a ta ans))
    unfolding decide_in
    own-V2 x a ta ans h = go r.checkpoint refl
      where
        go : (c : Bool) → r.checkpoint ≡ c → Own rows start Late p t s r (alone (with_status (Busy (cond c V3 V6) x a ta ans) r))
        go true e = own_quiet (with_status (Busy V3 x a ta ans) r) refl refl refl (working k o ((h, e)))
        go false e = own_quiet (with_status (Busy V6 x a ta ans) r) refl refl refl (working k o ((h, ap (λ c. c && same_bit (bit p word) r.kept.bit) e)))

    own-V3 : (x a ta : ℕ) (ans : Option Answer) → AtStage rows start Late p k t s.words s.log r V3 x a ans → Own rows start Late p t s r (move_of rows s.log p t k (row_numbered rows k).word r (decide (row_numbered rows k) p t word r V3 x a ta ans))
    unfolding decide_in
    own-V3 x a ta ans h = go (same_bit (bit p word) r.kept.bit) refl
      where
        go : (c : Bool) → same_bit (bit p word) r.kept.bit ≡ c → Own rows start Late p t s r (alone (with_status (Busy (cond c V4 V6) word a ta ans) r))
        go true e = own_quiet (with_status (Busy V4 word a ta ans) r) refl refl refl (working k o ((h.0, ap₂ (λ c m. c && m) h.1 e)))
        go false e = own_quiet (with_status (Busy V6 word a ta ans) r) refl refl refl (working k o ((h.0, ap₂ (λ c m. c && m) h.1 e)))

    own-V4 : (x a ta : ℕ) (ans : Option Answer) → AtStage rows start Late p k t s.words s.log r V4 x a ans → Own rows start Late p t s r (move_of rows s.log p t k (row_numbered rows k).word r (decide (row_numbered rows k) p t word r V4 x a ta ans))
    unfolding decide_in due
    own-V4 x a ta ans h =
        own_quiet (with_stored (Busy V5 x a ta ans) (Some (says rows start k r.kept)) r) refl refl (swap_due s.words h.0 h.1) (working k o ((says rows start k r.kept, refl)))

    own-V5 : (x a ta : ℕ) (ans : Option Answer) → AtStage rows start Late p k t s.words s.log r V5 x a ans → Own rows start Late p t s r (move_of rows s.log p t k (row_numbered rows k).word r (decide (row_numbered rows k) p t word r V5 x a ta ans))
    unfolding decide_in due
    own-V5 x a ta ans h =
        make_busy (record { process = closed r; effect = replies (entry t p k r.stored) }) (refl, named, refl) (λ ps. own_close rows start Late p t s r l k o (entry t p k r.stored) r.stored ps refl refl refl (rw h.1))

    own-V6 : (x a ta : ℕ) (ans : Option Answer) → AtStage rows start Late p k t s.words s.log r V6 x a ans → Own rows start Late p t s r (move_of rows s.log p t k (row_numbered rows k).word r (decide (row_numbered rows k) p t word r V6 x a ta ans))
    unfolding decide_in
    own-V6 x a ta ans h =
        make_busy (record { process = closed r; effect = replies (entry t p k None) }) (refl, named, refl) (λ ps. own_close rows start Late p t s r l k o (entry t p k None) None ps refl refl refl (none_due r h.0 h.1))

    -- A4: what the swap says, and the word that it makes
    abbrev said_at : ℕ → Answer
    said_at x = swap_says (kind_of (row_numbered rows k)) (value x)

    abbrev made_of : ℕ → ℕ
    made_of x = swapped p (new_of (row_numbered rows k) (value x)) x

    -- the swap succeeds
    swapping : (x a : ℕ) → Reading rows start Late p k t a x s.words s.log → eqb word x ≡ true → Swapping rows start Late p k t s (row_numbered rows k).word (made_of x) (entry t p k (Some (said_at x)))
    swapping x a h e =
        let q : word ≡ x = eqb-true word x e in
        let v : get_or (final rows start s.log) (row_numbered rows k).word 0 ≡ value x = plain rows start good Late t s g (row_numbered rows k).word ∙ ap value q in
        record {
          at = refl;
          late = now;
          row = refl;
          truly = says-swapped (kind_of (row_numbered rows k)) (value x);
          word = refl;
          new = ap made_of (sym q);
          there = named;
          right = sym (ap (answer_of (row_numbered rows k)) v ∙ answer_swap (row_numbered rows k) (value x) h.goes_on);
        }

    matched : (x : ℕ) → r.checkpoint ≡ true → Keeps rows start p k x r.kept → has_swapped rows start p k (set s.words (row_numbered rows k).word (made_of x)) r ≡ true
    matched x c kept =
        let inside : (row_numbered rows k).word < length s.words = subst (λ n. (row_numbered rows k).word < n) (sym (words_length rows start good Late t s g)) (good k).inside in
        let own : bit p (get_or (set s.words (row_numbered rows k).word (made_of x)) (row_numbered rows k).word 0) ≡ not (bit p x) =
        ap (bit p) (get_or-set_same s.words (row_numbered rows k).word (made_of x) 0 inside) ∙ (after_swap width p (new_of (row_numbered rows k) (value x)) x ((good k).fits (value x))).own in
        ap₂ (λ c b. c && b) c (ap₂ same_bit own kept.turned ∙ same_self (not (bit p x)))

    -- the word is not as read: another's swap has come since
    beaten_since : (x a : ℕ) → eqb word x ≡ false → Since rows start p (row_numbered rows k).word a word x s.log → HasOther rows start p (row_numbered rows k).word a s.log
    beaten_since x a q (as_read n) = absurd (eqb-false word x q n)
    beaten_since x a q (overtaken n) = n

    own-A4 : (x a ta : ℕ) (ans : Option Answer) → AtStage rows start Late p k t s.words s.log r A4 x a ans → Own rows start Late p t s r (move_of rows s.log p t k (row_numbered rows k).word r (decide (row_numbered rows k) p t word r A4 x a ta ans))
    unfolding decide_in tried_in apply
    own-A4 x a ta ans h = go (eqb word x) refl
      where
        e : Entry
        e = entry t p k (Some (said_at x))

        r' : Process
        r' = with_status (Busy A5 x a t (Some (said_at x))) r

        absent : of k s.log ≡ []
        absent = stood None (none_due r h.0 (unmatched r a x h.2 h.3))

        won_due : owed rows start p k (set s.words (row_numbered rows k).word (made_of x)) r ≡ Some (said_at x)
        won_due = swap_due (set s.words (row_numbered rows k).word (made_of x)) h.0 (matched x h.1 h.3) ∙ ap Some h.3.recalls

        -- a lost compare is false, a lost advance goes back to A1
        lose : (kind : Kind) → kind_of (row_numbered rows k) ≡ kind → GoesOn kind (row_numbered rows k).old (value x) → eqb word x ≡ false → Own rows start Late p t s r (alone (with_status (lost_by kind x a t) r))
        lose Read f on q = absurd on
        lose Compare f on q =
            own_quiet (with_status (Busy A5 x a t (Some False)) r) refl refl refl
            (working k o ((h.0, lost (seen_later a x h.2.seen) refl f on (other_swap rows start p (row_numbered rows k).word a s.log (beaten_since x a q h.2.since)) (unmatched r a x h.2 h.3))))
        lose Advance f on q = own_quiet (with_status (Busy A1 0 0 0 None) r) refl refl refl (working k o ((h.0, unmatched r a x h.2 h.3)))

        go : (c : Bool) → eqb word x ≡ c
            → Own rows start Late p t s r (move_of rows s.log p t k (row_numbered rows k).word r (cond c (Swaps (with_status (Busy A5 x a t (Some (said_at x))) r) (made_of x) (said_at x)) (Quiet (with_status (lost_by (kind_of (row_numbered rows k)) x a t) r))))
        go true q =
            make_busy (record { process = r'; effect = swaps (row_numbered rows k).word (made_of x) e }) (swapping x a h.2 q)
            (λ ps. own_step rows start Late p t s r l k o (apply (swaps (row_numbered rows k).word (made_of x) e) ps s) r' refl refl
            (λ j n. of-put j e (put e s.log g.sorted) (λ m. n (sym m))) refl
            (subst (λ d. Logged p k d (insert e s.log)) (sym won_due) (record { entry = e; once = of_put_own k e (put e s.log g.sorted) refl absent; process = refl; says_so = refl }))
            (working k o ((h.0, won (ap Some (sym h.3.recalls)) (matched x h.1 h.3)))))
        go false q = lose (kind_of (row_numbered rows k)) refl h.2.goes_on q

    -- A5: an answer that tells of no swap enters the log, at a place where it is right
    own_logs : (x a ta q : ℕ) (b : Answer) → is_swapped (spoken (Some b)) ≡ false → q < t → Late k q → RightAt rows (final rows start (early q s.log)) (entry q p k (Some b)) → of k s.log ≡ []
        → Own rows start Late p t s r (record { process = with_stored (Busy A6 x a ta (Some b)) (Some b) r; effect = logs (entry q p k (Some b)) })
    unfolding apply due
    own_logs x a ta q b nt past late right absent =
        let e : Entry = entry q p k (Some b) in
        make_busy (record { process = with_stored (Busy A6 x a ta (Some b)) (Some b) r; effect = logs (entry q p k (Some b)) })
        (record { past = past; late = late; row = refl; no_swap = nt; there = named; right = right })
        (λ ps. own_step rows start Late p t s r l k o (apply (logs e) ps s) (with_stored (Busy A6 x a ta (Some b)) (Some b) r) refl refl
        (λ j n. of-put j e (put e s.log g.sorted) (λ m. n (sym m))) refl
        (record { entry = e; once = of_put_own k e (put e s.log g.sorted) refl absent; process = refl; says_so = refl })
        (working k o (b, refl, refl)))

    -- the place of a lost swap: after its A1, before now, and where its word has another value
    pub record Place (a q : ℕ) : Type 0 where
      pub after : a < q
      pub past : q < t

    swap_place : (a ta : ℕ) → HasSwap rows start (row_numbered rows k).word a s.log → Place a (first_swap rows (row_numbered rows k).word a ta s.log)
    swap_place a ta n =
        let d : Found (is_swap rows (row_numbered rows k).word a) s.log n.entry = keep-found (is_swap rows (row_numbered rows k).word a) s.log n.entry n.rest n.is in
        let q : first_swap rows (row_numbered rows k).word a ta s.log ≡ n.entry.position = first_swap_lem rows (row_numbered rows k).word a ta s.log n.entry n.rest n.is in
        let b : All (λ e. e.position < t) (d.front ++ n.entry ∷ d.back) = rw d.whole at g.below in
        rw q
        (record {
          after = (swap_on rows (row_numbered rows k).word a n.entry d.passes).later;
          past = (all_right (λ e. e.position < t) d.front (n.entry ∷ d.back) b).0;
        })

    -- A5: a swap that succeeded is in the log since A4
    own_won : (x a ta : ℕ) (ans : Option Answer) → r.stored ≡ None → has_swapped rows start p k s.words r ≡ true → ans ≡ Some (says rows start k r.kept)
        → Own rows start Late p t s r (move_of rows s.log p t k (row_numbered rows k).word r (decide (row_numbered rows k) p t word r A5 x a ta ans))
    unfolding decide_in due
    own_won x a ta ans st m e =
        let next : Process = with_stored (Busy A6 x a ta ans) ans r in
        let is : storing (row_numbered rows k) next x a ta ans ≡ Quiet next = ap (storing (row_numbered rows k) next x a ta) e ∙ says_stored (kind_of (row_numbered rows k)) r.kept.value (row_numbered rows k) next x a ta in
        subst (λ u. Own rows start Late p t s r (move_of rows s.log p t k (row_numbered rows k).word r u)) (sym is)
        (own_quiet next refl refl (swap_due s.words st m ∙ rw e refl) (working k o (says rows start k r.kept, e, e)))

    own-A5 : (x a ta : ℕ) (ans : Option Answer) → r.stored ≡ None → Pending rows start Late p k t a x s.log (has_swapped rows start p k s.words r) r.kept ans → Own rows start Late p t s r (move_of rows s.log p t k (row_numbered rows k).word r (decide (row_numbered rows k) p t word r A5 x a ta ans))
    unfolding decide_in storing_in is_swapped spoken
    own-A5 x a ta ans st (won e m) = own_won x a ta ans st m e
    own-A5 x a ta None st (held h e n m) = absurd (answer_never (row_numbered rows k) (value x) e)
    own-A5 x a ta (Some True) st (held h e n m) = absurd (true≢false n)
    own-A5 x a ta (Some (Was v)) st (held h e n m) = absurd (true≢false n)
    own-A5 x a ta (Some False) st (held h e n m) =
        rw (answer_false (row_numbered rows k) (value x) e)
        (own_logs x a ta a False refl h.past h.late (e ∙ ap (answer_of (row_numbered rows k)) (sym h.then)) (stood None (none_due r st m)))
    own-A5 x a ta (Some (Value v)) st (held h e n m) = own_logs x a ta a (Value v) refl h.past h.late (e ∙ ap (answer_of (row_numbered rows k)) (sym h.then)) (stood None (none_due r st m))
    own-A5 x a ta ans st (lost h e c v w m) =
        let q : ℕ = first_swap rows (row_numbered rows k).word a ta s.log in
        let pl : Place a q = swap_place a ta w in
        let le : a < q = pl.after in
        subst (λ ans. Own rows start Late p t s r (move_of rows s.log p t k (row_numbered rows k).word r (decide (row_numbered rows k) p t word r A5 x a ta ans))) (sym e)
        (rw (eq-eqb (value x) (row_numbered rows k).old v)
        (own_logs x a ta q False refl pl.past (mono k a q (omega arith) h.late)
        (sym (answer_other (row_numbered rows k) (get_or (final rows start (early q s.log)) (row_numbered rows k).word 0) c
        (λ y. replay.lost rows start good (row_numbered rows k).word a ta s.log w.entry w.rest g.sorted g.right g.there w.is (y ∙ sym v ∙ sym h.then))))
        (stood None (none_due r st m))))

    pub own_stage : (stage : Stage) (x a ta : ℕ) (ans : Option Answer) → AtStage rows start Late p k t s.words s.log r stage x a ans → Own rows start Late p t s r (move_of rows s.log p t k (row_numbered rows k).word r (decide (row_numbered rows k) p t word r stage x a ta ans))
    own_stage A1 x a ta ans h = own-A1 x a ta ans h
    own_stage A2 x a ta ans h = own-A2 x a ta ans h
    own_stage A3 x a ta ans h = own-A3 x a ta ans h
    own_stage A4 x a ta ans h = own-A4 x a ta ans h
    own_stage A5 x a ta ans h = own-A5 x a ta ans h.0 h.1
    own_stage A6 x a ta ans h = own-A6 x a ta ans h
    own_stage V1 x a ta ans h = own-V1 x a ta ans
    own_stage V2 x a ta ans h = own-V2 x a ta ans h
    own_stage V3 x a ta ans h = own-V3 x a ta ans h
    own_stage V4 x a ta ans h = own-V4 x a ta ans h
    own_stage V5 x a ta ans h = own-V5 x a ta ans h
    own_stage V6 x a ta ans h = own-V6 x a ta ans h
