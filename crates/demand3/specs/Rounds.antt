-- Lock-freedom, counted (R258): a row has at most one round more than the log tells of successful swaps of other processes on its word. For each round but the
-- last was ended by such a swap, later than the A1 of the round and earlier than its A4 (R118), and rounds do not overlap: in the midst of a round the
-- rounds so far are one more, at most, than the swaps up to its A1 (`Ahead`). What a byte makes of the record keeps this.
use Prim.Native.Nat.{ℕ, suc, ◌+◌, ◌≤◌, ◌<◌}
use Rattle.std.specs.Prelude.{◌≡◌, Bool, true, false, not, cond, ◌&&◌, eqb, leb, ltb, length, get_or, Option, Some, None, ℕ}
use Rattle.std.proofs.Math.Path.{refl, subst}
use Rattle.std.proofs.Common.{sym, ◌∙◌, ap, zero-add}
use mathlib.Core.List.{List, [], ◌∷◌, ◌++◌, map}
use native.Mathlib.Omega.{arith}
use borrow.Author.Tests.{eq-eqb, eqb-true, eqb-false, le-leb, lt-leb}
use Rattle.runfile.specs.declared.Row.{Row}
use Rattle.runfile.specs.declared.Kind.{Kind}
use Rattle.runfile.specs.Operations.{row_numbered, first, count}
use Rattle.runfile.specs.Kinds.{kind_of, new_of}
use Rattle.runfile.specs.Actions.{named}
use Rattle.word.specs.Word.{value, bit, swapped}
use Rattle.rows.specs.declared.Entry.{Entry}
use Rattle.rows.specs.Log.{is_swap}
use Rattle.machine.specs.declared.Process.{Process}
use Rattle.machine.specs.declared.Answer.{Answer}
use Rattle.machine.specs.declared.Answer.TheVariants.{False}
use Rattle.machine.specs.declared.Stage.{Stage}
use Rattle.machine.specs.declared.Stage.TheVariants.{A1, A2, A3, A4, A5, A6, V1, V2, V3, V4, V5, V6}
use Rattle.machine.specs.declared.Status.{Status}
use Rattle.machine.specs.declared.Status.TheVariants.{Down, Idle, N2, N3, Busy}
use Rattle.machine.specs.Records.{crashed, waked, woken_up, with_status, with_stored, started, row_open}
use Rattle.machine.specs.Turn.{Still, Quiet, Swaps}
use Rattle.machine.specs.Steps.{swap_says, lost_by, same_bit, recovered, tried_in, decide, decide_in, at_work, step_turn_in}
use Rattle.machine.specs.KindLaws.{either, read_leads, lost_leads, stored_leads}
use Rattle.machine.specs.Machine.{State, Effect, quiet, swaps, logs, replies, process_of, log_after, proc_at, turn, turn_in, step, after, after_in, begin}
use Rattle.replay.specs.Lists.{All, all_of, all_map, Found, keep-found, many, many-put, many_le, many_less}
use Rattle.replay.specs.Logs.{Sorted, Put, put}
use Rattle.replay.specs.Replay.{SwapOn, both_true_0, both_true_1, swap_on}
use Rattle.demand3.specs.Statement.{is_row, counts, owner_of, word_of}
use Rattle.demand3.specs.FlipBit.{is_a1, comes, round_count, is_rival, rivals}
use Rattle.demand3.specs.Invariant.{is_other, HasOther, IsOpen, Local, Inv}
use Rattle.demand3.specs.Plans.{Plan}
use Rattle.demand3.specs.Preserve.{inv_step, inv_begin}
use Rattle.demand3.specs.Moves.{became, does, Does, nothing, allowed}
use Rattle.demand3.specs.Order.{Always, good, own}
use Rattle.demand3.specs.Positions.{open_same}
use Rattle.demand3.specs.GoesBack.{overtaken_at}

-- who is not at A1 of the row has not come there, and who is there has not come there again
not_come : (x y : Bool) → y ≡ false → (not x && y) ≡ false
not_come true y h = refl
not_come false y h = h

not_there : (x y : Bool) → y ≡ false → (x && y) ≡ false
not_there true y h = h
not_there false y h = refl

not_again : (x : Bool) → (not x && x) ≡ false
not_again true = refl
not_again false = refl

at_most : (b : Bool) → counts b ≤ 1
at_most true = omega arith
at_most false = omega arith

-- in the midst of a round: the word is read, and the swap is not yet tried
abbrev in_round : Stage → Bool
in_round A1 = false
in_round A2 = true
in_round A3 = true
in_round A4 = true
in_round A5 = false
in_round A6 = false
in_round V1 = false
in_round V2 = false
in_round V3 = false
in_round V4 = false
in_round V5 = false
in_round V6 = false

-- a log that has come to more: whatever is counted, no fewer pass
abbrev Grows : List Entry → List Entry → Type 0
Grows log log' = (test : Entry → Bool) → many test log ≤ many test log'

module _ (rows : List Row) (start : List ℕ) (p k : ℕ) where
  abbrev w : ℕ
  w = (row_numbered rows k).word

  abbrev rival : Entry → Bool
  rival = is_rival rows p w

  -- such a swap up to position a
  abbrev up_to : ℕ → Entry → Bool
  up_to a e = leb e.position a && rival e

  -- the swaps that may have ended the rounds so far
  abbrev ended : Status → List Entry → ℕ
  ended Down log = many rival log
  ended Idle log = many rival log
  ended N2 log = many rival log
  ended N3 log = many rival log
  ended (Busy stage seen read_at tried_at answer) log = cond (in_round stage) (many (up_to read_at) log) (many rival log)

  -- n rounds of row k so far, its process p having the record r
  record Ahead (n : ℕ) (r : Process) (log : List Entry) : Type 0 where
    unbegun : (k < first rows p + r.begun → ⊥) → n ≡ 0
    all : n ≤ suc (many rival log)
    now : r.opened ≡ Some k → n ≤ suc (ended r.status log)

  rival-of : (a : ℕ) (e : Entry) → is_other rows start p w a e ≡ true → (rival e ≡ true) × (a < e.position)
  unfolding is_other is_rival
  rival-of a e h =
      let q : SwapOn rows w a e = swap_on rows w a e (both_true_0 (is_swap rows w a e) (not (eqb (owner_of rows e.row) p)) h) in
      (rw (q.swap_said, eq-eqb (row_numbered rows e.row).word w q.on, both_true_1 (is_swap rows w a e) (not (eqb (owner_of rows e.row) p)) h), q.later)

  -- a swap between the A1 and now is one more
  one_more : (a : ℕ) (log : List Entry) → HasOther rows start p w a log → suc (many (up_to a) log) ≤ many rival log
  one_more a log h =
      let e : Entry = h.entry in
      let d : Found (is_other rows start p w a) log e = keep-found (is_other rows start p w a) log e h.rest h.is in
      let is = rival-of a e d.passes in
      subst (λ l. suc (many (up_to a) l) ≤ many rival l) (sym d.whole)
      (many_less (up_to a) rival d.front d.back e (all_of (λ f. up_to a f ≡ true → rival f ≡ true) (λ f. both_true_1 (leb f.position a) (rival f)) (d.front ++ e ∷ d.back)) (ap (λ c. c && rival e) (lt-leb e.position a is.1)) is.0)

  -- at the time of an A1 all that are there are up to it
  all_up_to : (t : ℕ) (log : List Entry) → All (λ e. e.position < t) log → many rival log ≤ many (up_to t) log
  all_up_to t log below =
      many_le rival (up_to t) log (all_map (λ e. e.position < t) (λ e. rival e ≡ true → up_to t e ≡ true) (λ e q r. rw (le-leb e.position t (omega arith), r)) log below)

  ended_grows : (log log' : List Entry) → Grows log log' → (st : Status) → ended st log ≤ ended st log'
  ended_grows log log' g Down = g rival
  ended_grows log log' g Idle = g rival
  ended_grows log log' g N2 = g rival
  ended_grows log log' g N3 = g rival
  ended_grows log log' g (Busy stage seen read_at tried_at answer) = go (in_round stage)
    where
      go : (c : Bool) → cond c (many (up_to read_at) log) (many rival log) ≤ cond c (many (up_to read_at) log') (many rival log')
      go true = g (up_to read_at)
      go false = g rival

  -- what a byte may make of the record, while the log comes to more
  module _ (log log' : List Entry) (r : Process) (n : ℕ) (g : Grows log log') (h : Ahead n r log) where
    abbrev Next : Process → Type 0
    Next next = Ahead (counts (comes rows k r next) + n) next log'

    grown : n ≤ suc (many rival log')
    grown = let a : n ≤ suc (many rival log) = h.all in let b : many rival log ≤ many rival log' = g rival in omega arith

    -- it has not come to A1: the count stays
    calm : (next : Process) → comes rows k r next ≡ false → Ahead n next log' → Next next
    calm next e a = subst (λ m. Ahead m next log') (sym (ap (λ b. counts b + n) e ∙ zero-add n)) a

    same : Next r
    same =
        calm r (not_again (is_row k r.opened && is_a1 r.status))
        (record {
          unbegun = h.unbegun;
          all = grown;
          now = λ o. let a : n ≤ suc (ended r.status log) = h.now o in let b : ended r.status log ≤ ended r.status log' = ended_grows log log' g r.status in omega arith;
        })

    -- it goes on, and not to A1: with so many swaps counted, or with all of them
    onward : (next : Process) → next.opened ≡ r.opened → next.begun ≡ r.begun → is_a1 next.status ≡ false → (r.opened ≡ Some k → n ≤ suc (ended next.status log')) → Next next
    onward next o b a bound =
        calm next (not_come (is_row k r.opened && is_a1 r.status) (is_row k next.opened && is_a1 next.status) (not_there (is_row k next.opened) (is_a1 next.status) a))
        (record { unbegun = λ not_yet. h.unbegun (λ q. not_yet (subst (λ m. k < first rows p + m) (sym b) q)); all = grown; now = λ q. bound (sym o ∙ q) })

    free : (next : Process) → next.begun ≡ r.begun → is_a1 next.status ≡ false → ended next.status log' ≡ many rival log' → Next next
    free next b a e =
        calm next (not_come (is_row k r.opened && is_a1 r.status) (is_row k next.opened && is_a1 next.status) (not_there (is_row k next.opened) (is_a1 next.status) a))
        (record { unbegun = λ not_yet. h.unbegun (λ q. not_yet (subst (λ m. k < first rows p + m) (sym b) q)); all = grown; now = λ q. subst (λ m. n ≤ suc m) (sym e) grown })

    crash_next : Next (crashed r)
    crash_next = free (crashed r) refl refl refl

    wake_next : (st : Status) → Next (waked r st)
    wake_next Down = go r.opened
      where
        go : (o : Option ℕ) → Next (with_status (woken_up o) r)
        go None = free (with_status Idle r) refl refl refl
        go (Some j) = free (with_status (Busy V1 0 0 0 None) r) refl refl refl
    wake_next Idle = same
    wake_next N2 = same
    wake_next N3 = same
    wake_next (Busy stage seen read_at tried_at answer) = same

    -- a step, at time t
    module _ (t : ℕ) (words : List ℕ) (below : All (λ e. e.position < t) log) (open_begun : r.opened ≡ Some k → k < first rows p + r.begun)
        (beaten : (x a ta : ℕ) (ans : Option Answer) → r.status ≡ Busy A4 x a ta ans → r.opened ≡ Some k → (word_of rows k words ≡ x → ⊥) → HasOther rows start p w a log) where
      -- a row is begun: the first round of row k, or none of its
      begins : Next (started (first rows p + r.begun) r)
      begins = go (eqb (first rows p + r.begun) k) refl
        where
          next : Process
          next = started (first rows p + r.begun) r

          go : (c : Bool) → eqb (first rows p + r.begun) k ≡ c → Next next
          go true q =
              let is : first rows p + r.begun ≡ k = eqb-true (first rows p + r.begun) k q in
              let z : n ≡ 0 = h.unbegun (λ l. omega arith) in
              let b : counts (comes rows k r next) ≤ 1 = at_most (comes rows k r next) in
              record { unbegun = λ not_yet. absurd (not_yet (omega arith)); all = omega arith; now = λ o. omega arith }
          go false q =
              calm next (not_come (is_row k r.opened && is_a1 r.status) (is_row k next.opened && is_a1 next.status) (ap (λ c. c && true) q))
              (record { unbegun = λ not_yet. h.unbegun (λ l. not_yet (omega arith)); all = grown; now = λ o. absurd (eqb-false (first rows p + r.begun) k q (open_same refl o)) })

      module _ (j : ℕ) (o : r.opened ≡ Some j) where
        abbrev row : Row
        row = row_numbered rows j

        abbrev word : ℕ
        word = word_of rows j words

        -- a lost advance goes back, and is beaten by one swap more than those up to its A1
        back : (x a ta : ℕ) (ans : Option Answer) → r.status ≡ Busy A4 x a ta ans → (word ≡ x → ⊥) → Next (with_status (Busy A1 0 0 0 None) r)
        back x a ta ans e lost = go (eqb j k) refl
          where
            next : Process
            next = with_status (Busy A1 0 0 0 None) r

            go : (c : Bool) → eqb j k ≡ c → Next next
            go true q =
                let is : j ≡ k = eqb-true j k q in
                let ok : r.opened ≡ Some k = o ∙ ap Some is in
                let so_far : n ≤ suc (many (up_to a) log) = subst (λ st. n ≤ suc (ended st log)) e (h.now ok) in
                let more : suc (many (up_to a) log) ≤ many rival log = one_more a log (beaten x a ta ans e ok (subst (λ j. word_of rows j words ≡ x → ⊥) is lost)) in
                let up : many rival log ≤ many rival log' = g rival in
                let b : counts (comes rows k r next) ≤ 1 = at_most (comes rows k r next) in
                record { unbegun = λ not_yet. absurd (not_yet (open_begun ok)); all = omega arith; now = λ _. omega arith }
            go false q =
                calm next (not_come (is_row k r.opened && is_a1 r.status) (is_row k r.opened && true) (ap (λ c. c && true) (ap (is_row k) o ∙ q)))
                (record { unbegun = h.unbegun; all = grown; now = λ _. grown })

        -- A1 begins to count at its own time, and A2 and A3 go on so
        reads_on : Next (with_status (Busy A2 word t 0 None) r)
        reads_on =
            onward (with_status (Busy A2 word t 0 None) r) refl refl refl
            (λ _. let a : n ≤ suc (many rival log) = h.all in let b : many rival log ≤ many (up_to t) log = all_up_to t log below in let c : many (up_to t) log ≤ many (up_to t) log' = g (up_to t) in omega arith)

        counted : (x a ta : ℕ) (ans : Option Answer) (stage : Stage) → in_round stage ≡ true → r.status ≡ Busy stage x a ta ans → r.opened ≡ Some k → n ≤ suc (many (up_to a) log')
        counted x a ta ans stage i e ok =
            let b : n ≤ suc (cond (in_round stage) (many (up_to a) log) (many rival log)) = subst (λ st. n ≤ suc (ended st log)) e (h.now ok) in
            let d : n ≤ suc (many (up_to a) log) = subst (λ c. n ≤ suc (cond c (many (up_to a) log) (many rival log))) i b in
            let c : many (up_to a) log ≤ many (up_to a) log' = g (up_to a) in
            omega arith

        tries : (x a ta : ℕ) (ans : Option Answer) → r.status ≡ Busy A4 x a ta ans → (y : ℕ) (says : Answer) (kind : Kind) (c : Bool) → eqb word x ≡ c
            → Next (process_of r (cond c (Swaps (with_status (Busy A5 x a t (Some says)) r) y says) (Quiet (with_status (lost_by kind x a t) r))))
        tries x a ta ans e y says kind true q = free (with_status (Busy A5 x a t (Some says)) r) refl refl refl
        tries x a ta ans e y says kind false q =
            lost_leads (λ st. Next (with_status st r)) kind x a t (free (with_status (Busy A5 x a t (Some False)) r) refl refl refl) (back x a ta ans e (eqb-false word x q))

        stage_next : (stage : Stage) (x a ta : ℕ) (ans : Option Answer) → r.status ≡ Busy stage x a ta ans → Next (process_of r (decide row p t word r stage x a ta ans))
        unfolding decide_in tried_in
        stage_next A1 x a ta ans e = read_leads (λ st. Next (with_status st r)) row word t reads_on (λ answer. free (with_status (Busy A5 word t 0 (Some answer)) r) refl refl refl)
        stage_next A2 x a ta ans e = onward _ refl refl refl (counted x a ta ans A2 refl e)
        stage_next A3 x a ta ans e = onward _ refl refl refl (counted x a ta ans A3 refl e)
        stage_next A4 x a ta ans e = tries x a ta ans e (swapped p (new_of row (value x)) x) (swap_says (kind_of row) (value x)) (kind_of row) (eqb word x) refl
        stage_next A5 x a ta ans e =
            let next : Process = with_stored (Busy A6 x a ta ans) ans r in
            stored_leads (λ u. Next (process_of r u)) row next x a ta ans (free next refl refl refl) (λ answer _. free next refl refl refl) (free next refl refl refl)
        stage_next A6 x a ta ans e = free _ refl refl refl
        stage_next V1 x a ta ans e = go r.stored
          where
            go : (m : Option Answer) → Next (with_status (Busy (recovered m) x a ta ans) r)
            go None = free _ refl refl refl
            go (Some b) = free _ refl refl refl
        stage_next V2 x a ta ans e = either (λ stage. Next (with_status (Busy stage x a ta ans) r)) r.checkpoint V3 V6 (free _ refl refl refl) (free _ refl refl refl)
        stage_next V3 x a ta ans e = either (λ stage. Next (with_status (Busy stage word a ta ans) r)) (same_bit (bit p word) r.kept.bit) V4 V6 (free _ refl refl refl) (free _ refl refl refl)
        stage_next V4 x a ta ans e = free _ refl refl refl
        stage_next V5 x a ta ans e = free _ refl refl refl
        stage_next V6 x a ta ans e = free _ refl refl refl

      turn_next : (st : Status) → r.status ≡ st → Next (turn rows p t words log r st).process
      unfolding turn_in step_turn_in
      turn_next Down e = same
      turn_next Idle e = either (λ u. Next (process_of r u)) (ltb r.begun (count rows p)) (Quiet (with_stored N2 None r)) Still (free _ refl refl refl) same
      turn_next N2 e = free _ refl refl refl
      turn_next N3 e = begins
      turn_next (Busy stage x a ta ans) e = go r.opened refl
        where
          go : (o : Option ℕ) → r.opened ≡ o → Next (process_of r (at_work (row_numbered rows (row_open o)) p t (get_or words (row_numbered rows (row_open o)).word 0) r o stage x a ta ans))
          go None q = same
          go (Some j) q = stage_next j q stage x a ta ans e

-- the log comes to more by whatever a byte does
grows_put : {l l' : List Entry} (e : Entry) → Put e l l' → Grows l l'
grows_put {l} {l'} e q test = subst (λ m. many test m ≤ many test l') (sym q.was) (subst (λ m. many test (q.front ++ q.back) ≤ many test m) (sym q.now) (many-put test q.front q.back e))

grows_effect : (f : Effect) (log : List Entry) → Sorted log → Grows log (log_after f log)
grows_effect quiet log so = λ test. omega arith
grows_effect (swaps i x e) log so = grows_put e (put e log so)
grows_effect (logs e) log so = grows_put e (put e log so)
grows_effect (replies e) log so = λ test. omega arith

module _ (rows : List Row) (words : List ℕ) (P : ℕ) (plan : Plan P (length words) rows) (k : ℕ) (there : k < length rows) where
  abbrev start : List ℕ
  start = map value words

  abbrev mine : ℕ
  mine = owner_of rows k

  abbrev Counted : ℕ → State → Type 0
  Counted n s = Ahead rows start mine k n (proc_at mine s) s.log

  module _ (t byte : ℕ) (s : State) (v : Inv rows start Always P t s) where
    grows : Grows s.log (step rows t byte s).log
    grows = go (does rows start (good rows words P plan) (own rows words P plan) Always (λ k a b h g. tt) P t s (λ p k o. tt) v byte)
      where
        go : Does rows start Always (named byte) t s (step rows t byte s) → Grows s.log (step rows t byte s).log
        go (nothing _ l _) = subst (Grows s.log) (sym l) (λ test. omega arith)
        go (allowed _ f _ _ _ _ l _) = subst (Grows s.log) (sym l) (grows_effect f s.log v.global.sorted)

    local : Local rows start Always mine t s (proc_at mine s)
    local = v.local mine (plan.present k there)

    open_begun : (proc_at mine s).opened ≡ Some k → k < first rows mine + (proc_at mine s).begun
    open_begun o =
        let h : IsOpen rows start mine k s (proc_at mine s) = local.opened k o in
        let b : (proc_at mine s).begun ≡ suc h.index = h.begun in
        let r : k ≡ first rows mine + h.index = h.row in
        omega arith

    counted_step : (n : ℕ) → Counted n s → Counted (counts (comes rows k (proc_at mine s) (proc_at mine (step rows t byte s))) + n) (step rows t byte s)
    counted_step n h =
        became rows (λ next. Ahead rows start mine k (counts (comes rows k (proc_at mine s) next) + n) next (step rows t byte s).log) t byte mine s
        (same rows start mine k s.log (step rows t byte s).log (proc_at mine s) n grows h)
        (turn_next rows start mine k s.log (step rows t byte s).log (proc_at mine s) n grows h t s.words v.global.below open_begun
        (λ x a ta ans e o. overtaken_at rows start P t s v mine (plan.present k there) k x a ta ans o e) (proc_at mine s).status refl)
        (crash_next rows start mine k s.log (step rows t byte s).log (proc_at mine s) n grows h)
        (wake_next rows start mine k s.log (step rows t byte s).log (proc_at mine s) n grows h (proc_at mine s).status)

  counted-after : (t : ℕ) (bytes : List ℕ) (s : State) → Inv rows start Always P t s → (n : ℕ) → Counted n s → Counted (round_count rows k t bytes s + n) (after rows t bytes s)
  unfolding after_in round_count
  counted-after t [] s v n h = subst (λ m. Counted m s) (sym (zero-add n)) h
  counted-after t (byte ∷ bytes) s v n h =
      let c : ℕ = counts (comes rows k (proc_at mine s) (proc_at mine (step rows t byte s))) in
      let b : ℕ = round_count rows k (suc t) bytes (step rows t byte s) in
      let joined : b + (c + n) ≡ c + b + n = omega arith in
      subst (λ m. Counted m (after rows (suc t) bytes (step rows t byte s))) joined
      (counted-after (suc t) bytes (step rows t byte s) (inv_step rows start (good rows words P plan) (own rows words P plan) Always (λ k a b h g. tt) t s (λ p k o. tt) P v byte) (c + n) (counted_step t byte s v n h))

  pub rounds : (schedule : List ℕ) → round_count rows k 0 schedule (begin P words) ≤ suc (rivals rows mine (row_numbered rows k).word (after rows 0 schedule (begin P words)).log)
  rounds schedule =
      let first : Counted 0 (begin P words) = record { unbegun = λ _. refl; all = omega arith; now = λ _. omega arith } in
      let all : round_count rows k 0 schedule (begin P words) + 0 ≤ suc (rivals rows mine (row_numbered rows k).word (after rows 0 schedule (begin P words)).log) = (counted-after 0 schedule (begin P words) (inv_begin rows Always P words) 0 first).all in
      omega arith
