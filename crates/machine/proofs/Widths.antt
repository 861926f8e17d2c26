-- Two machines of different widths run alike: one relation between their states is kept by every byte, since a step comes to the same turn at both widths,
-- and each turn keeps it.
use Prim.Native.Nat.{ℕ, zero, suc, ◌+◌, ◌^◌, ◌≤◌, ◌<◌}
use Rattle.std.specs.Prelude.{◌≡◌, Bool, not, eqb, ltb, set, Option, Some, None, ℕ}
use Rattle.std.proofs.Math.Path.{refl, ap, ap₂, subst}
use Rattle.std.proofs.Common.{sym, ◌∙◌}
use Rattle.std.proofs.Math.Bool.{true, false, cond}
use mathlib.Core.List.{List, [], ◌∷◌, ◌++◌, map}
use Rattle.std.proofs.Math.ListN.{get_or, replicate, get_or-map}
use Rattle.runfile.specs.declared.Row.{Row}
use Rattle.runfile.specs.declared.Kind.{Kind}
use Rattle.runfile.specs.declared.Kind.TheVariants.{Read, Compare, Advance}
use Rattle.runfile.specs.Kinds.{kind_of, new_in}
use Rattle.runfile.specs.Actions.{Action, step as steps, crash as crashes, wake as wakes, crash_all as crashes_all, none as idles, action, named}
use Rattle.runfile.specs.Operations.{row_numbered, first, count}
use Rattle.word.specs.Word.{value_in, flips_in, swapped_in}
use Rattle.word.specs.Widths.{rewidened, value-rewidened, flips-rewidened, bit-rewidened, swapped-rewidened, same-rewidened, zero_rewidened}
use Rattle.rows.specs.Log.{insert, first_swap}
use Rattle.machine.specs.declared.Process.{Process}
use Rattle.machine.specs.declared.Stage.{Stage}
use Rattle.machine.specs.declared.Stage.TheVariants.{A1, A2, A3, A4, A5, A6, V1, V2, V3, V4, V5, V6}
use Rattle.machine.specs.declared.Answer.{Answer}
use Rattle.machine.specs.declared.Answer.TheVariants.{False, True, Value, Was}
use Rattle.machine.specs.declared.Status.{Status}
use Rattle.machine.specs.declared.Status.TheVariants.{Down, Idle, N2, N3, Busy}
use Rattle.machine.specs.Turn.{Turn, Still, Quiet, Swaps, Logs, Loses, Replies}
use Rattle.machine.specs.Records.{fresh, with_status, with_kept, with_stored, started, crashed, waked, woken_up, row_open}
use Rattle.machine.specs.Steps.{entry, kept_by, read_by_in, swap_says, lost_by, tried_in, storing_in, same_bit, decide_in, at_work_in, step_turn_in}
use Rattle.machine.specs.Machine.{State, alone, move_of, apply, applied, proc_at, turn_in, act_in, step_in, after_in, begin}
use Rattle.machine.specs.Laws.{map-set}
use Rattle.machine.specs.Widths.{status_widened, record_widened, Agreeing, Alike, PrintsAlike}

module _ (a b : ℕ) where
  abbrev turn_widened : Turn → Turn
  turn_widened Still = Still
  turn_widened (Quiet next) = Quiet (record_widened a b next)
  turn_widened (Swaps next x says) = Swaps (record_widened a b next) (rewidened a b x) says
  turn_widened (Logs next q said) = Logs (record_widened a b next) q said
  turn_widened (Loses next after otherwise) = Loses (record_widened a b next) after otherwise
  turn_widened (Replies next said) = Replies (record_widened a b next) said

  -- a crash and a wake go by nothing that the width touches
  waked_alike : (r : Process) (status : Status) → waked (record_widened a b r) (status_widened a b status) ≡ record_widened a b (waked r status)
  waked_alike r Down = ap (λ st. with_status st r) (go r.opened)
    where
      go : (opened : Option ℕ) → woken_up opened ≡ status_widened a b (woken_up opened)
      go None = refl
      go (Some k) = ap (λ w. Busy V1 w 0 0 None) (sym (zero_rewidened a b))
  waked_alike r Idle = refl
  waked_alike r N2 = refl
  waked_alike r N3 = refl
  waked_alike r (Busy stage seen read_at tried_at answer) = refl

  all_crashed : (l : List Process) → map crashed (map (record_widened a b) l) ≡ map (record_widened a b) (map crashed l)
  all_crashed [] = refl
  all_crashed (r ∷ l) = ap (λ l. crashed r ∷ l) (all_crashed l)

  -- Turn by turn: whatever a turn is, done to states that are alike and rewidened in the second, it leaves states that are alike.
  module _ (s u : State) (h : Alike a b s u) where
    processes_set : (p : ℕ) (r : Process) → set u.processes p (record_widened a b r) ≡ map (record_widened a b) (set s.processes p r)
    processes_set p r = ap (λ l. set l p (record_widened a b r)) h.processes ∙ sym (map-set (record_widened a b) s.processes p r)

    words_set : (w x : ℕ) → set u.words w (rewidened a b x) ≡ map (rewidened a b) (set s.words w x)
    words_set w x = ap (λ l. set l w (rewidened a b x)) h.words ∙ sym (map-set (rewidened a b) s.words w x)

    keeps_turn : (rows : List Row) (p t k w : ℕ) (r : Process) (x : Turn)
        → Alike a b (applied p (move_of rows s.log p t k w r x) s) (applied p (move_of rows u.log p t k w (record_widened a b r) (turn_widened x)) u)
    unfolding applied apply
    keeps_turn rows p t k w r Still = record { words = h.words; processes = processes_set p r; log = h.log; answers = h.answers }
    keeps_turn rows p t k w r (Quiet next) = record { words = h.words; processes = processes_set p next; log = h.log; answers = h.answers }
    keeps_turn rows p t k w r (Swaps next x says) =
        record { words = words_set w x; processes = processes_set p next; log = ap (insert (entry t p k (Some says))) h.log; answers = h.answers }
    keeps_turn rows p t k w r (Logs next q said) =
        record { words = h.words; processes = processes_set p next; log = ap (insert (entry q p k (Some said))) h.log; answers = h.answers }
    keeps_turn rows p t k w r (Loses next after otherwise) = record {
      words = h.words;
      processes = processes_set p next;
      log = ap (λ l. insert (entry (first_swap rows w after otherwise l) p k (Some False)) l) h.log;
      answers = h.answers;
    }
    keeps_turn rows p t k w r (Replies next said) =
        record { words = h.words; processes = processes_set p next; log = h.log; answers = ap (λ l. l ++ (entry t p k said ∷ [])) h.answers }

    keeps_record : (p : ℕ) (next q : Process) → q ≡ record_widened a b next → Alike a b (applied p (alone next) s) (applied p (alone q) u)
    keeps_record p next q e = subst (λ q. Alike a b (applied p (alone next) s) (applied p (alone q) u)) (sym e) (keeps_turn [] p 0 0 0 next (Quiet next))

    proc_alike : (p : ℕ) → proc_at p u ≡ record_widened a b (proc_at p s)
    unfolding proc_at
    proc_alike p = ap (λ l. get_or l p fresh) h.processes ∙ get_or-map (record_widened a b) s.processes p fresh

    word_alike : (w : ℕ) → get_or u.words w 0 ≡ rewidened a b (get_or s.words w 0)
    word_alike w = ap₂ (λ l d. get_or l w d) h.words (sym (zero_rewidened a b)) ∙ get_or-map (rewidened a b) s.words w 0

  module _ (wider : a ≤ b) where
    -- A step comes to the same turn at both widths; here alone the stages are told apart.
    read_alike : (kind : Kind) (old now t : ℕ) → read_by_in b kind old (rewidened a b now) t ≡ status_widened a b (read_by_in a kind old now t)
    read_alike Read old now t = ap (λ v. Busy A5 (rewidened a b now) t 0 (Some (Value v))) (value-rewidened a b wider now)
    read_alike Compare old now t = rw (value-rewidened a b wider now) (go (eqb (value_in a now) old))
      where
        go : (c : Bool) → cond c (Busy A2 (rewidened a b now) t 0 None) (Busy A5 (rewidened a b now) t 0 (Some False)) ≡ status_widened a b (cond c (Busy A2 now t 0 None) (Busy A5 now t 0 (Some False)))
        go true = refl
        go false = refl
    read_alike Advance old now t = refl

    lost_alike : (kind : Kind) (seen read_at t : ℕ) → lost_by kind (rewidened a b seen) read_at t ≡ status_widened a b (lost_by kind seen read_at t)
    lost_alike Read seen read_at t = refl
    lost_alike Compare seen read_at t = refl
    lost_alike Advance seen read_at t = ap (λ w. Busy A1 w 0 0 None) (sym (zero_rewidened a b))

    tried_alike : (row : Row) → ((v : ℕ) → new_in a row v < 2 ^ a) → ((v : ℕ) → new_in b row v ≡ new_in a row v) → (p t now : ℕ) (r : Process) (seen read_at : ℕ)
        → tried_in b p t row (rewidened a b now) (record_widened a b r) (rewidened a b seen) read_at ≡ turn_widened (tried_in a p t row now r seen read_at)
    unfolding tried_in
    tried_alike row fits same p t now r seen read_at = rw (same-rewidened a b wider now seen, value-rewidened a b wider seen) (go (eqb now seen))
      where
        v : ℕ
        v = value_in a seen

        says : Answer
        says = swap_says (kind_of row) v

        won : Process
        won = with_status (Busy A5 seen read_at t (Some says)) r

        lost : Process
        lost = with_status (lost_by (kind_of row) seen read_at t) r

        go : (c : Bool)
            → cond c (Swaps (record_widened a b won) (swapped_in b p (new_in b row v) (rewidened a b seen)) says) (Quiet (with_status (lost_by (kind_of row) (rewidened a b seen) read_at t) r))
            ≡ turn_widened (cond c (Swaps won (swapped_in a p (new_in a row v) seen) says) (Quiet lost))
        go true = ap (λ x. Swaps (record_widened a b won) x says) (ap (λ n. swapped_in b p n (rewidened a b seen)) (same v) ∙ sym (swapped-rewidened a b wider p (new_in a row v) seen (fits v)))
        go false = ap (λ st. Quiet (with_status st r)) (lost_alike (kind_of row) seen read_at t)

    stored_alike : (row : Row) (next : Process) (seen read_at tried_at : ℕ) (answer : Option Answer)
        → storing_in b row (record_widened a b next) (rewidened a b seen) read_at tried_at answer ≡ turn_widened (storing_in a row next seen read_at tried_at answer)
    unfolding storing_in
    stored_alike row next seen read_at tried_at None = refl
    stored_alike row next seen read_at tried_at (Some True) = refl
    stored_alike row next seen read_at tried_at (Some (Was v)) = refl
    stored_alike row next seen read_at tried_at (Some (Value v)) = refl
    stored_alike row next seen read_at tried_at (Some False) = rw (value-rewidened a b wider seen) (go (eqb (value_in a seen) row.old))
      where
        go : (c : Bool) → cond c (Loses (record_widened a b next) read_at tried_at) (Logs (record_widened a b next) read_at False) ≡ turn_widened (cond c (Loses next read_at tried_at) (Logs next read_at False))
        go true = refl
        go false = refl

    module _ (row : Row) (fits : (v : ℕ) → new_in a row v < 2 ^ a) (same : (v : ℕ) → new_in b row v ≡ new_in a row v) (p t now : ℕ) (r : Process) where
      decided_alike : (stage : Stage) (seen read_at tried_at : ℕ) (answer : Option Answer)
          → decide_in b row p t (rewidened a b now) (record_widened a b r) stage (rewidened a b seen) read_at tried_at answer ≡ turn_widened (decide_in a row p t now r stage seen read_at tried_at answer)
      unfolding decide_in
      decided_alike A1 seen read_at tried_at answer = ap (λ st. Quiet (with_status st r)) (read_alike (kind_of row) row.old now t)
      decided_alike A2 seen read_at tried_at answer =
          ap₂ (λ c v. Quiet (with_kept (Busy A3 (rewidened a b seen) read_at tried_at answer) (kept_by (kind_of row) r.kept (not c) v) r)) (bit-rewidened a b wider p seen) (value-rewidened a b wider seen)
      decided_alike A3 seen read_at tried_at answer = refl
      decided_alike A4 seen read_at tried_at answer = tried_alike row fits same p t now r seen read_at
      decided_alike A5 seen read_at tried_at answer = stored_alike row (with_stored (Busy A6 seen read_at tried_at answer) answer r) seen read_at tried_at answer
      decided_alike A6 seen read_at tried_at answer = refl
      decided_alike V1 seen read_at tried_at answer = refl
      decided_alike V2 seen read_at tried_at answer = refl
      decided_alike V3 seen read_at tried_at answer = ap (λ c. Quiet (with_status (Busy (cond (same_bit c r.kept.bit) V4 V6) (rewidened a b now) read_at tried_at answer) r)) (bit-rewidened a b wider p now)
      decided_alike V4 seen read_at tried_at answer = refl
      decided_alike V5 seen read_at tried_at answer = refl
      decided_alike V6 seen read_at tried_at answer = refl

      step_alike : (first count : ℕ) (status : Status) → step_turn_in b row p t (rewidened a b now) first count (record_widened a b r) (status_widened a b status) ≡ turn_widened (step_turn_in a row p t now first count r status)
      unfolding step_turn_in
      step_alike first count Down = refl
      step_alike first count Idle = go (ltb r.begun count)
        where
          go : (c : Bool) → cond c (Quiet (with_stored N2 None r)) Still ≡ turn_widened (cond c (Quiet (with_stored N2 None r)) Still)
          go true = refl
          go false = refl
      step_alike first count N2 = refl
      step_alike first count N3 =
          ap (λ w. Quiet (with_status (Busy A1 w 0 0 None) (started (first + r.begun) r))) (sym (zero_rewidened a b))
      step_alike first count (Busy stage seen read_at tried_at answer) = go r.opened
        where
          go : (opened : Option ℕ) → at_work_in b row p t (rewidened a b now) (record_widened a b r) opened stage (rewidened a b seen) read_at tried_at answer ≡ turn_widened (at_work_in a row p t now r opened stage seen read_at tried_at answer)
          go None = refl
          go (Some k) = decided_alike stage seen read_at tried_at answer

    -- Byte by byte: states that are alike stay so.
    module _ (rows : List Row) (agree : Agreeing a b rows) where
      keeps_move : (t p : ℕ) (s u : State) → Alike a b s u → (r q : Process) → q ≡ record_widened a b r
          → Alike a b (applied p (turn_in a rows p t s.words s.log r r.status) s) (applied p (turn_in b rows p t u.words u.log q q.status) u)
      unfolding turn_in
      keeps_move t p s u h r q e = subst (λ q. Alike a b left (applied p (turn_in b rows p t u.words u.log q q.status) u)) (sym e) now
        where
          k : ℕ
          k = row_open r.opened

          row : Row
          row = row_numbered rows k

          turned : Turn
          turned = step_turn_in a row p t (get_or s.words row.word 0) (first rows p) (count rows p) r r.status

          left : State
          left = applied p (move_of rows s.log p t k row.word r turned) s

          same : step_turn_in b row p t (get_or u.words row.word 0) (first rows p) (count rows p) (record_widened a b r) (status_widened a b r.status) ≡ turn_widened turned
          same =
              ap (λ now. step_turn_in b row p t now (first rows p) (count rows p) (record_widened a b r) (status_widened a b r.status)) (word_alike s u h row.word)
              ∙ step_alike row (agree.fits k) (agree.same k) p t (get_or s.words row.word 0) r (first rows p) (count rows p) r.status

          now : Alike a b left (applied p (move_of rows u.log p t k row.word (record_widened a b r) (step_turn_in b row p t (get_or u.words row.word 0) (first rows p) (count rows p) (record_widened a b r) (status_widened a b r.status))) u)
          now = subst (λ x. Alike a b left (applied p (move_of rows u.log p t k row.word (record_widened a b r) x) u)) (sym same) (keeps_turn s u h rows p t k row.word r turned)

      keeps_act : (t p : ℕ) (s u : State) → Alike a b s u → (x : Action) → Alike a b (act_in a rows t x p s) (act_in b rows t x p u)
      unfolding act_in apply
      keeps_act t p s u h steps = keeps_move t p s u h (proc_at p s) (proc_at p u) (proc_alike s u h p)
      keeps_act t p s u h crashes = keeps_record s u h p (crashed (proc_at p s)) (crashed (proc_at p u)) (ap crashed (proc_alike s u h p))
      keeps_act t p s u h wakes =
          keeps_record s u h p (waked (proc_at p s) (proc_at p s).status) (waked (proc_at p u) (proc_at p u).status)
          (ap (λ q. waked q q.status) (proc_alike s u h p) ∙ waked_alike (proc_at p s) (proc_at p s).status)
      keeps_act t p s u h crashes_all =
          record { words = h.words; processes = ap (map crashed) h.processes ∙ all_crashed s.processes; log = h.log; answers = h.answers }
      keeps_act t p s u h idles = h

      pub keeps_step : (t byte : ℕ) (s u : State) → Alike a b s u → Alike a b (step_in a rows t byte s) (step_in b rows t byte u)
      unfolding step_in
      keeps_step t byte s u h = keeps_act t (named byte) s u h (action byte)

      pub keeps_after : (t : ℕ) (bytes : List ℕ) (s u : State) → Alike a b s u → Alike a b (after_in a rows t bytes s) (after_in b rows t bytes u)
      unfolding after_in
      keeps_after t [] s u h = h
      keeps_after t (byte ∷ bytes) s u h = keeps_after (suc t) bytes (step_in a rows t byte s) (step_in b rows t byte u) (keeps_step t byte s u h)

      begins_alike : (P : ℕ) (words : List ℕ) → Alike a b (begin P words) (begin P (map (rewidened a b) words))
      unfolding begin
      begins_alike P words = record { words = refl; processes = go P; log = refl; answers = refl }
        where
          go : (n : ℕ) → replicate n fresh ≡ map (record_widened a b) (replicate n fresh)
          go zero = refl
          go (suc n) = ap (λ l. fresh ∷ l) (go n)

      prints : (s u : State) → Alike a b s u → PrintsAlike a b s u
      prints s u h = record {
        log = h.log;
        answers = h.answers;
        values = ap (map (value_in b)) h.words ∙ go s.words;
        flips = ap (map (flips_in b)) h.words ∙ go' s.words;
      }
        where
          go : (l : List ℕ) → map (value_in b) (map (rewidened a b) l) ≡ map (value_in a) l
          go [] = refl
          go (w ∷ l) = ap₂ (λ v l. v ∷ l) (value-rewidened a b wider w) (go l)

          go' : (l : List ℕ) → map (flips_in b) (map (rewidened a b) l) ≡ map (flips_in a) l
          go' [] = refl
          go' (w ∷ l) = ap₂ (λ v l. v ∷ l) (flips-rewidened a b wider w) (go' l)

      -- after any schedule, from the start, the two print the same
      pub alike : (P : ℕ) (words bytes : List ℕ) → PrintsAlike a b (after_in a rows 0 bytes (begin P words)) (after_in b rows 0 bytes (begin P (map (rewidened a b) words)))
      alike P words bytes = prints _ _ (keeps_after 0 bytes (begin P words) (begin P (map (rewidened a b) words)) (begins_alike P words))
