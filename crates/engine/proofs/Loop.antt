-- One turn of the loop over a part of a schedule, in the machine's terms: if the buffers and the records hold the state after i bytes, then
-- what each way through the loop does makes them hold the state after i + 1. By the effect of the turn that the step came to.
use Rattle.std.specs.Prelude.{Option, Some, None}
use mathlib.Core.Path.{◌≡◌, refl, sym, ap, ap₂, subst, ◌∙◌}
use mathlib.Core.Bool.{Bool, true, false, cond, not}
use mathlib.Core.Logic.{◌≢◌}
use mathlib.Core.List.{List, [], ◌∷◌, ◌++◌, map}
use Prim.Native.Nat.{ℕ, ◌+◌, ◌*◌, ◌/◌, ◌≤◌, ◌<◌}
use native.Mathlib.Numerals.{add-one}
use native.Mathlib.Omega.{arith}
use lib.Dec.{eqb, ltb}
use lib.ListN.{length, set, get_or, take, drop, length-set, length-map, take-append-drop, get_or-eq_default}
use lib.Seq.{length_front, take-suc, take_all, length-take-le, set-get_or, take-set-lt, drop-set-lt, get_or-take, take_at, drop_at}
use borrow.Author.Tests.{eq-eqb, ne_eqb, lt-ltb, le-ltb, ltb-true, ltb-false, eqb-true, eqb-false}
use Rattle.runfile.specs.declared.Row.{Row}
use Rattle.runfile.specs.Actions.{Action, step as steps, crash as crashes, wake as wakes, crash_all as crashes_all, action, named}
use Rattle.runfile.specs.Lawful.{LawfulByte, of_one, of_all_lem}
use Rattle.runfile.specs.Operations.{row_numbered, first, count}
use Rattle.runfile.specs.declared.Kind.{Kind}
use Rattle.runfile.specs.Kinds.{kind_of, new_by_in}
use Rattle.word.specs.Word.{width, value, bit, swapped}
use Rattle.rows.specs.declared.Entry.{Entry}
use Rattle.rows.specs.Log.{insert}
use Rattle.rows.specs.Buffers.{rows_of, flat, infront}
use Rattle.rows.specs.LogLaws.{length-insert}
use Rattle.rows.specs.BufferLaws.{length-rows_of, length_snoc, rows_back, rows_same, again}
use Rattle.machine.specs.declared.Process.{Process}
use Rattle.machine.specs.declared.Stage.{Stage}
use Rattle.machine.specs.declared.Stage.TheVariants.{A3, A4, A5, A6, V1, V3, V4, V5, V6}
use Rattle.machine.specs.declared.Kept.{Kept}
use Rattle.machine.specs.declared.Answer.{Answer}
use Rattle.machine.specs.declared.Answer.TheVariants.{False, True, Value, Was}
use Rattle.machine.specs.declared.Status.{Status}
use Rattle.machine.specs.declared.Status.TheVariants.{Down, Idle, N2, N3, Busy}
use Rattle.engine.specs.declared.Standing.{Standing}
use Rattle.machine.specs.declared.Work.{Work}
use Rattle.machine.specs.Turn.{Turn, Still, Quiet, Swaps, Logs, Loses, Replies}
use Rattle.machine.specs.Stages.{stage_number, stage_at, stage_of, numbered}
use Rattle.machine.specs.Records.{fresh, nobody, with_status, with_kept, with_checkpoint, with_stored, closed, started, crashed, down_to, woken_up, waked, row_open, WorkOpen}
use Rattle.machine.specs.Steps.{entry, after_read, kept_by, swap_says, lost_by, tried_in, storing, storing_in, recovered, same_bit, decide, decide_in, step_turn, step_turn_in, working}
use Rattle.machine.specs.Machine.{State, Effect, quiet, swaps, logs, replies, process_of, effect_of, turn, turn_in, words_after, log_after, answers_after, apply, applied, proc_at, act, act_in, step, step_in, after, after_in}
use Rattle.machine.specs.Laws.{after_snoc, get_or_either, Sane, sane_idle}
use Rattle.machine.proofs.Laws.{sane_after}
use Rattle.machine.specs.Promises.{entered, Enters, reply_at}
use Rattle.engine.specs.Part.{Holds, state_lent, Left}

-- the length of a list of records, which is known of what they are in memory
pub mapped : (X Y : Type 0) (f : X → Y) (l : List X) (n : ℕ) → length (map f l) ≡ n → length l ≡ n
mapped X Y f l n e = sym (length-map l f) ∙ e

-- what an effect does to the buffers: how the words, the log and the answers stand after it
pub record Did (e : Effect) (words log answers : List ℕ) (m k : ℕ) (words' log' answers' : List ℕ) (m' k' : ℕ) : Type 0 where
  pub words_are : words' ≡ words_after e words
  pub log_kept : length log' ≡ length log
  pub log_count : m' ≡ length (log_after e (rows_of m log))
  pub log_is : log' ≡ infront (flat (log_after e (rows_of m log))) log
  pub answers_kept : length answers' ≡ length answers
  pub answers_count : k' ≡ length (answers_after e (rows_of k answers))
  pub answers_are : answers' ≡ infront (flat (answers_after e (rows_of k answers))) answers

module _ {words log answers : List ℕ} {m k : ℕ} (log_room : m * 5 ≤ length log) (answers_room : k * 5 ≤ length answers) where
  did_quiet : Did quiet words log answers m k words log answers m k
  did_quiet = record {
    words_are = refl;
    log_kept = refl;
    log_count = sym (length-rows_of m log);
    log_is = rows_same m log log_room;
    answers_kept = refl;
    answers_count = sym (length-rows_of k answers);
    answers_are = rows_same k answers answers_room;
  }

  -- the log alone, and perhaps a word
  did_log : (e : Effect) (words' log' : List ℕ) (m' : ℕ) → words' ≡ words_after e words → ((l : _) → answers_after e l ≡ l) → length log' ≡ length log → m' ≡ length (log_after e (rows_of m log))
      → log' ≡ infront (flat (log_after e (rows_of m log))) log → Did e words log answers m k words' log' answers m' k
  did_log e words' log' m' ws none kept c put = record {
    words_are = ws;
    log_kept = kept;
    log_count = c;
    log_is = put;
    answers_kept = refl;
    answers_count = sym (ap length (none (rows_of k answers)) ∙ length-rows_of k answers);
    answers_are = rows_same k answers answers_room ∙ ap (λ es. infront (flat es) answers) (sym (none (rows_of k answers)));
  }

  did_reply : (e : Entry) (answers' : List ℕ) → length answers' ≡ length answers → answers' ≡ infront (flat (rows_of k answers ++ (e ∷ []))) answers → Did (replies e) words log answers m k words log answers' m (k + 1)
  did_reply e answers' kept put = record {
    words_are = refl;
    log_kept = refl;
    log_count = sym (length-rows_of m log);
    log_is = rows_same m log log_room;
    answers_kept = kept;
    answers_count = sym (length_snoc e (rows_of k answers) ∙ ap (λ n. n + 1) (length-rows_of k answers));
    answers_are = put;
  }

-- words are as many as before; rows are as many, or one more
words_kept : (e : Effect) (words : List ℕ) → length (words_after e words) ≡ length words
words_kept quiet words = refl
words_kept (swaps w x e) words = length-set words w x
words_kept (logs e) words = refl
words_kept (replies e) words = refl

pub log_grown : (e : Effect) (log : List Entry) → (length log ≤ length (log_after e log)) × (length (log_after e log) ≤ length log + 1)
log_grown quiet log = (omega arith, omega arith)
log_grown (swaps w x e) log = let q = length-insert e log in (omega arith, omega arith)
log_grown (logs e) log = let q = length-insert e log in (omega arith, omega arith)
log_grown (replies e) log = (omega arith, omega arith)

answers_grown : (e : Effect) (answers : List Entry) → (length answers ≤ length (answers_after e answers)) × (length (answers_after e answers) ≤ length answers + 1)
answers_grown quiet answers = (omega arith, omega arith)
answers_grown (swaps w x e) answers = (omega arith, omega arith)
answers_grown (logs e) answers = (omega arith, omega arith)
answers_grown (replies e) answers = let q = length_snoc e answers in (omega arith, omega arith)

-- a stage number that is none of the others
past_four : (n : ℕ) → n ≢ 0 → n ≢ 1 → n ≢ 2 → n ≢ 3 → n ≢ 4 → 5 ≤ n
past_four n a b c d e = omega arith

past_nine : (n : ℕ) → 5 ≤ n → n ≢ 5 → n ≢ 6 → n ≢ 7 → n ≢ 8 → n ≢ 9 → 10 ≤ n
past_nine n l a b c d e = omega arith

eleventh : (n : ℕ) → n < 12 → 10 ≤ n → n ≢ 10 → n ≡ 11
eleventh n l a b = omega arith

-- the state after the first i bytes
unfoldable pub state_at : List Row → ℕ → Standing → (bytes words log answers : List ℕ) → ℕ → State
state_at rows P from bytes words log answers i = after rows from.position (take i bytes) (state_lent P from words log answers)

-- the buffers and the records hold that state
pub record Holding (rows : List Row) (P : ℕ) (from : Standing) (bytes words₀ log₀ answers₀ : List ℕ) (i : ℕ) (words log answers : List ℕ) (ps : List Process) (m k : ℕ) : Type 0 where
  pub done : i ≤ length bytes
  pub words_same : length words ≡ length words₀
  pub log_same : length log ≡ length log₀
  pub answers_same : length answers ≡ length answers₀
  pub log_few : m ≤ from.counts.log + i
  pub answers_few : k ≤ from.counts.answers + i
  pub size : length ps ≡ 16
  pub front : take P ps ≡ (state_at rows P from bytes words₀ log₀ answers₀ i).processes
  pub back : drop P ps ≡ drop P from.processes
  pub holds : Holds (state_at rows P from bytes words₀ log₀ answers₀ i) log₀ answers₀ m k words log answers

-- what is asked for a turn: a byte that is an action of the first P, and buffers that have as many rows as is said
pub record Meets (P : ℕ) (bytes : List ℕ) (i : ℕ) (log answers : List ℕ) (m k : ℕ) : Type 0 where
  pub inside : i < length bytes
  pub log_room : m * 5 ≤ length log
  pub answers_room : k * 5 ≤ length answers
  pub few : P ≤ 16
  pub lawful : LawfulByte P (get_or bytes i 0)

-- before the first byte, and after the last
module _ (rows : List Row) (P : ℕ) (from : Standing) (bytes words log answers : List ℕ) where
  pub hold_start : length from.processes ≡ 16 → from.counts.log * 5 ≤ length log → from.counts.answers * 5 ≤ length answers
      → Holding rows P from bytes words log answers 0 words log answers from.processes from.counts.log from.counts.answers
  unfolding state_at after_in state_lent
  hold_start size a b = record {
    done = omega arith;
    words_same = refl;
    log_same = refl;
    answers_same = refl;
    log_few = omega arith;
    answers_few = omega arith;
    size = size;
    front = refl;
    back = refl;
    holds = record {
      words_are = refl;
      log_count = sym (length-rows_of from.counts.log log);
      log_is = rows_same from.counts.log log a;
      answers_count = sym (length-rows_of from.counts.answers answers);
      answers_are = rows_same from.counts.answers answers b;
    };
  }

  pub hold_end : {i : ℕ} {words' log' answers' : List ℕ} {ps : List Process} {m k : ℕ} → Holding rows P from bytes words log answers i words' log' answers' ps m k → i ≡ length bytes
      → Left (after rows from.position bytes (state_lent P from words log answers)) P from (length bytes) log answers (record { processes = ps; position = from.position + length bytes; counts = record { log = m; answers = k } }) words' log' answers'
  unfolding state_at
  hold_end {i} {words'} {log'} {answers'} {ps} {m} {k} h e =
      let all : take i bytes ≡ bytes = take_all i bytes (omega arith) in
      record {
        processes_are = sym (take-append-drop P ps) ∙ ap₂ ◌++◌ (h.front ∙ ap (λ bs. (after rows from.position bs (state_lent P from words log answers)).processes) all) h.back;
        position_is = refl;
        holds = subst (λ bs. Holds (after rows from.position bs (state_lent P from words log answers)) log answers m k words' log' answers') all h.holds;
      }

  -- records that are sane at first, there or not
  pub sane_lent : length from.processes ≡ 16 → P ≤ 16 → ((p : ℕ) → p < P → Sane rows p (get_or from.processes p nobody)) → (q : ℕ) → Sane rows q (proc_at q (state_lent P from words log answers))
  unfolding proc_at state_lent
  sane_lent size few h q = go (ltb q P) refl
    where
      go : (c : Bool) → ltb q P ≡ c → Sane rows q (get_or (take P from.processes) q fresh)
      go true e =
          let l : q < P = ltb-true q P e in
          subst (Sane rows q) (sym (get_or-take P from.processes q fresh l ∙ get_or_either from.processes q fresh nobody (omega arith))) (h q l)
      go false e =
          let l : P ≤ q = ltb-false q P e in
          subst (Sane rows q) (sym (get_or-eq_default (take P from.processes) fresh (let z = length-take-le P from.processes (omega arith) in omega arith))) (sane_idle rows q)

module _ {rows : List Row} {P : ℕ} {from : Standing} {bytes words₀ log₀ answers₀ : List ℕ} {i : ℕ} {words log answers : List ℕ} {ps : List Process} {m k : ℕ}
    (h : Holding rows P from bytes words₀ log₀ answers₀ i words log answers ps m k) (q : Meets P bytes i log answers m k) where
  abbrev S : State
  S = state_at rows P from bytes words₀ log₀ answers₀ i

  abbrev N : State
  N = state_at rows P from bytes words₀ log₀ answers₀ (i + 1)

  abbrev byte : ℕ
  byte = get_or bytes i 0

  abbrev me : ℕ
  me = named byte

  abbrev t : ℕ
  t = from.position + i

  next : (a : Action) → action byte ≡ a → N ≡ act rows t a me S
  unfolding state_at step_in
  next a e =
      rw (add-one i, take-suc bytes i 0 q.inside)
      (after_snoc rows from.position (take i bytes) byte (state_lent P from words₀ log₀ answers₀)
      ∙ ap (λ n. step rows (from.position + n) byte S) (length-take-le i bytes (let l = q.inside in omega arith))
      ∙ ap (λ a. act rows t a me S) e)

  pub same_log : rows_of m log ≡ S.log
  same_log = rw (h.holds.log_count, h.holds.log_is) (rows_back S.log log₀)

  pub same_answers : rows_of k answers ≡ S.answers
  same_answers = rw (h.holds.answers_count, h.holds.answers_are) (rows_back S.answers answers₀)

  -- what an effect makes of the buffers; `records'` are the records that the byte leaves
  by_effect : (e : Effect) (ps' : List Process) → length ps' ≡ 16 → drop P ps' ≡ drop P ps → N ≡ apply e (take P ps') S → {words' log' answers' : List ℕ} {m' k' : ℕ}
      → Did e words log answers m k words' log' answers' m' k' → Holding rows P from bytes words₀ log₀ answers₀ (i + 1) words' log' answers' ps' m' k'
  unfolding apply
  by_effect e ps' size back is {words'} {log'} {answers'} {m'} {k'} d =
      let lg = log_grown e (rows_of m log) in
      let ag = answers_grown e (rows_of k answers) in
      let ml = length-rows_of m log in
      let kl = length-rows_of k answers in
      let mc = d.log_count in
      let kc = d.answers_count in
      let lf = h.log_few in
      let af = h.answers_few in
      record {
        done = let l = q.inside in omega arith;
        words_same = ap length d.words_are ∙ words_kept e words ∙ h.words_same;
        log_same = d.log_kept ∙ h.log_same;
        answers_same = d.answers_kept ∙ h.answers_same;
        log_few = omega arith;
        answers_few = omega arith;
        size = size;
        front = rw is;
        back = back ∙ h.back;
        holds = rw is (record {
          words_are = d.words_are ∙ ap (words_after e) h.holds.words_are;
          log_count = mc ∙ ap (λ l. length (log_after e l)) same_log;
          log_is = d.log_is ∙ ap (λ l. infront (flat (log_after e l)) log) same_log ∙ ap (infront (flat (log_after e S.log))) h.holds.log_is ∙ again S.log (log_after e S.log) log₀ (log_grown e S.log).0;
          answers_count = kc ∙ ap (λ l. length (answers_after e l)) same_answers;
          answers_are = d.answers_are ∙ ap (λ l. infront (flat (answers_after e l)) answers) same_answers ∙ ap (infront (flat (answers_after e S.answers))) h.holds.answers_are ∙ again S.answers (answers_after e S.answers) answers₀ (answers_grown e S.answers).0;
        });
      }

  -- the bytes that name a process
  one_of : byte / 16 < 3 → me < P
  one_of low = go q.lawful
    where
      go : LawfulByte P byte → me < P
      go (of_one high here) = here
      go (of_all_lem high here) = absurd (omega arith)

  -- the only other byte that comes is a crash of all
  pub last_of : 3 ≤ byte / 16 → byte / 16 ≡ 15
  last_of high = go q.lawful
    where
      go : LawfulByte P byte → byte / 16 ≡ 15
      go (of_one low here) = absurd (omega arith)
      go (of_all_lem all here) = all

  pub hold_all : byte / 16 ≡ 15 → (x : List Process) → x ≡ down_to P ps → Holding rows P from bytes words₀ log₀ answers₀ (i + 1) words log answers x m k
  unfolding act_in
  hold_all e x down =
      let front : length (map crashed (take P ps)) ≡ P = length-map (take P ps) crashed ∙ length-take-le P ps (let z = h.size in let f = q.few in omega arith) in
      let kept : drop P x ≡ drop P ps = ap (drop P) down ∙ drop_at (map crashed (take P ps)) (drop P ps) P front in
      let got : take P x ≡ map crashed (take P ps) = ap (take P) down ∙ take_at (map crashed (take P ps)) (drop P ps) P front in
      by_effect quiet x (ap length down ∙ length_front ps (map crashed (take P ps)) P (length-map (take P ps) crashed) ∙ h.size) kept
      (next crashes_all (rw e) ∙ ap (λ l. apply quiet (map crashed l) S) (sym h.front) ∙ ap (λ l. apply quiet l S) (sym got))
      (did_quiet q.log_room q.answers_room)

  -- the process that the byte names, at `at`
  module _ (low : byte / 16 < 3) {at : ℕ} (here : at ≡ me) where
    abbrev r : Process
    r = get_or ps at nobody

    mine : proc_at me S ≡ r
    unfolding proc_at
    mine =
        let l : me < P = one_of low in
        ap (λ l. get_or l me fresh) (sym h.front) ∙ get_or-take P ps me fresh l ∙ get_or_either ps me fresh nobody (let z = h.size in let f = q.few in omega arith) ∙ ap (λ j. get_or ps j nobody) (sym here)

    pub sane_mine : ((p : ℕ) → Sane rows p (proc_at p (state_lent P from words₀ log₀ answers₀))) → Sane rows me r
    unfolding state_at
    sane_mine sane = subst (Sane rows me) mine (sane_after rows from.position (take i bytes) (state_lent P from words₀ log₀ answers₀) sane me)

    -- a record put in its place
    set_front : (x : Process) → set S.processes me x ≡ take P (set ps at x)
    set_front x = ap (λ l. set l me x) (sym h.front) ∙ sym (take-set-lt P ps me x (one_of low)) ∙ ap (λ j. take P (set ps j x)) (sym here)

    by-set : (e : Effect) (x : Process) → N ≡ apply e (set S.processes me x) S → {words' log' answers' : List ℕ} {m' k' : ℕ}
        → Did e words log answers m k words' log' answers' m' k' → Holding rows P from bytes words₀ log₀ answers₀ (i + 1) words' log' answers' (set ps at x) m' k'
    by-set e x is d =
        by_effect e (set ps at x) (length-set ps at x ∙ h.size) (ap (λ j. drop P (set ps j x)) here ∙ drop-set-lt P ps me x (one_of low)) (is ∙ ap (λ l. apply e l S) (set_front x)) d

    by-same : N ≡ apply quiet (set S.processes me r) S → Holding rows P from bytes words₀ log₀ answers₀ (i + 1) words log answers ps m k
    by-same is = subst (λ l. Holding rows P from bytes words₀ log₀ answers₀ (i + 1) words log answers l m k) (set-get_or ps at nobody) (by-set quiet r is (did_quiet q.log_room q.answers_room))

    pub hold_crash : byte / 16 ≡ 1 → Holding rows P from bytes words₀ log₀ answers₀ (i + 1) words log answers (set ps at (crashed r)) m k
    unfolding act_in applied
    hold_crash e = by-set quiet (crashed r) (next crashes (rw e) ∙ ap (λ q. apply quiet (set S.processes me (crashed q)) S) mine) (did_quiet q.log_room q.answers_room)

    woke : byte / 16 ≡ 2 → (x : Process) → waked r r.status ≡ x → N ≡ apply quiet (set S.processes me x) S
    unfolding act_in applied
    woke e x w = next wakes (rw e) ∙ ap (λ q. apply quiet (set S.processes me (waked q q.status)) S) mine ∙ ap (λ x. apply quiet (set S.processes me x) S) w

    -- a wake: of one that is down, with no row open and with one; of one that is awake
    pub hold_wake_idle : byte / 16 ≡ 2 → r.status ≡ Down → r.opened ≡ None → Holding rows P from bytes words₀ log₀ answers₀ (i + 1) words log answers (set ps at (with_status Idle r)) m k
    hold_wake_idle e d o = by-set quiet (with_status Idle r) (woke e _ (ap (waked r) d ∙ ap (λ o. with_status (woken_up o) r) o)) (did_quiet q.log_room q.answers_room)

    pub hold_wake_busy : byte / 16 ≡ 2 → r.status ≡ Down → (j : ℕ) → r.opened ≡ Some j → (st : Status) → st ≡ Busy V1 0 0 0 None
        → Holding rows P from bytes words₀ log₀ answers₀ (i + 1) words log answers (set ps at (with_status st r)) m k
    hold_wake_busy e d j o st is =
        by-set quiet (with_status st r) (woke e _ (ap (waked r) d ∙ ap (λ o. with_status (woken_up o) r) o ∙ ap (λ st. with_status st r) (sym is))) (did_quiet q.log_room q.answers_room)

    pub hold_awake : byte / 16 ≡ 2 → waked r r.status ≡ r → Holding rows P from bytes words₀ log₀ answers₀ (i + 1) words log answers ps m k
    hold_awake e w = by-same (woke e r w)

    -- a step; the open row has number K, and is on word W
    abbrev K : ℕ
    K = row_open r.opened

    abbrev row : Row
    row = row_numbered rows K

    abbrev seen_now : ℕ
    seen_now = get_or words row.word 0

    abbrev u : Turn
    u = step_turn row me t seen_now (first rows me) (count rows me) r r.status

    module _ (is : byte < 16) where
      moved : N ≡ apply (effect_of rows S.log me t K row.word u) (set S.processes me (process_of r u)) S
      unfolding act_in turn_in applied
      moved =
          let z : byte / 16 ≡ 0 = omega arith in
          next steps (rw z)
          ∙ ap (λ q. applied me (turn rows me t S.words S.log q q.status) S) mine
          ∙ ap (λ ws. applied me (turn rows me t ws S.log r r.status) S) (sym h.holds.words_are)

      -- by what the turn is told to be
      told : (v : Turn) → u ≡ v → N ≡ apply (effect_of rows S.log me t K row.word v) (set S.processes me (process_of r v)) S
      told v e = moved ∙ ap (λ v. apply (effect_of rows S.log me t K row.word v) (set S.processes me (process_of r v)) S) e

      pub hold_still : u ≡ Still → Holding rows P from bytes words₀ log₀ answers₀ (i + 1) words log answers ps m k
      hold_still e = by-same (told Still e)

      pub hold_record : (next : Process) → u ≡ Quiet next → Holding rows P from bytes words₀ log₀ answers₀ (i + 1) words log answers (set ps at next) m k
      hold_record next e = by-set quiet next (told (Quiet next) e) (did_quiet q.log_room q.answers_room)

      pub hold_won : (next : Process) (x : ℕ) (says : Answer) (e : Entry) (words' log' : List ℕ) → u ≡ Swaps next x says → e ≡ entry t me K (Some says) → words' ≡ set words row.word x
          → length log' ≡ length log → log' ≡ infront (flat (insert e (rows_of m log))) log → Holding rows P from bytes words₀ log₀ answers₀ (i + 1) words' log' answers (set ps at next) (m + 1) k
      hold_won next x says e words' log' w en wrote kept put =
          by-set (swaps row.word x e) next (told (Swaps next x says) w ∙ ap (λ e. apply (swaps row.word x e) (set S.processes me next) S) (sym en))
          (did_log q.log_room q.answers_room (swaps row.word x e) words' log' (m + 1) wrote (λ l. refl) kept (sym (length-insert e (rows_of m log) ∙ ap (λ n. n + 1) (length-rows_of m log))) put)

      pub hold_answer : (next : Process) (said : Option Answer) (e : Entry) (answers' : List ℕ) → u ≡ Replies next said → e ≡ entry t me K said
          → length answers' ≡ length answers → answers' ≡ infront (flat (rows_of k answers ++ (e ∷ []))) answers → Holding rows P from bytes words₀ log₀ answers₀ (i + 1) words log answers' (set ps at next) m (k + 1)
      hold_answer next said e answers' w en kept put =
          by-set (replies e) next (told (Replies next said) w ∙ ap (λ e. apply (replies e) (set S.processes me next) S) (sym en)) (did_reply q.log_room q.answers_room e answers' kept put)

      -- A5 is what `enter` did, whatever the record and the position are
      entering : (x : Process) (w : Work) → w.process ≡ me → w.row ≡ K
          → log_after (effect_of rows (rows_of m log) me t K row.word (storing row x w.seen w.read_at w.tried_at w.answer)) (rows_of m log) ≡ entered rows row (rows_of m log) w
      unfolding entered storing_in
      entering x w by e = rw (by, e) (go w.answer)
        where
          lost : (c : Bool) → log_after (effect_of rows (rows_of m log) me t K row.word (cond c (Loses x w.read_at w.tried_at) (Logs x w.read_at False))) (rows_of m log)
              ≡ log_after (effect_of rows (rows_of m log) me 0 K row.word (cond c (Loses nobody w.read_at w.tried_at) (Logs nobody w.read_at False))) (rows_of m log)
          lost true = refl
          lost false = refl

          go : (a : Option Answer) → log_after (effect_of rows (rows_of m log) me t K row.word (storing row x w.seen w.read_at w.tried_at a)) (rows_of m log)
              ≡ log_after (effect_of rows (rows_of m log) me 0 K row.word (storing row nobody w.seen w.read_at w.tried_at a)) (rows_of m log)
          go None = refl
          go (Some True) = refl
          go (Some (Was v)) = refl
          go (Some (Value v)) = refl
          go (Some False) = lost (eqb (value w.seen) row.old)

      -- it touches no word and no answer, and leaves the record x
      alone : (x : Process) (w : Work) → (let e = effect_of rows (rows_of m log) me t K row.word (storing row x w.seen w.read_at w.tried_at w.answer) in
          (words_after e words ≡ words) × ((l : List Entry) → answers_after e l ≡ l) × (process_of r (storing row x w.seen w.read_at w.tried_at w.answer) ≡ x))
      unfolding storing_in
      alone x w = go w.answer
        where
          lost : (c : Bool) → (let v = cond c (Loses x w.read_at w.tried_at) (Logs x w.read_at False) in let e = effect_of rows (rows_of m log) me t K row.word v in
              (words_after e words ≡ words) × ((l : List Entry) → answers_after e l ≡ l) × (process_of r v ≡ x))
          lost true = (refl, (λ l. refl), refl)
          lost false = (refl, (λ l. refl), refl)

          go : (a : Option Answer) → (let v = storing row x w.seen w.read_at w.tried_at a in let e = effect_of rows (rows_of m log) me t K row.word v in
              (words_after e words ≡ words) × ((l : List Entry) → answers_after e l ≡ l) × (process_of r v ≡ x))
          go None = (refl, (λ l. refl), refl)
          go (Some True) = (refl, (λ l. refl), refl)
          go (Some (Was v)) = (refl, (λ l. refl), refl)
          go (Some (Value v)) = (refl, (λ l. refl), refl)
          go (Some False) = lost (eqb (value w.seen) row.old)

      pub hold_entered : (x : Process) (w : Work) (found : Row) (m' : ℕ) (log' : List ℕ) → u ≡ storing row x w.seen w.read_at w.tried_at w.answer → w.process ≡ me → w.row ≡ K → found ≡ row
          → length log' ≡ length log → Enters rows found log m w m' log' → Holding rows P from bytes words₀ log₀ answers₀ (i + 1) words log' answers (set ps at x) m' k
      hold_entered x w found m' log' e by on is kept d =
          let v = storing row x w.seen w.read_at w.tried_at w.answer in
          let f = effect_of rows (rows_of m log) me t K row.word v in
          let same : log_after f (rows_of m log) ≡ entered rows found (rows_of m log) w = entering x w by on ∙ ap (λ row. entered rows row (rows_of m log) w) (sym is) in
          let a = alone x w in
          by-set f x
          (told v e ∙ ap (λ l. apply (effect_of rows l me t K row.word v) (set S.processes me (process_of r v)) S) (sym same_log) ∙ ap (λ x. apply f (set S.processes me x) S) a.2)
          (did_log q.log_room q.answers_room f words log' m' (sym a.0) a.1 kept (d.count ∙ ap length (sym same)) (d.log_is ∙ ap (λ es. infront (flat es) log) (sym same)))

      -- what the step comes to, by the status
      pub at-down : r.status ≡ Down → u ≡ Still
      unfolding step_turn_in
      at-down e = ap (step_turn row me t seen_now (first rows me) (count rows me) r) e

      pub at-idle : r.status ≡ Idle → (c : ℕ) → c ≡ count rows me → r.begun < c → u ≡ Quiet (with_stored N2 None r)
      unfolding step_turn_in
      at-idle e c is l = ap (step_turn row me t seen_now (first rows me) (count rows me) r) e ∙ rw (lt-ltb r.begun (count rows me) (subst (λ (c : ℕ). r.begun < c) is l))

      pub at_done : r.status ≡ Idle → (c : ℕ) → c ≡ count rows me → c ≤ r.begun → u ≡ Still
      unfolding step_turn_in
      at_done e c is l = ap (step_turn row me t seen_now (first rows me) (count rows me) r) e ∙ rw (le-ltb r.begun (count rows me) (subst (λ (c : ℕ). c ≤ r.begun) is l))

      pub at-N2 : r.status ≡ N2 → u ≡ Quiet (with_checkpoint N3 false r)
      unfolding step_turn_in
      at-N2 e = ap (step_turn row me t seen_now (first rows me) (count rows me) r) e

      pub at-N3 : r.status ≡ N3 → (f : ℕ) → f ≡ first rows me → (x : Process) → x ≡ started (f + r.begun) r → u ≡ Quiet x
      unfolding step_turn_in
      at-N3 e f is x y = ap (step_turn row me t seen_now (first rows me) (count rows me) r) e ∙ ap Quiet (sym (y ∙ ap (λ (f : ℕ). started (f + r.begun) r) is))

      -- in the midst of work on row K, by the stage and its number
      module _ {stage : Stage} {seen ra ta : ℕ} {answer : Option Answer} (st : r.status ≡ Busy stage seen ra ta answer) (works : WorkOpen r.status r.opened) (number : ℕ) (numbers : number ≡ stage_number stage) where
        decided : u ≡ decide row me t seen_now r (stage_at number) seen ra ta answer
        unfolding step_turn_in
        decided =
            let w = subst (λ st. WorkOpen st r.opened) st works in
            ap (step_turn row me t seen_now (first rows me) (count rows me) r) st
            ∙ working row me t seen_now r r.opened w.0 stage seen ra ta answer w.1
            ∙ ap (λ s. decide row me t seen_now r s seen ra ta answer) (stage_of stage number numbers)

        decided_at : (j : ℕ) → number ≡ j → u ≡ decide row me t seen_now r (stage_at j) seen ra ta answer
        decided_at j e = decided ∙ ap (λ j. decide row me t seen_now r (stage_at j) seen ra ta answer) e

        pub at-A1 : number ≡ 0 → (found : Row) (now : ℕ) (next : Status) → found ≡ row → now ≡ seen_now → next ≡ after_read found now t → u ≡ Quiet (with_status next r)
        unfolding decide_in
        at-A1 e found now next f n s = decided_at 0 e ∙ ap (λ st. Quiet (with_status st r)) (sym (s ∙ ap₂ (λ row now. after_read row now t) f n))

        -- what goes by the kind is looked up with the kind of the row, and with what A1 read
        pub at-A2 : number ≡ 1 → (kind : Kind) → kind ≡ kind_of row → (b : Bool) (v : ℕ) → b ≡ bit me seen → v ≡ value seen → (kept : Kept) → kept ≡ kept_by kind r.kept (not b) v → (next : Status) → next ≡ Busy A3 seen ra ta answer
            → u ≡ Quiet (with_kept next kept r)
        unfolding decide_in
        at-A2 e kind is b v f g kept k next s =
            decided_at 1 e ∙ ap₂ (λ st kept. Quiet (with_kept st kept r)) (sym s)
            (sym (k ∙ ap (λ kind. kept_by kind r.kept (not b) v) is ∙ ap₂ (λ b v. kept_by (kind_of row) r.kept (not b) v) f g))

        pub at-A3 : number ≡ 2 → (next : Status) → next ≡ Busy A4 seen ra ta answer → u ≡ Quiet (with_checkpoint next true r)
        unfolding decide_in
        at-A3 e next s = decided_at 2 e ∙ ap (λ st. Quiet (with_checkpoint st true r)) (sym s)

        pub at_won : number ≡ 3 → (now : ℕ) → now ≡ seen_now → now ≡ seen → (kind : Kind) → kind ≡ kind_of row → (v : ℕ) → v ≡ value seen → (says : Answer) → says ≡ swap_says kind v
            → (next : Status) → next ≡ Busy A5 seen ra t (Some says) → (found : Row) → found ≡ row → (mark : ℕ) → mark ≡ new_by_in width kind found.new v → (x : ℕ) → x ≡ swapped me mark seen
            → u ≡ Swaps (with_status next r) x says
        unfolding decide_in tried_in
        at_won e now n same kind is v g says a next s found f mark m x y =
            let said : says ≡ swap_says (kind_of row) (value seen) = a ∙ ap₂ swap_says is g in
            let put : mark ≡ new_by_in width (kind_of row) row.new (value seen) = m ∙ ap₂ (λ (kind : Kind) (v : ℕ). new_by_in width kind found.new v) is g ∙ ap (λ (row' : Row). new_by_in width (kind_of row) row'.new (value seen)) f in
            decided_at 3 e ∙ rw (eq-eqb seen_now seen (sym n ∙ same), ← said, ← put) (ap₂ (λ st x. Swaps (with_status st r) x says) (sym s) (sym y))

        pub at_lost : number ≡ 3 → (now : ℕ) → now ≡ seen_now → (now ≡ seen → ⊥) → (kind : Kind) → kind ≡ kind_of row → (next : Status) → next ≡ lost_by kind seen ra t → u ≡ Quiet (with_status next r)
        unfolding decide_in tried_in
        at_lost e now n differ kind is next s = decided_at 3 e ∙ rw (ne_eqb seen_now seen (λ z. differ (n ∙ z))) (ap (λ st. Quiet (with_status st r)) (sym (s ∙ ap (λ kind. lost_by kind seen ra t) is)))

        pub at-A5 : number ≡ 4 → (next : Status) → next ≡ Busy A6 seen ra ta answer → u ≡ storing row (with_stored next answer r) seen ra ta answer
        unfolding decide_in
        at-A5 e next s = decided_at 4 e ∙ ap (λ st. storing row (with_stored st answer r) seen ra ta answer) (sym s)

        pub at-V1 : number ≡ 6 → (to : Stage) → to ≡ recovered r.stored → (next : Status) → next ≡ Busy to seen ra ta answer → u ≡ Quiet (with_status next r)
        unfolding decide_in
        at-V1 e to g next s = decided_at 6 e ∙ ap (λ st. Quiet (with_status st r)) (sym (s ∙ ap (λ to. Busy to seen ra ta answer) g))

        pub at-V2 : number ≡ 7 → (to : Stage) → to ≡ cond r.checkpoint V3 V6 → (next : Status) → next ≡ Busy to seen ra ta answer → u ≡ Quiet (with_status next r)
        unfolding decide_in
        at-V2 e to g next s = decided_at 7 e ∙ ap (λ st. Quiet (with_status st r)) (sym (s ∙ ap (λ to. Busy to seen ra ta answer) g))

        pub at-V3 : number ≡ 8 → (now : ℕ) → now ≡ seen_now → (to : Stage) → to ≡ cond (same_bit (bit me now) r.kept.bit) V4 V6 → (next : Status) → next ≡ Busy to now ra ta answer → u ≡ Quiet (with_status next r)
        unfolding decide_in
        at-V3 e now n to g next s =
            decided_at 8 e ∙ ap (λ st. Quiet (with_status st r))
            (sym (s ∙ ap₂ (λ to now. Busy to now ra ta answer) (g ∙ ap (λ now. cond (same_bit (bit me now) r.kept.bit) V4 V6) n) n))

        pub at-V4 : number ≡ 9 → (kind : Kind) → kind ≡ kind_of row → (says : Answer) → says ≡ swap_says kind r.kept.value → (next : Status) → next ≡ Busy V5 seen ra ta answer → u ≡ Quiet (with_stored next (Some says) r)
        unfolding decide_in
        at-V4 e kind is says a next s =
            decided_at 9 e ∙ ap₂ (λ st a. Quiet (with_stored st (Some a) r)) (sym s) (sym (a ∙ ap (λ kind. swap_says kind r.kept.value) is))

        -- A6, V5 and V6
        pub at_reply : number ≢ 0 → number ≢ 1 → number ≢ 2 → number ≢ 3 → number ≢ 4 → number ≢ 6 → number ≢ 7 → number ≢ 8 → number ≢ 9 → (said : Option Answer) → said ≡ reply_at number answer r.stored
            → u ≡ Replies (closed r) said
        unfolding decide_in
        at_reply n0 n1 n2 n3 n4 n6 n7 n8 n9 said s = go (eqb number 5) refl (eqb number 10) refl
          where
            below : number < 12
            below = subst (λ (n : ℕ). n < 12) (sym numbers) (numbered stage).1

            to_said : {a : Option Answer} → reply_at number answer r.stored ≡ a → Replies (closed r) a ≡ Replies (closed r) said
            to_said e = ap (Replies (closed r)) (sym (s ∙ e))

            go : (a : Bool) → eqb number 5 ≡ a → (b : Bool) → eqb number 10 ≡ b → u ≡ Replies (closed r) said
            go true x b y = decided_at 5 (eqb-true number 5 x) ∙ to_said (rw x)
            go false x true y = decided_at 10 (eqb-true number 10 y) ∙ to_said (rw (x, y))
            go false x false y =
                decided_at 11 (eleventh number below (past_nine number (past_four number n0 n1 n2 n3 n4) (eqb-false number 5 x) n6 n7 n8 n9) (eqb-false number 10 y)) ∙ to_said (rw (x, y))

-- what is left is said of the buffers as they are when they are given back
pub left_in : {s : State} {P size : ℕ} {from : Standing} {log₀ answers₀ : List ℕ} {r : Standing} {words log answers log' answers' : List ℕ}
    → Left s P from size log₀ answers₀ r words log answers → log ≡ log' → answers ≡ answers' → Left s P from size log₀ answers₀ r words log' answers'
left_in {s} {P} {size} {from} {log₀} {answers₀} {r} {words} {log} {answers} {log'} {answers'} h e f =
    subst (λ l. Left s P from size log₀ answers₀ r words l answers') e (subst (λ a. Left s P from size log₀ answers₀ r words log a) f h)
