-- What a key that is carried out leaves alone (R204, R206), by what a byte leaves alone in the machine; and that a crash or a wake leaves the record
-- named not as it was (R226). For every file, every list of records and all buffers, a refused key among them (R222): `frame` in proofs/Frame.
use Rattle.std.specs.Prelude.{ℕ, ◌+◌, ◌*◌, ◌-◌, ◌≤◌, ◌<◌, ◌≡◌, true, false, List, ◌++◌, ◌≢◌, leb, ltb, Ok}
use Rattle.std.proofs.Math.Path.{refl, sym, ap, ap₂, subst}
use Rattle.std.proofs.Common.{◌∙◌, take-append-drop, length-drop, drop_at, get_or-drop, get_or-set_other}
use Rattle.std.proofs.Math.Bool.{Bool}
use native.Mathlib.Omega.{arith}
use Rattle.std.proofs.Math.ListN.{length, get_or, take, drop, length-append, get_or-append}
use Rattle.std.proofs.Math.Seq.{get_or-take, length-take-le}
use borrow.Author.Tests.{ltb-true, ltb-false, leb-false, eq-eqb, not-false}
use Rattle.runfile.specs.declared.Header.{Header}
use Rattle.runfile.specs.declared.Row.{Row}
use Rattle.runfile.specs.Actions.{Action, step as steps, crash as crashes, wake as wakes, crash_all as crashes_all, none as idles, action, named}
use Rattle.runfile.specs.Ups.{up_as, idle_by}
use Rattle.runfile.specs.Operations.{table_of, row_numbered, first, count}
use Rattle.runfile.specs.Refusals.{bad_action, bad_byte, file_refusal}
use Rattle.rows.specs.declared.Entry.{Entry}
use Rattle.rows.specs.Buffers.{rows_of, flat, infront}
use Rattle.rows.specs.BufferLaws.{beyond, flat_append, flat-rows_of, length-flat, length-infront, length-rows_of, rows_same}
use Rattle.machine.specs.declared.Process.{Process}
use Rattle.machine.specs.declared.Status.{Status}
use Rattle.machine.specs.Turn.{Turn, Still, Quiet, Swaps, Logs, Loses, Replies}
use Rattle.machine.specs.Records.{fresh, nobody, is_awake, row_open}
use Rattle.machine.specs.Laws.{get_or_either}
use Rattle.machine.specs.Machine.{State, effect_of, words_after, turn, turn_in, apply, applied, proc_at, act, act_in, step, step_in}
use Rattle.machine.specs.Steps.{step_turn}
use Rattle.machine.specs.OneByte as one
use Rattle.machine.specs.Awake.{awake-down, Strikes}
use Rattle.machine.proofs.Awake.{awake-byte}
use Rattle.run.specs.Run.{room_of}
use Rattle.panel.specs.declared.Stroke.{Stroke}
use Rattle.panel.specs.declared.Why.{Why}
use Rattle.panel.specs.Longer.{grows}
use Rattle.panel.specs.Press.{done, refuses, Lent, lent, state_of, stepped, Pressed, carried, Fit}

-- a word that the row is not on
word_stays : (rows : List Row) (log : List Entry) (p t k w : ℕ) (u : Turn) (words : List ℕ) (j : ℕ) → j ≢ w → get_or (words_after (effect_of rows log p t k w u) words) j 0 ≡ get_or words j 0
word_stays rows log p t k w Still words j n = refl
word_stays rows log p t k w (Quiet next) words j n = refl
word_stays rows log p t k w (Swaps next x says) words j n = get_or-set_other words w j x 0 n
word_stays rows log p t k w (Logs next q a) words j n = refl
word_stays rows log p t k w (Loses next after otherwise) words j n = refl
word_stays rows log p t k w (Replies next said) words j n = refl

turn-word : (rows : List Row) (p t : ℕ) (words : List ℕ) (log : List Entry) (r : Process) (status : Status) (j : ℕ) → j ≢ (row_numbered rows (row_open r.opened)).word
    → get_or (words_after (turn rows p t words log r status).effect words) j 0 ≡ get_or words j 0
unfolding turn_in
turn-word rows p t words log r status j n =
    let row = row_numbered rows (row_open r.opened) in
    word_stays rows log p t (row_open r.opened) row.word (step_turn row p t (get_or words row.word 0) (first rows p) (count rows p) r status) words j n

-- what a key that is carried out leaves alone
pub record Frame (h : Header) (f : List ℕ) (l : Lent) (k : Stroke) (p : Pressed) : Type 0 where
  -- unless the byte is F0 only the process named may change; records beyond the first P never do (R204)
  pub others : (action k.byte ≡ crashes_all → ⊥) → (q : ℕ) → q ≢ named k.byte → get_or p.processes q nobody ≡ get_or l.processes q nobody
  pub past-P : drop h.processes p.processes ≡ drop h.processes l.processes
  pub all_records : length p.processes ≡ length l.processes
  -- a word other than that of the row on which the process named works (R206)
  pub other_words : (w : ℕ) → w ≢ (row_numbered (table_of h f) (row_open (get_or l.processes (named k.byte) nobody).opened)).word → get_or p.words w 0 ≡ get_or l.words w 0
  pub all_words : length p.words ≡ length l.words
  -- numbers behind the rows, and the answers that were there (R206)
  pub log_beyond : (i : ℕ) → k.counts.log * 5 + 5 ≤ i → get_or p.log i 0 ≡ get_or l.log i 0
  pub all_log : length p.log ≡ length l.log
  pub answers_beyond : (i : ℕ) → k.counts.answers * 5 + 5 ≤ i → get_or p.answers i 0 ≡ get_or l.answers i 0
  pub answers_before : (i : ℕ) → i < k.counts.answers * 5 → get_or p.answers i 0 ≡ get_or l.answers i 0
  pub all_answers : length p.answers ≡ length l.answers
  -- a crash or a wake: only records change (R134)
  pub only_steps : (action k.byte ≡ steps → ⊥) → (p.outcome ≡ done k.counts.log k.counts.answers) × (p.words ≡ l.words) × (p.log ≡ l.log) × (p.answers ≡ l.answers)
  -- and it changes the record of the process named: one that was awake is down, one that was down is awake (R226)
  pub struck : Strikes k.byte (get_or l.processes (named k.byte) nobody) (get_or p.processes (named k.byte) nobody)

module _ (h : Header) (f : List ℕ) (records : List Process) (words log answers : List ℕ) (k : Stroke) where
  abbrev l : Lent
  l = lent records words log answers

  abbrev s : State
  s = state_of h.processes l k

  abbrev P : ℕ
  P = h.processes

  module _ (ft : Fit h f records (room_of words log answers) k) (room : P ≤ length records) where
    all-P : length (stepped h f l k).processes ≡ P
    unfolding stepped state_of
    all-P = (grows (table_of h f) k.position k.byte s).processes ∙ length-take-le P records room

    past : drop P (carried h f l k).processes ≡ drop P records
    past = drop_at (stepped h f l k).processes (drop P records) P all-P

    other : (action k.byte ≡ crashes_all → ⊥) → (q : ℕ) → q ≢ named k.byte → get_or (carried h f l k).processes q nobody ≡ get_or records q nobody
    unfolding stepped state_of proc_at
    other not_all q n = go (ltb q P) refl
      where
        among : q < P → get_or (carried h f l k).processes q nobody ≡ get_or records q nobody
        among i =
            let j : q < length (stepped h f l k).processes = rw all-P i in
            get_or-append (stepped h f l k).processes (drop P records) nobody q j
            ∙ get_or_either (stepped h f l k).processes q nobody fresh j
            ∙ one.others (table_of h f) k.position k.byte s not_all q n
            ∙ get_or-take P records q fresh i
            ∙ get_or_either records q fresh nobody (omega arith)

        go : (c : Bool) → ltb q P ≡ c → get_or (carried h f l k).processes q nobody ≡ get_or records q nobody
        go true e = among (ltb-true q P e)
        go false e =
            let i : q ≡ P + (q - P) = (let g = ltb-false q P e in omega arith) in
            rw i (sym (get_or-drop P (carried h f l k).processes (q - P) nobody) ∙ ap (λ ps. get_or ps (q - P) nobody) past ∙ get_or-drop P records (q - P) nobody)

    -- a step, a crash and a wake are of a process below P
    below : (a : Action) → action k.byte ≡ a → bad_action P (named k.byte) a ≡ leb P (named k.byte) → named k.byte < P
    unfolding bad_byte
    below a e of_one = leb-false P (named k.byte) (sym of_one ∙ subst (λ a. bad_action P (named k.byte) a ≡ false) e ft.action)

    mine : named k.byte < P → proc_at (named k.byte) s ≡ get_or records (named k.byte) nobody
    unfolding state_of proc_at
    mine i = get_or-take P records (named k.byte) fresh i ∙ get_or_either records (named k.byte) fresh nobody (omega arith)

    other_word : (w : ℕ) → w ≢ (row_numbered (table_of h f) (row_open (get_or records (named k.byte) nobody).opened)).word → get_or (stepped h f l k).words w 0 ≡ get_or words w 0
    unfolding stepped state_of step_in act_in applied apply
    other_word w n = go (action k.byte) refl
      where
        go : (a : Action) → action k.byte ≡ a → get_or (act (table_of h f) k.position a (named k.byte) s).words w 0 ≡ get_or words w 0
        go steps e =
            turn-word (table_of h f) (named k.byte) k.position words s.log (proc_at (named k.byte) s) (proc_at (named k.byte) s).status w
            (subst (λ r. w ≢ (row_numbered (table_of h f) (row_open r.opened)).word) (sym (mine (below steps e refl))) n)
        go crashes e = refl
        go wakes e = refl
        go crashes_all e = refl
        go idles e = refl

    -- the record of the process named, and whether it is awake after the byte
    left : named k.byte < P → get_or (carried h f l k).processes (named k.byte) nobody ≡ proc_at (named k.byte) (stepped h f l k)
    unfolding proc_at
    left i =
        let j : named k.byte < length (stepped h f l k).processes = rw all-P i in
        get_or-append (stepped h f l k).processes (drop P records) nobody (named k.byte) j ∙ get_or_either (stepped h f l k).processes (named k.byte) nobody fresh j

    awake_then : named k.byte < P → is_awake (get_or (carried h f l k).processes (named k.byte) nobody).status ≡ up_as (action k.byte) true (is_awake (get_or records (named k.byte) nobody).status)
    unfolding stepped state_of
    awake_then i =
        ap up (left i)
        ∙ awake-byte (table_of h f) (named k.byte) k.position k.byte s (rw (length-take-le P records room) i)
        ∙ ap₂ (λ mine r. up_as (action k.byte) mine (up r)) (eq-eqb (named k.byte) (named k.byte) refl) (mine i)
      where
        up : Process → Bool
        up r = is_awake r.status

    strikes : Strikes k.byte (get_or records (named k.byte) nobody) (get_or (carried h f l k).processes (named k.byte) nobody)
    strikes =
        let was = is_awake (get_or records (named k.byte) nobody).status in
        record {
          crash = λ e. (not-false was (subst (λ a. idle_by a was ≡ false) e ft.not_idle), (awake-down _).0 (awake_then (below crashes e refl) ∙ ap (λ a. up_as a true was) e));
          wake = λ e. ((awake-down _).0 (subst (λ a. idle_by a was ≡ false) e ft.not_idle), awake_then (below wakes e refl) ∙ ap (λ a. up_as a true was) e);
        }

    counts : (length (stepped h f l k).log ≤ k.counts.log + 1) × (length (stepped h f l k).answers ≤ k.counts.answers + 1)
    unfolding stepped state_of
    counts =
        let g = grows (table_of h f) k.position k.byte s in
        let a = g.log_one in
        let b = g.answers_one in
        let c = length-rows_of k.counts.log log in
        let d = length-rows_of k.counts.answers answers in
        (omega arith, omega arith)

    -- words and rows after a crash or a wake
    untouched : (action k.byte ≡ steps → ⊥) → ((carried h f l k).outcome ≡ done k.counts.log k.counts.answers) × ((carried h f l k).words ≡ words) × ((carried h f l k).log ≡ log) × ((carried h f l k).answers ≡ answers)
    unfolding stepped state_of
    untouched n =
        let u = one.only_steps (table_of h f) k.position k.byte s n in
        let a = ft.log_room in
        let b = ft.answers_room in (
          ap₂ done (ap length u.log ∙ length-rows_of k.counts.log log) (ap length u.answers ∙ length-rows_of k.counts.answers answers),
          u.words,
          ap (λ es. infront (flat es) log) u.log ∙ sym (rows_same k.counts.log log (omega arith)),
          ap (λ es. infront (flat es) answers) u.answers ∙ sym (rows_same k.counts.answers answers (omega arith)),
        )

    same_length : length (stepped h f l k).words ≡ length words
    unfolding stepped state_of
    same_length = (grows (table_of h f) k.position k.byte s).words

    -- the answers that were there stand in front of a new one
    kept_answers : (stepped h f l k).answers ≡ rows_of k.counts.answers answers ++ drop k.counts.answers (stepped h f l k).answers
    unfolding stepped state_of
    kept_answers =
        let u = (step (table_of h f) k.position k.byte s).answers in
        sym (take-append-drop k.counts.answers u)
        ∙ ap (λ es. es ++ drop k.counts.answers u) (ap (λ n. take n u) (sym (length-rows_of k.counts.answers answers)) ∙ (grows (table_of h f) k.position k.byte s).answers_kept)

    before : (i : ℕ) → i < k.counts.answers * 5 → get_or (carried h f l k).answers i 0 ≡ get_or answers i 0
    unfolding infront
    before i g =
        let more = drop k.counts.answers (stepped h f l k).answers in
        let rest = drop (length (flat (stepped h f l k).answers)) answers in
        let old = flat (rows_of k.counts.answers answers) in
        let many : length old ≡ k.counts.answers * 5 = length-flat (rows_of k.counts.answers answers) ∙ ap (λ n. n * 5) (length-rows_of k.counts.answers answers) in
        let room = ft.answers_room in
        ap (λ ns. get_or (ns ++ rest) i 0) (ap flat kept_answers ∙ flat_append (rows_of k.counts.answers answers) more)
        ∙ get_or-append (old ++ flat more) rest 0 i (let e = length-append old (flat more) in omega arith)
        ∙ get_or-append old (flat more) 0 i (omega arith)
        ∙ ap (λ ns. get_or ns i 0) (flat-rows_of k.counts.answers answers (omega arith))
        ∙ get_or-take (k.counts.answers * 5) answers i 0 g

    pub frame_carried : Frame h f l k (carried h f l k)
    frame_carried = record {
      others = other;
      past-P = past;
      all_records = length-append (stepped h f l k).processes (drop P records) ∙ (let a = all-P in let b = length-drop P records in omega arith);
      other_words = other_word;
      all_words = same_length;
      log_beyond = λ i g. beyond (flat (stepped h f l k).log) log i (let a = counts.0 in let b = length-flat (stepped h f l k).log in omega arith);
      answers_beyond = λ i g. beyond (flat (stepped h f l k).answers) answers i (let a = counts.1 in let b = length-flat (stepped h f l k).answers in omega arith);
      answers_before = before;
      all_log = length-infront (flat (stepped h f l k).log) log (let a = counts.0 in let b = length-flat (stepped h f l k).log in let c = ft.log_room in omega arith);
      all_answers = length-infront (flat (stepped h f l k).answers) answers (let a = counts.1 in let b = length-flat (stepped h f l k).answers in let c = ft.answers_room in omega arith);
      only_steps = untouched;
      struck = strikes;
    }

-- refused, and all as it was (R222); or carried out, on a file that is accepted
pub data Comes (f : List ℕ) (l : Lent) (k : Stroke) (p : Pressed) : Type 0 where
  refused : (why : Why) (place : ℕ) → p ≡ record { outcome = refuses why place; processes = l.processes; words = l.words; log = l.log; answers = l.answers } → Comes f l k p
  went : (h : Header) → file_refusal f ≡ Ok h → (m a : ℕ) → p.outcome ≡ done m a → Frame h f l k p → Comes f l k p
