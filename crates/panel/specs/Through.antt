-- An accepted schedule, pressed key after key, comes to what a run comes to (R208). With the counts handed from key to key no key is refused, and
-- after each one the records, the words and the rows are those of the run after as many bytes. By going through the schedule: what the buffers
-- hold is the machine's state, and a key makes of it what a byte does.
use Prim.Native.Nat.{ℕ, zero, suc, ◌+◌, ◌*◌, ◌≤◌, ◌<◌}
use Rattle.std.specs.Prelude.{◌≡◌, Bool, List, [], ◌∷◌, ◌++◌, get_or, take, replicate, Ok, Err}
use Rattle.std.proofs.Math.Path.{refl, ap, subst}
use Rattle.std.proofs.Common.{sym, ◌∙◌, add-zero, zero-add, suc-add, add-suc, arith, take-append-drop, length-append, take-suc, take_at, drop_at, take_all, length-take-le}
use Rattle.std.proofs.Math.Bool.{true, false}
use Rattle.std.proofs.Math.Dec.{ltb}
use Rattle.std.proofs.Math.ListN.{length, drop, get_or-append, length-replicate}
use borrow.Author.Tests.{ltb-true, ltb-false, le-ltb}
use Rattle.runfile.specs.declared.Header.{Header}
use Rattle.runfile.specs.declared.Row.{Row}
use Rattle.runfile.specs.Layout.{schedule_in, rows_start, stride_of}
use Rattle.runfile.specs.Operations.{words_from, words_of, table_of, rows_from, row_numbered}
use Rattle.runfile.specs.OperationLaws.{length-words_from, row_numbered-rows_from, row_numbered_past}
use Rattle.runfile.specs.Actions.{action, named}
use Rattle.runfile.specs.Ups.{idle_by, idles}
use Rattle.runfile.specs.Table.{byte_of}
use Rattle.runfile.specs.Refusals.{refusal_of}
use Rattle.runfile.specs.Lawful.{Lawful, LawfulByte, lawful_not_bad, not_idle_test, room-file}
use Rattle.runfile.proofs.Lawful.{lawful}
use Rattle.rows.specs.Buffers.{flat, infront}
use Rattle.rows.specs.BufferLaws.{rows_back, again, length-infront, length-flat}
use Rattle.machine.specs.declared.Process.{Process}
use Rattle.machine.specs.Records.{fresh, nobody, is_awake}
use Rattle.machine.specs.Laws.{after_next, get_or_either}
use Rattle.machine.specs.Machine.{State, proc_at, step, after, after_in, begin}
use Rattle.machine.proofs.Awake.{awake_up}
use Rattle.run.specs.Run.{Outcome as RunOutcome, ran, end_of, room_of, EndsAs, Ends}
use Rattle.run.specs.Struck.{state_at, named_there}
use Rattle.panel.specs.declared.Stroke.{Stroke}
use Rattle.panel.specs.declared.Table.{Table}
use Rattle.panel.specs.Possible.{impossible, any_impossible}
use Rattle.panel.specs.Lives.{Lives, lives_step, lives_begin, lives_possible}
use Rattle.panel.specs.Longer.{longer, step-longer, grows}
use Rattle.panel.specs.Press.{Outcome, done, Lent, lent, idle_key, judged, verdict_of, state_of, stepped, Pressed, carried, pressed_as, pressed, Leaves}
use Rattle.panel.specs.Key.{keyed}

-- the key after one that came to this: the counts are handed on; after a refusal none is pressed
abbrev pub key_after : List ℕ → (t byte : ℕ) → Pressed → Outcome → Pressed
key_after f t byte p (Ok counts) = keyed f p.processes p.words p.log p.answers (record { byte = byte; position = t; counts = counts })
key_after f t byte p (Err r) = p

-- key after key, the first of them at position t
unfoldable pub stepping : List ℕ → ℕ → List ℕ → Pressed → Pressed
stepping f t [] p = p
stepping f t (byte ∷ bytes) p = stepping f (suc t) bytes (key_after f t byte p p.outcome)

-- one key more
stepping_snoc : (f : List ℕ) (bytes : List ℕ) (byte t : ℕ) (p : Pressed) → stepping f t (bytes ++ (byte ∷ [])) p ≡ (let q = stepping f t bytes p in key_after f (t + length bytes) byte q q.outcome)
unfolding stepping
stepping_snoc f [] byte t p = rw (add-zero t)
stepping_snoc f (b ∷ bytes) byte t p = rw (add-suc t (length bytes), ← (suc-add t (length bytes))) (stepping_snoc f bytes byte (suc t) (key_after f t b p p.outcome))

stepping_next : (f schedule : List ℕ) (i : ℕ) (p : Pressed) → i < length schedule
    → stepping f 0 (take (suc i) schedule) p ≡ (let q = stepping f 0 (take i schedule) p in key_after f i (get_or schedule i 0) q q.outcome)
stepping_next f schedule i p h =
    let q = stepping f 0 (take i schedule) p in
    ap (λ bytes. stepping f 0 bytes p) (take-suc schedule i 0 h)
    ∙ stepping_snoc f (take i schedule) (get_or schedule i 0) 0 p
    ∙ ap (λ t. key_after f t (get_or schedule i 0) q q.outcome) (zero-add (length (take i schedule)) ∙ length-take-le i schedule (omega arith))

-- before the first key: no rows (R208)
abbrev pub ready : List Process → (words log answers : List ℕ) → Pressed
ready records words log answers = record { outcome = done 0 0; processes = records; words = words; log = log; answers = answers }

-- the state s of P processes, in what was lent
abbrev pub holding : ℕ → List Process → (words log answers : List ℕ) → State → Pressed
holding P records words log answers s = record {
  outcome = done (length s.log) (length s.answers);
  processes = s.processes ++ drop P records;
  words = infront s.words words;
  log = infront (flat s.log) log;
  answers = infront (flat s.answers) answers;
}

none_impossible : (rows : List Row) (ps : List Process) (from n : ℕ) → ((p : ℕ) → p < from + n → impossible rows p (get_or ps p nobody) ≡ false) → any_impossible rows ps from n ≡ false
unfolding any_impossible
none_impossible rows ps from zero h = refl
none_impossible rows ps from (suc n) h = rw (h from (omega arith)) (none_impossible rows ps (suc from) n (λ p l. h p (omega arith)))

alike : (o : Outcome) {ps qs : List Process} {w v l m a b : List ℕ} → ps ≡ qs → w ≡ v → l ≡ m → a ≡ b
    → ◌≡◌ {A = Pressed} (record { outcome = o; processes = ps; words = w; log = l; answers = a }) (record { outcome = o; processes = qs; words = v; log = m; answers = b })
alike o e i j k = rw (e, i, j, k) refl

module _ (f words log answers : List ℕ) (h : Header) (fine : refusal_of f (room_of words log answers) ≡ Ok h) (records : List Process) (many : h.processes ≤ length records) where
  abbrev rows : List Row
  rows = table_of h f

  abbrev P : ℕ
  P = h.processes

  l : Lawful h f (room_of words log answers)
  l = lawful f (room_of words log answers) h fine

  abbrev held : State → Pressed
  held = holding P records words log answers

  -- what the state before the byte at position t is like
  record Good (t : ℕ) (s : State) : Type 0 where
    all : length s.processes ≡ P
    words_all : length s.words ≡ h.words
    log_few : length s.log ≤ t
    answers_few : length s.answers ≤ t
    each : (q : ℕ) → Lives rows q (proc_at q s)

  good_step : (t byte : ℕ) (s : State) → Good t s → Good (suc t) (step rows t byte s)
  good_step t byte s g =
      let w = grows rows t byte s in
      record {
        all = w.processes ∙ g.all;
        words_all = w.words ∙ g.words_all;
        log_few = (let a = w.log_one in let b = g.log_few in omega arith);
        answers_few = (let a = w.answers_one in let b = g.answers_few in omega arith);
        each = lives_step rows t byte s g.each;
      }

  -- every row is on a word of the file; where there is no row, on word 0
  inside : (k : ℕ) → (row_numbered rows k).word < h.words
  unfolding table_of
  inside k = go (ltb k h.rows) refl
    where
      go : (c : Bool) → ltb k h.rows ≡ c → (row_numbered (rows_from (stride_of h) f (rows_start h) h.rows) k).word < h.words
      go true e = rw (row_numbered-rows_from (stride_of h) f (rows_start h) h.rows k (ltb-true k h.rows e)) (l.file.rows k (ltb-true k h.rows e)).word
      go false e = rw (row_numbered_past (stride_of h) f (rows_start h) h.rows k (ltb-false k h.rows e)) l.file.head.some_word

  module _ (t byte : ℕ) (s : State) (g : Good t s) (in-schedule : t < h.steps) (fit : LawfulByte P byte) (present : named byte < P) (calm : idle_by (action byte) (is_awake (proc_at (named byte) s).status) ≡ false) where
    abbrev k : Stroke
    k = record { byte = byte; position = t; counts = record { log = length s.log; answers = length s.answers } }

    abbrev lends : Lent
    lends = lent (held s).processes (held s).words (held s).log (held s).answers

    abbrev whole : Table
    whole = record { processes = (held s).processes; held = length (held s).processes }

    words_fit : length (infront s.words words) ≡ length words
    words_fit = length-infront s.words words (let a = g.words_all in let b = l.words_room in omega arith)

    log_fits : length (infront (flat s.log) log) ≡ length log
    log_fits = length-infront (flat s.log) log (let a = length-flat s.log in let b = g.log_few in let c = l.log_room in omega arith)

    answers_fit : length (infront (flat s.answers) answers) ≡ length answers
    answers_fit = length-infront (flat s.answers) answers (let a = length-flat s.answers in let b = g.answers_few in let c = l.answers_room in omega arith)

    all_fit : P ≤ length (s.processes ++ drop P records)
    all_fit = let a = length-append s.processes (drop P records) in let b = g.all in omega arith

    -- the record of a process, as it is lent
    there : (p : ℕ) → p < P → get_or (s.processes ++ drop P records) p nobody ≡ proc_at p s
    unfolding proc_at
    there p i =
        let j : p < length s.processes = (let a = g.all in omega arith) in
        get_or-append s.processes (drop P records) nobody p j ∙ get_or_either s.processes p nobody fresh j

    can_be : any_impossible rows (s.processes ++ drop P records) 0 P ≡ false
    can_be = none_impossible rows (s.processes ++ drop P records) 0 P (λ p i. rw (there p (omega arith)) (lives_possible rows p (proc_at p s) (g.each p)))

    not_idle : idle_key (s.processes ++ drop P records) byte ≡ false
    not_idle = rw (there (named byte) present) calm

    not_refused : verdict_of f whole (room_of (held s).words (held s).log (held s).answers) k ≡ Ok h
    unfolding verdict_of judged
    not_refused =
        rw (
          room-file f (room_of words log answers) h fine,
          words_fit,
          log_fits,
          answers_fit,
          le-ltb (length words) h.words l.words_room,
          le-ltb (length (s.processes ++ drop P records)) P all_fit,
          le-ltb (length log) (length s.log * 5 + 5) (let b = g.log_few in let c = l.log_room in omega arith),
          le-ltb (length answers) (length s.answers * 5 + 5) (let b = g.answers_few in let c = l.answers_room in omega arith),
          le-ltb 1023 t (let a = l.file.head.steps in omega arith),
          can_be,
          lawful_not_bad P byte fit,
          not_idle,
        ) refl

    -- the state that is lent
    same_state : state_of P lends k ≡ longer (drop (length s.words) words) s
    unfolding state_of infront
    same_state = rw (take_at s.processes (drop P records) P g.all, rows_back s.log log, rows_back s.answers answers) refl

    -- the state after the byte, with what stands behind the file's words
    stepped_is : stepped h f lends k ≡ longer (drop (length s.words) words) (step rows t byte s)
    unfolding stepped
    stepped_is = ap (step rows t byte) same_state ∙ step-longer rows (drop (length s.words) words) t s (λ k. rw g.words_all (inside k)) byte

    same_words : (step rows t byte s).words ++ drop (length s.words) words ≡ infront (step rows t byte s).words words
    unfolding infront
    same_words = ap (λ n. (step rows t byte s).words ++ drop n words) (sym (grows rows t byte s).words)

    carried_is : carried h f lends k ≡ held (step rows t byte s)
    carried_is =
        ap (λ u. record {
          outcome = done (length u.log) (length u.answers);
          processes = u.processes ++ drop P (held s).processes;
          words = u.words;
          log = infront (flat u.log) (held s).log;
          answers = infront (flat u.answers) (held s).answers;
        }) stepped_is
        ∙ alike _
        (ap (λ l. (step rows t byte s).processes ++ l) (drop_at s.processes (drop P records) P g.all))
        same_words
        (again s.log (step rows t byte s).log log (grows rows t byte s).log_more)
        (again s.answers (step rows t byte s).answers answers (grows rows t byte s).answers_more)

    one_key : key_after f t byte (held s) (held s).outcome ≡ held (step rows t byte s)
    unfolding keyed pressed
    one_key = ap (λ v. pressed_as v f lends k) not_refused ∙ carried_is

  good_begin : Good 0 (begin P (words_of h f))
  unfolding begin words_of
  good_begin = record {
    all = length-replicate P fresh;
    words_all = length-words_from h.version f h.words;
    log_few = omega arith;
    answers_few = omega arith;
    each = lives_begin rows P (words_from h.version f h.words);
  }

  -- the byte that comes after i bytes of the schedule, and what the state is like then
  next : (i : ℕ) → i < h.steps → state_at h f (suc i) ≡ step rows i (byte_of h f i) (state_at h f i)
  next i few = after_next rows (schedule_in h f) i (begin P (words_of h f)) (let a = l.file.schedule in omega arith)

  good : (i : ℕ) → i ≤ h.steps → Good i (state_at h f i)
  unfolding after_in
  good zero few = good_begin
  good (suc i) few = subst (Good (suc i)) (sym (next i few)) (good_step i (byte_of h f i) (state_at h f i) (good i (omega arith)))

  -- a byte that is not idle by the bytes before it is not idle by the records, since who is up is who is awake
  calm : (i : ℕ) → i < h.steps → idle_by (action (byte_of h f i)) (is_awake (proc_at (named (byte_of h f i)) (state_at h f i)).status) ≡ false
  unfolding idles
  calm i few =
      ap (idle_by (action (byte_of h f i))) (awake_up rows P (words_of h f) (named (byte_of h f i)) (named_there h f (room_of words log answers) l i few) (take i (schedule_in h f)))
      ∙ not_idle_test (take i (schedule_in h f)) (byte_of h f i) (l.not_idle i few)

  module _ (idle : take P records ≡ replicate P fresh) where
    -- the start: all idle (R86), over a words buffer that begins with the file's words
    abbrev start : Pressed
    start = ready records (infront (words_of h f) words) log answers

    start_is : start ≡ held (begin P (words_of h f))
    unfolding begin infront
    start_is = ap (λ ps. ready ps (infront (words_of h f) words) log answers) (sym (take-append-drop P records) ∙ ap (λ l. l ++ drop P records) idle)

    -- after the first i keys: no key was refused, and what was lent holds the state after the first i bytes
    pub keys_are : (i : ℕ) → i ≤ h.steps → stepping f 0 (take i (schedule_in h f)) start ≡ held (after rows 0 (take i (schedule_in h f)) (begin P (words_of h f)))
    unfolding stepping after_in
    keys_are zero few = start_is
    keys_are (suc i) few =
        stepping_next f (schedule_in h f) i start (let a = l.file.schedule in omega arith)
        ∙ ap (λ p. key_after f i (byte_of h f i) p p.outcome) (keys_are i (omega arith))
        ∙ one_key i (byte_of h f i) (state_at h f i) (good i (omega arith)) few (l.file.actions i few) (named_there h f (room_of words log answers) l i few) (calm i few)
        ∙ ap held (sym (next i few))

    -- after the whole schedule
    pub ends : stepping f 0 (schedule_in h f) start ≡ held (end_of h f)
    unfolding end_of
    ends = subst (λ bytes. stepping f 0 bytes start ≡ held (after rows 0 bytes (begin P (words_of h f)))) (take_all h.steps (schedule_in h f) (let e = l.file.schedule in omega arith)) (keys_are h.steps (omega arith))

    -- whatever `run` returned and left, over the same file and buffers as long: the counts, the words, the log and the answers are the stepping's (R208)
    pub ends_as_run : (r : RunOutcome) (words' log' answers' : List ℕ) → Ends f words log answers r words' log' answers'
        → (m : ℕ) × ((k : ℕ) × ((r ≡ ran m k) × Leaves (stepping f 0 (schedule_in h f) start) (done m k) ((end_of h f).processes ++ drop P records) words' log' answers'))
    ends_as_run r words' log' answers' e = (length (end_of h f).log, (length (end_of h f).answers, (run_is.result, rw ends run_leaves)))
      where
        run_is : EndsAs (Ok h) f words log answers r words' log' answers'
        run_is = subst (λ c. EndsAs c f words log answers r words' log' answers') fine e

        run_leaves : Leaves (held (end_of h f)) (done (length (end_of h f).log) (length (end_of h f).answers)) ((end_of h f).processes ++ drop P records) words' log' answers'
        run_leaves = record { result = refl; processes_are = refl; words_are = run_is.words_are; log_is = run_is.log_is; answers_are = run_is.answers_are }
