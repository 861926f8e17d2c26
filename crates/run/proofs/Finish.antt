-- The run of an accepted file, from its parts: the table and the schedule are parts of the file, the words a part of their buffer.
use mathlib.Core.Path.{◌≡◌, refl, sym, ap, subst, ◌∙◌}
use mathlib.Core.Bool.{Bool, true, false}
use lib.Dec.{ltb}
use borrow.Author.Tests.{ltb-true, ltb-false}
use mathlib.Core.List.{List, [], ◌∷◌, ◌++◌}
use Prim.Native.Nat.{ℕ, zero, suc, ◌-◌, ◌≤◌, ◌<◌}
use native.Mathlib.Omega.{arith}
use lib.ListN.{length, get_or, take, drop, replicate, length-set, get_or-eq_default}
use Rattle.runfile.specs.declared.Header.{Header}
use Rattle.runfile.specs.declared.Operations.{Operations}
use Rattle.runfile.specs.declared.Row.{Row}
use Rattle.std.specs.Prelude.{Ok}
use Rattle.runfile.specs.Layout.{row_of_table, schedule_start, schedule_in}
use Rattle.runfile.specs.Actions.{Action, step as steps, crash as crashes, wake as wakes, crash_all as crashes_all, none as idles, action, named}
use Rattle.runfile.specs.Operations.{words_from, words_of, table_of}
use Rattle.runfile.specs.Lawful.{Lawful}
use Rattle.runfile.specs.Promises.{RowsLent}
use Rattle.rows.specs.Buffers.{infront}
use Rattle.machine.specs.declared.Process.{Process}
use Rattle.engine.specs.declared.Standing.{Standing}
use Rattle.engine.specs.declared.Part.{Part}
use Rattle.machine.specs.Records.{fresh, nobody}
use Rattle.machine.specs.Laws.{Sane, sane_idle, fresh_at, closed_open, get_or_either}
use Rattle.machine.specs.Machine.{State, Effect, quiet, swaps, logs, replies, words_after, turn, apply, applied, proc_at, act, act_in, step, step_in, after, after_in, begin}
use Rattle.engine.specs.Part.{Holds, Runnable, Runs, state_lent, rows_lent}
use Rattle.run.specs.Run.{end_of, room_of, ran, EndsAs}
use Rattle.run.specs.Parts.{part_all, table-part, lined-part, words_part}
use Rattle.runfile.specs.OperationLaws.{length-words_from}

-- no byte changes how many words there are
words_same : (e : Effect) (words : List ℕ) → length (words_after e words) ≡ length words
words_same quiet words = refl
words_same (swaps w x e) words = length-set words w x
words_same (logs e) words = refl
words_same (replies e) words = refl

act-length : (rows : List Row) (t : ℕ) (a : Action) (p : ℕ) (s : State) → length (act rows t a p s).words ≡ length s.words
unfolding act_in applied apply
act-length rows t steps p s = words_same (turn rows p t s.words s.log (proc_at p s) (proc_at p s).status).effect s.words
act-length rows t crashes p s = refl
act-length rows t wakes p s = refl
act-length rows t crashes_all p s = refl
act-length rows t idles p s = refl

words_length : (rows : List Row) (t : ℕ) (bytes : List ℕ) (s : State) → length (after rows t bytes s).words ≡ length s.words
unfolding after_in step_in
words_length rows t [] s = refl
words_length rows t (b ∷ bytes) s = words_length rows (suc t) bytes (step rows t b s) ∙ act-length rows t (action b) (named b) s

-- sixteen fresh records, of which P are processes; no rows; and the first byte is at position 0: that is the state before the first byte
replicate_take : (P n : ℕ) (p : Process) → P ≤ n → take P (replicate n p) ≡ replicate P p
replicate_take zero n p h = refl
replicate_take (suc P) zero p h = absurd (omega arith)
replicate_take (suc P) (suc n) p h = ap (λ l. p ∷ l) (replicate_take P n p (omega arith))

abbrev at_first : Process → Standing
at_first p = record { processes = replicate 16 p; position = 0; counts = record { log = 0; answers = 0 } }

abbrev whole_of : (P : ℕ) → Process → Part
whole_of P p = record { present = P; from = at_first p }

lent-first : (P : ℕ) (words log answers : List ℕ) → P ≤ 16 → state_lent P (at_first fresh) words log answers ≡ begin P words
unfolding state_lent begin
lent-first P words log answers h = ap (λ ps. record { words = words; processes = ps; log = []; answers = [] }) (replicate_take P 16 fresh h)

sane_first : (rows : List Row) (p : ℕ) → Sane rows p (get_or (replicate 16 fresh) p nobody)
sane_first rows p = go (ltb p 16) refl
  where
    go : (c : Bool) → ltb p 16 ≡ c → Sane rows p (get_or (replicate 16 fresh) p nobody)
    go true e = subst (Sane rows p) (sym (get_or_either (replicate 16 fresh) p nobody fresh (ltb-true p 16 e) ∙ fresh_at 16 p)) (sane_idle rows p)
    go false e = subst (Sane rows p) (sym (get_or-eq_default (replicate 16 fresh) nobody (ltb-false p 16 e))) (record { in_file = λ k e. closed_open e; works = tt; left = λ x. absurd x })

module _ (h : Header) (f words log answers : List ℕ) (l : Lawful h f (room_of words log answers)) where
  -- the rows as they are lent are the file's
  module _ (o : Operations) (lent : RowsLent h f o.table.now o.stride o.count) where
    rows_are : rows_lent o ≡ table_of h f
    rows_are = rw (lent.table_is, lent.stride_is, lent.count_is) (table-part h f)

    lent_word : (k : ℕ) → k < o.count → (row_of_table o.stride o.table.now k).word < length (words_from h.version f h.words)
    lent_word k i = rw (length-words_from h.version f h.words, lent.table_is, lent.stride_is) (words_part h f l.file k (rw lent.count_is at i))

    -- what the run asks
    runnable : Runnable (whole_of h.processes fresh) o (schedule_in h f) (words_from h.version f h.words) log answers
    runnable =
        let exact = l.file.head.exact in
        let size = l.file.schedule in
        let steps = l.file.head.steps in
        let log_room = l.log_room in
        let answers_room = l.answers_room in
        record {
          lined = rw (lent.table_is, lent.stride_is, lent.count_is) (lined-part h f l.file);
          on_words = lent_word;
          present = l.file.head.processes;
          lawful = λ i b. l.file.actions i (let s = l.file.schedule in omega arith);
          early = omega arith;
          log_room = omega arith;
          answers_room = omega arith;
          sane = λ p i. sane_first (rows_lent o) p;
        }

    the_end : after (rows_lent o) 0 (schedule_in h f) (state_lent h.processes (at_first fresh) (words_from h.version f h.words) log answers) ≡ end_of h f
    unfolding end_of words_of
    the_end = rw rows_are (ap (after (table_of h f) 0 (schedule_in h f)) (lent-first h.processes (words_from h.version f h.words) log answers l.file.head.processes))

    -- in the terms of the code: where the schedule begins, how many processes there are, the words as they were loaded, and a fresh record
    module _ (schedule-at P : ℕ) (loaded' : List ℕ) (p : Process) (sa : schedule-at ≡ schedule_start h) (pa : P ≡ h.processes)
        (la : loaded' ≡ words_from h.version f (length words)) (size : length words ≡ h.words) (idle : p ≡ fresh) where
      pub asked : Runnable (whole_of P p) o (take (length f - schedule-at) (drop schedule-at f)) loaded' log answers
      asked = rw (sa, pa, la, size, idle, part_all f (schedule_start h)) runnable

      pub told : (r : Standing) (words' log' answers' : List ℕ)
          → Runs (whole_of P p) o (take (length f - schedule-at) (drop schedule-at f)) loaded' log answers r words' log' answers'
          → Holds (end_of h f) log answers r.counts.log r.counts.answers words' log' answers'
      told r words' log' answers' left =
          subst (λ s. Holds s log answers r.counts.log r.counts.answers words' log' answers') the_end
          (rw (sa, pa, la, size, idle, part_all f (schedule_start h)) at left.holds)

  end-length : length (end_of h f).words ≡ h.words
  unfolding end_of begin words_of
  end-length = words_length (table_of h f) 0 (schedule_in h f) (begin h.processes (words_of h f)) ∙ length-words_from h.version f h.words

  -- what stands in the buffers at the end: the words' part, and behind it what stood there
  pub finish : (m k : ℕ) (part words' log' answers' : List ℕ) → Holds (end_of h f) log answers m k part log' answers' → words' ≡ part ++ drop h.words words
      → EndsAs (Ok h) f words log answers (ran m k) words' log' answers'
  unfolding infront
  finish m k part words' log' answers' held whole =
      record {
        result = rw (held.log_count, held.answers_count);
        words_are = whole ∙ (rw end-length (ap (λ (p : List ℕ). p ++ drop h.words words) held.words_are));
        log_is = held.log_is;
        answers_are = held.answers_are;
      }

  -- the front of the words buffer, lent on
  pub part_lawful : (part : List ℕ) → length part ≡ h.words → Lawful h f (room_of part log answers)
  part_lawful part size = record { file = l.file; not_idle = l.not_idle; words_room = omega arith; log_room = l.log_room; answers_room = l.answers_room }
