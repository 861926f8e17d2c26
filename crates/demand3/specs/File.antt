-- Demand 3 (R242 to R254) of every run file that is not refused, and of what `run` leaves in the three buffers: the refusals give what the theorem asks of
-- the rows, and the rows in the buffers are those of the log and of the answers.
-- Assumes of the file that its numbers are bytes, which is what `run` is lent (`&[u8]`).
use Prim.Native.Nat.{ℕ, suc, ◌≤◌, ◌<◌}
use Rattle.std.specs.Prelude.{◌≡◌, refl, List, ◌++◌, map, length, Result, Ok, Err}
use Rattle.std.proofs.Math.Path.{sym, ap, subst}
use Rattle.std.proofs.Common.{◌∙◌, arith}
use Rattle.std.proofs.Math.ListN.{take, drop}
use Rattle.std.proofs.Math.Seq.{take-append_seam}
use Rattle.runfile.specs.declared.Header.{Header}
use Rattle.runfile.specs.declared.Room.{Room}
use Rattle.runfile.specs.declared.Refused.{Refused}
use Rattle.runfile.specs.Layout.{byte_at, header_in, rows_start, stride_of, row_place, schedule_in}
use Rattle.runfile.specs.RowLaws.{new_fits}
use Rattle.runfile.specs.Operations.{words_of, table_of, row_numbered}
use Rattle.runfile.specs.OperationLaws.{length-words_from, length-rows_from, row_numbered-rows_from}
use Rattle.runfile.specs.Refusals.{refusal_of}
use Rattle.runfile.specs.Table.{row_of}
use Rattle.runfile.specs.Lawful.{Lawful}
use Rattle.runfile.proofs.Lawful.{lawful}
use Rattle.word.specs.Word.{value}
use Rattle.rows.specs.declared.Entry.{Entry}
use Rattle.rows.specs.Buffers.{rows_of, infront}
use Rattle.rows.specs.BufferLaws.{rows_back}
use Rattle.run.specs.Run.{end_of, room_of, ran, ran_same, EndsAs, Ends}
use Rattle.replay.specs.Replay.{Good, good_row}
use Rattle.demand3.specs.FlipBit.{OfFlipBit}
use Rattle.demand3.specs.Plans.{Plan}
use Rattle.demand3.specs.Demand.{demand3, words_stay}

abbrev pub Bytes : List ℕ → Type 0
Bytes f = (at : ℕ) → byte_at f at < 256

-- demand 3 for the rows, the start words and the schedule of a file with this header
abbrev pub OfFile : Header → List ℕ → List Entry → List Entry → List ℕ → Type 0
OfFile h f = OfFlipBit (table_of h f) h.processes (words_of h f) (schedule_in h f)

module _ (f : List ℕ) (bytes : Bytes f) where
  module _ (h : Header) (room : Room) (l : Lawful h f room) where
    many : length (table_of h f) ≡ h.rows
    unfolding table_of
    many = length-rows_from (stride_of h) f (rows_start h) h.rows

    numbered : (k : ℕ) → k < h.rows → row_of h f k ≡ row_numbered (table_of h f) k
    unfolding table_of
    numbered k g = sym (row_numbered-rows_from (stride_of h) f (rows_start h) h.rows k g)

    within : {k : ℕ} → k < length (table_of h f) → k < h.rows
    within g = let m : length (table_of h f) ≡ h.rows = many in omega arith

    good : (k : ℕ) → k < h.rows → Good h.words (row_of h f k)
    good k g =
        good_row h.words (row_of h f k) (l.file.rows k g).word (new_fits f bytes (stride_of h) (row_place (stride_of h) (rows_start h) k)) (l.file.differ k g)

    pub plan : Plan h.processes (length (words_of h f)) (table_of h f)
    unfolding words_of
    plan =
        rw (length-words_from h.version f h.words)
        (record {
          some_word = l.file.head.some_word;
          good = λ k g. subst (Good h.words) (numbered k (within g)) (good k (within g));
          present = λ k g. subst (λ r. r.process < h.processes) (numbered k (within g)) (l.file.rows k (within g)).process;
          order = λ k g.
              subst (λ r. r.process ≤ (row_numbered (table_of h f) (suc k)).process) (numbered k (let m : suc k < h.rows = within g in omega arith))
              (subst (λ r. (row_of h f k).process ≤ r.process) (numbered (suc k) (within g)) (l.file.ordered k (within g)));
        })

    -- of the state at the end, which the contract of `run` speaks of
    pub demand3_file : OfFile h f (end_of h f).log (end_of h f).answers (map value (end_of h f).words)
    unfolding end_of
    demand3_file = demand3 (table_of h f) (words_of h f) h.processes plan (schedule_in h f)

    -- the words that a run leaves are the first W numbers of the buffer
    words_front : (words : List ℕ) → take h.words (infront (end_of h f).words words) ≡ (end_of h f).words
    unfolding infront end_of words_of
    words_front words =
        ap (λ n. take n ((end_of h f).words ++ drop (length (end_of h f).words) words)) (sym (words_stay (table_of h f) (words_of h f) h.processes plan (schedule_in h f) ∙ length-words_from h.version f h.words))
        ∙ take-append_seam (end_of h f).words (drop (length (end_of h f).words) words)

    -- the buffers as a run leaves them, read: the first n rows of the log, the first m of the answers, and W words
    pub demand3_buffers : (words log answers : List ℕ) (n m : ℕ) (words' log' answers' : List ℕ) → EndsAs (Ok h) f words log answers (ran n m) words' log' answers'
        → OfFile h f (rows_of n log') (rows_of m answers') (map value (take h.words words'))
    demand3_buffers words log answers n m words' log' answers' e =
        let counts : ran n m ≡ ran (length (end_of h f).log) (length (end_of h f).answers) = e.result in
        let same = ran_same counts in
        rw (same.0, same.1, e.words_are, e.log_is, e.answers_are, rows_back (end_of h f).log log, rows_back (end_of h f).answers answers, words_front words) demand3_file

  -- Demand 3: whatever the three buffers held, if `run` says that it ran, with n log rows and m answer rows, then so it is of what the
  -- buffers hold
  pub demand3_run : (words log answers : List ℕ) (n m : ℕ) (words' log' answers' : List ℕ) → Ends f words log answers (ran n m) words' log' answers'
      → OfFile (header_in f) f (rows_of n log') (rows_of m answers') (map value (take (header_in f).words words'))
  demand3_run words log answers n m words' log' answers' e = go (refusal_of f (room_of words log answers)) refl e
    where
      go : (c : Result Header Refused) → refusal_of f (room_of words log answers) ≡ c → EndsAs c f words log answers (ran n m) words' log' answers' → OfFile (header_in f) f (rows_of n log') (rows_of m answers') (map value (take (header_in f).words words'))
      go (Err r) q e = absurd (let x : ran n m ≡ Err r = e.result in let z : ◌≡◌ {A = ℕ} 0 1 = cc in omega arith)
      go (Ok h) q e =
          let l : Lawful h f (room_of words log answers) = lawful f (room_of words log answers) h q in
          subst (λ g. OfFile g f (rows_of n log') (rows_of m answers') (map value (take g.words words'))) l.file.header (demand3_buffers h (room_of words log answers) l words log answers n m words' log' answers' e)
