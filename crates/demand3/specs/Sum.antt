-- The sum of a mark (R257), of whatever machine meets demand 3, and of what `run` leaves of a file that is not refused: on a word on which only advances
-- succeed, the final value is the start value plus the amounts of the advances in the log, modulo as many values as there are (R117). A corollary
-- of the replay.
use Rattle.std.specs.Prelude.{ℕ, ◌+◌, ◌%◌, ◌^◌, ◌<◌, ◌≡◌, List, map, length, get_or, take}
use Rattle.std.proofs.Math.Path.{sym, ap, subst}
use Rattle.std.proofs.Common.{◌∙◌, get_or-take}
use Rattle.std.proofs.lemmas.List.{length-map}
use Rattle.std.proofs.Math.ListN.{get_or-map}
use Rattle.runfile.specs.declared.Header.{Header}
use Rattle.runfile.specs.declared.Row.{Row}
use Rattle.runfile.specs.declared.Kind.TheVariants.{Compare}
use Rattle.runfile.specs.Layout.{header_in, word_in, schedule_in}
use Rattle.runfile.specs.Operations.{words_of, table_of, row_numbered}
use Rattle.runfile.specs.OperationLaws.{length-words_from}
use Rattle.runfile.specs.Kinds.{kind_of}
use Rattle.word.specs.Word.{width, value, value_in}
use Rattle.word.specs.Laws.{value-fits}
use Rattle.rows.specs.declared.Entry.{Entry}
use Rattle.rows.specs.Buffers.{rows_of}
use Rattle.machine.specs.Machine.{begin}
use Rattle.run.specs.Run.{ran, Ends}
use Rattle.replay.specs.Sum.{added, Advanced, summed, none_compares}
use Rattle.demand3.specs.Statement.{Firmware, Demand3}
use Rattle.demand3.specs.FlipBit.{flip_bit}
use Rattle.demand3.specs.Preserve.{get_or_map_lt}
use Rattle.demand3.specs.File.{Bytes, demand3_run}
use Rattle.demand3.specs.Absent.{word_there}

module _ (m : Firmware) (rows : List Row) (schedule : List ℕ) (log answers : List Entry) (values : List ℕ) (d : Demand3 m rows schedule log answers values)
    (w : ℕ) (inside : w < length (m.words m.start)) (small : m.value (get_or (m.words m.start) w 0) < 2 ^ width) where
  abbrev at_first : ℕ
  at_first = m.value (get_or (m.words m.start) w 0)

  first-value : get_or (map m.value (m.words m.start)) w 0 ≡ at_first
  first-value = get_or_map_lt m.value (m.words m.start) w 0 0 inside

  -- of the log's rows on w only advances tell of a successful swap
  pub mark_is : Advanced rows w log → get_or values w 0 ≡ (at_first + added rows w log) % 2 ^ width
  mark_is only =
      summed rows w (map m.value (m.words m.start)) log values d.replayed only (subst (λ n. w < n) (sym (length-map (m.words m.start) m.value)) inside) (subst (λ n. n < 2 ^ width) (sym first-value) small)
      ∙ ap (λ n. (n + added rows w log) % 2 ^ width) first-value

  -- and so it is if no row on w compares
  pub mark_of_rows : ((k : ℕ) → k < length rows → (row_numbered rows k).word ≡ w → kind_of (row_numbered rows k) ≡ Compare → ⊥) → get_or values w 0 ≡ (at_first + added rows w log) % 2 ^ width
  mark_of_rows none = mark_is (none_compares rows w none (map m.value (m.words m.start)) log values d.replayed d.log_rows)

-- Whatever the three buffers held, if `run` says that it ran, with n log rows, then so it is of the words that it leaves, of the start words in the file
-- and of the log's rows. Assumes of the file that its numbers are bytes, which is what `run` is lent (`&[u8]`)
module _ (f : List ℕ) (bytes : Bytes f) (words log answers : List ℕ) (n m : ℕ) (words' log' answers' : List ℕ) (e : Ends f words log answers (ran n m) words' log' answers')
    (w : ℕ) (inside : w < (header_in f).words) where
  abbrev h : Header
  h = header_in f

  abbrev Added : Type 0
  Added = value (get_or words' w 0) ≡ (value (word_in h.version f w) + added (table_of h f) w (rows_of n log')) % 2 ^ width

  demand : Demand3 (flip_bit (table_of h f) h.processes (words_of h f)) (table_of h f) (schedule_in h f) (rows_of n log') (rows_of m answers') (map value (take h.words words'))
  demand = (demand3_run f bytes words log answers n m words' log' answers' e).demand

  left : get_or (map value (take h.words words')) w 0 ≡ value (get_or words' w 0)
  unfolding value_in
  left = get_or-map value (take h.words words') w 0 ∙ ap value (get_or-take h.words words' w 0 inside)

  there : w < length (words_of h f)
  unfolding words_of
  there = subst (λ n. w < n) (sym (length-words_from h.version f h.words)) inside

  started : get_or (words_of h f) w 0 ≡ word_in h.version f w
  unfolding words_of
  started = word_there h.version f h.words w inside

  pub mark_run : Advanced (table_of h f) w (rows_of n log') → Added
  unfolding begin
  mark_run only =
      sym left
      ∙ mark_is (flip_bit (table_of h f) h.processes (words_of h f)) (table_of h f) (schedule_in h f) (rows_of n log') (rows_of m answers') (map value (take h.words words')) demand w there (value-fits width (get_or (words_of h f) w 0)) only
      ∙ ap (λ x. (value x + added (table_of h f) w (rows_of n log')) % 2 ^ width) started

  pub mark_of_file : ((k : ℕ) → k < length (table_of h f) → (row_numbered (table_of h f) k).word ≡ w → kind_of (row_numbered (table_of h f) k) ≡ Compare → ⊥) → Added
  unfolding begin
  mark_of_file none = mark_run (none_compares (table_of h f) w none (map value (words_of h f)) (rows_of n log') (map value (take h.words words')) demand.replayed demand.log_rows)
