-- The flip bits of every run file that is not refused, at the end of its schedule: the bits of processes that are not there are those of the start
-- words, and so is the bit of a process in a word of whose swaps on it the log does not tell. For the new of a row that is not refused fits 16 bits.
-- Assumes of the file that its numbers are bytes, which is what `run` is lent (`&[u8]`).
use Rattle.std.specs.Prelude.{ℕ, zero, suc, ◌≤◌, ◌<◌, Bool, true, false, List, [], ◌∷◌, ◌++◌, ltb, length, get_or, drop, Result, Ok, Err}
use Rattle.std.proofs.Math.Path.{◌≡◌, refl, ap, subst}
use Rattle.std.proofs.Common.{sym, ◌∙◌, arith, ltb-true, ltb-false}
use Rattle.std.proofs.Math.ListN.{get_or-append}
use Rattle.std.proofs.lemmas.List.{get_or_at}
use Rattle.runfile.specs.declared.Header.{Header}
use Rattle.runfile.specs.declared.Room.{Room}
use Rattle.runfile.specs.declared.Refused.{Refused}
use Rattle.runfile.specs.Layout.{header_in, word_in, schedule_in}
use Rattle.runfile.specs.Operations.{words_from, words_of, table_of}
use Rattle.runfile.specs.OperationLaws.{length-words_from}
use Rattle.runfile.specs.Refusals.{refusal_of}
use Rattle.runfile.specs.Lawful.{Lawful}
use Rattle.runfile.proofs.Lawful.{lawful}
use Rattle.word.specs.Word.{bit}
use Rattle.rows.specs.Buffers.{infront}
use Rattle.run.specs.Run.{end_of, room_of, ran, EndsAs, Ends}
use Rattle.machine.specs.Absent.{Fitting, turned_by, told_swaps}
use Rattle.machine.proofs.Absent.{absent_kept, log_tells_bit, unlogged_kept}
use Rattle.demand3.specs.Plans.{good_at}
use Rattle.demand3.specs.Demand.{words_stay}
use Rattle.demand3.specs.File.{Bytes, plan}

module _ (f : List ℕ) (bytes : Bytes f) (h : Header) (room : Room) (l : Lawful h f room) (q w : ℕ) where
  fitting : Fitting (table_of h f)
  fitting k v = (good_at h.processes (length (words_of h f)) (table_of h f) (plan f bytes h room l) k).fits v

  inside : w < h.words → w < length (words_of h f)
  unfolding words_of
  inside i = subst (λ n. w < n) (sym (length-words_from h.version f h.words)) i

  -- the bits of processes that the file does not have (R17)
  pub absent_file : h.processes ≤ q → bit q (get_or (end_of h f).words w 0) ≡ bit q (get_or (words_of h f) w 0)
  unfolding end_of
  absent_file a = absent_kept (table_of h f) fitting h.processes (words_of h f) (schedule_in h f) q w a

  -- a bit is that of the start word, turned as often as the log tells of a successful swap of its process on the word
  pub bit-file : w < h.words → bit q (get_or (end_of h f).words w 0) ≡ turned_by (told_swaps (table_of h f) q w (end_of h f).log) (bit q (get_or (words_of h f) w 0))
  unfolding end_of
  bit-file i = log_tells_bit (table_of h f) fitting h.processes (words_of h f) (schedule_in h f) q w (inside i)

  pub unlogged_file : w < h.words → told_swaps (table_of h f) q w (end_of h f).log ≡ 0 → bit q (get_or (end_of h f).words w 0) ≡ bit q (get_or (words_of h f) w 0)
  unfolding end_of
  unlogged_file i e = unlogged_kept (table_of h f) fitting h.processes (words_of h f) (schedule_in h f) q w (inside i) e

-- start word w, in the list of them
pub word_there : (version : ℕ) (f : List ℕ) (n w : ℕ) → w < n → get_or (words_from version f n) w 0 ≡ word_in version f w
word_there version f zero w l = absurd (omega arith)
word_there version f (suc n) w l = go (ltb w n) refl (λ g. word_there version f n w g)
  where
    go : (c : Bool) → ltb w n ≡ c → (w < n → get_or (words_from version f n) w 0 ≡ word_in version f w) → get_or (words_from version f n ++ (word_in version f n ∷ [])) w 0 ≡ word_in version f w
    go true e before =
        let g : w < n = ltb-true w n e in
        get_or-append (words_from version f n) (word_in version f n ∷ []) 0 w (subst (λ m. w < m) (sym (length-words_from version f n)) g) ∙ before g
    go false e before =
        let g : n ≤ w = ltb-false w n e in
        let z : n ≡ w = omega arith in
        subst (λ w. get_or (words_from version f n ++ (word_in version f n ∷ [])) w 0 ≡ word_in version f w) z (get_or_at (words_from version f n) (word_in version f n) [] 0 n (length-words_from version f n))

module _ (f : List ℕ) (bytes : Bytes f) (words log answers : List ℕ) (n m : ℕ) (words' log' answers' : List ℕ) (q w : ℕ) where
  -- what the words buffer holds at w is word w at the end
  left : (h : Header) → Lawful h f (room_of words log answers) → w < h.words → get_or (infront (end_of h f).words words) w 0 ≡ get_or (end_of h f).words w 0
  unfolding infront end_of words_of
  left h l i =
      get_or-append (end_of h f).words (drop (length (end_of h f).words) words) 0 w
      (subst (λ n. w < n) (sym (words_stay (table_of h f) (words_of h f) h.processes (plan f bytes h (room_of words log answers) l) (schedule_in h f) ∙ length-words_from h.version f h.words)) i)

  abbrev Kept : Header → Type 0
  Kept h = h.processes ≤ q → w < h.words → bit q (get_or words' w 0) ≡ bit q (word_in h.version f w)

  -- Whatever the three buffers held, if `run` says that it ran, then in each of the W words that it leaves the bits of processes that are not there
  -- are those of the start word in the file
  pub absent_run : Ends f words log answers (ran n m) words' log' answers'
      → (header_in f).processes ≤ q → w < (header_in f).words → bit q (get_or words' w 0) ≡ bit q (word_in (header_in f).version f w)
  unfolding words_of
  absent_run e = go (refusal_of f (room_of words log answers)) refl e
    where
      go : (c : Result Header Refused) → refusal_of f (room_of words log answers) ≡ c → EndsAs c f words log answers (ran n m) words' log' answers' → Kept (header_in f)
      go (Err x) r e = absurd (let x : ran n m ≡ Err x = e.result in let z : ◌≡◌ {A = ℕ} 0 1 = cc in omega arith)
      go (Ok h) r e =
          let l : Lawful h f (room_of words log answers) = lawful f (room_of words log answers) h r in
          subst Kept l.file.header
          (λ a i. ap (λ ws. bit q (get_or ws w 0)) e.words_are ∙ ap (bit q) (left h l i) ∙ absent_file f bytes h (room_of words log answers) l q w a ∙ ap (bit q) (word_there h.version f h.words w i))
