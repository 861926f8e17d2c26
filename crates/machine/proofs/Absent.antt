-- The flip bits over a whole schedule: bit q of a word is turned as often as process q changes the word, which is as often as the log tells of a
-- successful swap of q on it, and by nothing else. From what one byte may write: nothing, or a swap by the process that it names, which has a row open.
use Prim.Native.Nat.{ℕ, zero, suc, ◌^◌, ◌≤◌, ◌<◌}
use Rattle.std.specs.Prelude.{◌≡◌, Bool, not, ◌&&◌, ltb, length, get_or, set, take, drop, Option, Some, None, ℕ}
use Rattle.std.proofs.Math.Path.{refl, ap}
use Rattle.std.proofs.Common.{sym, ◌∙◌, ap₂, subst, true≢false, take-append-drop, length-set, get_or-set_same, get_or-set_other, eqb-true, eq-eqb, ne_eqb, ltb-true, ltb-false}
use Rattle.std.proofs.Math.Bool.{true, false, cond}
use mathlib.Core.List.{List, [], ◌∷◌, ◌++◌}
use Rattle.std.proofs.Math.Dec.{eqb}
use Rattle.std.proofs.lemmas.List.{length-replicate}
use Rattle.std.proofs.Math.ListN.{get_or-eq_default}
use Rattle.std.proofs.Math.Seq.{set_out}
use Rattle.std.proofs.lemmas.Bool.{eqb-false}
use Rattle.runfile.specs.declared.Row.{Row}
use Rattle.runfile.specs.Kinds.{kind_of, new_of}
use Rattle.runfile.specs.Actions.{Action, step as steps, crash as crashes, wake as wakes, crash_all as crashes_all, none as idles, action, named}
use Rattle.runfile.specs.Operations.{row_numbered, first, count}
use Rattle.word.specs.Word.{width, value, bit, swapped}
use Rattle.word.specs.Laws.{AfterSwap, after_swap}
use Rattle.rows.specs.declared.Entry.{Entry}
use Rattle.rows.specs.Entries.{is_swapped}
use Rattle.rows.specs.Log.{place, insert, first_swap}
use Rattle.machine.specs.declared.Process.{Process}
use Rattle.machine.specs.declared.Stage.{Stage}
use Rattle.machine.specs.declared.Stage.TheVariants.{A1, A2, A3, A4, A5, A6, V1, V2, V3, V4, V5, V6}
use Rattle.machine.specs.declared.Answer.{Answer}
use Rattle.machine.specs.declared.Answer.TheVariants.{False}
use Rattle.machine.specs.declared.Status.{Status}
use Rattle.machine.specs.declared.Status.TheVariants.{Down, Idle, N2, N3, Busy}
use Rattle.machine.specs.Records.{fresh, with_stored, row_open}
use Rattle.machine.specs.Turn.{Turn, Still, Quiet, Swaps}
use Rattle.machine.specs.Steps.{spoken, entry, decide, at_work, step_turn, tried_in, decide_in, step_turn_in}
use Rattle.machine.specs.KindLaws.{either, says-swapped, stored_leads}
use Rattle.machine.specs.Machine.{State, effect_of, words_after, log_after, turn, apply, applied, proc_at, act, step, after, begin, turn_in, act_in, step_in, after_in}
use Rattle.machine.specs.Laws.{closed_open}
use Rattle.machine.specs.Limits.{size}
use Rattle.machine.specs.Absent.{put_in, Leaves, as_they_were, one_swapped, one_logged, word_at, changes_at, changes, turned_by, Fitting, tells_of, told_swaps}

module _ (rows : List Row) (p t : ℕ) (words : List ℕ) (log : List Entry) (r : Process) where
  -- a turn at work on row k leaves it so
  abbrev Left : ℕ → Turn → Type 0
  Left k u = let f = effect_of rows log p t k (row_numbered rows k).word u in Leaves rows p r words log (words_after f words) (log_after f log)

  -- A4: the word is as it was read, and is swapped; or it is not
  tries : (k : ℕ) → r.opened ≡ Some k → (seen : ℕ) (won lost : Process) (says : Answer) → is_swapped (spoken (Some says)) ≡ true
      → (c : Bool) → eqb (get_or words (row_numbered rows k).word 0) seen ≡ c → Left k (cond c (Swaps won (swapped p (new_of (row_numbered rows k) (value seen)) seen) says) (Quiet lost))
  tries k o seen won lost says truly true e =
      subst (λ x. Leaves rows p r words log (set words (row_numbered rows k).word (swapped p (new_of (row_numbered rows k) (value x)) x)) (insert (entry t p k (Some says)) log))
      (eqb-true (get_or words (row_numbered rows k).word 0) seen e) (one_swapped k (entry t p k (Some says)) o refl refl truly)
  tries k o seen won lost says truly false e = as_they_were

  at_work_lem : (k : ℕ) → r.opened ≡ Some k → (stage : Stage) (seen read_at tried_at : ℕ) (answer : Option Answer)
      → Left k (decide (row_numbered rows k) p t (get_or words (row_numbered rows k).word 0) r stage seen read_at tried_at answer)
  unfolding decide_in tried_in is_swapped spoken
  at_work_lem k o A1 seen read_at tried_at answer = as_they_were
  at_work_lem k o A2 seen read_at tried_at answer = as_they_were
  at_work_lem k o A3 seen read_at tried_at answer = as_they_were
  at_work_lem k o A4 seen read_at tried_at answer =
      tries k o seen _ _ _ (says-swapped (kind_of (row_numbered rows k)) (value seen)) (eqb (get_or words (row_numbered rows k).word 0) seen) refl
  at_work_lem k o A5 seen read_at tried_at answer =
      stored_leads (Left k) (row_numbered rows k) _ seen read_at tried_at answer as_they_were (λ a e. one_logged (entry read_at p k (Some a)) e)
      (one_logged (entry (first_swap rows (row_numbered rows k).word read_at tried_at log) p k (Some False)) refl)
  at_work_lem k o A6 seen read_at tried_at answer = as_they_were
  at_work_lem k o V1 seen read_at tried_at answer = as_they_were
  at_work_lem k o V2 seen read_at tried_at answer = as_they_were
  at_work_lem k o V3 seen read_at tried_at answer = as_they_were
  at_work_lem k o V4 seen read_at tried_at answer = as_they_were
  at_work_lem k o V5 seen read_at tried_at answer = as_they_were
  at_work_lem k o V6 seen read_at tried_at answer = as_they_were

  leaves-turn : let f = (turn rows p t words log r r.status).effect in Leaves rows p r words log (words_after f words) (log_after f log)
  unfolding turn_in step_turn_in
  leaves-turn = go r.status
    where
      k : ℕ
      k = row_open r.opened

      now : ℕ
      now = get_or words (row_numbered rows k).word 0

      work : (o : Option ℕ) → r.opened ≡ o → (stage : Stage) (seen read_at tried_at : ℕ) (answer : Option Answer) → Left k (at_work (row_numbered rows k) p t now r o stage seen read_at tried_at answer)
      work None q stage seen read_at tried_at answer = as_they_were
      work (Some j) q stage seen read_at tried_at answer = at_work_lem k (q ∙ ap Some (sym (ap row_open q))) stage seen read_at tried_at answer

      go : (status : Status) → Left k (step_turn (row_numbered rows k) p t now (first rows p) (count rows p) r status)
      go Down = as_they_were
      go Idle = either (Left k) (ltb r.begun (count rows p)) (Quiet (with_stored N2 None r)) Still as_they_were as_they_were
      go N2 = as_they_were
      go N3 = as_they_were
      go (Busy stage seen read_at tried_at answer) = work r.opened refl stage seen read_at tried_at answer

pub leaves : (rows : List Row) (t byte : ℕ) (s : State) → Leaves rows (named byte) (proc_at (named byte) s) s.words s.log (step rows t byte s).words (step rows t byte s).log
unfolding step_in act_in applied apply
leaves rows t byte s = go (action byte)
  where
    go : (a : Action) → Leaves rows (named byte) (proc_at (named byte) s) s.words s.log (act rows t a (named byte) s).words (act rows t a (named byte) s).log
    go steps = leaves-turn rows (named byte) t s.words s.log (proc_at (named byte) s)
    go crashes = as_they_were
    go wakes = as_they_were
    go crashes_all = as_they_were
    go idles = as_they_were

module _ (q w p : ℕ) (words words' : List ℕ) where
  -- bit q of word w, by whether process p, which the byte names, is q and has changed the word
  abbrev Told : Type 0
  Told = bit q (get_or words' w 0) ≡ cond (eqb p q && not (eqb (get_or words w 0) (get_or words' w 0))) (not (bit q (get_or words w 0))) (bit q (get_or words w 0))

  told_same : get_or words' w 0 ≡ get_or words w 0 → Told
  told_same e = ap (bit q) e ∙ sym (rw (eq-eqb (get_or words w 0) (get_or words' w 0) (sym e)) (go (eqb p q) (not (bit q (get_or words w 0))) (bit q (get_or words w 0))))
    where
      go : (c x y : Bool) → cond (c && false) x y ≡ y
      go true x y = refl
      go false x y = refl

  told-swapped : (n : ℕ) → n < 2 ^ width → get_or words' w 0 ≡ swapped p n (get_or words w 0) → Told
  told-swapped n h e = rw (ne_eqb (get_or words w 0) (get_or words' w 0) changed) (go (eqb p q) refl)
    where
      did : AfterSwap width p n (get_or words w 0) (swapped p n (get_or words w 0))
      did = after_swap width p n (get_or words w 0) h

      never : (b : Bool) → b ≡ not b → ⊥
      never true e = true≢false e
      never false e = true≢false (sym e)

      changed : get_or words w 0 ≡ get_or words' w 0 → ⊥
      changed same = never (bit p (get_or words w 0)) (ap (bit p) (same ∙ e) ∙ did.own)

      go : (c : Bool) → eqb p q ≡ c → bit q (get_or words' w 0) ≡ cond (c && true) (not (bit q (get_or words w 0))) (bit q (get_or words w 0))
      go true x = subst (λ q. bit q (get_or words' w 0) ≡ not (bit q (get_or words w 0))) (eqb-true p q x) (ap (bit p) e ∙ did.own)
      go false x = ap (bit q) e ∙ did.others q (λ y. eqb-false p q x (sym y))

module _ (rows : List Row) (fits : Fitting rows) (q w : ℕ) where
  told : (p : ℕ) (r : Process) (words words' : List ℕ) (log log' : List Entry) → Leaves rows p r words log words' log' → Told q w p words words'
  told p r words words' log log' as_they_were = told_same q w p words words refl
  told p r words words' log log' (one_logged e n) = told_same q w p words words refl
  told p r words words' log log' (one_swapped k e o is-p is-k truly) = go (eqb w i) refl (ltb i (length words)) refl
    where
      i : ℕ
      i = (row_numbered rows k).word

      new : ℕ
      new = new_of (row_numbered rows k) (value (get_or words i 0))

      go : (c : Bool) → eqb w i ≡ c → (d : Bool) → ltb i (length words) ≡ d → Told q w p words (put_in rows p k words)
      go false x d y = told_same q w p words (put_in rows p k words) (get_or-set_other words i w _ 0 (eqb-false w i x))
      go true x true y = told-swapped q w p words (put_in rows p k words) new (fits k (value (get_or words i 0)))
          (subst (λ w. get_or (put_in rows p k words) w 0 ≡ swapped p new (get_or words w 0)) (sym (eqb-true w i x)) (get_or-set_same words i _ 0 (ltb-true i (length words) y)))
      go true x false y = told_same q w p words (put_in rows p k words) (ap (λ ws. get_or ws w 0) (set_out words i _ (ltb-false i (length words) y)))

  -- bit q of word w is turned as often as q has changed the word
  pub bit_tells : (t : ℕ) (bytes : List ℕ) (s : State) → bit q (word_at w (after rows t bytes s)) ≡ turned_by (changes rows q w t bytes s) (bit q (word_at w s))
  unfolding after_in changes turned_by
  bit_tells t [] s = refl
  bit_tells t (byte ∷ bytes) s =
      bit_tells (suc t) bytes (step rows t byte s)
      ∙ ap (turned_by (changes rows q w (suc t) bytes (step rows t byte s))) (told (named byte) (proc_at (named byte) s) s.words (step rows t byte s).words s.log (step rows t byte s).log (leaves rows t byte s))
      ∙ go (changes_at rows q w t byte s) (changes rows q w (suc t) bytes (step rows t byte s)) (bit q (word_at w s))
    where
      go : (c : Bool) (m : ℕ) (b : Bool) → turned_by m (cond c (not b) b) ≡ turned_by (cond c (suc m) m) b
      go true m b = refl
      go false m b = refl

  -- the bit of a process that has changed the word by no byte
  pub never_turned : (t : ℕ) (bytes : List ℕ) (s : State) → changes rows q w t bytes s ≡ 0 → bit q (word_at w (after rows t bytes s)) ≡ bit q (word_at w s)
  unfolding turned_by
  never_turned t bytes s e = bit_tells t bytes s ∙ ap (λ n. turned_by n (bit q (word_at w s))) e

module _ (rows : List Row) (q w : ℕ) where
  -- a process that is not there changes no word
  absent_byte : (t byte : ℕ) (s : State) → length s.processes ≤ q → changes_at rows q w t byte s ≡ false
  unfolding proc_at
  absent_byte t byte s h = go (eqb (named byte) q) refl
    where
      shut : {k : ℕ} → named byte ≡ q → (proc_at (named byte) s).opened ≡ Some k → ⊥
      shut e o = closed_open (sym (ap (λ (r : Process). r.opened) (ap (λ p. proc_at p s) e ∙ get_or-eq_default s.processes fresh h)) ∙ o)

      kept : named byte ≡ q → (words' : List ℕ) (log' : List Entry) → Leaves rows (named byte) (proc_at (named byte) s) s.words s.log words' log' → not (eqb (word_at w s) (get_or words' w 0)) ≡ false
      kept e words' log' as_they_were = ap not (eq-eqb (word_at w s) (word_at w s) refl)
      kept e words' log' (one_logged f n) = ap not (eq-eqb (word_at w s) (word_at w s) refl)
      kept e words' log' (one_swapped k f o is-p is-k truly) = absurd (shut e o)

      go : (c : Bool) → eqb (named byte) q ≡ c → (c && not (eqb (word_at w s) (word_at w (step rows t byte s)))) ≡ false
      go true e = kept (eqb-true (named byte) q e) (step rows t byte s).words (step rows t byte s).log (leaves rows t byte s)
      go false e = refl

  absent_changes : (t : ℕ) (bytes : List ℕ) (s : State) → length s.processes ≤ q → changes rows q w t bytes s ≡ 0
  unfolding changes
  absent_changes t [] s h = refl
  absent_changes t (byte ∷ bytes) s h = rw (absent_byte t byte s h) (absent_changes (suc t) bytes (step rows t byte s) (rw (size rows q t byte s) h))

-- After any schedule from the start, lawful or not: bit q of word w is as it was if there is no process q, and if q has changed the word by no byte
module _ (rows : List Row) (fits : Fitting rows) (P : ℕ) (words schedule : List ℕ) (q w : ℕ) where
  pub absent_kept : P ≤ q → bit q (word_at w (after rows 0 schedule (begin P words))) ≡ bit q (get_or words w 0)
  unfolding begin
  absent_kept h = never_turned rows fits q w 0 schedule (begin P words) (absent_changes rows q w 0 schedule (begin P words) (rw (length-replicate P fresh) h))

  pub unchanged_kept : changes rows q w 0 schedule (begin P words) ≡ 0 → bit q (word_at w (after rows 0 schedule (begin P words))) ≡ bit q (get_or words w 0)
  unfolding begin
  unchanged_kept e = never_turned rows fits q w 0 schedule (begin P words) e

module _ (rows : List Row) (q w : ℕ) where
  told-put : (a b : List Entry) (e : Entry) → told_swaps rows q w (a ++ e ∷ b) ≡ cond (tells_of rows q w e) (suc (told_swaps rows q w (a ++ b))) (told_swaps rows q w (a ++ b))
  unfolding told_swaps
  told-put [] b e = refl
  told-put (f ∷ a) b e = ap (λ n. cond (tells_of rows q w f) (suc n) n) (told-put a b e) ∙ go (tells_of rows q w f) (tells_of rows q w e) (told_swaps rows q w (a ++ b))
    where
      go : (c d : Bool) (n : ℕ) → cond c (suc (cond d (suc n) n)) (cond d (suc n) n) ≡ cond d (suc (cond c (suc n) n)) (cond c (suc n) n)
      go true true n = refl
      go true false n = refl
      go false true n = refl
      go false false n = refl

  told-insert : (e : Entry) (log : List Entry) → told_swaps rows q w (insert e log) ≡ cond (tells_of rows q w e) (suc (told_swaps rows q w log)) (told_swaps rows q w log)
  unfolding insert
  told-insert e log =
      told-put (take (place e.position log) log) (drop (place e.position log) log) e
      ∙ ap (λ l. cond (tells_of rows q w e) (suc (told_swaps rows q w l)) (told_swaps rows q w l)) (take-append-drop (place e.position log) log)

not_turned : (n : ℕ) (b : Bool) → turned_by n (not b) ≡ not (turned_by n b)
unfolding turned_by
not_turned zero b = refl
not_turned (suc n) b = not_turned n (not b)

module _ (rows : List Row) (fits : Fitting rows) (q w : ℕ) (start : Bool) where
  -- bit q of word w is what the log makes of the bit that it was at the start
  abbrev Recounted : List ℕ → List Entry → Type 0
  Recounted words log = (w < length words) × (bit q (get_or words w 0) ≡ turned_by (told_swaps rows q w log) start)

  recount : (p : ℕ) (r : Process) (words words' : List ℕ) (log log' : List Entry) → Leaves rows p r words log words' log' → Recounted words log → Recounted words' log'
  unfolding turned_by
  recount p r words words' log log' as_they_were h = h
  recount p r words words' log log' (one_logged e n) h =
      (h.0, h.1 ∙ ap (λ m. turned_by m start) (sym (told-insert rows q w e log ∙ ap (λ c. cond (c && (eqb e.process q && eqb (row_numbered rows e.row).word w)) (suc (told_swaps rows q w log)) (told_swaps rows q w log)) n)))
  recount p r words words' log log' (one_swapped k e o is-p is-k truly) h =
      (rw (length-set words i x) h.0, go (eqb p q) refl (eqb i w) refl)
    where
      i : ℕ
      i = (row_numbered rows k).word

      new : ℕ
      new = new_of (row_numbered rows k) (value (get_or words i 0))

      x : ℕ
      x = swapped p new (get_or words i 0)

      did : AfterSwap width p new (get_or words i 0) x
      did = after_swap width p new (get_or words i 0) (fits k (value (get_or words i 0)))

      counted : told_swaps rows q w (insert e log) ≡ cond (eqb p q && eqb i w) (suc (told_swaps rows q w log)) (told_swaps rows q w log)
      counted =
          told-insert rows q w e log
          ∙ ap (λ c. cond (c && (eqb e.process q && eqb (row_numbered rows e.row).word w)) (suc (told_swaps rows q w log)) (told_swaps rows q w log)) truly
          ∙ ap₂ (λ a b. cond (eqb a q && eqb (row_numbered rows b).word w) (suc (told_swaps rows q w log)) (told_swaps rows q w log)) is-p is-k

      chosen : Bool → Bool → ℕ
      chosen a b = cond (a && b) (suc (told_swaps rows q w log)) (told_swaps rows q w log)

      same : told_swaps rows q w (insert e log) ≡ told_swaps rows q w log → bit q (get_or (set words i x) w 0) ≡ bit q (get_or words w 0) → bit q (get_or (set words i x) w 0) ≡ turned_by (told_swaps rows q w (insert e log)) start
      same n b = b ∙ h.1 ∙ ap (λ m. turned_by m start) (sym n)

      put : i ≡ w → get_or (set words i x) w 0 ≡ x
      put y = subst (λ w. w < length words → get_or (set words i x) w 0 ≡ x) y (λ l. get_or-set_same words i x 0 l) h.0

      was : i ≡ w → get_or words i 0 ≡ get_or words w 0
      was y = ap (λ w. get_or words w 0) y

      go : (c : Bool) → eqb p q ≡ c → (d : Bool) → eqb i w ≡ d → bit q (get_or (set words i x) w 0) ≡ turned_by (told_swaps rows q w (insert e log)) start
      go true a true y =
          let turned : bit q (get_or (set words i x) w 0) ≡ not (bit q (get_or words w 0)) =
          subst (λ q. bit q (get_or (set words i x) w 0) ≡ not (bit q (get_or words w 0))) (eqb-true p q a) (ap (bit p) (put (eqb-true i w y)) ∙ did.own ∙ ap (λ v. not (bit p v)) (was (eqb-true i w y))) in
          turned ∙ ap not h.1 ∙ sym (not_turned (told_swaps rows q w log) start) ∙ ap (λ m. turned_by m start) (sym (counted ∙ ap₂ chosen a y))
      go true a false y = same (counted ∙ ap₂ chosen a y) (ap (bit q) (get_or-set_other words i w x 0 (λ z. eqb-false i w y (sym z))))
      go false a true y = same (counted ∙ ap₂ chosen a y) (ap (bit q) (put (eqb-true i w y)) ∙ did.others q (λ z. eqb-false p q a (sym z)) ∙ ap (bit q) (was (eqb-true i w y)))
      go false a false y = same (counted ∙ ap₂ chosen a y) (ap (bit q) (get_or-set_other words i w x 0 (λ z. eqb-false i w y (sym z))))

  recounted : (t : ℕ) (bytes : List ℕ) (s : State) → Recounted s.words s.log → Recounted (after rows t bytes s).words (after rows t bytes s).log
  unfolding after_in
  recounted t [] s h = h
  recounted t (byte ∷ bytes) s h =
      recounted (suc t) bytes (step rows t byte s) (recount (named byte) (proc_at (named byte) s) s.words (step rows t byte s).words s.log (step rows t byte s).log (leaves rows t byte s) h)

-- After any schedule from the start: bit q of a word is that of the start, turned as often as the log tells of a successful swap of q on the word; so
-- if the log tells of none, it is as it was
module _ (rows : List Row) (fits : Fitting rows) (P : ℕ) (words schedule : List ℕ) (q w : ℕ) (inside : w < length words) where
  pub log_tells_bit : bit q (word_at w (after rows 0 schedule (begin P words))) ≡ turned_by (told_swaps rows q w (after rows 0 schedule (begin P words)).log) (bit q (get_or words w 0))
  unfolding begin told_swaps turned_by
  log_tells_bit = (recounted rows fits q w (bit q (get_or words w 0)) 0 schedule (begin P words) (inside, refl)).1

  pub unlogged_kept : told_swaps rows q w (after rows 0 schedule (begin P words)).log ≡ 0 → bit q (word_at w (after rows 0 schedule (begin P words))) ≡ bit q (get_or words w 0)
  unfolding turned_by
  unlogged_kept e = log_tells_bit ∙ ap (λ n. turned_by n (bit q (get_or words w 0))) e
