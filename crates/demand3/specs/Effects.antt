-- What each effect keeps: the whole, and what others know.
use Prim.Native.Nat.{ℕ, suc, ◌+◌, ◌≤◌, ◌<◌}
use Rattle.std.specs.Prelude.{◌≡◌, Bool, not}
use Rattle.std.proofs.Math.Path.{refl, sym, ap, ap₂}
use Rattle.std.proofs.Common.{◌∙◌, subst, true≢false, get_or-set_same, get_or-set_other}
use Rattle.std.proofs.Math.Bool.{true, false}
use mathlib.Core.List.{List, [], ◌∷◌, ◌++◌, map, append-nil}
use Rattle.std.proofs.Math.Dec.{eqb}
use Rattle.std.proofs.Math.ListN.{length, get_or, set, get_or-map}
use Rattle.std.proofs.lemmas.List.{length-map}
use Rattle.rows.specs.declared.Entry.{Entry}
use Rattle.machine.specs.Laws.{map-set}
use Rattle.machine.specs.Machine.{Effect, quiet, swaps, logs, replies, State, apply}
use Rattle.runfile.specs.declared.Row.{Row}
use Rattle.machine.specs.declared.Process.{Process}
use Rattle.word.specs.Word.{value_in, value, bit, width}
use Rattle.runfile.specs.Operations.{row_numbered, first, count}
use Rattle.runfile.specs.Kinds.{new_of}
use Rattle.rows.specs.Log.{insert, is_swap}
use native.Mathlib.Omega.{arith}
use borrow.Author.Tests.{eq-eqb, ne_eqb, eqb-true, eqb-false}
use Rattle.word.specs.Laws.{after_swap}
use Rattle.replay.specs.Lists.{All, all_join, all_map, all_put, keep, keep_join, keep_put_no, keep_put_yes, Found, keep-found}
use Rattle.replay.specs.Logs.{Ordered, sorted_put, Put, put, insert_last}
use Rattle.replay.specs.Replay.{Good, final, moved-swapped, final_join, right_join, length-final, right_put, final-put, early-put, early_put_later, both_true_0, is_swap_lem}
use Rattle.demand3.specs.Statement.{of, word_of}
use Rattle.demand3.specs.Invariant.{Times, Has, HasSwap, is_other, HasOther, Since, as_read, overtaken, Global, Swapping, Logging, Allowed}
use Rattle.demand3.specs.Frames.{Frame}

-- the entries of other rows
pub of-put : (k : ℕ) {l l' : List Entry} (e : Entry) → Put e l l' → (e.row ≡ k → ⊥) → of k l' ≡ of k l
unfolding of
of-put k {l} {l'} e p n = rw (p.was, p.now) (keep_put_no (λ e. eqb e.row k) p.front p.back e (ne_eqb e.row k n))

pub of_last : (k : ℕ) (l : List Entry) (e : Entry) → (e.row ≡ k → ⊥) → of k (l ++ e ∷ []) ≡ of k l
unfolding of
of_last k l e n = keep_put_no (λ e. eqb e.row k) l [] e (ne_eqb e.row k n) ∙ ap (keep (λ e. eqb e.row k)) (append-nil l)

-- the entries of its own row, where there were none
only : {A : Type 0} (a b : List A) (x : A) → a ++ b ≡ [] → a ++ x ∷ b ≡ x ∷ []
only [] b x h = ap (λ b. x ∷ b) h
only (y ∷ a) b x h = cc

pub of_put_own : (k : ℕ) {l l' : List Entry} (e : Entry) → Put e l l' → e.row ≡ k → of k l ≡ [] → of k l' ≡ e ∷ []
unfolding of
of_put_own k {l} {l'} e p n h =
    rw p.now
    (keep_put_yes (λ e. eqb e.row k) p.front p.back e (eq-eqb e.row k n)
    ∙ only (of k p.front) (of k p.back) e (sym (keep_join (λ e. eqb e.row k) p.front p.back) ∙ ap (keep (λ e. eqb e.row k)) (sym p.was) ∙ h))

pub of_last_own : (k : ℕ) (l : List Entry) (e : Entry) → e.row ≡ k → of k l ≡ [] → of k (l ++ e ∷ []) ≡ e ∷ []
unfolding of
of_last_own k l e n h =
    keep_put_yes (λ e. eqb e.row k) l [] e (eq-eqb e.row k n) ∙ ap (λ l. l ++ e ∷ []) h

-- an entry that passes a test stays in the log, and a new one is there
module _ (test : Entry → Bool) where
  pub has_there : {l : List Entry} (front back : List Entry) (e : Entry) → l ≡ front ++ e ∷ back → test e ≡ true → Has test l
  has_there {l} front back e whole t = first (keep test front) (ap (keep test) whole ∙ keep_put_yes test front back e t)
    where
      first : (passing : List Entry) → keep test l ≡ passing ++ e ∷ keep test back → Has test l
      first [] h = record { entry = e; rest = keep test back; is = h }
      first (f ∷ passing) h = record { entry = f; rest = passing ++ e ∷ keep test back; is = h }

  pub has_new : {l l' : List Entry} (e : Entry) → Put e l l' → test e ≡ true → Has test l'
  has_new e p t = has_there p.front p.back e p.now t

  pub has_put : {l l' : List Entry} (e : Entry) → Put e l l' → Has test l → Has test l'
  has_put {l} {l'} e p h = go (test e) refl
    where
      go : (c : Bool) → test e ≡ c → Has test l'
      go true t = has_new e p t
      go false t =
          record {
            entry = h.entry;
            rest = h.rest;
            is = ap (keep test) p.now ∙ keep_put_no test p.front p.back e t ∙ ap (keep test) (sym p.was) ∙ h.is;
          }

  -- one that passes a narrower test passes this one
  pub has_wider : (narrow : Entry → Bool) → ((e : Entry) → narrow e ≡ true → test e ≡ true) → (l : List Entry) → Has narrow l → Has test l
  has_wider narrow wider l h =
      let d : Found narrow l h.entry = keep-found narrow l h.entry h.rest h.is in
      has_there d.front d.back h.entry d.whole (wider h.entry d.passes)

module _ (rows : List Row) (start : List ℕ) where
  -- a swap of another is a swap
  pub other_swap : (p w a : ℕ) (l : List Entry) → HasOther rows start p w a l → HasSwap rows start w a l
  unfolding is_other
  other_swap p w a l h = has_wider (is_swap rows w a) (is_other rows start p w a) (λ e t. both_true_0 (is_swap rows w a e) (not (eqb (row_numbered rows e.row).process p)) t) l h

  module _ (good : (k : ℕ) → Good (length start) (row_numbered rows k)) (Late : Times) where
    pub words_length : (t : ℕ) (s : State) → Global rows start Late t s → length s.words ≡ length start
    words_length t s g = sym (length-map s.words value) ∙ ap length (sym g.ends) ∙ length-final rows start s.log

    -- the plain value of a word
    pub plain : (t : ℕ) (s : State) → Global rows start Late t s → (w : ℕ) → get_or (final rows start s.log) w 0 ≡ value (get_or s.words w 0)
    unfolding value_in
    plain t s g w = ap (λ l. get_or l w 0) g.ends ∙ get_or-map value s.words w 0

    below_suc : (t : ℕ) (l : List Entry) → All (λ e. e.position < t) l → All (λ e. e.position < suc t) l
    below_suc t l h = all_map (λ e. e.position < t) (λ e. e.position < suc t) (λ e h. omega arith) l h

    -- its log row goes to the end
    swap_last : (p k t w x : ℕ) (e : Entry) (s : State) → Global rows start Late t s → Swapping rows start Late p k t s w x e → insert e s.log ≡ s.log ++ e ∷ []
    swap_last p k t w x e s g a = insert_last e s.log g.sorted (subst (λ t. All (λ e. e.position < t) s.log) (sym a.at) g.below)

    swap_ends : (p k t w x : ℕ) (e : Entry) (s : State) → Global rows start Late t s → Swapping rows start Late p k t s w x e → final rows start (s.log ++ e ∷ []) ≡ map value (set s.words w x)
    unfolding final
    swap_ends p k t w x e s g a =
        let v : ℕ = value (word_of rows k s.words) in
        let n : ℕ = new_of (row_numbered rows k) v in
        let now : get_or (final rows start s.log) (row_numbered rows k).word 0 ≡ v = plain t s g (row_numbered rows k).word in
        final_join rows start s.log (e ∷ [])
        ∙ moved-swapped rows e (final rows start s.log) a.truly
        ∙ ap (λ k. set (final rows start s.log) (row_numbered rows k).word (new_of (row_numbered rows k) (get_or (final rows start s.log) (row_numbered rows k).word 0))) a.row
        ∙ ap (λ u. set (final rows start s.log) (row_numbered rows k).word (new_of (row_numbered rows k) u)) now
        ∙ ap (λ vs. set vs (row_numbered rows k).word n) g.ends
        ∙ ap₂ (λ w n. set (map value s.words) w n) (sym a.word) (sym (ap value a.new ∙ (after_swap width p n (word_of rows k s.words) ((good k).fits v)).value))
        ∙ sym (map-set value s.words w x)

    pub global_swap : (p k t w x : ℕ) (e : Entry) (ps : List Process) (s : State) → Global rows start Late t s → Swapping rows start Late p k t s w x e → Global rows start Late (suc t) (apply (swaps w x e) ps s)
    unfolding apply
    global_swap p k t w x e ps s g a =
        let last : insert e s.log ≡ s.log ++ e ∷ [] = swap_last p k t w x e s g a in
        let at : e.position ≡ t = a.at in
        record {
          sorted =
              rw last
              (sorted_put s.log [] e
              (all_map (λ f. f.position < t) (λ f. Ordered f e) (λ f h. record { le = omega arith; lt = λ _ _. omega arith }) s.log g.below)
              tt
              (rw (append-nil s.log) g.sorted));
          below = rw last (all_join (λ e. e.position < suc t) s.log (e ∷ []) (below_suc t s.log g.below) (omega arith, tt));
          there_answers = g.there_answers;
          late = rw last (all_join (λ e. Late e.row e.position) s.log (e ∷ []) g.late (a.late, tt));
          there = rw last (all_join (λ e. e.row < length rows) s.log (e ∷ []) g.there (a.there, tt));
          right = rw last (right_join rows start s.log (e ∷ []) g.right (a.right, tt));
          ends = rw last (swap_ends p k t w x e s g a);
        }

    pub global_log : (k t : ℕ) (e : Entry) (ps : List Process) (s : State) → Global rows start Late t s → Logging rows start Late k t s e → Global rows start Late (suc t) (apply (logs e) ps s)
    unfolding apply
    global_log k t e ps s g a =
        let p : Put e s.log (insert e s.log) = put e s.log g.sorted in
        let past : e.position < t = a.past in
        let was : s.log ≡ p.front ++ p.back = p.was in
        record {
          sorted =
              rw p.now
              (sorted_put p.front p.back e
              (all_map (λ f. f.position ≤ e.position) (λ f. Ordered f e) (λ f h. record { le = h; lt = λ _ u. absurd (true≢false (sym (sym a.no_swap ∙ u))) }) p.front p.low)
              (all_map (λ f. e.position < f.position) (Ordered e) (λ f h. record { le = omega arith; lt = λ u _. absurd (true≢false (sym (sym a.no_swap ∙ u))) }) p.back p.high)
              (rw was at g.sorted));
          below = rw p.now (all_put (λ e. e.position < suc t) p.front p.back e (omega arith) (rw was at (below_suc t s.log g.below)));
          there_answers = g.there_answers;
          late = rw p.now (all_put (λ e. Late e.row e.position) p.front p.back e a.late (rw was at g.late));
          there = rw p.now (all_put (λ e. e.row < length rows) p.front p.back e a.there (rw was at g.there));
          right =
              rw p.now
              (right_put rows start p.front p.back e a.no_swap (rw p.front_is a.right) (rw was at g.right));
          ends = rw p.now (final-put rows start p.front p.back e a.no_swap ∙ ap (final rows start) (sym was) ∙ g.ends);
        }

    pub global_same : (t : ℕ) (ps : List Process) (s : State) → Global rows start Late t s → Global rows start Late (suc t) (apply quiet ps s)
    unfolding apply
    global_same t ps s g = record { sorted = g.sorted; below = below_suc t s.log g.below; late = g.late; there = g.there; there_answers = g.there_answers; right = g.right; ends = g.ends }

    pub global_effect : (p k t : ℕ) (f : Effect) (ps : List Process) (s : State) → Global rows start Late t s → Allowed rows start Late p k t s f → Global rows start Late (suc t) (apply f ps s)
    unfolding apply
    global_effect p k t quiet ps s g a = global_same t ps s g
    global_effect p k t (swaps w x e) ps s g a = global_swap p k t w x e ps s g a
    global_effect p k t (logs e) ps s g a = global_log k t e ps s g a
    global_effect p k t (replies e) ps s g a = record { sorted = g.sorted; below = below_suc t s.log g.below; late = g.late; there = g.there; there_answers = all_join (λ e. e.row < length rows) s.answers (e ∷ []) g.there_answers (a.1, tt); right = g.right; ends = g.ends }

    -- what process q keeps, whose rows the entry does not name
    pub frame_quiet : (q t : ℕ) (ps : List Process) (s : State) (r : Process) → Frame rows start Late Late q t (suc t) s (apply quiet ps s) r
    unfolding apply
    frame_quiet q t ps s r =
        record {
          later = omega arith;
          bits = λ w. refl;
          log = λ i h. refl;
          answers = λ i h. refl;
          then = λ a w h. refl;
          has = λ w a h. h;
          since = λ w a x h n. n;
          late = λ k a o h. h;
        }

    frame_reply : (q t : ℕ) (e : Entry) (ps : List Process) (s : State) (r : Process) → ((i : ℕ) → i < count rows q → e.row ≡ first rows q + i → ⊥) → Frame rows start Late Late q t (suc t) s (apply (replies e) ps s) r
    unfolding apply
    frame_reply q t e ps s r other =
        record {
          later = omega arith;
          bits = λ w. refl;
          log = λ i h. refl;
          answers = λ i h. of_last (first rows q + i) s.answers e (other i h);
          then = λ a w h. refl;
          has = λ w a h. h;
          since = λ w a x h n. n;
          late = λ k a o h. h;
        }

    since_log : (q w a word x : ℕ) {l l' : List Entry} (e : Entry) → Put e l l' → Since rows start q w a word x l → Since rows start q w a word x l'
    since_log q w a word x e p (as_read h) = as_read h
    since_log q w a word x e p (overtaken h) = overtaken (has_put (is_other rows start q w a) e p h)

    frame_log : (q k t : ℕ) (e : Entry) (ps : List Process) (s : State) (r : Process) → Global rows start Late t s → Logging rows start Late k t s e
        → ((i : ℕ) → i < count rows q → e.row ≡ first rows q + i → ⊥) → Frame rows start Late Late q t (suc t) s (apply (logs e) ps s) r
    unfolding apply
    frame_log q k t e ps s r g al other =
        let p : Put e s.log (insert e s.log) = put e s.log g.sorted in
        record {
          later = omega arith;
          bits = λ w. refl;
          log = λ i h. of-put (first rows q + i) e p (other i h);
          answers = λ i h. refl;
          then = λ a w h. ap (λ l. get_or l w 0) (early-put rows start a e p al.no_swap);
          has = λ w a h. has_put (is_swap rows w a) e p h;
          since = λ w a x h n. since_log q w a (get_or s.words w 0) x e p n;
          late = λ k a o h. h;
        }

    -- a swap of p on its word: q's bit of any word stays
    swap_bits : (p q k t w x : ℕ) (e : Entry) (s : State) → Global rows start Late t s → Swapping rows start Late p k t s w x e → (q ≡ p → ⊥)
        → (v : ℕ) → bit q (get_or (set s.words w x) v 0) ≡ bit q (get_or s.words v 0)
    swap_bits p q k t w x e s g a ne v = go (eqb v w) refl
      where
        go : (c : Bool) → eqb v w ≡ c → bit q (get_or (set s.words w x) v 0) ≡ bit q (get_or s.words v 0)
        go true h =
            let inside : w < length s.words = subst (λ n. w < n) (sym (words_length t s g)) (subst (λ w. w < length start) (sym a.word) (good k).inside) in
            ap (λ v. bit q (get_or (set s.words w x) v 0)) (eqb-true v w h)
            ∙ ap (bit q) (get_or-set_same s.words w x 0 inside ∙ a.new)
            ∙ (after_swap width p (new_of (row_numbered rows k) (value (word_of rows k s.words))) (word_of rows k s.words) ((good k).fits (value (word_of rows k s.words)))).others q ne
            ∙ ap (λ v. bit q (get_or s.words v 0)) (sym a.word ∙ sym (eqb-true v w h))
        go false h = ap (bit q) (get_or-set_other s.words w v x 0 (eqb-false v w h))

    -- a swap of p, whose row k is, on the word that q has read
    swap_since : (p q k t w x v a y : ℕ) (e : Entry) (s : State) → Swapping rows start Late p k t s w x e → (row_numbered rows k).process ≡ p → (q ≡ p → ⊥) → a < t → Put e s.log (insert e s.log)
        → Since rows start q v a (get_or s.words v 0) y s.log → Since rows start q v a (get_or (set s.words w x) v 0) y (insert e s.log)
    unfolding is_other
    swap_since p q k t w x v a y e s al mine ne h pt (overtaken n) = overtaken (has_put (is_other rows start q v a) e pt n)
    swap_since p q k t w x v a y e s al mine ne h pt (as_read n) = go (eqb v w) refl
      where
        go : (c : Bool) → eqb v w ≡ c → Since rows start q v a (get_or (set s.words w x) v 0) y (insert e s.log)
        go true c =
            let at : e.position ≡ t = al.at in
            let is : is_swap rows v a e ≡ true = is_swap_lem rows v a e (record {
              swap_said = al.truly;
              later = omega arith;
              there = al.there;
              on = ap (λ k. (row_numbered rows k).word) al.row ∙ sym al.word ∙ sym (eqb-true v w c);
            }) in
            let other : eqb (row_numbered rows e.row).process q ≡ false = ne_eqb (row_numbered rows e.row).process q (λ m. ne (sym m ∙ ap (λ k. (row_numbered rows k).process) al.row ∙ mine)) in
            overtaken (has_new (is_other rows start q v a) e pt (rw (is, other)))
        go false c = as_read (get_or-set_other s.words w v x 0 (eqb-false v w c) ∙ n)

    frame_swap : (p q k t w x : ℕ) (e : Entry) (ps : List Process) (s : State) (r : Process) → Global rows start Late t s → Swapping rows start Late p k t s w x e → (row_numbered rows k).process ≡ p → (q ≡ p → ⊥)
        → ((i : ℕ) → i < count rows q → e.row ≡ first rows q + i → ⊥) → Frame rows start Late Late q t (suc t) s (apply (swaps w x e) ps s) r
    unfolding apply
    frame_swap p q k t w x e ps s r g al mine ne other =
        let pt : Put e s.log (insert e s.log) = put e s.log g.sorted in
        let at : e.position ≡ t = al.at in
        record {
          later = omega arith;
          bits = swap_bits p q k t w x e s g al ne;
          log = λ i h. of-put (first rows q + i) e pt (other i h);
          answers = λ i h. refl;
          then = λ a w h. ap (λ l. get_or (final rows start l) w 0) (early_put_later rows a e pt (omega arith));
          has = λ w a h. has_put (is_swap rows w a) e pt h;
          since = λ v a y h n. swap_since p q k t w x v a y e s al mine ne h pt n;
          late = λ k a o h. h;
        }

    pub frame_effect : (p q k t : ℕ) (f : Effect) (ps : List Process) (s : State) (r : Process) → Global rows start Late t s → Allowed rows start Late p k t s f → (row_numbered rows k).process ≡ p → (q ≡ p → ⊥)
        → ((i : ℕ) → i < count rows q → k ≡ first rows q + i → ⊥) → Frame rows start Late Late q t (suc t) s (apply f ps s) r
    frame_effect p q k t quiet ps s r g a mine ne other = frame_quiet q t ps s r
    frame_effect p q k t (swaps w x e) ps s r g a mine ne other = frame_swap p q k t w x e ps s r g a mine ne (λ i h n. other i h (sym a.row ∙ n))
    frame_effect p q k t (logs e) ps s r g a mine ne other = frame_log q k t e ps s r g a (λ i h n. other i h (sym a.row ∙ n))
    frame_effect p q k t (replies e) ps s r g a mine ne other = frame_reply q t e ps s r (λ i h n. other i h (sym a.0 ∙ n))
