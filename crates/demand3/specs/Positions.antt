-- Where the log rows and the answer rows stand in time. A log row of row k has a position at which the row is open: at or after its first
-- reading it has begun (the invariant, with a `Late` that says so), and an ended row gets no log row from its end on. A swap's is that of the byte
-- that changed the word, an answer row's that of the byte that ended the row: what one byte does (`Does`), over the schedule.
use Rattle.std.specs.Prelude.{ℕ, zero, suc, ◌+◌, ◌≤◌, ◌<◌, ◌≡◌, refl, Bool, true, false, ◌&&◌, List, [], ◌∷◌, ◌++◌, map, eqb, ltb, get_or, set, take, drop, Option, Some, None}
use Rattle.std.proofs.Common.{sym, ◌∙◌, ap, true≢false, arith, zero-add, take-append-drop, take-take, length-take-le}
use Rattle.std.proofs.Math.Path.{ap₂, subst}
use Rattle.std.proofs.Math.Bool.{not}
use Rattle.std.proofs.Math.ListN.{length}
use Rattle.std.proofs.Math.Seq.{take-length}
use borrow.Author.Tests.{eq-eqb, eqb-true, eqb-false, ltb-true, ltb-false}
use Rattle.runfile.specs.declared.Row.{Row}
use Rattle.runfile.specs.Operations.{first, count}
use Rattle.runfile.specs.Actions.{named}
use Rattle.word.specs.Word.{value}
use Rattle.rows.specs.declared.Entry.{Entry}
use Rattle.rows.specs.Entries.{said, is_swapped}
use Rattle.machine.specs.Machine.{State, quiet, swaps, logs, replies, proc_at, step, after, begin, after_in}
use Rattle.machine.specs.Laws.{after_join, after_next, closed_open}
use Rattle.replay.specs.Lists.{All, all_put, all_join, all_right, keep_put_yes, append_empty_right, Found, keep-found}
use Rattle.replay.specs.Logs.{Put, put}
use Rattle.demand3.specs.Statement.{Firmware, of, owner_of, is_row, Begun, StillOpen, Ended, swaps_at, state_after, LoggedThen, AnsweredThen}
use Rattle.demand3.specs.FlipBit.{flip_bit}
use Rattle.demand3.specs.Invariant.{Times, Inv, IsOpen, Local, Swapping, Allowed}
use Rattle.demand3.specs.Plans.{Plan}
use Rattle.demand3.specs.Preserve.{inv_begin, inv_step, absent}
use Rattle.demand3.specs.Moves.{Does, nothing, allowed, does}
use Rattle.demand3.specs.Swaps.{changed}
use Rattle.demand3.specs.Announce.{never_falls}
use Rattle.demand3.specs.Order.{Always, good, own, inv}
use Rattle.demand3.specs.Told.{reached, stays}

pub open_same : {j k : ℕ} {o : Option ℕ} → o ≡ Some j → o ≡ Some k → j ≡ k
open_same e f = cc

-- what holds of all holds of the one of row k
pub of_all_lem : (Q : Entry → Type 0) (k : ℕ) (l : List Entry) (e : Entry) → All Q l → of k l ≡ e ∷ [] → Q e × (e.row ≡ k)
unfolding of
of_all_lem Q k l e h is =
    let d : Found (λ e. eqb e.row k) l e = keep-found (λ e. eqb e.row k) l e [] is in
    ((all_right Q d.front (e ∷ d.back) (subst (All Q) d.whole h)).0, eqb-true e.row k d.passes)

-- one more in the log
pub put_all : (Q : Entry → Type 0) {l l' : List Entry} (e : Entry) → Put e l l' → Q e → All Q l → All Q l'
put_all Q e p q h = subst (All Q) (sym p.now) (all_put Q p.front p.back e q (subst (All Q) p.was h))

-- where the last is of row k, row k stands there
last_there : (k : ℕ) (l : List Entry) (e : Entry) → e.row ≡ k → of k (l ++ e ∷ []) ≡ [] → ⊥
unfolding of
last_there k l e r h =
    let last : e ∷ [] ≡ [] = append_empty_right (of k l) (e ∷ []) (sym (keep_put_yes (λ e. eqb e.row k) l [] e (eq-eqb e.row k r)) ∙ h) in
    let z : ◌≡◌ {A = ℕ} 0 1 = cc in
    omega arith

module _ (rows : List Row) (words : List ℕ) (P : ℕ) (plan : Plan P (length words) rows) (schedule : List ℕ) where
  abbrev m : Firmware
  m = flip_bit rows P words

  abbrev start : List ℕ
  start = map value words

  -- the state after n bytes, and the byte that comes then
  abbrev pub at : ℕ → State
  at n = after rows 0 (take n schedule) (begin P words)

  abbrev pub byte : ℕ → ℕ
  byte n = get_or schedule n 0

  long : (n : ℕ) → n ≤ length schedule → 0 + length (take n schedule) ≡ n
  long n h = zero-add (length (take n schedule)) ∙ length-take-le n schedule h

  pub next : (n : ℕ) → n < length schedule → at (suc n) ≡ step rows n (byte n) (at n)
  next n h = after_next rows schedule n (begin P words) h

  pub along : (Q : ℕ → Type 0) → Q 0 → ((n : ℕ) → n < length schedule → Q n → Q (suc n)) → (n : ℕ) → n ≤ length schedule → Q n
  along Q z s zero h = z
  along Q z s (suc n) h = s n h (along Q z s n (omega arith))

  pub end-at : at (length schedule) ≡ after rows 0 schedule (begin P words)
  end-at = ap (λ b. after rows 0 b (begin P words)) (take-length schedule)

  pub inv_at : (n : ℕ) → n ≤ length schedule → Inv rows start Always P n (at n)
  inv_at n h = subst (λ t. Inv rows start Always P t (at n)) (long n h) (inv rows words P plan (take n schedule))

  -- the states from n on
  later : (n b : ℕ) → n ≤ b → at b ≡ after rows (0 + length (take n schedule)) (drop n (take b schedule)) (at n)
  later n b h =
      ap (λ l. after rows 0 l (begin P words)) (sym (take-append-drop n (take b schedule)) ∙ ap (λ l. l ++ drop n (take b schedule)) (take-take n b schedule h))
      ∙ after_join rows 0 (take n schedule) (drop n (take b schedule)) (begin P words)

  begun_stays : (p a b : ℕ) → a ≤ b → (proc_at p (at a)).begun ≤ (proc_at p (at b)).begun
  begun_stays p a b h =
      subst (λ s. (proc_at p (at a)).begun ≤ (proc_at p s).begun) (sym (later a b h))
      (never_falls rows p (proc_at p (at a)).begun (0 + length (take a schedule)) (drop a (take b schedule)) (at a) (omega arith))

  -- row k has begun
  abbrev Has : Times
  Has k a = Begun m rows k (at a)

  pub has_later : (k a b : ℕ) → a ≤ b → Has k a → Has k b
  has_later k a b h g = let f : (proc_at (owner_of rows k) (at a)).begun ≤ (proc_at (owner_of rows k) (at b)).begun = begun_stays (owner_of rows k) a b h in omega arith

  -- the open row of a process that is there
  pub opened : (n : ℕ) → n ≤ length schedule → (p k : ℕ) → (proc_at p (at n)).opened ≡ Some k → p < P
  opened n h p k o = go (ltb p P) refl
    where
      go : (c : Bool) → ltb p P ≡ c → p < P
      go true e = ltb-true p P e
      go false e =
          absurd (closed_open (sym (ap (λ r. r.opened) (absent rows start (good rows words P plan) (own rows words P plan) Always (λ k a b h g. tt) n (at n) (λ p k o. tt) P (inv_at n h) p (ltb-false p P e))) ∙ o))

  pub owned : (n : ℕ) (h : n ≤ length schedule) (p k : ℕ) (o : (proc_at p (at n)).opened ≡ Some k) → owner_of rows k ≡ p
  owned n h p k o =
      let l : Local rows start Always p n (at n) (proc_at p (at n)) = (inv_at n h).local p (opened n h p k o) in
      let w : IsOpen rows start p k (at n) (proc_at p (at n)) = l.opened k o in
      let b : (proc_at p (at n)).begun ≡ suc w.index = w.begun in
      let f : (proc_at p (at n)).begun ≤ count rows p = l.fits in
      ap (owner_of rows) w.row ∙ own rows words P plan p w.index (omega arith)

  has_now : (n : ℕ) → n ≤ length schedule → (p k : ℕ) → (proc_at p (at n)).opened ≡ Some k → Has k n
  has_now n h p k o =
      let w : IsOpen rows start p k (at n) (proc_at p (at n)) = ((inv_at n h).local p (opened n h p k o)).opened k o in
      let b : (proc_at p (at n)).begun ≡ suc w.index = w.begun in
      let r : k ≡ first rows p + w.index = w.row in
      subst (λ q. k < first rows q + (proc_at q (at n)).begun) (sym (owned n h p k o)) (omega arith)

  has_inv : (n : ℕ) → n ≤ length schedule → Inv rows start Has P n (at n)
  unfolding after_in
  has_inv =
      along (λ n. Inv rows start Has P n (at n)) (inv_begin rows Has P words)
      (λ n h v. subst (Inv rows start Has P (suc n)) (sym (next n h)) (inv_step rows start (good rows words P plan) (own rows words P plan) Has has_later n (at n) (has_now n (omega arith)) P v (byte n)))

  -- what the byte at n does
  pub what : (n : ℕ) → n < length schedule → Does rows start Always (named (byte n)) n (at n) (at (suc n))
  what n h =
      subst (Does rows start Always (named (byte n)) n (at n)) (sym (next n h))
      (does rows start (good rows words P plan) (own rows words P plan) Always (λ k a b h g. tt) P n (at n) (λ p k o. tt) (inv_at n (omega arith)) (byte n))

  -- a log row that tells of a swap has the position of the byte that made it
  abbrev Made : Entry → Type 0
  Made e = is_swapped (said e) ≡ true → swaps_at m rows e.row e.position (byte e.position) (at e.position) ≡ true

  swap_here : (n : ℕ) (h : n < length schedule) (k w x : ℕ) (e : Entry) → (proc_at (named (byte n)) (at n)).opened ≡ Some k → Swapping rows start Always (named (byte n)) k n (at n) w x e
      → (at (suc n)).words ≡ set (at n).words w x → swaps_at m rows k n (byte n) (at n) ≡ true
  unfolding swaps_at
  swap_here n h k w x e o a ws =
      ap₂ (λ b c. b && not c) (ap (is_row k) o ∙ eq-eqb k k refl)
      (changed rows start (good rows words P plan) (own rows words P plan) Always (λ k a b h g. tt) P words k n (at n) (λ p k o. tt) (inv_at n (omega arith)) (named (byte n)) k w x e (step rows n (byte n) (at n)) a
      (ap (λ s. s.words) (sym (next n h)) ∙ ws))

  made : (n : ℕ) → n ≤ length schedule → All Made (at n).log
  unfolding after_in begin
  made = along (λ n. All Made (at n).log) tt (λ n h v. go n h v (what n h))
    where
      go : (n : ℕ) (h : n < length schedule) → All Made (at n).log → Does rows start Always (named (byte n)) n (at n) (at (suc n)) → All Made (at (suc n)).log
      go n h v (nothing w l an) = subst (All Made) (sym l) v
      go n h v (allowed j quiet g o a w l an) = subst (All Made) (sym l) v
      go n h v (allowed j (replies e) g o a w l an) = subst (All Made) (sym l) v
      go n h v (allowed j (logs e) g o a w l an) = subst (All Made) (sym l) (put_all Made e (put e (at n).log (inv_at n (omega arith)).global.sorted) (λ t. absurd (true≢false (sym t ∙ a.no_swap))) v)
      go n h v (allowed j (swaps i x e) g o a w l an) = subst (All Made) (sym l) (put_all Made e (put e (at n).log (inv_at n (omega arith)).global.sorted)
          (λ t. subst (λ k. swaps_at m rows k e.position (byte e.position) (at e.position) ≡ true) (sym a.row)
          (subst (λ q. swaps_at m rows (first rows (named (byte n)) + j) q (byte q) (at q) ≡ true) (sym a.at) (swap_here n h (first rows (named (byte n)) + j) i x e o a w))) v)

  -- an answer row has the position of the byte that ended the row, and that byte left the log
  pub record Ends (k : ℕ) (e : Entry) : Type 0 where
    pub inside : e.position < length schedule
    pub open_then : StillOpen m rows k (at e.position)
    pub ended_then : Ended m rows k (at (suc e.position))
    pub log_left_lem : of k (at (suc e.position)).log ≡ of k (at e.position).log

  -- the byte at n returns the answer e of row k
  end-here : (n : ℕ) (h : n < length schedule) (k : ℕ) (e : Entry) → (proc_at (named (byte n)) (at n)).opened ≡ Some k → Allowed rows start Always (named (byte n)) k n (at n) (replies e)
      → (at (suc n)).log ≡ (at n).log → (at (suc n)).answers ≡ (at n).answers ++ e ∷ [] → Ends k e
  end-here n h k e o a l an =
      let at_n : e.position ≡ n = a.2 in
      let mine : owner_of rows k ≡ named (byte n) = owned n (omega arith) (named (byte n)) k o in
      let here : StillOpen m rows k (at n) = ap (λ p. (proc_at p (at n)).opened) mine ∙ o in
      record {
        inside = omega arith;
        open_then = subst (λ q. StillOpen m rows k (at q)) (sym at_n) here;
        ended_then =
            subst (λ q. Ended m rows k (at (suc q))) (sym at_n)
            (record {
              begun = has_later k n (suc n) (omega arith) (has_now n (omega arith) (named (byte n)) k o);
              shut = λ still.
                  last_there k (at n).answers e a.0
                  (ap (of k) (sym an) ∙ (((inv_at (suc n) h).local (owner_of rows k) (opened (suc n) h (owner_of rows k) k still)).opened k still).unanswered);
            });
        log_left_lem = subst (λ q. of k (at (suc q)).log ≡ of k (at q).log) (sym at_n) (ap (of k) l);
      }

  ends : (n : ℕ) → n ≤ length schedule → All (λ e. Ends e.row e) (at n).answers
  unfolding after_in begin
  ends = along (λ n. All (λ e. Ends e.row e) (at n).answers) tt (λ n h v. go n h v (what n h))
    where
      go : (n : ℕ) (h : n < length schedule) → All (λ e. Ends e.row e) (at n).answers → Does rows start Always (named (byte n)) n (at n) (at (suc n)) → All (λ e. Ends e.row e) (at (suc n)).answers
      go n h v (nothing w l an) = subst (All (λ e. Ends e.row e)) (sym an) v
      go n h v (allowed j quiet g o a w l an) = subst (All (λ e. Ends e.row e)) (sym an) v
      go n h v (allowed j (swaps i x e) g o a w l an) = subst (All (λ e. Ends e.row e)) (sym an) v
      go n h v (allowed j (logs e) g o a w l an) = subst (All (λ e. Ends e.row e)) (sym an) v
      go n h v (allowed j (replies e) g o a w l an) =
          subst (All (λ e. Ends e.row e)) (sym an)
          (all_join (λ e. Ends e.row e) (at n).answers (e ∷ []) v (subst (λ k. Ends k e) (sym a.0) (end-here n h (first rows (named (byte n)) + j) e o a l an), tt))

  abbrev end : State
  end = after rows 0 schedule (begin P words)

  same : (n : ℕ) → state_after m schedule n ≡ at n
  same n = reached rows words P plan (take n schedule)

  module _ (k : ℕ) (inside : k < length rows) where
    module _ (e : Entry) (is : of k end.log ≡ e ∷ []) where
      -- what holds of the whole log holds of e, which is of row k
      there : (Q : Entry → Type 0) → All Q (at (length schedule)).log → Q e × (e.row ≡ k)
      there Q h = of_all_lem Q k (at (length schedule)).log e h (ap (λ s. of k s.log) end-at ∙ is)

      past : e.position < length schedule
      past = (there (λ e. e.position < length schedule) (inv_at (length schedule) (omega arith)).global.below).0

      begun_then : Has k e.position
      begun_then = let h : Has e.row e.position × (e.row ≡ k) = there (λ e. Has e.row e.position) (has_inv (length schedule) (omega arith)).global.late in subst (λ k. Has k e.position) h.1 h.0

      -- an ended row has its log row already
      had : (n : ℕ) → Ended m rows k (at n) → of k (at n).log ≡ e ∷ []
      had n d = sym (stays rows words P plan k inside (take n schedule) (drop n schedule) d) ∙ ap (λ b. of k (after rows 0 b (begin P words)).log) (take-append-drop n schedule) ∙ is

      before_end : (n : ℕ) → Ended m rows k (at n) → e.position < n
      before_end n d = go (ltb (length schedule) n) refl
        where
          go : (c : Bool) → ltb (length schedule) n ≡ c → e.position < n
          go true q = let l : length schedule < n = ltb-true (length schedule) n q in let g : e.position < length schedule = past in omega arith
          go false q = (of_all_lem (λ e. e.position < n) k (at n).log e (inv_at n (ltb-false (length schedule) n q)).global.below (had n d)).0

      after-begin : (n : ℕ) → (Has k n → ⊥) → n < e.position
      after-begin n unborn = go (ltb n e.position) refl
        where
          go : (c : Bool) → ltb n e.position ≡ c → n < e.position
          go true q = ltb-true n e.position q
          go false q = absurd (unborn (has_later k e.position n (ltb-false n e.position q) begun_then))

      open_then : StillOpen m rows k (at e.position)
      open_then = go (proc_at (owner_of rows k) (at e.position)).opened refl
        where
          not_shut : (StillOpen m rows k (at e.position) → ⊥) → ⊥
          not_shut n = let h : e.position < e.position = before_end e.position (record { begun = begun_then; shut = n }) in omega arith

          go : (o : Option ℕ) → (proc_at (owner_of rows k) (at e.position)).opened ≡ o → (proc_at (owner_of rows k) (at e.position)).opened ≡ Some k
          go None q = absurd (not_shut (λ o. closed_open (sym q ∙ o)))
          go (Some j) q = row (eqb j k) refl
            where
              row : (c : Bool) → eqb j k ≡ c → (proc_at (owner_of rows k) (at e.position)).opened ≡ Some k
              row true d = q ∙ ap Some (eqb-true j k d)
              row false d = absurd (not_shut (λ o. eqb-false j k d (open_same q o)))

      swap_then : is_swapped (said e) ≡ true → swaps_at m rows k e.position (byte e.position) (at e.position) ≡ true
      swap_then t =
          let h : Made e × (e.row ≡ k) = there Made (made (length schedule) (omega arith)) in
          subst (λ k. swaps_at m rows k e.position (byte e.position) (at e.position) ≡ true) h.1 (h.0 t)

      pub log_time : LoggedThen m rows schedule k e
      log_time =
          record {
            inside = past;
            after-begin = λ n unborn. after-begin n (λ b. unborn (subst (Begun m rows k) (sym (same n)) b));
            before_end = λ n d. before_end n (subst (Ended m rows k) (same n) d);
            open_then = subst (StillOpen m rows k) (sym (same e.position)) open_then;
            swap_then = λ t. subst (λ s. swaps_at m rows k e.position (byte e.position) s ≡ true) (sym (same e.position)) (swap_then t);
          }

    answer_end : (e : Entry) → of k end.answers ≡ e ∷ [] → Ends k e
    answer_end e is =
        let h : Ends e.row e × (e.row ≡ k) = of_all_lem (λ e. Ends e.row e) k (at (length schedule)).answers e (ends (length schedule) (omega arith)) (ap (λ s. of k s.answers) end-at ∙ is) in
        subst (λ k. Ends k e) h.1 h.0

    pub answer_time : (e : Entry) → of k end.answers ≡ e ∷ [] → AnsweredThen m rows schedule k e
    answer_time e is =
        let h : Ends k e = answer_end e is in
        record {
          inside = h.inside;
          open_then = subst (StillOpen m rows k) (sym (same e.position)) h.open_then;
          ended_then = subst (Ended m rows k) (sym (same (suc e.position))) h.ended_then;
        }

    -- the log row was there when the answer was returned
    pub log_first : (x y : Entry) → of k end.log ≡ x ∷ [] → of k end.answers ≡ y ∷ [] → x.position < y.position
    log_first x y ex ey =
        let h : Ends k y = answer_end y ey in
        let g : y.position < length schedule = h.inside in
        (of_all_lem (λ e. e.position < y.position) k (at y.position).log x (inv_at y.position (omega arith)).global.below (sym h.log_left_lem ∙ had x ex (suc y.position) h.ended_then)).0
