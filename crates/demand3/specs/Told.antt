-- What the invariant, the count of swaps and the order in time say of row number k, which is the i-th row of its process: what it was told if it
-- has ended, what stands of it if it is open or has not begun, and that it comes before a row that began after its end.
use Rattle.std.specs.Prelude.{ℕ, ◌+◌, ◌≤◌, ◌<◌, ◌≡◌, refl, true, false, ltb, length, take, drop, Option, Some, None}
use Rattle.std.proofs.Math.Path.{sym, ap, subst}
use Rattle.std.proofs.Common.{◌∙◌, arith, ltb-true, ltb-false, take-append-drop}
use mathlib.Core.List.{List, [], ◌∷◌, ◌++◌, map}
use Rattle.std.proofs.Math.Bool.{Bool}
use Rattle.std.proofs.Math.Nat.{add-zero}
use Rattle.runfile.specs.declared.Row.{Row}
use Rattle.runfile.specs.Operations.{row_numbered, first, count}
use Rattle.runfile.specs.Kinds.{kind_of}
use Rattle.word.specs.Word.{value}
use Rattle.rows.specs.declared.Entry.{Entry}
use Rattle.machine.specs.declared.Answer.{Answer}
use Rattle.machine.specs.Machine.{State, proc_at, after, begin}
use Rattle.machine.specs.Laws.{after_join}
use Rattle.machine.specs.KindLaws.{says-swapped}
use Rattle.demand3.specs.Statement.{Firmware, of, Logged, Before, owner_of, Begun, StillOpen, Ended, through, swap_count, swaps_told, Told, Untold, Unbegun}
use Rattle.demand3.specs.FlipBit.{flip_bit, through-after}
use Rattle.demand3.specs.Invariant as invariant
use Rattle.demand3.specs.Invariant.{due, says, has_swapped, owed, IsOpen, Local}
use Rattle.demand3.specs.Plans.{Plan, Covered, covered}
use Rattle.demand3.specs.Preserve.{inv_begin}
use Rattle.demand3.specs.Past.{Passed, kept_after_lem}
use Rattle.demand3.specs.Swaps.{swaps_in, swaps_of, count-after, logged_count, told_once, logged_swapped, logged_not}
use Rattle.demand3.specs.Order.{Always, good, own, inv, order}

module _ (rows : List Row) (words : List ℕ) (P : ℕ) (plan : Plan P (length words) rows) where
  abbrev pub m : Firmware
  m = flip_bit rows P words

  -- the machine's states, as they are called here
  pub reached : (bytes : List ℕ) → through m 0 bytes (begin P words) ≡ after rows 0 bytes (begin P words)
  reached bytes = through-after rows P words 0 bytes (begin P words)

  -- the log tells of as many swaps of row k as row k has made
  counted : (bytes : List ℕ) (k : ℕ) → swap_count m rows k 0 bytes (begin P words) ≡ swaps_of k (after rows 0 bytes (begin P words)).log
  unfolding swaps_of swaps_in begin of
  counted bytes k =
      sym (count-after rows (map value words) (good rows words P plan) (own rows words P plan) Always (λ k a b h g. tt) P words k 0 bytes (begin P words) (λ k a h. tt) (inv_begin rows Always P words)
      ∙ add-zero (swap_count m rows k 0 bytes (begin P words)))

  module _ (k : ℕ) (inside : k < length rows) where
    abbrev p : ℕ
    p = owner_of rows k

    at : Covered rows k
    at = covered P (length words) rows plan k inside

    pub i : ℕ
    i = at.index

    pub is : first rows p + i ≡ k
    unfolding i
    is = sym at.is

    pub fits : i < count rows p
    unfolding i
    fits = at.fits

    local : (bytes : List ℕ) → Local rows (map value words) Always p (0 + length bytes) (after rows 0 bytes (begin P words)) (proc_at p (after rows 0 bytes (begin P words)))
    local bytes = (inv rows words P plan bytes).local p (plan.present k inside)

    pub passed : (s : State) → Ended m rows k s → Passed rows p i (proc_at p s)
    passed s e =
        let b : k < first rows p + (proc_at p s).begun = e.begun in
        let a : first rows p + i ≡ k = is in
        record { begun = omega arith; shut = λ o. e.shut (o ∙ ap Some is) }

    pub not_yet : (s : State) → (Begun m rows k s → ⊥) → (proc_at p s).begun ≤ i
    not_yet s n = go (ltb i (proc_at p s).begun) refl
      where
        go : (c : Bool) → ltb i (proc_at p s).begun ≡ c → (proc_at p s).begun ≤ i
        go true e = absurd (n (let a : first rows p + i ≡ k = is in let b : i < (proc_at p s).begun = ltb-true i (proc_at p s).begun e in omega arith))
        go false e = ltb-false i (proc_at p s).begun e

    -- an ended operation stands in the log as it did, whatever comes
    pub stays : (bytes more : List ℕ) → Ended m rows k (after rows 0 bytes (begin P words)) → of k (after rows 0 (bytes ++ more) (begin P words)).log ≡ of k (after rows 0 bytes (begin P words)).log
    stays bytes more e =
        ap (λ s. of k s.log) (after_join rows 0 bytes more (begin P words))
        ∙ subst (λ j. of j (after rows (0 + length bytes) more (after rows 0 bytes (begin P words))).log ≡ of j (after rows 0 bytes (begin P words)).log) is
        (kept_after_lem rows (map value words) (good rows words P plan) (own rows words P plan) Always (λ k a b h g. tt) P p i fits (0 + length bytes) more (after rows 0 bytes (begin P words)) (λ k a h. tt) (inv rows words P plan bytes)
        (passed (after rows 0 bytes (begin P words)) e))

    module _ (schedule : List ℕ) where
      abbrev s : State
      s = after rows 0 schedule (begin P words)

      pub told : Ended m rows k s → Told m rows schedule k s.log s.answers
      unfolding swaps_of
      told e =
          let h : invariant.Settled p k s.log s.answers =
          subst (λ j. invariant.Settled p j s.log s.answers) is ((local schedule).ended i (passed s e).begun (passed s e).shut) in
          record {
            answer = h.answer;
            answered = h.answered;
            logged = h.logged;
            swapped = λ more. counted (schedule ++ more) k ∙ ap swaps_in (stays schedule more e) ∙ logged_count p k h.answer s.log h.logged;
          }

      stored_there : {a : Option Answer} → (proc_at p (through m 0 schedule (begin P words))).stored ≡ a → (proc_at p s).stored ≡ a
      stored_there e = ap (λ s. (proc_at p s).stored) (sym (reached schedule)) ∙ e

      pub untold : StillOpen m rows k s → Untold m rows schedule k s.log s.answers
      unfolding due
      untold o =
          let h : IsOpen rows (map value words) p k s (proc_at p s) = (local schedule).opened k o in
          let said : Answer = says rows (map value words) k (proc_at p s).kept in
          let has : Bool = has_swapped rows (map value words) p k s.words (proc_at p s) in
          let d : Option Answer = owed rows (map value words) p k s.words (proc_at p s) in
          let n : swap_count m rows k 0 schedule (begin P words) ≡ swaps_told d = counted schedule k ∙ logged_count p k d s.log h.stands in
          record {
            unanswered = h.unanswered;
            at_most_once = subst (λ n. n ≤ 1) (sym n) (told_once d);
            has_swapped_lem = λ e. logged_swapped rows (map value words) p k d s.log (inv rows words P plan schedule).global.right h.stands (sym n ∙ e);
            has_stored = λ a e. subst (λ d. Logged p k (due said d has) s.log) (stored_there e) h.stands;
            neither = λ z e.
                let none : d ≡ due said None has = ap (λ d. due said d has) (stored_there e) in
                logged_not said (says-swapped (kind_of (row_numbered rows k)) (proc_at p s).kept.value) p k has s.log
                (subst (λ d. Logged p k d s.log) none h.stands) (ap swaps_told (sym none) ∙ sym n ∙ z);
          }

      pub unbegun : (Begun m rows k s → ⊥) → Unbegun m rows schedule k s.log s.answers
      unfolding swaps_of swaps_in
      unbegun n =
          let none : of k s.log ≡ [] = subst (λ j. of j s.log ≡ []) is ((local schedule).future_log i (not_yet s n) fits) in
          record {
            unlogged = none;
            unanswered = subst (λ j. of j s.answers ≡ []) is ((local schedule).future_answers i (not_yet s n) fits);
            unswapped = counted schedule k ∙ ap swaps_in none;
          }

  module _ (schedule : List ℕ) where
    abbrev end : State
    end = after rows 0 schedule (begin P words)

    pub in_order : (n k j : ℕ) → k < length rows → j < length rows → Ended m rows k (after rows 0 (take n schedule) (begin P words)) → (Begun m rows j (after rows 0 (take n schedule) (begin P words)) → ⊥)
        → (x y : Entry) → of k end.log ≡ x ∷ [] → of j end.log ≡ y ∷ [] → Before x y end.log
    in_order n k j hk hj e b x y ex ey =
        subst (λ s. Before x y s.log) (sym joined)
        (order rows words P plan (take n schedule) (drop n schedule) (owner_of rows k) (i k hk) (owner_of rows j) (i j hj) (plan.present j hj) (fits k hk) (fits j hj)
        (passed k hk (after rows 0 (take n schedule) (begin P words)) e) (not_yet j hj (after rows 0 (take n schedule) (begin P words)) b) x y
        (ap (λ k. of k s₁.log) (is k hk) ∙ ap (λ s. of k s.log) (sym joined) ∙ ex)
        (ap (λ j. of j s₁.log) (is j hj) ∙ ap (λ s. of j s.log) (sym joined) ∙ ey))
      where
        s₁ : State
        s₁ = after rows (0 + length (take n schedule)) (drop n schedule) (after rows 0 (take n schedule) (begin P words))

        joined : end ≡ s₁
        joined = ap (λ b. after rows 0 b (begin P words)) (sym (take-append-drop n schedule)) ∙ after_join rows 0 (take n schedule) (drop n schedule) (begin P words)
