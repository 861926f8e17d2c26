-- Lock-freedom, each time (R258): where a byte leads an advance from its A4 back to its A1, the word was no longer as it was read, so that by the
-- invariant a successful swap of another process on it stands in the log, later than the reading. It is earlier than the A4, for every entry of the
-- log is; and it stays there.
use Prim.Native.Nat.{ℕ, suc, ◌≤◌, ◌<◌}
use Rattle.std.specs.Prelude.{◌≡◌, false, ◌&&◌, List, ◌∷◌, map, ltb, length, get_or, take, Option, Some, None}
use Rattle.std.proofs.Math.Path.{refl, subst}
use Rattle.std.proofs.Common.{sym, ◌∙◌, ap, arith, take_all}
use Rattle.std.proofs.Math.Bool.{Bool, true, not, true≢false}
use Rattle.std.proofs.Math.Dec.{eqb}
use borrow.Author.Tests.{eq-eqb, ltb-true, ltb-false, lt-ltb}
use Rattle.runfile.specs.declared.Row.{Row}
use Rattle.runfile.specs.Operations.{row_numbered}
use Rattle.runfile.specs.Actions.{named}
use Rattle.word.specs.Word.{value}
use Rattle.rows.specs.declared.Entry.{Entry}
use Rattle.rows.specs.Log.{is_swap}
use Rattle.machine.specs.declared.Answer.{Answer}
use Rattle.machine.specs.declared.Process.{Process}
use Rattle.machine.specs.declared.Stage.TheVariants.{A2, A4}
use Rattle.machine.specs.declared.Status.TheVariants.{Busy}
use Rattle.machine.specs.Records.{waked, row_open}
use Rattle.machine.specs.Steps.{tried, tried_in, decide_in, at_work, step_turn_in}
use Rattle.machine.specs.Machine.{State, quiet, swaps, logs, replies, process_of, proc_at, turn, turn_in, after, begin}
use Rattle.replay.specs.Lists.{All, all_right, Found, keep-found}
use Rattle.replay.specs.Logs.{put}
use Rattle.replay.specs.Replay.{both_true_0, both_true_1, swap_on}
use Rattle.demand3.specs.Statement.{Firmware, owner_of, word_of, StillOpen, state_after}
use Rattle.demand3.specs.FlipBit.{flip_bit, Then, Overtaken, is_a1}
use Rattle.demand3.specs.Invariant.{Has, is_other, HasOther, Since, as_read, overtaken, BusyOk, working, StatusOk, Inv}
use Rattle.demand3.specs.Effects.{has_there, has_put}
use Rattle.demand3.specs.Plans.{Plan}
use Rattle.demand3.specs.Moves.{became, Does, nothing, allowed}
use Rattle.demand3.specs.Order.{Always}
use Rattle.demand3.specs.Told.{reached}
use Rattle.demand3.specs.Positions.{open_same, at, byte, next, along, end-at, inv_at, what}
use Rattle.demand3.specs.Reads as Reads
use Rattle.demand3.specs.Reads.{Hist, hist, then}

-- a process at A4 of row k comes to A1 only if the word is no longer as it was read
from-A4 : (rows : List Row) (p t k seen read_at tried_at : ℕ) (answer : Option Answer) (words : List ℕ) (log : List Entry) (r : Process) → r.opened ≡ Some k
    → is_a1 (turn rows p t words log r (Busy A4 seen read_at tried_at answer)).process.status ≡ true → word_of rows k words ≡ seen → ⊥
unfolding turn_in step_turn_in decide_in tried_in
from-A4 rows p t k seen read_at tried_at answer words log r o h same =
    let u : is_a1 (process_of r (tried p t (row_numbered rows k) (word_of rows k words) r seen read_at)).status ≡ true =
    subst (λ o. is_a1 (process_of r (at_work (row_numbered rows (row_open o)) p t (get_or words (row_numbered rows (row_open o)).word 0) r o A4 seen read_at tried_at answer)).status ≡ true) o h in
    true≢false (sym (rw (eq-eqb (word_of rows k words) seen same) at u))

module _ (rows : List Row) (start : List ℕ) (P t : ℕ) (s : State) (v : Inv rows start Always P t s) (p : ℕ) (here : p < P) where
  -- at A4 of row k, and its word is not as it was read: a swap of another has come since
  pub overtaken_at : (k seen read_at tried_at : ℕ) (answer : Option Answer) → (proc_at p s).opened ≡ Some k → (proc_at p s).status ≡ Busy A4 seen read_at tried_at answer → (word_of rows k s.words ≡ seen → ⊥)
      → HasOther rows start p (row_numbered rows k).word read_at s.log
  overtaken_at k seen read_at tried_at answer o e changed = go (subst (λ st. StatusOk rows start Always p t s.words s.log (proc_at p s) st) e (v.local p here).work)
    where
      since : (j : ℕ) → j ≡ k → Since rows start p (row_numbered rows j).word read_at (word_of rows j s.words) seen s.log → HasOther rows start p (row_numbered rows k).word read_at s.log
      since j q (as_read n) = absurd (changed (ap (λ k. word_of rows k s.words) (sym q) ∙ n))
      since j q (overtaken h) = subst (λ j. HasOther rows start p (row_numbered rows j).word read_at s.log) q h

      go : BusyOk rows start Always p t s.words s.log (proc_at p s) A4 seen read_at answer → HasOther rows start p (row_numbered rows k).word read_at s.log
      go (working j q h) = since j (open_same q o) h.2.since

module _ (rows : List Row) (words : List ℕ) (P : ℕ) (plan : Plan P (length words) rows) (schedule : List ℕ) where
  abbrev now : ℕ → State
  now n = at rows words P plan schedule n

  abbrev start : List ℕ
  start = map value words

  -- what stands in the log after n bytes stands there at the end
  stays : (test : Entry → Bool) (n : ℕ) → Has test (now n).log → (m : ℕ) → m ≤ length schedule → n ≤ m → Has test (now m).log
  stays test n h = along rows words P plan schedule (λ m. n ≤ m → Has test (now m).log) (λ l. subst (λ m. Has test (now m).log) (let z : n ≡ 0 = omega arith in z) h) (λ m g ih l. on m g ih l (ltb m n) refl)
    where
      more : (m : ℕ) → m < length schedule → Has test (now m).log → Does rows start Always (named (byte rows words P plan schedule m)) m (now m) (now (suc m)) → Has test (now (suc m)).log
      more m g had (nothing w l an) = subst (Has test) (sym l) had
      more m g had (allowed j quiet c o a w l an) = subst (Has test) (sym l) had
      more m g had (allowed j (replies e) c o a w l an) = subst (Has test) (sym l) had
      more m g had (allowed j (logs e) c o a w l an) = subst (Has test) (sym l) (has_put test e (put e (now m).log (inv_at rows words P plan schedule m (omega arith)).global.sorted) had)
      more m g had (allowed j (swaps i x e) c o a w l an) = subst (Has test) (sym l) (has_put test e (put e (now m).log (inv_at rows words P plan schedule m (omega arith)).global.sorted) had)

      on : (m : ℕ) → m < length schedule → (n ≤ m → Has test (now m).log) → n ≤ suc m → (c : Bool) → ltb m n ≡ c → Has test (now (suc m)).log
      on m g ih l true c = let past : m < n = ltb-true m n c in subst (λ m. Has test (now m).log) (let z : n ≡ suc m = omega arith in z) h
      on m g ih l false c = more m g (ih (ltb-false m n c)) (what rows words P plan schedule m g)

  abbrev end : State
  end = after rows 0 schedule (begin P words)

  module _ (n p k seen read_at tried_at : ℕ) (answer : Option Answer) (here : p < P) (inside : n < length schedule) (o : (proc_at p (now n)).opened ≡ Some k) (e : (proc_at p (now n)).status ≡ Busy A4 seen read_at tried_at answer) where
    w : ℕ
    w = (row_numbered rows k).word

    beaten : is_a1 (proc_at p (now (suc n))).status ≡ true → HasOther rows start p w read_at (now n).log
    unfolding w
    beaten =
        subst (λ s. is_a1 (proc_at p s).status ≡ true → HasOther rows start p w read_at (now n).log) (sym (next rows words P plan schedule n inside))
        (became rows (λ r. is_a1 r.status ≡ true → HasOther rows start p w read_at (now n).log) n (byte rows words P plan schedule n) p (now n)
        (λ a. absurd (true≢false (sym (ap is_a1 (sym e) ∙ a))))
        (λ a. overtaken_at rows start P n (now n) (inv_at rows words P plan schedule n (omega arith)) p here k seen read_at tried_at answer o e
        (from-A4 rows p n k seen read_at tried_at answer (now n).words (now n).log (proc_at p (now n)) o
        (subst (λ st. is_a1 (turn rows p n (now n).words (now n).log (proc_at p (now n)) st).process.status ≡ true) e a)))
        (λ a. absurd (true≢false (sym a)))
        (λ a. absurd (true≢false (sym (ap is_a1 (sym e) ∙ subst (λ st. is_a1 (waked (proc_at p (now n)) st).status ≡ true) e a)))))

    -- such a swap, and earlier than the A4
    between : Entry → Bool
    between e = is_other rows start p w read_at e && ltb e.position n

    -- of what passes, all parts hold
    overtaken_by : (log : List Entry) → Has between log → Overtaken rows p w read_at n log
    unfolding between is_other
    overtaken_by log h =
        let by : Entry = h.entry in
        let d : Found between log by = keep-found between log by h.rest h.is in
        let swap : Bool = is_swap rows w read_at by in
        let mine : Bool = eqb (owner_of rows by.row) p in
        let passed : (swap && not mine) ≡ true = both_true_0 (swap && not mine) (ltb by.position n) d.passes in
        record {
          by = by;
          front = d.front;
          back = d.back;
          stands = d.whole;
          swap = swap_on rows w read_at by (both_true_0 swap (not mine) passed);
          before = ltb-true by.position n (both_true_1 (swap && not mine) (ltb by.position n) d.passes);
          other = λ q. true≢false (sym (ap not (sym (eq-eqb (owner_of rows by.row) p q)) ∙ both_true_1 swap (not mine) passed));
        }

    goes_back : is_a1 (proc_at p (now (suc n))).status ≡ true → Overtaken rows p w read_at n end.log
    unfolding between
    goes_back a =
        let h : HasOther rows start p w read_at (now n).log = beaten a in
        let by : Entry = h.entry in
        let d : Found (is_other rows start p w read_at) (now n).log by = keep-found (is_other rows start p w read_at) (now n).log by h.rest h.is in
        let early : by.position < n =
        (all_right (λ e. e.position < n) d.front (by ∷ d.back) (subst (All (λ e. e.position < n)) d.whole (inv_at rows words P plan schedule n (omega arith)).global.below)).0 in
        let then : Has between (now n).log = has_there between d.front d.back by d.whole (rw (d.passes, lt-ltb by.position n early)) in
        overtaken_by end.log (subst (λ s. Has between s.log) (end-at rows words P plan schedule) (stays between n then (length schedule) (omega arith) (omega arith)))

    -- its A1, which it remembers
    read_then : Reads.Has rows words P plan schedule p k read_at (Busy A2 seen read_at 0 None)
    read_then = (subst (Hist rows words P plan schedule p (proc_at p (now n)).opened) e (hist rows words P plan schedule n (omega arith) p) k o).0

  abbrev m : Firmware
  m = flip_bit rows P words

  same : (n : ℕ) → state_after m schedule n ≡ now n
  same n = reached rows words P plan (take n schedule)

  pub overtaken_time : (n k seen read_at tried_at : ℕ) (answer : Option Answer) → k < length rows → StillOpen m rows k (state_after m schedule n)
      → (proc_at (owner_of rows k) (state_after m schedule n)).status ≡ Busy A4 seen read_at tried_at answer → is_a1 (proc_at (owner_of rows k) (state_after m schedule (suc n))).status ≡ true
      → Then rows P words schedule k read_at (Busy A2 seen read_at 0 None) × Overtaken rows (owner_of rows k) (row_numbered rows k).word read_at n end.log
  unfolding w
  overtaken_time n k seen read_at tried_at answer there still is back = go (ltb n (length schedule)) refl
    where
      p : ℕ
      p = owner_of rows k

      o : (proc_at p (now n)).opened ≡ Some k
      o = ap (λ s. (proc_at p s).opened) (sym (same n)) ∙ still

      e : (proc_at p (now n)).status ≡ Busy A4 seen read_at tried_at answer
      e = ap (λ s. (proc_at p s).status) (sym (same n)) ∙ is

      a : is_a1 (proc_at p (now (suc n))).status ≡ true
      a = ap (λ s. is_a1 (proc_at p s).status) (sym (same (suc n))) ∙ back

      go : (c : Bool) → ltb n (length schedule) ≡ c → Then rows P words schedule k read_at (Busy A2 seen read_at 0 None) × Overtaken rows p (row_numbered rows k).word read_at n end.log
      go true c =
          let inside : n < length schedule = ltb-true n (length schedule) c in
          (then rows words P plan schedule k read_at (Busy A2 seen read_at 0 None) (read_then n p k seen read_at tried_at answer (plan.present k there) inside o e), goes_back n p k seen read_at tried_at answer (plan.present k there) inside o e a)
      -- past the end no byte comes, so it would stay at A4
      go false c =
          let past : length schedule ≤ n = ltb-false n (length schedule) c in
          let stood : take (suc n) schedule ≡ take n schedule = take_all (suc n) schedule (omega arith) ∙ sym (take_all n schedule past) in
          absurd (true≢false (sym (ap is_a1 (sym e) ∙ ap (λ l. is_a1 (proc_at p (after rows 0 l (begin P words))).status) (sym stood) ∙ a)))
