-- The log tells of as many successful swaps of a row as the row has made. Each byte that changes the row's word while the row is open is a swap of that
-- row, and puts one entry that tells so into the log; no other byte does.
use Rattle.std.specs.Prelude.{ℕ, suc, ◌+◌, ◌^◌, ◌≤◌, ◌<◌, ◌≡◌, refl, Bool, true, false, not, ◌&&◌, eqb, length, get_or, set, Option, Some, None}
use Rattle.std.proofs.Math.Path.{sym}
use Rattle.std.proofs.Common.{◌∙◌, ap, subst, true≢false, zero-add, add-zero, get_or-set_same, eq-eqb, ne_eqb, eqb-true}
use mathlib.Core.List.{List, [], ◌∷◌, ◌++◌}
use native.Mathlib.Omega.{arith}
use Rattle.std.proofs.lemmas.Bool.{eqb-false}
use Rattle.runfile.specs.declared.Row.{Row}
use Rattle.runfile.specs.Operations.{row_numbered, first, count}
use Rattle.runfile.specs.Kinds.{kind_of, new_of}
use Rattle.runfile.specs.Actions.{named}
use Rattle.word.specs.Word.{width, value, bit, swapped}
use Rattle.word.specs.Laws.{after_swap}
use Rattle.rows.specs.declared.Entry.{Entry}
use Rattle.rows.specs.Entries.{said, is_swapped}
use Rattle.machine.specs.declared.Answer.{Answer}
use Rattle.machine.specs.Steps.{spoken, swap_says}
use Rattle.machine.specs.Machine.{State, Effect, quiet, swaps, logs, replies, words_after, log_after, proc_at, step, after, after_in}
use Rattle.replay.specs.Lists.{keep, keep_join, keep_put_yes, Found, keep-found}
use Rattle.replay.specs.Logs.{Put, put}
use Rattle.replay.specs.Plain.{answer_of}
use Rattle.replay.specs.Replay.{Good, final, Right, right_right}
use Rattle.demand3.specs.Statement.{of, Once, Logged, is_row, counts, word_of, swaps_at, swap_count, swaps_told}
use Rattle.demand3.specs.FlipBit.{flip_bit}
use Rattle.demand3.specs.Invariant.{due, Times, Inv, Swapping, Allowed}
use Rattle.demand3.specs.Effects.{of-put, words_length}
use Rattle.demand3.specs.Answers.{answer_says}
use Rattle.demand3.specs.Preserve.{inv_step}
use Rattle.demand3.specs.Moves.{Does, nothing, allowed, does}

not_counted : {a c n : ℕ} → c ≡ 0 → a ≡ n → a ≡ c + n
not_counted e h = omega arith

-- how many of the entries tell of a successful swap; and how many of the log's entries of row k
unfoldable pub swaps_in : List Entry → ℕ
swaps_in [] = 0
swaps_in (e ∷ l) = counts (is_swapped (said e)) + swaps_in l

unfoldable pub swaps_of : ℕ → List Entry → ℕ
swaps_of k log = swaps_in (of k log)

swaps_in-put : (a b : List Entry) (e : Entry) → swaps_in (a ++ e ∷ b) ≡ counts (is_swapped (said e)) + swaps_in (a ++ b)
unfolding swaps_in
swaps_in-put [] b e = refl
swaps_in-put (f ∷ a) b e = let h : swaps_in (a ++ e ∷ b) ≡ counts (is_swapped (said e)) + swaps_in (a ++ b) = swaps_in-put a b e in omega arith

swaps_of-put : (k : ℕ) {l l' : List Entry} (e : Entry) → Put e l l' → e.row ≡ k → swaps_of k l' ≡ counts (is_swapped (said e)) + swaps_of k l
unfolding swaps_of of
swaps_of-put k {l} {l'} e p h =
    rw (p.was, p.now, keep_put_yes (λ e. eqb e.row k) p.front p.back e (eq-eqb e.row k h), keep_join (λ e. eqb e.row k) p.front p.back)
    (swaps_in-put (keep (λ e. eqb e.row k) p.front) (keep (λ e. eqb e.row k) p.back) e)

swaps_of_other : (k : ℕ) {l l' : List Entry} (e : Entry) → Put e l l' → (e.row ≡ k → ⊥) → swaps_of k l' ≡ swaps_of k l
unfolding swaps_of
swaps_of_other k e p h = ap swaps_in (of-put k e p h)

-- an entry that tells of none changes nothing in the count
swaps_of_false : (k : ℕ) {l l' : List Entry} (e : Entry) → Put e l l' → is_swapped (said e) ≡ false → swaps_of k l' ≡ swaps_of k l
swaps_of_false k {l} {l'} e p h = go (eqb e.row k) refl
  where
    go : (c : Bool) → eqb e.row k ≡ c → swaps_of k l' ≡ swaps_of k l
    go true q = swaps_of-put k e p (eqb-true e.row k q) ∙ ap (λ c. counts c + swaps_of k l) h ∙ zero-add (swaps_of k l)
    go false q = swaps_of_other k e p (eqb-false e.row k q)

module _ (rows : List Row) (k : ℕ) where
  -- a change of the word, counted if the row is open
  abbrev counted : Bool → (s s' : State) → ℕ
  counted b s s' = counts (b && not (eqb (word_of rows k s.words) (word_of rows k s'.words)))

  unchanged : (b : Bool) (s s' : State) → s'.words ≡ s.words → counted b s s' ≡ 0
  unchanged b s s' e = rw (eq-eqb (word_of rows k s.words) (word_of rows k s'.words) (ap (λ ws. get_or ws (row_numbered rows k).word 0) (sym e))) (go b)
    where
      go : (b : Bool) → counts (b && false) ≡ 0
      go true = refl
      go false = refl

  -- a swap changes the word, for it turns the own flip bit
  turns : (p n w : ℕ) → n < 2 ^ width → w ≡ swapped p n w → ⊥
  turns p n w h e = same (bit p w) (ap (bit p) e ∙ (after_swap width p n w h).own)
    where
      same : (b : Bool) → b ≡ not b → ⊥
      same true e = true≢false e
      same false e = true≢false (sym e)

module _ (rows : List Row) (start : List ℕ) (good : (k : ℕ) → Good (length start) (row_numbered rows k))
    (owner : (p i : ℕ) → i < count rows p → (row_numbered rows (first rows p + i)).process ≡ p)
    (Late : Times) (mono : (k a b : ℕ) → a ≤ b → Late k a → Late k b) (P : ℕ) (words : List ℕ) (k : ℕ) where
  module _ (t : ℕ) (s : State) (now : (p k : ℕ) → (proc_at p s).opened ≡ Some k → Late k t) (v : Inv rows start Late P t s) where
    -- an allowed swap changes its word
    pub changed : (p j x n : ℕ) (e : Entry) (s' : State) → Swapping rows start Late p j t s x n e → s'.words ≡ set s.words x n → eqb (word_of rows j s.words) (word_of rows j s'.words) ≡ false
    changed p j x n e s' a w =
        let inside : (row_numbered rows j).word < length s.words = rw (words_length rows start good Late t s v.global) (good j).inside in
        let is : word_of rows j s'.words ≡ swapped p (new_of (row_numbered rows j) (value (word_of rows j s.words))) (word_of rows j s.words) =
        ap (λ ws. get_or ws (row_numbered rows j).word 0) (w ∙ ap (λ i. set s.words i n) a.word) ∙ get_or-set_same s.words (row_numbered rows j).word n 0 inside ∙ a.new in
        ne_eqb (word_of rows j s.words) (word_of rows j s'.words) (λ m. turns rows j p (new_of (row_numbered rows j) (value (word_of rows j s.words))) (word_of rows j s.words) ((good j).fits (value (word_of rows j s.words))) (m ∙ is))

    -- row j, of process p, is open and makes an allowed effect
    count_effect : (p j : ℕ) (f : Effect) (s' : State) → Allowed rows start Late p j t s f → s'.words ≡ words_after f s.words → s'.log ≡ log_after f s.log
        → swaps_of k s'.log ≡ counted rows k (eqb j k) s s' + swaps_of k s.log
    count_effect p j quiet s' a w l = not_counted (unchanged rows k (eqb j k) s s' w) (ap (swaps_of k) l)
    count_effect p j (replies e) s' a w l = not_counted (unchanged rows k (eqb j k) s s' w) (ap (swaps_of k) l)
    count_effect p j (logs e) s' a w l = not_counted (unchanged rows k (eqb j k) s s' w) (ap (swaps_of k) l ∙ swaps_of_false k e (put e s.log v.global.sorted) a.no_swap)
    count_effect p j (swaps x n e) s' a w l = go (eqb j k) refl
      where
        go : (c : Bool) → eqb j k ≡ c → swaps_of k s'.log ≡ counted rows k c s s' + swaps_of k s.log
        go true q =
            rw (subst (λ j. eqb (word_of rows j s.words) (word_of rows j s'.words) ≡ false) (eqb-true j k q) (changed p j x n e s' a w))
            (ap (swaps_of k) l ∙ swaps_of-put k e (put e s.log v.global.sorted) (a.row ∙ eqb-true j k q) ∙ ap (λ c. counts c + swaps_of k s.log) a.truly)
        go false q = not_counted refl (ap (swaps_of k) l ∙ swaps_of_other k e (put e s.log v.global.sorted) (λ m. eqb-false j k q (sym a.row ∙ m)))

    count-step : (byte : ℕ) → swaps_of k (step rows t byte s).log ≡ counts (swaps_at (flip_bit rows P words) rows k t byte s) + swaps_of k s.log
    unfolding swaps_at
    count-step byte = go (does rows start good owner Late mono P t s now v byte)
      where
        s' : State
        s' = step rows t byte s

        go : Does rows start Late (named byte) t s s' → swaps_of k s'.log ≡ counted rows k (is_row k (proc_at (named byte) s).opened) s s' + swaps_of k s.log
        go (nothing w l n) = not_counted (unchanged rows k (is_row k (proc_at (named byte) s).opened) s s' w) (ap (swaps_of k) l)
        go (allowed j f g o a w l n) =
            subst (λ o. swaps_of k s'.log ≡ counted rows k (is_row k o) s s' + swaps_of k s.log) (sym o) (count_effect (named byte) (first rows (named byte) + j) f s' a w l)

  pub count-after : (t : ℕ) (bytes : List ℕ) (s : State) → ((k a : ℕ) → t ≤ a → Late k a) → Inv rows start Late P t s
      → swaps_of k (after rows t bytes s).log ≡ swap_count (flip_bit rows P words) rows k t bytes s + swaps_of k s.log
  unfolding after_in swap_count
  count-after t [] s now v = sym (zero-add (swaps_of k s.log))
  count-after t (byte ∷ bytes) s now v =
      let this : swaps_of k (step rows t byte s).log ≡ counts (swaps_at (flip_bit rows P words) rows k t byte s) + swaps_of k s.log = count-step t s (λ p k o. now k t (omega arith)) v byte in
      let rest = count-after (suc t) bytes (step rows t byte s) (λ k a g. now k a (omega arith)) (inv_step rows start good owner Late mono t s (λ p k o. now k t (omega arith)) P v byte) in
      omega arith

-- what stands in the log, by how often the row has swapped
pub logged_count : (p k : ℕ) (m : Option Answer) (log : List Entry) → Logged p k m log → swaps_of k log ≡ swaps_told m
unfolding swaps_of swaps_in swaps_told is_swapped spoken
logged_count p k None log h = ap swaps_in h
logged_count p k (Some a) log h = ap swaps_in h.once ∙ ap (λ d. counts (is_swapped d) + 0) h.says_so ∙ add-zero (counts (is_swapped (spoken (Some a))))

pub told_once : (m : Option Answer) → swaps_told m ≤ 1
unfolding swaps_told
told_once m = go (is_swapped (spoken m))
  where
    go : (c : Bool) → counts c ≤ 1
    go true = omega arith
    go false = omega arith

told_swap : (m : Option Answer) → swaps_told m ≡ 1 → is_swapped (spoken m) ≡ true
unfolding swaps_told
told_swap m = go (is_swapped (spoken m))
  where
    go : (c : Bool) → counts c ≡ 1 → c ≡ true
    go true e = refl
    go false e = absurd (omega arith)

-- a row that stands in a log that replays right, and tells there of a successful swap, tells what a swap of its kind says
pub logged_swapped : (rows : List Row) (start : List ℕ) (p k : ℕ) (m : Option Answer) (log : List Entry) → Right rows start log → Logged p k m log → swaps_told m ≡ 1
    → (v : ℕ) × Once p k (Some (swap_says (kind_of (row_numbered rows k)) v)) log
unfolding of swaps_told is_swapped spoken
logged_swapped rows start p k None log r h e = absurd (omega arith)
logged_swapped rows start p k (Some a) log r h e =
    let d : Found (λ e. eqb e.row k) log h.entry = keep-found (λ e. eqb e.row k) log h.entry [] h.once in
    let v : ℕ = get_or (final rows start d.front) (row_numbered rows h.entry.row).word 0 in
    let right : said h.entry ≡ answer_of (row_numbered rows h.entry.row) v = (right_right rows start d.front (h.entry ∷ d.back) (subst (Right rows start) d.whole r)).0 in
    let own : said h.entry ≡ answer_of (row_numbered rows k) v = right ∙ ap (λ j. answer_of (row_numbered rows j) v) (eqb-true h.entry.row k d.passes) in
    let swap : is_swapped (answer_of (row_numbered rows k) v) ≡ true = ap is_swapped (sym own ∙ h.says_so) ∙ told_swap (Some a) e in
    (v, record { entry = h.entry; once = h.once; process = h.process; says_so = own ∙ answer_says (row_numbered rows k) v swap })

-- no answer stored, and no swap
pub logged_not : (says : Answer) → is_swapped (spoken (Some says)) ≡ true → (p k : ℕ) (has : Bool) (log : List Entry) → Logged p k (due says None has) log → swaps_told (due says None has) ≡ 0 → of k log ≡ []
unfolding due swaps_told
logged_not says t p k true log h e = absurd (let z : counts true ≡ 0 = rw t at e in omega arith)
logged_not says t p k false log h e = h
