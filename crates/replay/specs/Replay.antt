-- What a log says, carried out in order on plain values (R245); and the lost swap (R167): from the time of the reading to the first later swap on
-- the word nothing changes it, so that swap, a compare's or an advance's, found the old value and left another. No process, no stage and no flip bit
-- comes into it.
use Prim.Native.Nat.{ℕ, zero, suc, ◌+◌, ◌-◌, ◌%◌, ◌^◌, ◌≤◌, ◌<◌}
use Rattle.std.specs.Prelude.{◌≡◌, Bool, ◌&&◌, eqb, ltb, set}
use Rattle.std.proofs.Math.Path.{refl, sym, ap, subst}
use Rattle.std.proofs.Common.{◌∙◌, ap₂, arith, mod-lt, mod-eq_of_lt, pow_pos, eq-eqb, eqb-true, ltb-true, ltb-false, lt-ltb}
use Rattle.std.proofs.Math.Bool.{true, false, cond, true≢false}
use mathlib.Core.List.{List, [], ◌∷◌, ◌++◌, append-nil}
use Rattle.std.proofs.Math.Nat.{mod-eq-sub-mod}
use Rattle.std.proofs.Math.ListN.{length, get_or, length-set}
use Rattle.std.proofs.Math.Seq.{get_or-set_same, get_or-set_other}
use Rattle.rows.specs.declared.Entry.{Entry}
use Rattle.runfile.specs.declared.Row.{Row}
use Rattle.word.specs.Word.{width}
use Rattle.runfile.specs.declared.Kind.{Kind}
use Rattle.runfile.specs.declared.Kind.TheVariants.{Read, Compare, Advance}
use Rattle.runfile.specs.Operations.{row_numbered, names}
use Rattle.runfile.specs.Kinds.{kind_of, new_by_in, new_of}
use Rattle.runfile.specs.Table.{Same, SameFields}
use Rattle.rows.specs.Entries.{said, is_swapped}
use Rattle.rows.specs.Log.{is_swap, first_swap}
use Rattle.replay.specs.Plain.{answer_by, answer_of, leaves, Replayed}
use Rattle.replay.specs.Lists.{All, all_left, all_map, all_both, keep, keep_join, keep_keeps, keep_put_no, keep_put_yes, Found, keep-found}
use Rattle.replay.specs.Logs.{is_late, is_early, early_test, early_test_no, Ordered, Sorted, sorted_left, sorted_before, sorted_behind, early, late, early_all, early_none, early_low, late-high, early_join, early-late, Put}

-- where a row of this kind swaps, of those values that its word may have: a compare at its old, an advance at every one
abbrev pub GoesOn : Kind → (old v : ℕ) → Type 0
GoesOn Read old v = ⊥
GoesOn Compare old v = v ≡ old
GoesOn Advance old v = Unit {0}

-- what it answers there tells of a successful swap, and nowhere else does it
pub answer_swapped : (row : Row) (v : ℕ) → is_swapped (answer_of row v) ≡ true → GoesOn (kind_of row) row.old v
unfolding answer_of is_swapped
answer_swapped row v = go (kind_of row)
  where
    met : (c : Bool) → eqb v row.old ≡ c → is_swapped (cond c (record { verdict = 1; value = 0 }) (record { verdict = 0; value = 0 })) ≡ true → v ≡ row.old
    met true q h = eqb-true v row.old q
    met false q h = absurd (true≢false (sym h))

    go : (kind : Kind) → is_swapped (answer_by kind row.old v) ≡ true → GoesOn kind row.old v
    go Read h = absurd (true≢false (sym h))
    go Compare h = met (eqb v row.old) refl h
    go Advance h = tt

-- a row that passed the refusals, over W words
pub record Good (W : ℕ) (row : Row) : Type 0 where
  pub inside : row.word < W
  pub fits : (v : ℕ) → new_of row v < 2 ^ width
  pub differ : (v : ℕ) → is_swapped (answer_of row v) ≡ true → new_of row v ≡ v → ⊥

-- a sum that goes round past m is back where it began only after all of m
moves_on : (m v n : ℕ) → n < m → (n ≡ 0 → ⊥) → (v + n) % m ≡ v → ⊥
moves_on m v n small some e = go (ltb (v + n) m) refl
  where
    low : v < m
    low = subst (λ x. x < m) e (mod-lt (v + n) (omega arith))

    go : (c : Bool) → ltb (v + n) m ≡ c → ⊥
    go true q = let same : v + n ≡ v = sym (mod-eq_of_lt (ltb-true (v + n) m q)) ∙ e in some (omega arith)
    go false q =
        let over : m ≤ v + n = ltb-false (v + n) m q in
        let l : v < m = low in
        let less : v + n - m < m = omega arith in
        let same : v + n - m ≡ v = sym (mod-eq_of_lt less) ∙ sym (mod-eq-sub-mod over) ∙ e in
        omega arith

-- A row on one of W words, whose new is a value and for which refusal 11 is not given (R51), is good: where it swaps it leaves another value than it
-- found, since an old is not new, and an amount is neither 0 nor as much as all the values
pub good_row : (W : ℕ) (row : Row) → row.word < W → row.new < 2 ^ width → (SameFields row → ⊥) → Good W row
good_row W row inside small differ = record { inside = inside; fits = fits (kind_of row); differ = λ v swaps. differs v (kind_of row) differ (answer_swapped row v swaps) }
  where
    fits : (kind : Kind) (v : ℕ) → new_by_in width kind row.new v < 2 ^ width
    fits Read v = small
    fits Compare v = small
    fits Advance v = mod-lt (v + row.new) (pow_pos width)

    differs : (v : ℕ) (kind : Kind) → (Same kind row.old row.new → ⊥) → GoesOn kind row.old v → new_by_in width kind row.new v ≡ v → ⊥
    differs v Read apart on e = absurd on
    differs v Compare apart on e = apart (sym on ∙ sym e)
    differs v Advance apart on e = moves_on (2 ^ width) v row.new small apart e

module _ (rows : List Row) where
  -- the values after an entry, after a log
  abbrev pub written : Entry → List ℕ → List ℕ
  written e vs = set vs (row_numbered rows e.row).word (new_of (row_numbered rows e.row) (get_or vs (row_numbered rows e.row).word 0))

  unfoldable pub moved : Entry → List ℕ → List ℕ
  moved e vs = cond (is_swapped (said e)) (written e vs) vs

  unfoldable pub final : List ℕ → List Entry → List ℕ
  final vs [] = vs
  final vs (e ∷ l) = final (moved e vs) l

  -- an entry says what its row answers at these values
  abbrev pub RightAt : List ℕ → Entry → Type 0
  RightAt vs e = said e ≡ answer_of (row_numbered rows e.row) (get_or vs (row_numbered rows e.row).word 0)

  abbrev pub Right : List ℕ → List Entry → Type 0
  Right vs [] = Unit {0}
  Right vs (e ∷ l) = RightAt vs e × Right (moved e vs) l

  -- a log that is right is replayed: what an entry says it has done is what its row does
  leaves-moved : (e : Entry) (vs : List ℕ) → RightAt vs e → moved e vs ≡ leaves (row_numbered rows e.row) vs
  unfolding moved leaves
  leaves-moved e vs h = ap (λ d. cond (is_swapped d) (written e vs) vs) h

  pub replayed : (vs : List ℕ) (log : List Entry) (finals : List ℕ) → Right vs log → final vs log ≡ finals → Replayed rows vs log finals
  unfolding final
  replayed vs [] finals r f = f
  replayed vs (e ∷ log) finals r f = (r.0, subst (λ vs. Replayed rows vs log finals) (leaves-moved e vs r.0) (replayed (moved e vs) log finals r.1 f))

  pub final_join : (vs : List ℕ) (a b : List Entry) → final vs (a ++ b) ≡ final (final vs a) b
  unfolding final
  final_join vs [] b = refl
  final_join vs (e ∷ a) b = final_join (moved e vs) a b

  pub right_join : (vs : List ℕ) (a b : List Entry) → Right vs a → Right (final vs a) b → Right vs (a ++ b)
  unfolding final
  right_join vs [] b h k = k
  right_join vs (e ∷ a) b h k = (h.0, right_join (moved e vs) a b h.1 k)

  pub right_left : (vs : List ℕ) (a b : List Entry) → Right vs (a ++ b) → Right vs a
  right_left vs [] b h = tt
  right_left vs (e ∷ a) b h = (h.0, right_left (moved e vs) a b h.1)

  pub right_right : (vs : List ℕ) (a b : List Entry) → Right vs (a ++ b) → Right (final vs a) b
  unfolding final
  right_right vs [] b h = h
  right_right vs (e ∷ a) b h = right_right (moved e vs) a b h.1

  pub moved_not : (e : Entry) (vs : List ℕ) → is_swapped (said e) ≡ false → moved e vs ≡ vs
  unfolding moved
  moved_not e vs h = rw h

  pub moved-swapped : (e : Entry) (vs : List ℕ) → is_swapped (said e) ≡ true → moved e vs ≡ written e vs
  unfolding moved
  moved-swapped e vs h = rw h

  length_moved : (e : Entry) (vs : List ℕ) → length (moved e vs) ≡ length vs
  unfolding moved
  length_moved e vs = go (is_swapped (said e))
    where
      go : (c : Bool) → length (cond c (written e vs) vs) ≡ length vs
      go true = length-set vs (row_numbered rows e.row).word (new_of (row_numbered rows e.row) (get_or vs (row_numbered rows e.row).word 0))
      go false = refl

  pub length-final : (vs : List ℕ) (l : List Entry) → length (final vs l) ≡ length vs
  unfolding final
  length-final vs [] = refl
  length-final vs (e ∷ l) = length-final (moved e vs) l ∙ length_moved e vs

  -- an entry that is no swap of its word leaves the word's value
  abbrev pub Quiet : ℕ → Entry → Type 0
  Quiet w e = is_swapped (said e) ≡ true → (row_numbered rows e.row).word ≡ w → ⊥

  moved_quiet : (w : ℕ) (e : Entry) (vs : List ℕ) → Quiet w e → get_or (moved e vs) w 0 ≡ get_or vs w 0
  unfolding moved
  moved_quiet w e vs h = go (is_swapped (said e)) refl
    where
      go : (c : Bool) → is_swapped (said e) ≡ c → get_or (cond c (written e vs) vs) w 0 ≡ get_or vs w 0
      go true q = get_or-set_other vs (row_numbered rows e.row).word w (new_of (row_numbered rows e.row) (get_or vs (row_numbered rows e.row).word 0)) 0 (λ x. h q (sym x))
      go false q = refl

  pub final_quiet : (w : ℕ) (vs : List ℕ) (l : List Entry) → All (Quiet w) l → get_or (final vs l) w 0 ≡ get_or vs w 0
  unfolding final
  final_quiet w vs [] h = refl
  final_quiet w vs (e ∷ l) h = final_quiet w (moved e vs) l h.1 ∙ moved_quiet w e vs h.0

  -- one that is no swap put into a log: replay stays right, and comes to the same end
  pub right_put : (vs : List ℕ) (a b : List Entry) (e : Entry) → is_swapped (said e) ≡ false → RightAt (final vs a) e → Right vs (a ++ b) → Right vs (a ++ e ∷ b)
  right_put vs a b e nt r h =
      right_join vs a (e ∷ b) (right_left vs a b h) (r, rw (moved_not e (final vs a) nt) (right_right vs a b h))

  pub final-put : (vs : List ℕ) (a b : List Entry) (e : Entry) → is_swapped (said e) ≡ false → final vs (a ++ e ∷ b) ≡ final vs (a ++ b)
  unfolding final
  final-put vs a b e nt = final_join vs a (e ∷ b) ∙ rw (moved_not e (final vs a) nt) (sym (final_join vs a b))

  -- the values at time q: after the entries up to q. An entry that is no swap, or one later than q, does not change them
  pub early-put : (vs : List ℕ) (q : ℕ) {l l' : List Entry} (e : Entry) → Put e l l' → is_swapped (said e) ≡ false → final vs (early q l') ≡ final vs (early q l)
  unfolding early
  early-put vs q {l} {l'} e p nt = rw (p.was, p.now) (go (is_early q e) refl)
    where
      go : (c : Bool) → is_early q e ≡ c → final vs (keep (is_early q) (p.front ++ e ∷ p.back)) ≡ final vs (keep (is_early q) (p.front ++ p.back))
      go true t =
          rw (keep_put_yes (is_early q) p.front p.back e t, keep_join (is_early q) p.front p.back)
          (final-put vs (keep (is_early q) p.front) (keep (is_early q) p.back) e nt)
      go false t = rw (keep_put_no (is_early q) p.front p.back e t)

  pub early_put_later : (q : ℕ) {l l' : List Entry} (e : Entry) → Put e l l' → q < e.position → early q l' ≡ early q l
  unfolding early
  early_put_later q {l} {l'} e p h = rw (p.was, p.now) (keep_put_no (is_early q) p.front p.back e (early_test_no q e h))

pub both_true_0 : (b c : Bool) → (b && c) ≡ true → b ≡ true
both_true_0 true c h = refl
both_true_0 false c h = h

pub both_true_1 : (b c : Bool) → (b && c) ≡ true → c ≡ true
both_true_1 true c h = h
both_true_1 false c h = absurd (true≢false (sym h))

-- a successful swap on word w later than a
pub record SwapOn (rows : List Row) (w a : ℕ) (e : Entry) : Type 0 where
  pub swap_said : is_swapped (said e) ≡ true
  pub later : a < e.position
  pub there : e.row < length rows
  pub on : (row_numbered rows e.row).word ≡ w

names_there : (rows : List Row) (k w : ℕ) → names rows k w ≡ true → k < length rows
unfolding names
names_there [] k w h = absurd (true≢false (sym h))
names_there (r ∷ rows) zero w h = omega arith
names_there (r ∷ rows) (suc k) w h = let g : k < length rows = names_there rows k w h in omega arith

names_on : (rows : List Row) (k w : ℕ) → names rows k w ≡ true → (row_numbered rows k).word ≡ w
unfolding names row_numbered
names_on [] k w h = absurd (true≢false (sym h))
names_on (r ∷ rows) zero w h = eqb-true r.word w h
names_on (r ∷ rows) (suc k) w h = names_on rows k w h

names_true : (rows : List Row) (k w : ℕ) → k < length rows → (row_numbered rows k).word ≡ w → names rows k w ≡ true
unfolding names row_numbered
names_true [] k w h e = absurd (omega arith)
names_true (r ∷ rows) zero w h e = eq-eqb r.word w e
names_true (r ∷ rows) (suc k) w h e = names_true rows k w (omega arith) e

pub swap_on : (rows : List Row) (w a : ℕ) (e : Entry) → is_swap rows w a e ≡ true → SwapOn rows w a e
unfolding is_swap
swap_on rows w a e h =
    let h1 : (ltb a e.position && names rows e.row w) ≡ true = both_true_1 (is_swapped (said e)) (ltb a e.position && names rows e.row w) h in
    let h2 : names rows e.row w ≡ true = both_true_1 (ltb a e.position) (names rows e.row w) h1 in
    record {
      swap_said = both_true_0 (is_swapped (said e)) (ltb a e.position && names rows e.row w) h;
      later = ltb-true a e.position (both_true_0 (ltb a e.position) (names rows e.row w) h1);
      there = names_there rows e.row w h2;
      on = names_on rows e.row w h2;
    }

pub is_swap_lem : (rows : List Row) (w a : ℕ) (e : Entry) → SwapOn rows w a e → is_swap rows w a e ≡ true
unfolding is_swap
is_swap_lem rows w a e h = rw (h.swap_said, lt-ltb a e.position h.later, names_true rows e.row w h.there h.on)

pub first_swap_lem : (rows : List Row) (w a none : ℕ) (l : List Entry) (x : Entry) (r : List Entry) → keep (is_swap rows w a) l ≡ x ∷ r → first_swap rows w a none l ≡ x.position
unfolding first_swap
first_swap_lem rows w a none [] x r h = cc
first_swap_lem rows w a none (e ∷ l) x r h = go (is_swap rows w a e) h (first_swap_lem rows w a none l x r)
  where
    go : (c : Bool) → cond c (e ∷ keep (is_swap rows w a) l) (keep (is_swap rows w a) l) ≡ x ∷ r → (keep (is_swap rows w a) l ≡ x ∷ r → first_swap rows w a none l ≡ x.position) → cond c e.position (first_swap rows w a none l) ≡ x.position
    go true h ih = let q : e ≡ x = cc in ap (λ e. e.position) q
    go false h ih = ih h

-- the entries up to a, where x is later than a; the entries up to x's own position
early_before : (a : ℕ) (m n : List Entry) (x : Entry) → Sorted (m ++ x ∷ n) → a < x.position → early a (m ++ x ∷ n) ≡ early a m
early_before a m n x s h =
    early_join a m (x ∷ n)
    ∙ ap (λ l. early a m ++ l) (early_none a (x ∷ n) (h, all_map (Ordered x) (λ f. a < f.position) (λ f o. let k : x.position ≤ f.position = o.le in omega arith) n (sorted_behind m n x s)))
    ∙ append-nil (early a m)

early_cons : (q : ℕ) (x : Entry) (n : List Entry) → x.position ≤ q → early q (x ∷ n) ≡ x ∷ early q n
unfolding early
early_cons q x n h = rw (early_test q x h)

early-through : (m n : List Entry) (x : Entry) → Sorted (m ++ x ∷ n) → early x.position (m ++ x ∷ n) ≡ m ++ x ∷ early x.position n
early-through m n x s =
    early_join x.position m (x ∷ n)
    ∙ ap₂ (λ a b. a ++ b)
    (early_all x.position m (all_map (λ f. Ordered f x) (λ f. f.position ≤ x.position) (λ f o. o.le) m (sorted_before m n x s)))
    (early_cons x.position x n (omega arith))

module _ (rows : List Row) (start : List ℕ) (good : (k : ℕ) → Good (length start) (row_numbered rows k)) where
  -- before the first swap on w after a, w has the value that it had at a
  before_swap : (w a : ℕ) (m : List Entry) → Sorted m → All (λ y. y.row < length rows) m → All (λ y. is_swap rows w a y ≡ false) m
      → get_or (final rows start m) w 0 ≡ get_or (final rows start (early a m)) w 0
  unfolding late
  before_swap w a m s there none =
      ap (λ l. get_or (final rows start l) w 0) (sym (early-late a m s))
      ∙ ap (λ l. get_or l w 0) (final_join rows start (early a m) (late a m))
      ∙ final_quiet rows w (final rows start (early a m)) (late a m)
      (all_map (λ y. ((is_swap rows w a y ≡ false) × (y.row < length rows)) × (a < y.position)) (Quiet rows w)
      (λ y h t o. true≢false (sym (sym h.0.0 ∙ is_swap_lem rows w a y (record { swap_said = t; later = h.1; there = h.0.1; on = o }))))
      (late a m)
      (all_both (λ y. (is_swap rows w a y ≡ false) × (y.row < length rows)) (λ y. a < y.position) (late a m)
      (keep_keeps (λ y. (is_swap rows w a y ≡ false) × (y.row < length rows)) (is_late a) m (all_both (λ y. is_swap rows w a y ≡ false) (λ y. y.row < length rows) m none there))
      (late-high a m)))

  -- a swap strictly after x: none of the entries up to x's own position
  behind_swap : (w : ℕ) (vs : List ℕ) (m n : List Entry) (x : Entry) → Sorted (m ++ x ∷ n) → is_swapped (said x) ≡ true
      → get_or (final rows vs (early x.position n)) w 0 ≡ get_or vs w 0
  unfolding early
  behind_swap w vs m n x s t =
      final_quiet rows w vs (early x.position n)
      (all_map (λ y. Ordered x y × (y.position ≤ x.position)) (Quiet rows w)
      (λ y h u o. let k : x.position < y.position = h.0.lt t u in let j : y.position ≤ x.position = h.1 in omega arith)
      (early x.position n)
      (all_both (Ordered x) (λ y. y.position ≤ x.position) (early x.position n) (keep_keeps (Ordered x) (is_early x.position) n (sorted_behind m n x s)) (early_low x.position n)))

  -- So that swap left another value than it found. Here, and nowhere else, it is needed that a row that swaps leaves another (`differ`): that a
  -- compare's old is not its new, and an advance's amount not 0 (R51)
  lost_at_lem : (w a : ℕ) (m n : List Entry) (x : Entry) → Sorted (m ++ x ∷ n) → Right rows start (m ++ x ∷ n) → All (λ y. y.row < length rows) m → All (λ y. is_swap rows w a y ≡ false) m → SwapOn rows w a x
      → get_or (final rows start (early x.position (m ++ x ∷ n))) w 0 ≡ get_or (final rows start (early a (m ++ x ∷ n))) w 0 → ⊥
  unfolding final
  lost_at_lem w a m n x s r there none on same =
      let row : Row = row_numbered rows x.row in
      let vs : List ℕ = final rows start m in
      let here : get_or (final rows start (early a (m ++ x ∷ n))) w 0 ≡ get_or vs w 0 =
      ap (λ l. get_or (final rows start l) w 0) (early_before a m n x s on.later) ∙ sym (before_swap w a m (sorted_left m (x ∷ n) s) there none) in
      let inside : w < length vs = subst (λ n. w < n) (sym (length-final rows start m)) (subst (λ n. n < length start) on.on (good x.row).inside) in
      let there : get_or (final rows start (early x.position (m ++ x ∷ n))) w 0 ≡ new_of row (get_or vs row.word 0) =
      ap (λ l. get_or (final rows start l) w 0) (early-through m n x s)
      ∙ ap (λ l. get_or l w 0) (final_join rows start m (x ∷ early x.position n))
      ∙ behind_swap w (moved rows x vs) m n x s on.swap_said
      ∙ ap (λ l. get_or l w 0) (moved-swapped rows x vs on.swap_said)
      ∙ ap (λ k. get_or (set vs k (new_of row (get_or vs row.word 0))) w 0) on.on
      ∙ get_or-set_same vs w (new_of row (get_or vs row.word 0)) 0 inside in
      let says : said x ≡ answer_of row (get_or vs row.word 0) = (right_right rows start m (x ∷ n) r).0 in
      (good x.row).differ (get_or vs row.word 0) (ap is_swapped (sym says) ∙ on.swap_said) (sym there ∙ same ∙ here ∙ ap (λ k. get_or vs k 0) (sym on.on))

  pub lost : (w a none : ℕ) (l : List Entry) (x : Entry) (r : List Entry) → Sorted l → Right rows start l → All (λ y. y.row < length rows) l → keep (is_swap rows w a) l ≡ x ∷ r
      → get_or (final rows start (early (first_swap rows w a none l) l)) w 0 ≡ get_or (final rows start (early a l)) w 0 → ⊥
  lost w a none l x r s h there k same =
      let d : Found (is_swap rows w a) l x = keep-found (is_swap rows w a) l x r k in
      lost_at_lem w a d.front d.back x (rw d.whole at s) (rw d.whole at h) (all_left (λ y. y.row < length rows) d.front (x ∷ d.back) (rw d.whole at there)) d.none (swap_on rows w a x d.passes)
      (rw (first_swap_lem rows w a none l x r k, d.whole) at same)
