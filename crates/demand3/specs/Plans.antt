-- What the refusals give of the rows: each is good, and the rows of a process stand together.
use Rattle.std.specs.Prelude.{ℕ, zero, suc, ◌+◌, ◌≤◌, ◌<◌, ◌≡◌, refl, Bool, true, false, cond, List, [], ◌∷◌, ◌≢◌, eqb, ltb, length, get_or}
use Rattle.std.proofs.Common.{sym, true≢false, arith, suc-add, zero-add, lit<, eq-eqb, ne_eqb, eqb-true, ltb-true, ltb-false, le-ltb}
use Rattle.std.proofs.Math.ListN.{get_or-eq_default}
use Rattle.std.proofs.lemmas.Bool.{eqb-false}
use Rattle.runfile.specs.declared.Row.{Row}
use Rattle.runfile.specs.Operations.{blank, row_numbered, first, count}
use Rattle.rows.specs.Entries.{is_swapped}
use Rattle.replay.specs.Lists.{All, all_map}
use Rattle.replay.specs.Plain.{answer_of}
use Rattle.replay.specs.Replay.{Good}

-- refusals 9, 10 and 11 are given for none of the rows, over P processes and W words (R49 to R51)
pub record Plan (P W : ℕ) (rows : List Row) : Type 0 where
  pub some_word : 0 < W
  pub good : (k : ℕ) → k < length rows → Good W (row_numbered rows k)
  pub present : (k : ℕ) → k < length rows → (row_numbered rows k).process < P
  pub order : (k : ℕ) → suc k < length rows → (row_numbered rows k).process ≤ (row_numbered rows (suc k)).process

-- the order, row by row: no row has a smaller process than the row in front of it (R50)
abbrev pub NotBelow : Row → List Row → Type 0
NotBelow r [] = Unit {0}
NotBelow r (q ∷ rows) = r.process ≤ q.process

abbrev pub InOrder : List Row → Type 0
InOrder [] = Unit {0}
InOrder (r ∷ rows) = NotBelow r rows × InOrder rows

in_order : (rows : List Row) → ((k : ℕ) → suc k < length rows → (row_numbered rows k).process ≤ (row_numbered rows (suc k)).process) → InOrder rows
unfolding row_numbered
in_order [] h = tt
in_order (r ∷ []) h = (tt, tt)
in_order (r ∷ q ∷ rows) h = (h 0 (omega arith), in_order (q ∷ rows) (λ k l. h (suc k) (omega arith)))

all_above : (r : Row) (rows : List Row) → NotBelow r rows → InOrder rows → All (λ q. r.process ≤ q.process) rows
all_above r [] h o = tt
all_above r (q ∷ rows) h o = (h, all_map (λ x. q.process ≤ x.process) (λ x. r.process ≤ x.process) (λ x k. omega arith) rows (all_above q rows o.0 o.1))

all_inside : (P : Row → Type 0) (rows : List Row) → All P rows → (k : ℕ) → k < length rows → P (row_numbered rows k)
unfolding row_numbered
all_inside P [] h k l = absurd (omega arith)
all_inside P (r ∷ rows) h zero l = h.0
all_inside P (r ∷ rows) h (suc k) l = all_inside P rows h.1 k (omega arith)

-- past the end stands a row of zeros, a read of word 0: it is good too
pub good_at : (P W : ℕ) (rows : List Row) → Plan P W rows → (k : ℕ) → Good W (row_numbered rows k)
unfolding row_numbered answer_of is_swapped
good_at P W rows plan k = go (ltb k (length rows)) refl
  where
    go : (c : Bool) → ltb k (length rows) ≡ c → Good W (get_or rows k blank)
    go true e = plan.good k (ltb-true k (length rows) e)
    go false e = rw (get_or-eq_default rows blank (ltb-false k (length rows) e)) (record { inside = plan.some_word; fits = λ v. lit< tt; differ = λ v e _. true≢false (sym e) })

first_none : (p : ℕ) (rows : List Row) → All (λ q. p ≤ q.process) rows → first rows p ≡ 0
unfolding first
first_none p [] h = refl
first_none p (r ∷ rows) h = rw (le-ltb r.process p h.0) (first_none p rows h.1)

count_none : (p : ℕ) (rows : List Row) → All (λ q. p < q.process) rows → count rows p ≡ 0
unfolding count
count_none p [] h = refl
count_none p (r ∷ rows) h = let l : p < r.process = h.0 in rw (ne_eqb r.process p (λ e. omega arith)) (count_none p rows h.1)

owned : (rows : List Row) → InOrder rows → (p i : ℕ) → i < count rows p → (row_numbered rows (first rows p + i)).process ≡ p
unfolding first count row_numbered
owned [] o p i h = absurd (omega arith)
owned (r ∷ rows) o p i h = go (ltb r.process p) refl (eqb r.process p) refl h (owned rows o.1 p)
  where
    above : All (λ q. r.process ≤ q.process) rows
    above = all_above r rows o.0 o.1

    head : first rows p ≡ 0 → r.process ≡ p → ((i : ℕ) → i < count rows p → (get_or rows (first rows p + i) blank).process ≡ p) → (i : ℕ) → i < suc (count rows p) → (get_or (r ∷ rows) i blank).process ≡ p
    head z q ih zero g = q
    head z q ih (suc j) g = rw (z, zero-add j) at (ih j (omega arith))

    go : (c : Bool) → ltb r.process p ≡ c → (d : Bool) → eqb r.process p ≡ d → i < cond d (suc (count rows p)) (count rows p) → ((i : ℕ) → i < count rows p → (get_or rows (first rows p + i) blank).process ≡ p)
        → (get_or (r ∷ rows) (cond c (suc (first rows p)) (first rows p) + i) blank).process ≡ p
    go true e true f g ih = absurd (let l : r.process < p = ltb-true r.process p e in let m : r.process ≡ p = eqb-true r.process p f in omega arith)
    go true e false f g ih = rw (suc-add (first rows p) i) (ih i g)
    go false e true f g ih =
        let m : r.process ≡ p = eqb-true r.process p f in
        let z : first rows p ≡ 0 = first_none p rows (all_map (λ q. r.process ≤ q.process) (λ q. p ≤ q.process) (λ q k. omega arith) rows above) in
        rw (z, zero-add i) (head z m ih i g)
    go false e false f g ih =
        let m : r.process ≢ p = eqb-false r.process p f in
        let l : p ≤ r.process = ltb-false r.process p e in
        let z : count rows p ≡ 0 = count_none p rows (all_map (λ q. r.process ≤ q.process) (λ q. p < q.process) (λ q k. omega arith) rows above) in
        absurd (omega arith)

pub owner : (P W : ℕ) (rows : List Row) → Plan P W rows → (p i : ℕ) → i < count rows p → (row_numbered rows (first rows p + i)).process ≡ p
owner P W rows plan = owned rows (in_order rows plan.order)

-- a row of the file is a row of its process
pub record Covered (rows : List Row) (k : ℕ) : Type 0 where
  pub index : ℕ
  pub fits : index < count rows (row_numbered rows k).process
  pub is : k ≡ first rows (row_numbered rows k).process + index

covering : (rows : List Row) → InOrder rows → (k : ℕ) → k < length rows → Covered rows k
unfolding first count row_numbered
covering [] o k h = absurd (omega arith)
covering (r ∷ rows) o zero h =
    let z : first rows r.process ≡ 0 = first_none r.process rows (all_above r rows o.0 o.1) in
    record {
      index = 0;
      fits = rw (eq-eqb r.process r.process refl) (omega arith);
      is = rw (le-ltb r.process r.process (omega arith)) (omega arith);
    }
covering (r ∷ rows) o (suc k) h = go (ltb r.process p) refl (covering rows o.1 k (omega arith))
  where
    p : ℕ
    p = (row_numbered rows k).process

    above : r.process ≤ p
    above = all_inside (λ q. r.process ≤ q.process) rows (all_above r rows o.0 o.1) k (omega arith)

    go : (c : Bool) → ltb r.process p ≡ c → Covered rows k → Covered (r ∷ rows) (suc k)
    go true e d =
        let l : r.process < p = ltb-true r.process p e in
        let m : k ≡ first rows p + d.index = d.is in
        record { index = d.index; fits = rw (ne_eqb r.process p (λ q. omega arith)) d.fits; is = rw e (omega arith) }
    go false e d =
        let l : p ≤ r.process = ltb-false r.process p e in
        let a : r.process ≤ p = above in
        let q : r.process ≡ p = omega arith in
        let z : first rows p ≡ 0 = first_none p rows (all_map (λ x. r.process ≤ x.process) (λ x. p ≤ x.process) (λ x n. omega arith) rows (all_above r rows o.0 o.1)) in
        let m : k ≡ first rows p + d.index = d.is in
        let f : d.index < count rows p = d.fits in
        record { index = suc d.index; fits = rw (eq-eqb r.process p q) (omega arith); is = rw e (omega arith) }

pub covered : (P W : ℕ) (rows : List Row) → Plan P W rows → (k : ℕ) → k < length rows → Covered rows k
covered P W rows plan = covering rows (in_order rows plan.order)
