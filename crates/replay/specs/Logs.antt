-- Logs in order: pairwise by position, swaps strictly; the entries up to a position and those after it as filters; and that a row put at
-- its place keeps the order (`Put` says where it stands, so that nothing above looks at `place`, `take` or `drop`).
use Rattle.std.specs.Prelude.{ℕ, zero, suc, ◌≤◌, ◌<◌, ◌≡◌, refl, Bool, true, false, not, cond, List, [], ◌∷◌, ◌++◌, leb, take, drop}
use Rattle.std.proofs.Common.{sym, ◌∙◌, ap, arith, take-append-drop, le-leb, leb-true, leb-false}
use Rattle.std.proofs.lemmas.Bool.{lt-leb}
use Rattle.rows.specs.declared.Entry.{Entry}
use Rattle.rows.specs.Entries.{said, is_swapped}
use Rattle.rows.specs.Log.{one_past, place, insert}
use Rattle.replay.specs.Lists.{All, all_left, all_right, all_map, all_put, keep, keep_join, keep_all, keep_none, keep-passes}

-- e may stand before f
pub record Ordered (e f : Entry) : Type 0 where
  pub le : e.position ≤ f.position
  pub lt : is_swapped (said e) ≡ true → is_swapped (said f) ≡ true → e.position < f.position

abbrev pub Sorted : List Entry → Type 0
Sorted [] = Unit {0}
Sorted (e ∷ l) = All (Ordered e) l × Sorted l

pub sorted_left : (a b : List Entry) → Sorted (a ++ b) → Sorted a
sorted_left [] b h = tt
sorted_left (e ∷ a) b h = (all_left (Ordered e) a b h.0, sorted_left a b h.1)

pub sorted_right : (a b : List Entry) → Sorted (a ++ b) → Sorted b
sorted_right [] b h = h
sorted_right (e ∷ a) b h = sorted_right a b h.1

-- each of a may stand before e, and e before each of b
pub sorted_put : (a b : List Entry) (e : Entry) → All (λ f. Ordered f e) a → All (Ordered e) b → Sorted (a ++ b) → Sorted (a ++ e ∷ b)
sorted_put [] b e h k s = (k, s)
sorted_put (f ∷ a) b e h k s = (all_put (Ordered f) a b e h.0 s.0, sorted_put a b e h.1 k s.1)

-- of a ++ e ∷ b: each of a before e, and e before each of b
pub sorted_before : (a b : List Entry) (e : Entry) → Sorted (a ++ e ∷ b) → All (λ f. Ordered f e) a
sorted_before [] b e s = tt
sorted_before (f ∷ a) b e s = ((all_right (Ordered f) a (e ∷ b) s.0).0, sorted_before a b e s.1)

pub sorted_behind : (a b : List Entry) (e : Entry) → Sorted (a ++ e ∷ b) → All (Ordered e) b
sorted_behind a b e s = (sorted_right a (e ∷ b) s).0

-- the entries up to position q, and those past it
abbrev pub is_early : ℕ → Entry → Bool
is_early q e = leb e.position q

abbrev pub is_late : ℕ → Entry → Bool
is_late q e = not (leb e.position q)

unfoldable pub early : ℕ → List Entry → List Entry
early q l = keep (is_early q) l

unfoldable pub late : ℕ → List Entry → List Entry
late q l = keep (is_late q) l

pub early_test : (q : ℕ) (e : Entry) → e.position ≤ q → is_early q e ≡ true
early_test q e h = le-leb e.position q h

pub early_test_no : (q : ℕ) (e : Entry) → q < e.position → is_early q e ≡ false
early_test_no q e h = lt-leb e.position q h

pub late_test : (q : ℕ) (e : Entry) → q < e.position → is_late q e ≡ true
late_test q e h = ap not (lt-leb e.position q h)

pub late_test_no : (q : ℕ) (e : Entry) → e.position ≤ q → is_late q e ≡ false
late_test_no q e h = ap not (le-leb e.position q h)

pub early_all : (q : ℕ) (l : List Entry) → All (λ e. e.position ≤ q) l → early q l ≡ l
unfolding early
early_all q l h = keep_all (is_early q) l (all_map (λ e. e.position ≤ q) (λ e. is_early q e ≡ true) (early_test q) l h)

pub early_none : (q : ℕ) (l : List Entry) → All (λ e. q < e.position) l → early q l ≡ []
unfolding early
early_none q l h = keep_none (is_early q) l (all_map (λ e. q < e.position) (λ e. is_early q e ≡ false) (early_test_no q) l h)

pub late_all : (q : ℕ) (l : List Entry) → All (λ e. q < e.position) l → late q l ≡ l
unfolding late
late_all q l h = keep_all (is_late q) l (all_map (λ e. q < e.position) (λ e. is_late q e ≡ true) (late_test q) l h)

pub late_none : (q : ℕ) (l : List Entry) → All (λ e. e.position ≤ q) l → late q l ≡ []
unfolding late
late_none q l h = keep_none (is_late q) l (all_map (λ e. e.position ≤ q) (λ e. is_late q e ≡ false) (late_test_no q) l h)

pub early_low : (q : ℕ) (l : List Entry) → All (λ e. e.position ≤ q) (early q l)
unfolding early
early_low q l = all_map (λ e. is_early q e ≡ true) (λ e. e.position ≤ q) (λ e h. leb-true e.position q h) (keep (is_early q) l) (keep-passes (is_early q) l)

not_not : (b : Bool) → not b ≡ true → b ≡ false
not_not true h = sym h
not_not false h = refl

pub late-high : (q : ℕ) (l : List Entry) → All (λ e. q < e.position) (late q l)
unfolding late
late-high q l = all_map (λ e. is_late q e ≡ true) (λ e. q < e.position) (λ e h. leb-false e.position q (not_not (leb e.position q) h)) (keep (is_late q) l) (keep-passes (is_late q) l)

pub early_join : (q : ℕ) (a b : List Entry) → early q (a ++ b) ≡ early q a ++ early q b
unfolding early
early_join q a b = keep_join (is_early q) a b

-- `place` on a log in order
one_past_true : (n : ℕ) → one_past true n ≡ suc n
unfolding one_past
one_past_true zero = refl
one_past_true (suc n) = refl

place_none : (q : ℕ) (l : List Entry) → All (λ e. q < e.position) l → place q l ≡ 0
unfolding place one_past
place_none q [] h = refl
place_none q (e ∷ l) h = rw (lt-leb e.position q h.0, place_none q l h.1)

behind-high : (q : ℕ) (e : Entry) (l : List Entry) → q < e.position → All (Ordered e) l → All (λ f. q < f.position) l
behind-high q e l h s = all_map (Ordered e) (λ f. q < f.position) (λ f o. let k : e.position ≤ f.position = o.le in omega arith) l s

pub take-place : (q : ℕ) (l : List Entry) → Sorted l → take (place q l) l ≡ early q l
unfolding place early one_past
take-place q [] s = refl
take-place q (e ∷ l) s = go (leb e.position q) refl (take-place q l s.1)
  where
    go : (c : Bool) → leb e.position q ≡ c → take (place q l) l ≡ keep (is_early q) l → take (one_past c (place q l)) (e ∷ l) ≡ cond c (e ∷ keep (is_early q) l) (keep (is_early q) l)
    go true t ih = rw (one_past_true (place q l)) (ap (λ l. e ∷ l) ih)
    go false t ih =
        let high : All (λ f. q < f.position) l = behind-high q e l (leb-false e.position q t) s.0 in
        rw (place_none q l high) (sym (early_none q l high))

pub drop-place : (q : ℕ) (l : List Entry) → Sorted l → drop (place q l) l ≡ late q l
unfolding place late one_past
drop-place q [] s = refl
drop-place q (e ∷ l) s = go (leb e.position q) refl (drop-place q l s.1)
  where
    go : (c : Bool) → leb e.position q ≡ c → drop (place q l) l ≡ keep (is_late q) l → drop (one_past c (place q l)) (e ∷ l) ≡ cond (not c) (e ∷ keep (is_late q) l) (keep (is_late q) l)
    go true t ih = rw (one_past_true (place q l)) ih
    go false t ih =
        let high : All (λ f. q < f.position) l = behind-high q e l (leb-false e.position q t) s.0 in
        rw (place_none q l high) (ap (λ l. e ∷ l) (sym (late_all q l high)))

pub early-late : (q : ℕ) (l : List Entry) → Sorted l → early q l ++ late q l ≡ l
early-late q l s = rw (← (take-place q l s), ← (drop-place q l s)) (take-append-drop (place q l) l)

pub insert_sorted : (e : Entry) (l : List Entry) → Sorted l → insert e l ≡ early e.position l ++ e ∷ late e.position l
unfolding insert
insert_sorted e l s = rw (take-place e.position l s, drop-place e.position l s)

-- a log l, and l with e put in at its place
pub record Put (e : Entry) (l l' : List Entry) : Type 0 where
  pub front : List Entry
  pub back : List Entry
  pub was : l ≡ front ++ back
  pub now : l' ≡ front ++ e ∷ back
  pub low : All (λ f. f.position ≤ e.position) front
  pub high : All (λ f. e.position < f.position) back
  pub front_is : front ≡ early e.position l

pub put : (e : Entry) (l : List Entry) → Sorted l → Put e l (insert e l)
put e l s =
    record {
      front = early e.position l;
      back = late e.position l;
      was = sym (early-late e.position l s);
      now = insert_sorted e l s;
      low = early_low e.position l;
      high = late-high e.position l;
      front_is = refl;
    }

-- behind all
pub insert_last : (e : Entry) (l : List Entry) → Sorted l → All (λ f. f.position < e.position) l → insert e l ≡ l ++ e ∷ []
insert_last e l s h =
    let low : All (λ f. f.position ≤ e.position) l = all_map (λ f. f.position < e.position) (λ f. f.position ≤ e.position) (λ f h. omega arith) l h in
    insert_sorted e l s ∙ rw (early_all e.position l low, late_none e.position l low)
