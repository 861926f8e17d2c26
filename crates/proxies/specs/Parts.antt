-- A proxy's part of a list: what is not in it may change unseen, and what is in it reads the same in two lists that have the same part, and
-- stays the same if it is changed in both. By the laws of `take` and `drop`.
use Rattle.std.specs.Prelude.{ℕ, zero, suc, ◌+◌, ◌-◌, ◌≤◌, ◌<◌, ◌≡◌, Bool, cond, List, [], ◌∷◌, map, ltb, take}
use Rattle.std.proofs.Math.Path.{refl, sym, ap, subst}
use Rattle.std.proofs.Common.{◌∙◌, true≢false, ltb-true, ltb-false, lt-ltb, le-ltb}
use Rattle.std.proofs.Math.Bool.{true, false, not}
use native.Mathlib.Omega.{arith}
use Rattle.std.proofs.Math.ListN.{get_or, set, drop}
use Rattle.std.proofs.Math.Seq.{take-set-le, take-set-lt, drop-set-lt, get_or-take, get_or-drop}
use Rattle.std.proofs.lemmas.List.{drop-set-add}
use Rattle.std.proofs.lemmas.Bool.{not-true, not-false}
use Rattle.proxies.specs.Statement.{Proxy, one, two, proxy_of, is_proxy, owns, part}

-- on which side of the split a number of a proxy is
module _ (n a : ℕ) where
  owns_one : owns one n a ≡ ltb a n
  unfolding owns proxy_of
  owns_one = go (ltb a n)
    where
      go : (c : Bool) → is_proxy one (cond c one two) ≡ c
      go true = refl
      go false = refl

  owns-two : owns two n a ≡ not (ltb a n)
  unfolding owns proxy_of
  owns-two = go (ltb a n)
    where
      go : (c : Bool) → is_proxy two (cond c one two) ≡ not c
      go true = refl
      go false = refl

  pub below_one : owns one n a ≡ true → a < n
  below_one e = ltb-true a n (sym owns_one ∙ e)

  pub above_one : owns one n a ≡ false → n ≤ a
  above_one e = ltb-false a n (sym owns_one ∙ e)

  pub above_two : owns two n a ≡ true → n ≤ a
  above_two e = ltb-false a n (not-true (ltb a n) (sym owns-two ∙ e))

  pub below_two : owns two n a ≡ false → a < n
  below_two e = ltb-true a n (not-false (ltb a n) (sym owns-two ∙ e))

  pub is_above_one : n ≤ a → owns one n a ≡ false
  is_above_one l = owns_one ∙ le-ltb a n l

  pub is_above_two : n ≤ a → owns two n a ≡ true
  is_above_two l = owns-two ∙ ap not (le-ltb a n l)

-- the other proxy, which owns what this one does not
abbrev pub other_than : Proxy → Proxy
other_than one = two
other_than two = one

pub not_both_own : (x : Proxy) (n a : ℕ) → owns x n a ≡ true → owns (other_than x) n a ≡ true → ⊥
unfolding owns
not_both_own x n a f g = go x (proxy_of n a) f g
  where
    go : (x y : Proxy) → is_proxy x y ≡ true → is_proxy (other_than x) y ≡ true → ⊥
    go one one f g = true≢false (sym g)
    go one two f g = true≢false (sym f)
    go two one f g = true≢false (sym f)
    go two two f g = true≢false (sym g)

-- a number of the other proxy is no number of this one
pub apart : (x : Proxy) (n a b : ℕ) → owns x n a ≡ false → owns x n b ≡ true → a ≡ b → ⊥
apart x n a b f g e = true≢false (sym g ∙ ap (owns x n) (sym e) ∙ f)

-- and they are all on one side of it
abbrev pub front : Proxy → Bool
front one = false
front two = true

pub other_side : (x : Proxy) (n a b : ℕ) → owns x n a ≡ false → owns x n b ≡ true → ltb a b ≡ front x
other_side one n a b f g = let l : n ≤ a = above_one n a f in let m : b < n = below_one n b g in le-ltb a b (omega arith)
other_side two n a b f g = let l : a < n = below_two n a f in let m : n ≤ b = above_two n b g in lt-ltb a b (omega arith)

module _ {A : Type 0} where
  pub part_set_other : (x : Proxy) (n : ℕ) (l : List A) (i : ℕ) (v : A) → owns x n i ≡ false → part x n (set l i v) ≡ part x n l
  unfolding part
  part_set_other one n l i v o = take-set-le n l i v (above_one n i o)
  part_set_other two n l i v o = drop-set-lt n l i v (below_two n i o)

  pub part_set_own : (x : Proxy) (n : ℕ) (l m : List A) (i : ℕ) (v : A) → owns x n i ≡ true → part x n l ≡ part x n m → part x n (set l i v) ≡ part x n (set m i v)
  unfolding part
  part_set_own one n l m i v o e = take-set-lt n l i v (below_one n i o) ∙ ap (λ l. set l i v) e ∙ sym (take-set-lt n m i v (below_one n i o))
  part_set_own two n l m i v o e =
      let h : n ≤ i = above_two n i o in
      let is : n + (i - n) ≡ i = omega arith in
      subst (λ i. drop n (set l i v) ≡ drop n (set m i v)) is
      (drop-set-add n l (i - n) v ∙ ap (λ l. set l (i - n) v) e ∙ sym (drop-set-add n m (i - n) v))

  pub part_at : (x : Proxy) (n : ℕ) (l m : List A) (i : ℕ) (d : A) → owns x n i ≡ true → part x n l ≡ part x n m → get_or l i d ≡ get_or m i d
  unfolding part
  part_at one n l m i d o e = sym (get_or-take n l i d (below_one n i o)) ∙ ap (λ l. get_or l i d) e ∙ get_or-take n m i d (below_one n i o)
  part_at two n l m i d o e =
      let h : n ≤ i = above_two n i o in
      let is : n + (i - n) ≡ i = omega arith in
      subst (λ i. get_or l i d ≡ get_or m i d) is
      (sym (get_or-drop n l (i - n) d) ∙ ap (λ l. get_or l (i - n) d) e ∙ get_or-drop n m (i - n) d)

  take-map : (f : A → A) (n : ℕ) (l : List A) → take n (map f l) ≡ map f (take n l)
  take-map f zero l = refl
  take-map f (suc n) [] = refl
  take-map f (suc n) (y ∷ l) = ap (λ l. f y ∷ l) (take-map f n l)

  drop-map : (f : A → A) (n : ℕ) (l : List A) → drop n (map f l) ≡ map f (drop n l)
  drop-map f zero l = refl
  drop-map f (suc n) [] = refl
  drop-map f (suc n) (y ∷ l) = drop-map f n l

  pub part-map : (x : Proxy) (n : ℕ) (f : A → A) (l m : List A) → part x n l ≡ part x n m → part x n (map f l) ≡ part x n (map f m)
  unfolding part
  part-map one n f l m e = take-map f n l ∙ ap (map f) e ∙ sym (take-map f n m)
  part-map two n f l m e = drop-map f n l ∙ ap (map f) e ∙ sym (drop-map f n m)
