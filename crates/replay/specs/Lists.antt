-- Lists: what holds of all entries, the entries that pass a test (a filter), the first of them, and how many they are. By induction on the list.
use Prim.Native.Nat.{ℕ, suc, ◌≤◌}
use Rattle.std.specs.Prelude.{◌≡◌, Bool}
use Rattle.std.proofs.Math.Path.{refl}
use Rattle.std.proofs.Common.{sym, ◌∙◌, ap, true≢false}
use Rattle.std.proofs.Math.Bool.{true, false, cond}
use mathlib.Core.List.{List, [], ◌∷◌, ◌++◌}
use native.Mathlib.Omega.{arith}

module _ {A : Type 0} where
  abbrev pub All : (A → Type 0) → List A → Type 0
  All P [] = Unit {0}
  All P (x ∷ l) = P x × All P l

  pub all_join : (P : A → Type 0) (a b : List A) → All P a → All P b → All P (a ++ b)
  all_join P [] b h k = k
  all_join P (x ∷ a) b h k = (h.0, all_join P a b h.1 k)

  pub all_left : (P : A → Type 0) (a b : List A) → All P (a ++ b) → All P a
  all_left P [] b h = tt
  all_left P (x ∷ a) b h = (h.0, all_left P a b h.1)

  pub all_right : (P : A → Type 0) (a b : List A) → All P (a ++ b) → All P b
  all_right P [] b h = h
  all_right P (x ∷ a) b h = all_right P a b h.1

  pub all_map : (P Q : A → Type 0) → ((x : A) → P x → Q x) → (l : List A) → All P l → All Q l
  all_map P Q f [] h = tt
  all_map P Q f (x ∷ l) h = (f x h.0, all_map P Q f l h.1)

  pub all_of : (P : A → Type 0) → ((x : A) → P x) → (l : List A) → All P l
  all_of P f [] = tt
  all_of P f (x ∷ l) = (f x, all_of P f l)

  pub all_both : (P Q : A → Type 0) → (l : List A) → All P l → All Q l → All (λ x. P x × Q x) l
  all_both P Q [] h k = tt
  all_both P Q (x ∷ l) h k = ((h.0, k.0), all_both P Q l h.1 k.1)

  -- one more, in the middle
  pub all_put : (P : A → Type 0) (a b : List A) (x : A) → P x → All P (a ++ b) → All P (a ++ x ∷ b)
  all_put P [] b x p h = (p, h)
  all_put P (y ∷ a) b x p h = (h.0, all_put P a b x p h.1)

  -- the entries that pass a test
  abbrev pub keep : (A → Bool) → List A → List A
  keep f [] = []
  keep f (x ∷ l) = cond (f x) (x ∷ keep f l) (keep f l)

  pub keep_join : (f : A → Bool) (a b : List A) → keep f (a ++ b) ≡ keep f a ++ keep f b
  keep_join f [] b = refl
  keep_join f (x ∷ a) b = go (f x) (keep_join f a b)
    where
      go : (c : Bool) → keep f (a ++ b) ≡ keep f a ++ keep f b → cond c (x ∷ keep f (a ++ b)) (keep f (a ++ b)) ≡ cond c (x ∷ keep f a) (keep f a) ++ keep f b
      go true ih = ap (λ l. x ∷ l) ih
      go false ih = ih

  pub keep_all : (f : A → Bool) (l : List A) → All (λ x. f x ≡ true) l → keep f l ≡ l
  keep_all f [] h = refl
  keep_all f (x ∷ l) h = rw h.0 (ap (λ l. x ∷ l) (keep_all f l h.1))

  pub keep_none : (f : A → Bool) (l : List A) → All (λ x. f x ≡ false) l → keep f l ≡ []
  keep_none f [] h = refl
  keep_none f (x ∷ l) h = rw h.0 (keep_none f l h.1)

  pub keep-passes : (f : A → Bool) (l : List A) → All (λ x. f x ≡ true) (keep f l)
  keep-passes f [] = tt
  keep-passes f (x ∷ l) = go (f x) refl (keep-passes f l)
    where
      go : (c : Bool) → f x ≡ c → All (λ x. f x ≡ true) (keep f l) → All (λ x. f x ≡ true) (cond c (x ∷ keep f l) (keep f l))
      go true e ih = (e, ih)
      go false e ih = ih

  pub keep_keeps : (P : A → Type 0) (f : A → Bool) (l : List A) → All P l → All P (keep f l)
  keep_keeps P f [] h = tt
  keep_keeps P f (x ∷ l) h = go (f x) (keep_keeps P f l h.1)
    where
      go : (c : Bool) → All P (keep f l) → All P (cond c (x ∷ keep f l) (keep f l))
      go true ih = (h.0, ih)
      go false ih = ih

  -- one more in the middle that does not pass; one that passes
  pub keep_put_no : (f : A → Bool) (a b : List A) (x : A) → f x ≡ false → keep f (a ++ x ∷ b) ≡ keep f (a ++ b)
  keep_put_no f a b x e = keep_join f a (x ∷ b) ∙ rw e (sym (keep_join f a b))

  pub keep_put_yes : (f : A → Bool) (a b : List A) (x : A) → f x ≡ true → keep f (a ++ x ∷ b) ≡ keep f a ++ x ∷ keep f b
  keep_put_yes f a b x e = keep_join f a (x ∷ b) ∙ rw e refl

  pub keep_skip : (f : A → Bool) (a b : List A) (x : A) → All (λ y. f y ≡ false) a → f x ≡ false → keep f (a ++ x ∷ b) ≡ keep f b
  keep_skip f [] b x h e = rw e
  keep_skip f (y ∷ a) b x h e = rw h.0 (keep_skip f a b x h.1 e)

  pub append_empty_left : (a b : List A) → a ++ b ≡ [] → a ≡ []
  append_empty_left [] b h = refl
  append_empty_left (x ∷ a) b h = cc

  pub append_empty_right : (a b : List A) → a ++ b ≡ [] → b ≡ []
  append_empty_right [] b h = h
  append_empty_right (x ∷ a) b h = cc

  -- where the first that passes stands
  pub record Found (f : A → Bool) (l : List A) (x : A) : Type 0 where
    pub front : List A
    pub back : List A
    pub whole : l ≡ front ++ x ∷ back
    pub passes : f x ≡ true
    pub none : All (λ y. f y ≡ false) front

  pub keep-found : (f : A → Bool) (l : List A) (x : A) (r : List A) → keep f l ≡ x ∷ r → Found f l x
  keep-found f [] x r e = record { front = []; back = []; whole = cc; passes = cc; none = tt }
  keep-found f (y ∷ l) x r e = go (f y) refl e (keep-found f l x r)
    where
      go : (c : Bool) → f y ≡ c → cond c (y ∷ keep f l) (keep f l) ≡ x ∷ r → (keep f l ≡ x ∷ r → Found f l x) → Found f (y ∷ l) x
      go true q e ih = let yx : y ≡ x = cc in record { front = []; back = l; whole = cc; passes = ap f (sym yx) ∙ q; none = tt }
      go false q e ih = let d : Found f l x = ih e in record { front = y ∷ d.front; back = d.back; whole = ap (λ l. y ∷ l) d.whole; passes = d.passes; none = (q, d.none) }

  -- how many pass
  unfoldable pub many : (A → Bool) → List A → ℕ
  many f [] = 0
  many f (x ∷ l) = cond (f x) (suc (many f l)) (many f l)

  -- one more in the middle: no fewer
  pub many-put : (f : A → Bool) (a b : List A) (x : A) → many f (a ++ b) ≤ many f (a ++ x ∷ b)
  unfolding many
  many-put f [] b x = go (f x)
    where
      go : (c : Bool) → many f b ≤ cond c (suc (many f b)) (many f b)
      go true = omega arith
      go false = omega arith
  many-put f (y ∷ a) b x = go (f y) (many-put f a b x)
    where
      go : (c : Bool) → many f (a ++ b) ≤ many f (a ++ x ∷ b) → cond c (suc (many f (a ++ b))) (many f (a ++ b)) ≤ cond c (suc (many f (a ++ x ∷ b))) (many f (a ++ x ∷ b))
      go true h = omega arith
      go false h = h

  -- a test that whatever passes another passes: no fewer, and more if one passes that does not pass the other
  module _ (narrow f : A → Bool) where
    one_le : (x : A) (m n : ℕ) → (narrow x ≡ true → f x ≡ true) → m ≤ n → cond (narrow x) (suc m) m ≤ cond (f x) (suc n) n
    one_le x m n wider h = go (narrow x) refl (f x) refl
      where
        go : (c : Bool) → narrow x ≡ c → (d : Bool) → f x ≡ d → cond c (suc m) m ≤ cond d (suc n) n
        go true q true r = omega arith
        go true q false r = absurd (true≢false (sym (wider q) ∙ r))
        go false q true r = omega arith
        go false q false r = h

    pub many_le : (l : List A) → All (λ x. narrow x ≡ true → f x ≡ true) l → many narrow l ≤ many f l
    unfolding many
    many_le [] wider = omega arith
    many_le (x ∷ l) wider = one_le x (many narrow l) (many f l) wider.0 (many_le l wider.1)

    pub many_less : (a b : List A) (x : A) → All (λ x. narrow x ≡ true → f x ≡ true) (a ++ x ∷ b) → narrow x ≡ false → f x ≡ true → suc (many narrow (a ++ x ∷ b)) ≤ many f (a ++ x ∷ b)
    unfolding many
    many_less [] b x wider n t = let h : many narrow b ≤ many f b = many_le b wider.1 in rw (n, t) (omega arith)
    many_less (y ∷ a) b x wider n t =
        let h : suc (many narrow (a ++ x ∷ b)) ≤ many f (a ++ x ∷ b) = many_less a b x wider.1 n t in
        go (narrow y) refl (f y) refl h
      where
        go : (c : Bool) → narrow y ≡ c → (d : Bool) → f y ≡ d → suc (many narrow (a ++ x ∷ b)) ≤ many f (a ++ x ∷ b)
            → suc (cond c (suc (many narrow (a ++ x ∷ b))) (many narrow (a ++ x ∷ b))) ≤ cond d (suc (many f (a ++ x ∷ b))) (many f (a ++ x ∷ b))
        go true q true r h = omega arith
        go true q false r h = absurd (true≢false (sym (wider.0 q) ∙ r))
        go false q true r h = omega arith
        go false q false r h = h
