-- The entries of a log that pass a test: a new row that does not pass is not seen; one that passes goes, among those that pass, where it would go if
-- they were the whole log; and the swap that a lost one looks for is found among those that pass, if no other is such a swap.
use Rattle.std.specs.Prelude.{ℕ, ◌≡◌, Bool, take, drop}
use Rattle.std.proofs.Math.Path.{refl, sym, ap, ap₂}
use Rattle.std.proofs.Common.{◌∙◌, take-append-drop}
use Rattle.std.proofs.Math.Bool.{true, false, cond}
use mathlib.Core.List.{List, [], ◌∷◌, ◌++◌, append-nil}
use Rattle.runfile.specs.declared.Row.{Row}
use Rattle.rows.specs.declared.Entry.{Entry}
use Rattle.rows.specs.Log.{place, insert, is_swap, first_swap}
use Rattle.replay.specs.Lists.{All, keep, keep_put_no, keep_put_yes, keep_keeps}
use Rattle.replay.specs.Logs.{Ordered, Sorted, early, late, is_early, is_late, insert_sorted}

-- two tests, in either order
keep-keep : {A : Type 0} (f g : A → Bool) (l : List A) → keep f (keep g l) ≡ keep g (keep f l)
keep-keep f g [] = refl
keep-keep f g (x ∷ l) = go (f x) refl (g x) refl (keep-keep f g l)
  where
    go : (c : Bool) → f x ≡ c → (d : Bool) → g x ≡ d → keep f (keep g l) ≡ keep g (keep f l) → keep f (cond d (x ∷ keep g l) (keep g l)) ≡ keep g (cond c (x ∷ keep f l) (keep f l))
    go true p true q ih = rw (p, q) (ap (λ l. x ∷ l) ih)
    go true p false q ih = rw q ih
    go false p true q ih = rw p ih
    go false p false q ih = ih

module _ (f : Entry → Bool) where
  sorted_keep : (l : List Entry) → Sorted l → Sorted (keep f l)
  sorted_keep [] s = tt
  sorted_keep (e ∷ l) s = go (f e) (sorted_keep l s.1)
    where
      go : (c : Bool) → Sorted (keep f l) → Sorted (cond c (e ∷ keep f l) (keep f l))
      go true ih = (keep_keeps (Ordered e) f l s.0, ih)
      go false ih = ih

  pub insert_other : (e : Entry) (l : List Entry) → f e ≡ false → keep f (insert e l) ≡ keep f l
  unfolding insert
  insert_other e l n =
      keep_put_no f (take (place e.position l) l) (drop (place e.position l) l) e n ∙ ap (keep f) (take-append-drop (place e.position l) l)

  pub insert_own : (e : Entry) (l : List Entry) → Sorted l → f e ≡ true → keep f (insert e l) ≡ insert e (keep f l)
  unfolding early late
  insert_own e l s y =
      ap (keep f) (insert_sorted e l s)
      ∙ keep_put_yes f (early e.position l) (late e.position l) e y
      ∙ ap₂ (λ a b. a ++ e ∷ b) (keep-keep f (is_early e.position) l) (keep-keep f (is_late e.position) l)
      ∙ sym (insert_sorted e (keep f l) (sorted_keep l s))

  pub last_other : (e : Entry) (l : List Entry) → f e ≡ false → keep f (l ++ (e ∷ [])) ≡ keep f l
  last_other e l n = keep_put_no f l [] e n ∙ ap (keep f) (append-nil l)

  pub last_own : (e : Entry) (l : List Entry) → f e ≡ true → keep f (l ++ (e ∷ [])) ≡ keep f l ++ (e ∷ [])
  last_own e l y = keep_put_yes f l [] e y

  -- no entry that does not pass is such a swap
  pub swap_kept : (rows : List Row) (w a none : ℕ) (l : List Entry) → All (λ e. f e ≡ false → is_swap rows w a e ≡ false) l → first_swap rows w a none l ≡ first_swap rows w a none (keep f l)
  unfolding first_swap
  swap_kept rows w a none [] h = refl
  swap_kept rows w a none (e ∷ l) h = go (f e) refl (swap_kept rows w a none l h.1)
    where
      go : (c : Bool) → f e ≡ c → first_swap rows w a none l ≡ first_swap rows w a none (keep f l)
          → cond (is_swap rows w a e) e.position (first_swap rows w a none l) ≡ first_swap rows w a none (cond c (e ∷ keep f l) (keep f l))
      go true q ih = ap (λ n. cond (is_swap rows w a e) e.position n) ih
      go false q ih = rw (h.0 q) ih

-- two tables that agree on which entries are such swaps
pub swap_tables : (rows rows' : List Row) (w a none : ℕ) → ((e : Entry) → is_swap rows w a e ≡ is_swap rows' w a e) → (l : List Entry) → first_swap rows w a none l ≡ first_swap rows' w a none l
unfolding first_swap
swap_tables rows rows' w a none h [] = refl
swap_tables rows rows' w a none h (e ∷ l) = ap₂ (λ c n. cond c e.position n) (h e) (swap_tables rows rows' w a none h l)
