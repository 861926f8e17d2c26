-- The table of sixteen that the search for refusal 16 keeps says who is up: a byte changes in it what the fold over the bytes changes.
use mathlib.Core.Path.{◌≡◌, refl, sym, ap, ◌∙◌}
use mathlib.Core.Bool.{Bool, true, false, cond}
use mathlib.Core.List.{List, []}
use Prim.Native.Nat.{ℕ, ◌+◌, ◌/◌, ◌<◌}
use native.Mathlib.Numerals.{add-one}
use native.Mathlib.Omega.{arith}
use lib.Dec.{eqb}
use lib.ListN.{length, get_or, take, set, length-set, replicate, get_or-replicate}
use lib.Seq.{get_or-set_same, get_or-set_other}
use borrow.Author.Tests.{eqb-true, eqb-false, ne_eqb}
use Rattle.runfile.specs.Actions.{step, none, action, named}
use Rattle.runfile.specs.Ups.{up_as, up_by, up_from, is_up, up_next, idle_by, idles}
use Rattle.runfile.specs.Refusals.{offends_at, first_offender}
use Rattle.runfile.proofs.First.{From, miss}

-- a byte that is not idle leaves the search to the later ones
pub missed : (start : ℕ) (schedule : List ℕ) (i : ℕ) → i < length schedule → offends_at idles schedule i ≡ false
    → From (λ j. start + j) (offends_at idles schedule) (length schedule) i ≡ first_offender (λ j. start + j) (offends_at idles schedule) 0 (length schedule)
    → From (λ j. start + j) (offends_at idles schedule) (length schedule) (i + 1) ≡ first_offender (λ j. start + j) (offends_at idles schedule) 0 (length schedule)
missed start schedule i h e whole = miss (λ j. start + j) (offends_at idles schedule) (length schedule) i _ h e whole

-- a step offends nowhere
pub no_step : (schedule : List ℕ) (i : ℕ) → get_or schedule i 0 < 16 → offends_at idles schedule i ≡ false
unfolding idles
no_step schedule i l = let e : get_or schedule i 0 / 16 ≡ 0 = omega arith in rw e

-- a table says of each process that a byte can name whether it is up after these bytes
pub record Ups (before : List ℕ) (up : List Bool) : Type 0 where
  pub sixteen : length up ≡ 16
  pub each : (p : ℕ) → p < 16 → get_or up p false ≡ is_up before p

pub all_up : Ups [] (replicate 16 true)
unfolding up_from
all_up = record { sixteen = refl; each = λ p l. get_or-replicate 16 p true false l }

-- in the loop's terms: the table is right before byte i
module _ (schedule : List ℕ) (i : ℕ) (up : List Bool) (right : Ups (take i schedule) up) where
  abbrev byte : ℕ
  byte = get_or schedule i 0

  pub asked : (p : ℕ) (r : Bool) → p ≡ named byte → r ≡ idle_by (action byte) (get_or up p false) → offends_at idles schedule i ≡ r
  unfolding idles
  asked p r names e = ap (idle_by (action byte)) (sym (right.each (named byte) (omega arith)) ∙ ap (λ q. get_or up q false) (sym names)) ∙ sym e

  module _ (inside : i < length schedule) where
    -- a table in which each entry is what the byte makes of it
    next : (after : List Bool) → length after ≡ 16 → ((p : ℕ) → p < 16 → get_or after p false ≡ up_by p byte (get_or up p false)) → Ups (take (i + 1) schedule) after
    next after size made = record {
      sixteen = size;
      each = λ p l. made p l ∙ (ap (up_by p byte) (right.each p l) ∙ (rw (add-one i) (sym (up_next schedule i p inside))));
    }

    -- one entry is stored
    stored : (p q : ℕ) (x : Bool) → p ≡ named byte → get_or (set up p x) q false ≡ cond (eqb (named byte) q) x (get_or up q false)
    stored p q x names = rw names (go (eqb (named byte) q) refl)
      where
        go : (mine : Bool) → eqb (named byte) q ≡ mine → get_or (set up (named byte) x) q false ≡ cond mine x (get_or up q false)
        go true e = ap (λ j. get_or (set up (named byte) x) j false) (sym (eqb-true (named byte) q e)) ∙ (get_or-set_same up (named byte) x false (let s = right.sixteen in omega arith))
        go false e = get_or-set_other up (named byte) q x false (λ same. eqb-false (named byte) q e (sym same))

    module _ (high : ℕ) (is-high : high ≡ byte / 16) where
      pub crashed : (p : ℕ) → p ≡ named byte → high ≡ 1 → Ups (take (i + 1) schedule) (set up p false)
      crashed p names e = next (set up p false) (length-set up p false ∙ right.sixteen) (λ q l. stored p q false names ∙ (rw (← is-high, e)))

      pub waked : (p : ℕ) → p ≡ named byte → high ≡ 2 → Ups (take (i + 1) schedule) (set up p true)
      waked p names e = next (set up p true) (length-set up p true ∙ right.sixteen) (λ q l. stored p q true names ∙ (rw (← is-high, e)))

      pub all_crashed : high ≡ 15 → Ups (take (i + 1) schedule) (replicate 16 false)
      all_crashed e = next (replicate 16 false) refl (λ q l. get_or-replicate 16 q false false l ∙ (rw (← is-high, e)))

      pub stayed : (high ≡ 1 → ⊥) → (high ≡ 2 → ⊥) → (high ≡ 15 → ⊥) → Ups (take (i + 1) schedule) up
      stayed a b c = next up right.sixteen (λ q l. rw (← is-high, ne_eqb high 1 a, ne_eqb high 2 b, ne_eqb high 15 c) (go (eqb high 0) (eqb (named byte) q) (get_or up q false)))
        where
          go : (steps mine was : Bool) → was ≡ up_as (cond steps step none) mine was
          go true mine was = refl
          go false mine was = refl

    pub stepped : byte < 16 → Ups (take (i + 1) schedule) up
    stepped l = stayed (byte / 16) refl (λ e. omega arith) (λ e. omega arith) (λ e. omega arith)
