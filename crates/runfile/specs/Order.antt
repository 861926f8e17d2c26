-- Laws of `first_of`, by which the first check that finds something decides (R32): where the first part of a list of checks finds nothing the
-- rest decides, else the first part has decided; and where all is accepted, no check of the list found anything. By induction on the list. And where
-- each check stands in the list of all.
use Rattle.std.specs.Prelude.{ℕ, suc, ◌<◌, ◌≡◌, refl, Bool, false, List, [], ◌∷◌, ◌++◌, get_or, length, Option, Some, None, Ok, Err}
use Rattle.std.proofs.Common.{arith}
use Rattle.runfile.specs.declared.Header.{Header}
use Rattle.runfile.specs.declared.Refusal.{Refusal}
use Rattle.runfile.specs.declared.Refusal.TheVariants as refusal
use Rattle.runfile.specs.declared.Refused.{Refused}
use Rattle.runfile.specs.Searches.{not_found}
use Rattle.runfile.specs.Refusals.{whole, or_else, first_of, place_of, refusals_in_order}

pub refused_accepted : {r : Refused} {h : Header} → Err r ≡ Ok h → ⊥
refused_accepted e = let z : ◌≡◌ {A = ℕ} 0 1 = cc in omega arith

-- each check of the list finds nothing
abbrev pub Clear : (Refusal → Option ℕ) → List Refusal → Type 0
Clear finds [] = Unit
Clear finds (why ∷ later) = (finds why ≡ None) × Clear finds later

pub clear_parts : (finds : Refusal → Option ℕ) (a b : List Refusal) → Clear finds (a ++ b) → Clear finds a × Clear finds b
clear_parts finds [] b c = (tt, c)
clear_parts finds (why ∷ a) b c = let r = clear_parts finds a b c.1 in ((c.0, r.0), r.1)

module _ (finds : Refusal → Option ℕ) (h : Header) where
  pub passes : (a b : List Refusal) (x : Header) → first_of finds a h ≡ Ok x → first_of finds (a ++ b) h ≡ first_of finds b h
  passes [] b x e = refl
  passes (why ∷ a) b x e = go (finds why) (passes a b x) e
    where
      go : (t : Option ℕ) → (first_of finds a h ≡ Ok x → first_of finds (a ++ b) h ≡ first_of finds b h) → or_else why t (first_of finds a h) ≡ Ok x → or_else why t (first_of finds (a ++ b) h) ≡ first_of finds b h
      go None more e = more e
      go (Some place) more e = absurd (refused_accepted e)

  pub stops : (a b : List Refusal) (r : Refused) → first_of finds a h ≡ Err r → first_of finds (a ++ b) h ≡ Err r
  stops [] b r e = absurd (let z : ◌≡◌ {A = ℕ} 0 1 = cc in omega arith)
  stops (w ∷ a) b r e = go (finds w) (stops a b r) e
    where
      go : (t : Option ℕ) → (first_of finds a h ≡ Err r → first_of finds (a ++ b) h ≡ Err r) → or_else w t (first_of finds a h) ≡ Err r → or_else w t (first_of finds (a ++ b) h) ≡ Err r
      go None more e = more e
      go (Some place) more e = e

  -- what is accepted is the header, and every check is clear
  pub accepts : (l : List Refusal) (x : Header) → first_of finds l h ≡ Ok x → (h ≡ x) × Clear finds l
  accepts [] x e = (cc, tt)
  accepts (w ∷ l) x e = go (finds w) (accepts l x) e
    where
      go : (t : Option ℕ) → (first_of finds l h ≡ Ok x → (h ≡ x) × Clear finds l) → or_else w t (first_of finds l h) ≡ Ok x → (h ≡ x) × ((t ≡ None) × Clear finds l)
      go None more e = let m = more e in (m.0, (refl, m.1))
      go (Some place) more e = absurd (refused_accepted e)

  pub accepted : (l : List Refusal) → Clear finds l → first_of finds l h ≡ Ok h
  accepted [] c = refl
  accepted (w ∷ l) c = rw c.0 (accepted l c.1)

pub whole_clear : (t : Bool) → whole t ≡ None → t ≡ false
whole_clear t e = not_found t 0 e

-- the checks stand in the list at their places, one by one
abbrev pub Placed : ℕ → List Refusal → Type 0
Placed n [] = Unit
Placed n (why ∷ later) = (place_of why ≡ n) × Placed (suc n) later

pub in_order : Placed 0 refusals_in_order
in_order = (refl, (refl, (refl, (refl, (refl, (refl, (refl, (refl, (refl, (refl, (refl, (refl, (refl, (refl, (refl, (refl, tt))))))))))))))))

-- so a place in the list names one check, and each check has one
pub placed : (why : Refusal) → (get_or refusals_in_order (place_of why) refusal.Short ≡ why) × (place_of why < length refusals_in_order)
placed refusal.Short = (refl, omega arith)
placed refusal.Mark = (refl, omega arith)
placed refusal.Version = (refl, omega arith)
placed refusal.Processes = (refl, omega arith)
placed refusal.Words = (refl, omega arith)
placed refusal.Rows = (refl, omega arith)
placed refusal.Steps = (refl, omega arith)
placed refusal.Length = (refl, omega arith)
placed refusal.Row = (refl, omega arith)
placed refusal.Order = (refl, omega arith)
placed refusal.Same = (refl, omega arith)
placed refusal.Action = (refl, omega arith)
placed refusal.Idle = (refl, omega arith)
placed refusal.WordsRoom = (refl, omega arith)
placed refusal.LogRoom = (refl, omega arith)
placed refusal.AnswersRoom = (refl, omega arith)
