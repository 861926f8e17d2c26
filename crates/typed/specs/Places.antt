-- The line and the column of a character, by its index. Both count from 1, and a newline ends its line. A column counts the bytes of its line, a tab as
-- one; Editor.antt proves that wherever a place is told this is what an editor counts, too.
use Rattle.std.specs.Prelude.{ℕ, suc, ◌+◌, ◌<◌, ◌≡◌, refl, cond, List, [], ◌∷◌, ◌++◌, eqb, length, get_or, take}
use Rattle.std.proofs.Common.{take-suc}
use Rattle.typed.specs.declared.Place.{Place}

-- the next place, behind a character
abbrev pub next_place : Place → ℕ → Place
next_place p c = cond (eqb c 10) (record { line = p.line + 1; column = 1 }) (record { line = p.line; column = p.column + 1 })

-- the place behind some characters, by what each does to a place
unfoldable pub behind : (Place → ℕ → Place) → Place → List ℕ → Place
behind next p [] = p
behind next p (c ∷ cs) = behind next (next p c) cs

abbrev pub front : Place
front = record { line = 1; column = 1 }

unfoldable pub place_at : List ℕ → ℕ → Place
place_at text at = behind next_place front (take at text)

-- one character more
pub behind_snoc : (next : Place → ℕ → Place) (p : Place) (cs : List ℕ) (c : ℕ) → behind next p (cs ++ (c ∷ [])) ≡ next (behind next p cs) c
unfolding behind
behind_snoc next p [] c = refl
behind_snoc next p (d ∷ cs) c = behind_snoc next (next p d) cs c

pub behind_next : (next : Place → ℕ → Place) (p : Place) (text : List ℕ) (i : ℕ) → i < length text
    → behind next p (take (suc i) text) ≡ next (behind next p (take i text)) (get_or text i 0)
behind_next next p text i h = rw (take-suc text i 0 h) (behind_snoc next p (take i text) (get_or text i 0))

pub place_next : (text : List ℕ) (i : ℕ) → i < length text → place_at text (suc i) ≡ next_place (place_at text i) (get_or text i 0)
unfolding place_at
place_next text i h = behind_next next_place front text i h
