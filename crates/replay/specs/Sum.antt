-- The sum of a mark: on a word on which only advances succeed, a log that replays adds up. The word ends with the value that it had at first plus the
-- amounts of the advances in the log, modulo as many values as there are (R117). By induction on the log: each row adds its amount, and the sum goes
-- round as often as it may.
use Prim.Native.Nat.{ℕ, ◌+◌, ◌%◌, ◌^◌, ◌<◌}
use Rattle.std.specs.Prelude.{◌≡◌, Bool, cond, eqb, set}
use Rattle.std.proofs.Math.Path.{refl, ap}
use Rattle.std.proofs.Common.{sym, ◌∙◌, subst, true≢false, add-zero, mod-lt, mod-eq_of_lt, pow_pos, get_or-set_same, eqb-true}
use Rattle.std.proofs.Math.Bool.{true, false}
use mathlib.Core.List.{List, [], ◌∷◌}
use native.Mathlib.Omega.{arith}
use Rattle.std.proofs.Math.Nat.{mod-add-mod}
use Rattle.std.proofs.Math.ListN.{length, get_or, length-set}
use Rattle.std.proofs.Math.Seq.{get_or-set_other}
use Rattle.std.proofs.lemmas.Bool.{eqb-false}
use Rattle.runfile.specs.declared.Row.{Row}
use Rattle.runfile.specs.declared.Kind.{Kind}
use Rattle.runfile.specs.declared.Kind.TheVariants.{Read, Compare, Advance}
use Rattle.runfile.specs.Operations.{row_numbered}
use Rattle.runfile.specs.Kinds.{kind_of, new_by_in, new_of}
use Rattle.word.specs.Word.{width}
use Rattle.rows.specs.declared.Entry.{Entry}
use Rattle.rows.specs.Entries.{said, is_swapped}
use Rattle.replay.specs.Plain.{answer_by, answer_of, leaves, Replayed}
use Rattle.replay.specs.Lists.{All}
use Rattle.replay.specs.Replay.{GoesOn, answer_swapped}

-- the amount of a row, if it advances
abbrev pub amount_by : Kind → (new : ℕ) → ℕ
amount_by Read new = 0
amount_by Compare new = 0
amount_by Advance new = new

-- the amount that a row adds to word w, and that the rows of a log's entries add to it
abbrev pub amount_on : (w : ℕ) → Row → ℕ
amount_on w row = cond (eqb row.word w) (amount_by (kind_of row) row.new) 0

unfoldable pub added : List Row → (w : ℕ) → List Entry → ℕ
added rows w [] = 0
added rows w (e ∷ log) = amount_on w (row_numbered rows e.row) + added rows w log

-- on word w only advances succeed: so it is of every entry of a log
abbrev pub Advanced : List Row → (w : ℕ) → List Entry → Type 0
Advanced rows w log = All (λ e. is_swapped (said e) ≡ true → (row_numbered rows e.row).word ≡ w → kind_of (row_numbered rows e.row) ≡ Advance) log

-- nothing is added
as_it_was : (n : ℕ) → n < 2 ^ width → n ≡ (n + 0) % 2 ^ width
as_it_was n small = sym (ap (λ n. n % 2 ^ width) (add-zero n) ∙ mod-eq_of_lt small)

-- what one row leaves in w
module _ (row : Row) (values : List ℕ) (w : ℕ) where
  abbrev v : ℕ
  v = get_or values row.word 0

  abbrev put : List ℕ
  put = set values row.word (new_of row v)

  length-leaves : length (leaves row values) ≡ length values
  unfolding leaves
  length-leaves = go (is_swapped (answer_of row v))
    where
      go : (c : Bool) → length (cond c put values) ≡ length values
      go true = length-set values row.word (new_of row v)
      go false = refl

  module _ (small : get_or values w 0 < 2 ^ width) where
    -- the row is on another word
    other_word : (row.word ≡ w → ⊥) → get_or (leaves row values) w 0 ≡ get_or values w 0
    unfolding leaves
    other_word ne = go (is_swapped (answer_of row v))
      where
        go : (c : Bool) → get_or (cond c put values) w 0 ≡ get_or values w 0
        go true = get_or-set_other values row.word w (new_of row v) 0 (λ e. ne (sym e))
        go false = refl

    -- the row is on w
    own_word : (is_swapped (answer_of row v) ≡ true → kind_of row ≡ Advance) → row.word ≡ w → w < length values → get_or (leaves row values) w 0 ≡ (get_or values w 0 + amount_by (kind_of row) row.new) % 2 ^ width
    unfolding leaves answer_of is_swapped
    own_word only on inside = go (kind_of row) refl only
      where
        not_swapped : (kind : Kind) (c : Bool) → c ≡ false → amount_by kind row.new ≡ 0 → get_or (cond c (set values row.word (new_by_in width kind row.new v)) values) w 0 ≡ (get_or values w 0 + amount_by kind row.new) % 2 ^ width
        not_swapped kind true e z = absurd (true≢false e)
        not_swapped kind false e z = as_it_was (get_or values w 0) small ∙ ap (λ n. (get_or values w 0 + n) % 2 ^ width) (sym z)

        compared : (c : Bool) → (is_swapped (cond c (record { verdict = 1; value = 0 }) (record { verdict = 0; value = 0 })) ≡ true → Compare ≡ Advance) → is_swapped (cond c (record { verdict = 1; value = 0 }) (record { verdict = 0; value = 0 })) ≡ false
        compared true o = absurd (let q : Compare ≡ Advance = o refl in let z : ◌≡◌ {A = ℕ} 0 1 = cc in omega arith)
        compared false o = refl

        go : (kind : Kind) → kind_of row ≡ kind → (is_swapped (answer_by kind row.old v) ≡ true → kind ≡ Advance)
            → get_or (cond (is_swapped (answer_by kind row.old v)) (set values row.word (new_by_in width kind row.new v)) values) w 0 ≡ (get_or values w 0 + amount_by kind row.new) % 2 ^ width
        go Read q o = not_swapped Read false refl refl
        go Compare q o = not_swapped Compare (is_swapped (answer_by Compare row.old v)) (compared (eqb v row.old) o) refl
        go Advance q o = ap (λ j. get_or (set values j ((get_or values j 0 + row.new) % 2 ^ width)) w 0) on ∙ get_or-set_same values w ((get_or values w 0 + row.new) % 2 ^ width) 0 inside

    leaves-sum : (is_swapped (answer_of row v) ≡ true → row.word ≡ w → kind_of row ≡ Advance) → w < length values → get_or (leaves row values) w 0 ≡ (get_or values w 0 + amount_on w row) % 2 ^ width
    leaves-sum only inside = go (eqb row.word w) refl
      where
        go : (c : Bool) → eqb row.word w ≡ c → get_or (leaves row values) w 0 ≡ (get_or values w 0 + cond c (amount_by (kind_of row) row.new) 0) % 2 ^ width
        go true q = let on : row.word ≡ w = eqb-true row.word w q in own_word (λ t. only t on) on inside
        go false q = other_word (eqb-false row.word w q) ∙ as_it_was (get_or values w 0) small

module _ (rows : List Row) (w : ℕ) where
  -- the sum
  pub summed : (values : List ℕ) (log : List Entry) (finals : List ℕ) → Replayed rows values log finals → Advanced rows w log → w < length values → get_or values w 0 < 2 ^ width
      → get_or finals w 0 ≡ (get_or values w 0 + added rows w log) % 2 ^ width
  unfolding added
  summed values [] finals r only inside small = ap (λ l. get_or l w 0) (sym r) ∙ as_it_was (get_or values w 0) small
  summed values (e ∷ log) finals r only inside small =
      let row : Row = row_numbered rows e.row in
      let next : List ℕ = leaves row values in
      let first : get_or next w 0 ≡ (get_or values w 0 + amount_on w row) % 2 ^ width = leaves-sum row values w small (λ t. only.0 (ap is_swapped r.0 ∙ t)) inside in
      let joined : get_or values w 0 + amount_on w row + added rows w log ≡ get_or values w 0 + (amount_on w row + added rows w log) = omega arith in
      summed next log finals r.1 only.1 (subst (λ n. w < n) (sym (length-leaves row values w)) inside) (subst (λ n. n < 2 ^ width) (sym first) (mod-lt (get_or values w 0 + amount_on w row) (pow_pos width)))
      ∙ ap (λ n. (n + added rows w log) % 2 ^ width) first
      ∙ mod-add-mod (get_or values w 0 + amount_on w row) (2 ^ width) (added rows w log)
      ∙ ap (λ n. n % 2 ^ width) joined

  -- on a word on which no row compares only advances succeed, in a log that replays
  pub none_compares : ((k : ℕ) → k < length rows → (row_numbered rows k).word ≡ w → kind_of (row_numbered rows k) ≡ Compare → ⊥)
      → (values : List ℕ) (log : List Entry) (finals : List ℕ) → Replayed rows values log finals → All (λ e. e.row < length rows) log → Advanced rows w log
  none_compares none values [] finals r there = tt
  none_compares none values (e ∷ log) finals r there = (
    (λ t on. kind (kind_of row) refl on (answer_swapped row (get_or values row.word 0) (ap is_swapped (sym r.0) ∙ t))),
    none_compares none (leaves row values) log finals r.1 there.1,
  )
    where
      row : Row
      row = row_numbered rows e.row

      kind : (kind : Kind) → kind_of row ≡ kind → row.word ≡ w → GoesOn kind row.old (get_or values row.word 0) → kind_of row ≡ Advance
      kind Read q on g = absurd g
      kind Compare q on g = absurd (none e.row there.0 on q)
      kind Advance q on g = q
