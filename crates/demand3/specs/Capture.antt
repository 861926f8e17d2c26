-- Detectability, said plainly, of whatever machine meets demand 3 (R248); and the capture, for every schedule (R255): of workers whose rows all move a
-- word from the same old to the same new, at most one is told true, and it is one that made the move itself. For by the replay the first true leaves
-- new, and new is not old. An advance has no old to move from, and many may be told of their swaps; but each of its own.
use Rattle.std.specs.Prelude.{ℕ, ◌+◌, ◌≤◌, ◌<◌, ◌≡◌, Bool, true, false, cond, eqb, length, get_or, set, Some, None}
use Rattle.std.proofs.Math.Path.{refl, ap}
use Rattle.std.proofs.Common.{sym, ◌∙◌, subst, get_or-set_same, eqb-true}
use mathlib.Core.List.{List, [], ◌∷◌, map, append-nil}
use native.Mathlib.Omega.{arith}
use Rattle.std.proofs.lemmas.List.{length-map}
use Rattle.runfile.specs.declared.Row.{Row}
use Rattle.runfile.specs.Operations.{row_numbered}
use Rattle.runfile.specs.declared.Kind.{Kind}
use Rattle.runfile.specs.declared.Kind.TheVariants.{Read, Compare, Advance}
use Rattle.runfile.specs.Kinds.{kind_of, new_of}
use Rattle.word.specs.Word.{width}
use Rattle.rows.specs.declared.Entry.{Entry}
use Rattle.rows.specs.Entries.{said, is_swapped}
use Rattle.machine.specs.declared.Answer.TheVariants.{False, True, Value, Was}
use Rattle.machine.specs.Steps.{spoken, swap_says}
use Rattle.machine.specs.KindLaws.{NoAdvance, says_true, new_put}
use Rattle.replay.specs.Plain.{answer_of, leaves, Replayed}
use Rattle.replay.specs.Lists.{All}
use Rattle.replay.specs.Replay.{GoesOn, answer_swapped}
use Rattle.demand3.specs.Statement.{Firmware, of, Once, owner_of, counts, swap_count, swaps_told, swaps, swaps_with, Told, Untold, Demand3}
use Rattle.demand3.specs.Swaps.{swaps_in, swaps_of, logged_count}

-- told true, or the value before, it swapped once; told anything else never
pub told-counts : (swaps_told (Some True) ≡ 1) × ((v : ℕ) → swaps_told (Some (Was v)) ≡ 1) × (swaps_told None ≡ 0) × (swaps_told (Some False) ≡ 0) × ((v : ℕ) → swaps_told (Some (Value v)) ≡ 0)
unfolding swaps_told is_swapped spoken
told-counts = (refl, λ v. refl, refl, refl, λ v. refl)

-- an open row that has swapped stands in the log: an advance with the value before, any other with true
module _ (m : Firmware) (rows : List Row) (schedule : List ℕ) (log answers : List Entry) (k : ℕ) (u : Untold m rows schedule k log answers) (e : swaps m rows schedule k ≡ 1) where
  pub open_true : NoAdvance (kind_of (row_numbered rows k)) → Once (owner_of rows k) k (Some True) log
  open_true n =
      let stands = u.has_swapped_lem e in
      subst (λ a. Once (owner_of rows k) k (Some a) log) (says_true (kind_of (row_numbered rows k)) stands.0 n) stands.1

  pub open_was : kind_of (row_numbered rows k) ≡ Advance → (v : ℕ) × Once (owner_of rows k) k (Some (Was v)) log
  open_was q =
      let stands = u.has_swapped_lem e in
      (stands.0, subst (λ kind. Once (owner_of rows k) k (Some (swap_says kind stands.0)) log) q stands.1)

module _ (m : Firmware) (rows : List Row) (schedule : List ℕ) (log answers : List Entry) (k : ℕ) (t : Told m rows schedule k log answers) where
  -- told of a successful swap: it swapped exactly once, and will not again
  pub told-swapped : is_swapped (spoken t.answer) ≡ true → (more : List ℕ) → swaps_with m rows schedule k more ≡ 1
  unfolding swaps_told
  told-swapped e more = t.swapped more ∙ ap counts e

  once_so_far : {n : ℕ} → ((more : List ℕ) → swaps_with m rows schedule k more ≡ n) → swaps m rows schedule k ≡ n
  once_so_far h = ap (λ bytes. swap_count m rows k 0 bytes m.start) (sym (append-nil schedule)) ∙ h []

  -- told true, or the value before: so it is
  pub told_true : t.answer ≡ Some True → swaps m rows schedule k ≡ 1
  told_true e = once_so_far (λ more. t.swapped more ∙ ap swaps_told e ∙ told-counts.0)

  pub told_was : (v : ℕ) → t.answer ≡ Some (Was v) → swaps m rows schedule k ≡ 1
  told_was v e = once_so_far (λ more. t.swapped more ∙ ap swaps_told e ∙ told-counts.1 v)

  -- told fail: it never swapped, and never will
  pub told_fail : t.answer ≡ None → (more : List ℕ) → swaps_with m rows schedule k more ≡ 0
  told_fail e more = t.swapped more ∙ ap swaps_told e ∙ told-counts.2

  -- who has not swapped is told of no successful swap, whoever else has put in the same value
  pub not_its_own : swaps m rows schedule k ≡ 0 → is_swapped (spoken t.answer) ≡ true → ⊥
  not_its_own z e = let one : swaps m rows schedule k ≡ 1 = once_so_far (told-swapped e) in omega arith

-- swaps of two rows are swaps in the log
two-rows : (k j : ℕ) → (k ≡ j → ⊥) → (log : List Entry) → swaps_of k log + swaps_of j log ≤ swaps_in log
unfolding swaps_in swaps_of of
two-rows k j n [] = omega arith
two-rows k j n (e ∷ log) = go (eqb e.row k) (eqb e.row j) refl refl (two-rows k j n log)
  where
    go : (c d : Bool) → eqb e.row k ≡ c → eqb e.row j ≡ d → swaps_of k log + swaps_of j log ≤ swaps_in log
        → swaps_in (cond c (e ∷ of k log) (of k log)) + swaps_in (cond d (e ∷ of j log) (of j log)) ≤ counts (is_swapped (said e)) + swaps_in log
    go true true x y h = absurd (n (sym (eqb-true e.row k x) ∙ eqb-true e.row j y))
    go true false x y h = omega arith
    go false true x y h = omega arith
    go false false x y h = omega arith

-- row k, which is no advance, moves word w from `old` to `new`
pub record Moving (rows : List Row) (w old new k : ℕ) : Type 0 where
  pub no_advance : NoAdvance (kind_of (row_numbered rows k))
  pub on : (row_numbered rows k).word ≡ w
  pub from_old : (row_numbered rows k).old ≡ old
  pub to_new : (row_numbered rows k).new ≡ new

-- such a row swaps at its old alone
at_old : (kind : Kind) (old v : ℕ) → NoAdvance kind → GoesOn kind old v → v ≡ old
at_old Read old v n on = absurd on
at_old Compare old v n on = on
at_old Advance old v n on = absurd n

module _ (rows : List Row) (w old new : ℕ) (differ : new ≡ old → ⊥) (moving : (k : ℕ) → k < length rows → Moving rows w old new k) where
  -- the row of an entry answers true at these values, or not
  answer : Entry → List ℕ → Bool
  answer e values = is_swapped (answer_of (row_numbered rows e.row) (get_or values (row_numbered rows e.row).word 0))

  -- from new on, nobody is told true
  none_after : (values : List ℕ) (log : List Entry) (finals : List ℕ) → Replayed rows values log finals → All (λ e. e.row < length rows) log → get_or values w 0 ≡ new → swaps_in log ≡ 0
  unfolding swaps_in leaves answer
  none_after values [] finals r in_file v = refl
  none_after values (e ∷ log) finals r in_file v = go (answer e values) refl r.1 (λ h. none_after values log finals h in_file.1 v)
    where
      m : Moving rows w old new e.row
      m = moving e.row in_file.0

      go : (c : Bool) → answer e values ≡ c
          → Replayed rows (cond c (set values (row_numbered rows e.row).word (new_of (row_numbered rows e.row) (get_or values (row_numbered rows e.row).word 0))) values) log finals
          → (Replayed rows values log finals → swaps_in log ≡ 0) → counts (is_swapped (said e)) + swaps_in log ≡ 0
      go true q h more =
          let row : Row = row_numbered rows e.row in
          let x : get_or values row.word 0 ≡ row.old = at_old (kind_of row) row.old (get_or values row.word 0) m.no_advance (answer_swapped row (get_or values row.word 0) q) in
          absurd (differ (sym v ∙ ap (λ i. get_or values i 0) (sym m.on) ∙ x ∙ m.from_old))
      go false q h more =
          let rest : swaps_in log ≡ 0 = more h in
          let here : is_swapped (said e) ≡ false = ap is_swapped r.0 ∙ q in
          rw (here, rest) refl

  at_most_one : (values : List ℕ) (log : List Entry) (finals : List ℕ) → Replayed rows values log finals → All (λ e. e.row < length rows) log → w < length values → swaps_in log ≤ 1
  unfolding swaps_in leaves answer
  at_most_one values [] finals r in_file l = omega arith
  at_most_one values (e ∷ log) finals r in_file l = go (answer e values) refl r.1 (λ h. at_most_one values log finals h in_file.1 l)
    where
      m : Moving rows w old new e.row
      m = moving e.row in_file.0

      go : (c : Bool) → answer e values ≡ c
          → Replayed rows (cond c (set values (row_numbered rows e.row).word (new_of (row_numbered rows e.row) (get_or values (row_numbered rows e.row).word 0))) values) log finals
          → (Replayed rows values log finals → swaps_in log ≤ 1) → counts (is_swapped (said e)) + swaps_in log ≤ 1
      go true q h more =
          let rest : swaps_in log ≡ 0 =
          none_after (set values (row_numbered rows e.row).word (new_of (row_numbered rows e.row) (get_or values (row_numbered rows e.row).word 0))) log finals h in_file.1
          (rw (new_put width (kind_of (row_numbered rows e.row)) (row_numbered rows e.row).new (get_or values (row_numbered rows e.row).word 0) m.no_advance, m.on, m.to_new) (get_or-set_same values w new 0 l)) in
          let here : is_swapped (said e) ≡ true = ap is_swapped r.0 ∙ q in
          rw (here, rest) (omega arith)
      go false q h more =
          let rest : swaps_in log ≤ 1 = more h in
          let here : is_swapped (said e) ≡ false = ap is_swapped r.0 ∙ q in
          rw here (omega arith)

  -- the capture (R255): two operations are not both told true
  pub one_mover : (f : Firmware) (schedule : List ℕ) (log answers : List Entry) (values : List ℕ) → Demand3 f rows schedule log answers values → w < length (f.words f.start)
      → (k j : ℕ) → (k ≡ j → ⊥) → (t : Told f rows schedule k log answers) (u : Told f rows schedule j log answers) → t.answer ≡ Some True → u.answer ≡ Some True → ⊥
  one_mover f schedule log answers values d l k j n t u et eu =
      let one : swaps_in log ≤ 1 = at_most_one (map f.value (f.words f.start)) log values d.replayed d.log_rows (subst (λ n. w < n) (sym (length-map (f.words f.start) f.value)) l) in
      let a : swaps_of k log ≡ 1 = logged_count (row_numbered rows k).process k t.answer log t.logged ∙ ap swaps_told et ∙ told-counts.0 in
      let b : swaps_of j log ≡ 1 = logged_count (row_numbered rows j).process j u.answer log u.logged ∙ ap swaps_told eu ∙ told-counts.0 in
      let two : swaps_of k log + swaps_of j log ≤ swaps_in log = two-rows k j n log in
      omega arith
