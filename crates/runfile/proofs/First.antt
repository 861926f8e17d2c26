-- A loop that looks for the first offender, in the loop's own terms: before turn i the search from i on is the whole search.
-- Said of any search (`Left`, for one in whose turns another search runs) and of one that asks a test at each number (`From`).
use mathlib.Core.Path.{◌≡◌, ap, sym}
use mathlib.Core.Bool.{Bool, true, false}
use Prim.Native.Nat.{ℕ, suc, ◌+◌, ◌-◌, ◌≤◌, ◌<◌}
use native.Mathlib.Numerals.{add-one}
use native.Mathlib.Omega.{arith}
use Rattle.std.specs.Prelude.{Option, Some, None, option_map, MatchOption}
use Rattle.runfile.specs.Refusals.{first_found, found_if, first_offender}
use Rattle.runfile.specs.Searches.{found_none, found_earliest}
use Rattle.runfile.specs.Format.{within}
use Rattle.runfile.specs.Layout.{row_place}

-- row k of a table of rows that is in the file is in the file
pub row_fits : (stride start k rows size : ℕ) → k < rows → row_place stride start rows ≤ size → row_place stride start k + stride ≤ size
row_fits stride start k rows size h p = let w = within stride start k rows h in omega arith

module _ (finds : ℕ → Option ℕ) (n : ℕ) where
  abbrev pub Left : ℕ → Option ℕ
  Left i = first_found finds i (n - i)

  pub all_left : Left 0 ≡ first_found finds 0 n
  all_left = let z : n - 0 ≡ n = omega arith in rw z

  less : (i : ℕ) → i < n → n - i ≡ suc (n - (i + 1))
  less i h = omega arith

  pub found_here : (i at : ℕ) (all : Option ℕ) → i < n → finds i ≡ Some at → Left i ≡ all → Some at ≡ all
  found_here i at all h t e = rw (less i h, t) at e

  pub none_here : (i : ℕ) (all : Option ℕ) → i < n → finds i ≡ None → Left i ≡ all → Left (i + 1) ≡ all
  none_here i all h t e = rw (less i h, t, ← add-one i) at e

  pub none_left : (i : ℕ) (all : Option ℕ) → n ≤ i → Left i ≡ all → None ≡ all
  none_left i all h e = let z : n - i ≡ 0 = omega arith in rw z at e

-- what a library's search over the numbers lo, .., hi - 1 answers, and the place of it, is what the first offender among them is
module _ (place : ℕ → ℕ) (offends : ℕ → Bool) (lo hi n : ℕ) (size : n ≡ hi - lo) where
  pub first_in : (r : Option ℕ)
      → MatchOption r ((k : ℕ) → lo ≤ k → k < hi → offends k ≡ false)
      (λ i. (lo ≤ i) × (i < hi) × (offends i ≡ true) × ((k : ℕ) → lo ≤ k → k < i → offends k ≡ false))
      → option_map place r ≡ first_offender place offends lo n
  first_in None none = sym (found_none (λ k. found_if (offends k) (place k)) lo n (λ j a b. rw (none j a (omega arith))))
  first_in (Some i) here =
      sym
      (found_earliest
      (λ k. found_if (offends k) (place k))
      lo
      n
      (place i)
      (record { which = i; after = here.0; within = let a = here.0 in let b = here.1 in omega arith; found = rw here.2; none_before = λ j a b. rw (here.3 j a b) }))

module _ (place : ℕ → ℕ) (offends : ℕ → Bool) (n : ℕ) where
  abbrev tested : ℕ → Option ℕ
  tested i = found_if (offends i) (place i)

  abbrev pub From : ℕ → Option ℕ
  From i = first_offender place offends i (n - i)

  pub begin : From 0 ≡ first_offender place offends 0 n
  begin = all_left tested n

  pub hit : (i : ℕ) (all : Option ℕ) → i < n → offends i ≡ true → From i ≡ all → Some (place i) ≡ all
  hit i all h t e = found_here tested n i (place i) all h (ap (λ b. found_if b (place i)) t) e

  pub miss : (i : ℕ) (all : Option ℕ) → i < n → offends i ≡ false → From i ≡ all → From (i + 1) ≡ all
  miss i all h t e = none_here tested n i all h (ap (λ b. found_if b (place i)) t) e

  pub over : (i : ℕ) (all : Option ℕ) → n ≤ i → From i ≡ all → None ≡ all
  over i all h e = none_left tested n i all h e
