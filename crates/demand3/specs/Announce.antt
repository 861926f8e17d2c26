-- The announcement of a row is three stores (R101 to R103), and a process may be cut off between any two. Whatever is cut off: demand 3 holds, for it
-- holds of every schedule (`demand3`); a process that is cut off wakes idle with no row open, and has the same row to announce (R105;
-- `announced_again`, in the machine's `Cut`); and a row is begun at one byte at most, and at exactly one if it has begun (R242). For how many rows a
-- process has begun never falls.
use Prim.Native.Nat.{ℕ, suc, ◌+◌, ◌≤◌, ◌<◌}
use Rattle.std.proofs.Math.Path.{◌≡◌, refl, subst}
use Rattle.std.proofs.Common.{sym, ap}
use Rattle.std.specs.Prelude.{Bool, not, ◌&&◌, ltb, length}
use Rattle.std.proofs.Math.Bool.{true, false}
use mathlib.Core.List.{List, [], ◌∷◌}
use native.Mathlib.Omega.{arith}
use Rattle.std.proofs.Math.Nat.{zero-add}
use borrow.Author.Tests.{ltb-true, lt-ltb, le-ltb}
use Rattle.runfile.specs.declared.Row.{Row}
use Rattle.runfile.specs.Operations.{first}
use Rattle.machine.specs.declared.Process.{Process}
use Rattle.machine.specs.declared.Status.{Status}
use Rattle.machine.specs.declared.Status.TheVariants.{Down, Idle, N2, N3, Busy}
use Rattle.machine.specs.Records.{waked}
use Rattle.machine.specs.Machine.{State, proc_at, step, after, after_in, begin}
use Rattle.machine.specs.Laws.{Turned, still, first_store, second_store, third_store, works, on, ends, fresh_at}
use Rattle.machine.proofs.Laws.{each_after}
use Rattle.demand3.specs.Statement.{counts, owner_of}
use Rattle.demand3.specs.Plans.{Plan, Covered, covered}

module _ (rows : List Row) (p n : ℕ) where
  -- process p has begun n rows or more
  Has : ℕ → Process → Type 0
  Has q r = q ≡ p → n ≤ r.begun

  has_turned : (r next : Process) → n ≤ r.begun → Turned rows p r next → n ≤ next.begun
  has_turned r next h still = h
  has_turned r next h (first_store l) = h
  has_turned r next h (second_store e) = h
  has_turned r next h (third_store e) = omega arith
  has_turned r next h (works k q (on o b _)) = subst (λ m. n ≤ m) (sym b) h
  has_turned r next h (works k q (ends o i b)) = subst (λ m. n ≤ m) (sym b) h

  has_waked : (r : Process) (status : Status) → n ≤ r.begun → n ≤ (waked r status).begun
  has_waked r Down h = h
  has_waked r Idle h = h
  has_waked r N2 h = h
  has_waked r N3 h = h
  has_waked r (Busy stage seen read_at tried_at answer) h = h

  pub never_falls : (t : ℕ) (bytes : List ℕ) (s : State) → n ≤ (proc_at p s).begun → n ≤ (proc_at p (after rows t bytes s)).begun
  unfolding Has
  never_falls t bytes s h =
      each_after rows Has (λ q r next g u e. has_turned r next (g e) (subst (λ q. Turned rows q r next) e u)) (λ q r g e. g e) (λ q r g e. has_waked r r.status (g e))
      t bytes s (λ q e. subst (λ q. n ≤ (proc_at q s).begun) (sym e) h) p refl

module _ (rows : List Row) (k : ℕ) where
  -- row k has begun, as `Begun` says; it begins at a byte; and at how many of the bytes it does
  abbrev pub has_begun : State → Bool
  has_begun s = ltb k (first rows (owner_of rows k) + (proc_at (owner_of rows k) s).begun)

  abbrev pub begins_at : (t byte : ℕ) → State → Bool
  begins_at t byte s = not (has_begun s) && has_begun (step rows t byte s)

  unfoldable pub begin_count : ℕ → List ℕ → State → ℕ
  begin_count t [] s = 0
  begin_count t (byte ∷ bytes) s = counts (begins_at t byte s) + begin_count (suc t) bytes (step rows t byte s)

  -- what has begun stays so
  stays_begun : (t byte : ℕ) (s : State) → has_begun s ≡ true → has_begun (step rows t byte s) ≡ true
  unfolding after_in
  stays_begun t byte s h =
      let p : ℕ = owner_of rows k in
      let b : k < first rows p + (proc_at p s).begun = ltb-true k (first rows p + (proc_at p s).begun) h in
      let f : (proc_at p s).begun ≤ (proc_at p (step rows t byte s)).begun = never_falls rows p (proc_at p s).begun t (byte ∷ []) s (omega arith) in
      lt-ltb k (first rows p + (proc_at p (step rows t byte s)).begun) (omega arith)

  -- each byte at which the row begins makes it begun, and no byte unmakes it
  begins_so_far : (t : ℕ) (bytes : List ℕ) (s : State) → begin_count t bytes s + counts (has_begun s) ≡ counts (has_begun (after rows t bytes s))
  unfolding after_in begin_count
  begins_so_far t [] s = zero-add (counts (has_begun s))
  begins_so_far t (byte ∷ bytes) s = go (has_begun s) (has_begun (step rows t byte s)) (stays_begun t byte s) (begin_count (suc t) bytes (step rows t byte s)) (begins_so_far (suc t) bytes (step rows t byte s))
    where
      go : (b c : Bool) → (b ≡ true → c ≡ true) → (m : ℕ) {n : ℕ} → m + counts c ≡ n → counts (not b && c) + m + counts b ≡ n
      go true true h m e = omega arith
      go true false h m e = absurd (let z : ◌≡◌ {A = ℕ} 0 1 = (let y : false ≡ true = h refl in cc) in omega arith)
      go false true h m e = omega arith
      go false false h m e = omega arith

-- a row begins at one byte if it has begun, and else at none (R242)
module _ (rows : List Row) (words : List ℕ) (P : ℕ) (plan : Plan P (length words) rows) (schedule : List ℕ) (k : ℕ) (inside : k < length rows) where
  not_at_first : has_begun rows k (begin P words) ≡ false
  unfolding begin proc_at
  not_at_first =
      let c : Covered rows k = covered P (length words) rows plan k inside in
      let is : k ≡ first rows (owner_of rows k) + c.index = c.is in
      rw (fresh_at P (owner_of rows k)) (le-ltb k (first rows (owner_of rows k) + 0) (omega arith))

  pub begun_once : begin_count rows k 0 schedule (begin P words) ≡ counts (has_begun rows k (after rows 0 schedule (begin P words)))
  begun_once =
      let e : begin_count rows k 0 schedule (begin P words) + counts (has_begun rows k (begin P words)) ≡ counts (has_begun rows k (after rows 0 schedule (begin P words))) = begins_so_far rows k 0 schedule (begin P words) in
      let z : counts (has_begun rows k (begin P words)) ≡ 0 = ap counts not_at_first in
      omega arith
