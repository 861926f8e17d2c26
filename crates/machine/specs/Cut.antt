-- What it is that an announcement that is cut off is made again, and for the same row (R105): `Again`. Whatever the bytes are, a process that has no row
-- open has none until it has begun one more, and the byte at which it has opens the row that follows those that it had begun. So the row that opens
-- after a cut is the row whose announcement was cut. That is proved in proofs/Cut.antt (`announced_again`), by the cases that stand here.
use Prim.Native.Nat.{ℕ, suc, ◌+◌}
use Rattle.std.specs.Prelude.{◌≡◌, Bool, false, eqb, Some, None}
use mathlib.Core.List.{List, [], ◌∷◌, ◌++◌}
use Rattle.runfile.specs.declared.Row.{Row}
use Rattle.runfile.specs.Actions.{Action, step as steps, crash as crashes, wake as wakes, crash_all as crashes_all, none as idles, action, named}
use Rattle.runfile.specs.Operations.{first}
use Rattle.machine.specs.declared.Process.{Process}
use Rattle.machine.specs.declared.Status.{Status}
use Rattle.machine.specs.declared.Status.TheVariants.{Down, Idle, N2, N3, Busy}
use Rattle.machine.specs.Records.{with_status, crashed, waked}
use Rattle.machine.specs.Machine.{State, proc_at, after}
use Rattle.machine.specs.Laws.{Turned}
use Rattle.machine.specs.Limits.{how_many}

-- What one byte makes of the record of p: nothing, or what a step makes of it; it goes down; it wakes.
pub data Becomes (rows : List Row) (p : ℕ) (r : Process) : Process → Type 0 where
  turns : {next : Process} → Turned rows p r next → Becomes rows p r next
  falls : Becomes rows p r (crashed r)
  rises : Becomes rows p r (waked r r.status)

-- Of the rows of p: it begins none, and where none was open none is; or it begins one, and opens the next.
pub data Begins (rows : List Row) (p : ℕ) (r next : Process) : Type 0 where
  begins_none : next.begun ≡ r.begun → (r.opened ≡ None → next.opened ≡ None) → Begins rows p r next
  begins_one : next.begun ≡ suc r.begun → next.opened ≡ Some (first rows p + r.begun) → Begins rows p r next

-- idle, or in the midst of the announcement: the third store is not made
abbrev pub Unopened : Status → Type 0
Unopened Down = ⊥
Unopened Idle = Unit
Unopened N2 = Unit
Unopened N3 = Unit
Unopened (Busy stage word read_at tried_at answer) = ⊥

-- then no row is open
abbrev pub Shut : Process → Type 0
Shut r = Unopened r.status → r.opened ≡ None

-- does an action that names process q wake p; and none of the bytes does
abbrev pub wake_of : ℕ → Action → ℕ → Bool
wake_of p steps q = false
wake_of p crashes q = false
wake_of p wakes q = eqb q p
wake_of p crashes_all q = false
wake_of p idles q = false

abbrev pub Unwoken : ℕ → List ℕ → Type 0
Unwoken p bytes = how_many (λ byte. wake_of p (action byte) (named byte)) bytes ≡ 0

-- What has become of process p, which had begun n rows, once it has been cut off and woken; `cut` is its record before the crash. It had no row
-- open; it is idle, and all that is kept is as it was, so that it has begun n rows still; and whatever bytes follow, it has no row open until it has
-- begun another, and the byte at which it has opens the row that it had announced, which follows the n.
pub record Again (rows : List Row) (p n : ℕ) (cut : Process) (s : State) : Type 0 where
  pub no_row : cut.opened ≡ None
  pub wakes_idle : proc_at p s ≡ with_status Idle cut
  pub begun : (proc_at p s).begun ≡ n
  pub none_open : (t : ℕ) (bytes : List ℕ) → (proc_at p (after rows t bytes s)).begun ≡ n → (proc_at p (after rows t bytes s)).opened ≡ None
  pub opens : (t : ℕ) (bytes : List ℕ) (byte : ℕ) → (proc_at p (after rows t bytes s)).begun ≡ n → ((proc_at p (after rows t (bytes ++ (byte ∷ [])) s)).begun ≡ n → ⊥)
      → ((proc_at p (after rows t (bytes ++ (byte ∷ [])) s)).begun ≡ suc n) × ((proc_at p (after rows t (bytes ++ (byte ∷ [])) s)).opened ≡ Some (first rows p + n))
