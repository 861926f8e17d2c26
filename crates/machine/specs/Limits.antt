-- What it is to end an operation within so many own steps (`EndsWithin`). Left alone by crashes, a process ends a read or a compare within 9 from the start
-- (R150), and every operation within 5 after a wake (R151): for any rows, any start words and any schedule, whatever the others do in between (R152).
-- That is proved in proofs/Limits.antt (`from_start`, `from_wake`). For an advance no limit from the start is claimed, since its A4 may lead back to A1
-- (R118); `more_than_9`, there, has one that needs more.
use Prim.Native.Nat.{ℕ, suc, ◌+◌, ◌≤◌, ◌<◌}
use Rattle.std.specs.Prelude.{◌≡◌, Bool, eqb, None}
use Rattle.std.proofs.Math.Path.{refl}
use Rattle.std.proofs.Math.Bool.{true, false, cond}
use mathlib.Core.List.{List, [], ◌∷◌, ◌++◌}
use native.Mathlib.Omega.{arith}
use Rattle.std.proofs.Math.ListN.{length, length-set, length-map}
use Rattle.runfile.specs.declared.Row.{Row}
use Rattle.runfile.specs.Actions.{Action, step as steps, crash as crashes, wake as wakes, crash_all as crashes_all, none as idles, action, named}
use Rattle.runfile.specs.declared.Kind.{Kind}
use Rattle.runfile.specs.Kinds.{kind_of}
use Rattle.runfile.specs.Operations.{row_numbered, first}
use Rattle.machine.specs.declared.Process.{Process}
use Rattle.machine.specs.declared.Status.TheVariants.{Idle}
use Rattle.machine.specs.Machine.{State, apply, applied, proc_at, act, act_in, step, step_in, after, after_in, begin}

-- does an action that names process q make a step of p; does it crash p (R72)
abbrev pub step_of : ℕ → Action → ℕ → Bool
step_of p steps q = eqb q p
step_of p crashes q = false
step_of p wakes q = false
step_of p crashes_all q = false
step_of p idles q = false

abbrev pub crash_of : ℕ → Action → ℕ → Bool
crash_of p steps q = false
crash_of p crashes q = eqb q p
crash_of p wakes q = false
crash_of p crashes_all q = true
crash_of p idles q = false

-- how many of the bytes are of a sort
unfoldable pub how_many : (ℕ → Bool) → List ℕ → ℕ
how_many sort [] = 0
how_many sort (byte ∷ bytes) = cond (sort byte) (suc (how_many sort bytes)) (how_many sort bytes)

-- how many of the bytes are steps of p: its own steps (R150, R151)
abbrev pub own_steps : ℕ → List ℕ → ℕ
own_steps p bytes = how_many (λ byte. step_of p (action byte) (named byte)) bytes

-- none of the bytes is a crash of p or of all (R152)
abbrev pub Uncrashed : ℕ → List ℕ → Type 0
Uncrashed p bytes = how_many (λ byte. crash_of p (action byte) (named byte)) bytes ≡ 0

-- the row is closed, the process is idle (R116, R125, R126), and it has begun n rows (R84)
pub record Ended (n : ℕ) (r : Process) : Type 0 where
  pub idle : r.status ≡ Idle
  pub no_row : r.opened ≡ None
  pub begun : r.begun ≡ n

-- the operation ends in time (R150, R151): the bytes have a first part, with at most `limit` steps of p, after which p has ended it; `at` gives
-- the state after a first part
pub record EndsWithin (limit begun p : ℕ) (bytes : List ℕ) (at : List ℕ → State) : Type 0 where
  pub part : List ℕ
  pub rest : List ℕ
  pub whole : bytes ≡ part ++ rest
  pub few : own_steps p part ≤ limit
  pub ended : Ended begun (proc_at p (at part))

-- the kind of the row that a process has to announce next
abbrev pub next_kind : List Row → ℕ → Process → Kind
next_kind rows p r = kind_of (row_numbered rows (first rows p + r.begun))

-- a count that comes to 0 has counted nothing
pub none_more : (c : Bool) {n : ℕ} → cond c (suc n) n ≡ 0 → (c ≡ false) × (n ≡ 0)
none_more true e = absurd (omega arith)
none_more false e = (refl, e)

module _ (rows : List Row) (p : ℕ) where
  -- no byte adds or removes a process
  pub size : (t byte : ℕ) (s : State) → length (step rows t byte s).processes ≡ length s.processes
  unfolding step_in act_in applied apply
  size t byte s = go (action byte)
    where
      go : (a : Action) → length (act rows t a (named byte) s).processes ≡ length s.processes
      go steps = length-set s.processes (named byte) _
      go crashes = length-set s.processes (named byte) _
      go wakes = length-set s.processes (named byte) _
      go crashes_all = length-map s.processes _
      go idles = refl

  -- p is one of the processes throughout
  pub present : (t : ℕ) (bytes : List ℕ) (s : State) → p < length s.processes → p < length (after rows t bytes s).processes
  unfolding after_in
  present t [] s h = h
  present t (byte ∷ bytes) s h = present (suc t) bytes (step rows t byte s) (rw (size t byte s) h)

module _ (rows : List Row) (P : ℕ) (words : List ℕ) where
  -- the state after a schedule, and the record of process p in it
  abbrev pub ran : List ℕ → State
  ran bytes = after rows 0 bytes (begin P words)

  abbrev pub record_of : ℕ → List ℕ → Process
  record_of p bytes = proc_at p (ran bytes)
