-- Who is up, read off the schedule's bytes alone, with no rows, words or records (R75): before the first byte all are up; a crash of a process and a
-- crash of all bring it down, a wake of it brings it up, and no other byte does either. And which bytes are idle, after those before them (R56).
use Rattle.std.specs.Prelude.{ℕ, zero, suc, ◌<◌, ◌≡◌, refl, Bool, true, false, not, cond, List, [], ◌∷◌, eqb, get_or, length, take}
use Rattle.std.proofs.Common.{arith}
use Rattle.runfile.specs.Actions.{Action, step, crash, wake, crash_all, none, action, named}

-- whether a process is up after an action: by whether the action names it, and whether it was up
abbrev pub up_as : Action → (mine up : Bool) → Bool
up_as step mine up = up
up_as crash mine up = cond mine false up
up_as wake mine up = cond mine true up
up_as crash_all mine up = false
up_as none mine up = up

-- one byte more
abbrev pub up_by : (p byte : ℕ) → (up : Bool) → Bool
up_by p byte up = up_as (action byte) (eqb (named byte) p) up

-- whether process p is up after these bytes, if it was up, or not, before them
unfoldable pub up_from : (p : ℕ) → (up : Bool) → (bytes : List ℕ) → Bool
up_from p up [] = up
up_from p up (byte ∷ bytes) = up_from p (up_by p byte up) bytes

-- whether it is up after the first bytes of a schedule
abbrev pub is_up : (before : List ℕ) → (p : ℕ) → Bool
is_up before p = up_from p true before

-- 16: a crash of one that is down, or a wake of one that is up; never a step, and never a crash of all
abbrev pub idle_by : Action → (up : Bool) → Bool
idle_by step up = false
idle_by crash up = not up
idle_by wake up = up
idle_by crash_all up = false
idle_by none up = false

unfoldable pub idles : (before : List ℕ) → (byte : ℕ) → Bool
idles before byte = idle_by (action byte) (is_up before (named byte))

-- so after one byte more it is what that byte makes of it
up_one : (p : ℕ) (up : Bool) (bytes : List ℕ) (i : ℕ) → i < length bytes → up_from p up (take (suc i) bytes) ≡ up_by p (get_or bytes i 0) (up_from p up (take i bytes))
unfolding up_from
up_one p up [] i h = absurd (omega arith)
up_one p up (byte ∷ bytes) zero h = refl
up_one p up (byte ∷ bytes) (suc i) h = up_one p (up_by p byte up) bytes i (omega arith)

pub up_next : (bytes : List ℕ) (i p : ℕ) → i < length bytes → is_up (take (suc i) bytes) p ≡ up_by p (get_or bytes i 0) (is_up (take i bytes) p)
up_next bytes i p h = up_one p true bytes i h
