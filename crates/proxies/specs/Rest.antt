-- The other proxy put to rest: what is said in `Alone.antt` of inputs in which the other's processes take no steps. Two ways of replacing its bytes by others
-- of that proxy, and what they come to; `proofs/Resting.antt` has the proofs.
use Rattle.std.specs.Prelude.{ℕ, suc, ◌+◌, ◌≡◌, Bool, true, cond, List, [], ◌∷◌}
use Rattle.runfile.specs.declared.Row.{Row}
use Rattle.runfile.specs.Actions.{Action, step as steps, crash as crashes, wake as wakes, crash_all as crashes_all, none as idles, action, named}
use Rattle.machine.specs.declared.Status.{Status}
use Rattle.machine.specs.declared.Status.TheVariants.{Down}
use Rattle.machine.specs.Machine.{State, proc_at, step}
use Rattle.proxies.specs.Statement.{Proxy, Split, owns}
use Rattle.proxies.specs.Bytes.{by_whose}

module _ (split : Split) (x : Proxy) where
  -- Passed over: a byte of the other proxy becomes one that names the same process and is no action (R72), so that nothing is done
  unfoldable pub passed_over : ℕ → ℕ
  passed_over byte = by_whose split x byte byte byte (0x30 + named byte)

  -- By lawful bytes, q being a process of the other proxy: its first byte becomes a crash of q and all later ones steps of q, which is down and does
  -- nothing (R140); after F0 q is down already (`down` says whether it is)
  module _ (q : ℕ) where
    abbrev pub resting : (down : Bool) → ℕ
    resting down = cond down q (0x10 + q)

    unfoldable pub rest : (down : Bool) → List ℕ → List ℕ
    rest down [] = []
    rest down (byte ∷ bytes) = by_whose split x byte (byte ∷ rest true bytes) (byte ∷ rest down bytes) (resting down ∷ rest true bytes)

-- no crash of a process that is down, and no wake of one that is awake: change request 7 refuses such bytes
abbrev pub Fits : Action → Status → Type 0
Fits steps status = Unit {0}
Fits crashes status = status ≡ Down → ⊥
Fits wakes status = status ≡ Down
Fits crashes_all status = Unit {0}
Fits idles status = Unit {0}

module _ (rows : List Row) where
  -- The processes of proxy y take no steps while these bytes go by, the first of them at position t: a step of one of them finds it down, and so changes
  -- nothing (R140)
  abbrev pub NoStepsOf : Split → Proxy → ℕ → List ℕ → State → Type 0
  NoStepsOf split y t [] s = Unit {0}
  NoStepsOf split y t (byte ∷ bytes) s = (action byte ≡ steps → owns y split.processes (named byte) ≡ true → (proc_at (named byte) s).status ≡ Down) × NoStepsOf split y (suc t) bytes (step rows t byte s)

  -- no byte of a schedule is such a slip
  abbrev pub NoSlips : ℕ → List ℕ → State → Type 0
  NoSlips t [] s = Unit {0}
  NoSlips t (byte ∷ bytes) s = Fits (action byte) (proc_at (named byte) s).status × NoSlips (suc t) bytes (step rows t byte s)
