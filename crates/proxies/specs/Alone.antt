-- For whoever looks at one proxy: inputs in which the other's processes take no steps. One in which each byte of the other proxy is passed over, taking up
-- its position and no more; and one of lawful bytes. `proofs/Alone.antt` proves that the proxy sees the same of these.
use Rattle.std.specs.Prelude.{ℕ, ◌<◌, ◌≡◌, List, map}
use Rattle.std.proofs.Math.Bool.{false}
use Rattle.runfile.specs.Lawful.{LawfulByte}
use Rattle.machine.specs.Machine.{step, begin}
use Rattle.replay.specs.Lists.{All}
use Rattle.proxies.specs.Statement.{Proxy, Split, owns, Input, Accepted, DifferOnlyInOther, seen_after}
use Rattle.proxies.specs.Parts.{other_than}
use Rattle.proxies.specs.Rest.{passed_over, rest, NoStepsOf, NoSlips}

-- an input with other schedule bytes
abbrev pub with_bytes : List ℕ → Input → Input
with_bytes bytes i = record { rows = i.rows; words = i.words; schedule = bytes }

module _ (split : Split) (P : ℕ) (x : Proxy) (i : Input) (a : Accepted split P i) where
  -- the other's bytes passed over
  abbrev pub alone : Input
  alone = with_bytes (map (passed_over split x) i.schedule) i

  -- The other's bytes replaced by lawful ones, q being one of its processes: `still` is an input that is accepted if i is, differs from it only in the
  -- other proxy, and in which the other's processes take no steps; and x sees the same, after every byte
  pub record WithoutSteps (still : Input) : Type 0 where
    pub accepted : Accepted split P still
    pub lawful : All (LawfulByte P) i.schedule → All (LawfulByte P) still.schedule
    pub no_slips : NoSlips i.rows 0 i.schedule (begin P i.words) → NoSlips still.rows 0 still.schedule (begin P still.words)
    pub differ : DifferOnlyInOther split x i still
    pub no_steps : NoStepsOf still.rows split (other_than x) 0 still.schedule (begin P still.words)
    pub same : (n : ℕ) → seen_after split x step P i n ≡ seen_after split x step P still n

  module _ (q : ℕ) (few : q < 16) (there : q < P) (not-mine : owns x split.processes q ≡ false) where
    abbrev pub at_rest : Input
    at_rest = with_bytes (rest split x q false i.schedule) i
