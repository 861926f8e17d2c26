-- What one byte of recovery comes to, on the whole state: no word and no log row is touched, what is to be done to the named process gets shorter by
-- that byte, no other record changes, and an answer row that is added is of the row that the process had open. `proofs/OneByte.antt` proves it.
use Prim.Native.Nat.{ℕ, ◌<◌}
use Rattle.std.proofs.Math.Path.{◌≡◌, ap}
use Rattle.std.proofs.Common.{◌∙◌, Option, Some, None, ℕ}
use Rattle.std.specs.Prelude.{List, [], ◌∷◌, ◌++◌}
use Rattle.std.proofs.Math.ListN.{length, get_or, set, replicate}
use Rattle.std.proofs.Math.Seq.{get_or-set_same, get_or-set_other}
use Rattle.runfile.specs.declared.Row.{Row}
use Rattle.runfile.specs.Actions.{Action, step as steps, wake as wakes}
use Rattle.rows.specs.declared.Entry.{Entry}
use Rattle.machine.specs.declared.Process.{Process}
use Rattle.machine.specs.declared.Status.{Status}
use Rattle.machine.specs.declared.Status.TheVariants.{Down, Idle, N2, N3, Busy}
use Rattle.machine.specs.Records.{fresh}
use Rattle.machine.specs.Machine.{State, proc_at}
use Rattle.replay.specs.Lists.{All}
use Rattle.power_cut.specs.Statement.{kept_bit, needed_of}
use Rattle.power_cut.specs.Stages.{InRecovery, left}

-- a process that is down, idle with no row open, or at a stage of recovery with a row open
abbrev pub Recovering : Status → Option ℕ → Type 0
Recovering Down opened = Unit {0}
Recovering Idle opened = opened ≡ None
Recovering N2 opened = ⊥
Recovering N3 opened = ⊥
Recovering (Busy stage seen read_at tried_at answer) opened = InRecovery stage × ((k : ℕ) × (opened ≡ Some k))

module _ (rows : List Row) where
  -- what is still to be done to process p, whose record is r
  abbrev pub to_do_at : ℕ → List ℕ → Process → Status → List Action
  to_do_at p words r Down = wakes ∷ replicate (needed_of rows p words r) steps
  to_do_at p words r Idle = []
  to_do_at p words r N2 = []
  to_do_at p words r N3 = []
  to_do_at p words r (Busy stage seen read_at tried_at answer) = replicate (left stage r.stored r.checkpoint (kept_bit rows p words r)) steps

  abbrev pub to_do : ℕ → State → List Action
  to_do p s = to_do_at p s.words (proc_at p s) (proc_at p s).status

  -- action a is done to process p, and leads from s to s'
  pub record Heals (a : Action) (p : ℕ) (s s' : State) : Type 0 where
    pub next : Process
    pub records : s'.processes ≡ set s.processes p next
    pub words : s'.words ≡ s.words
    pub log : s'.log ≡ s.log
    pub new : List Entry
    pub answers : s'.answers ≡ s.answers ++ new
    pub told : All (λ e. (proc_at e.process s).opened ≡ Some e.row) new
    pub begun : next.begun ≡ (proc_at p s).begun
    pub opened : (k : ℕ) → next.opened ≡ Some k → (proc_at p s).opened ≡ Some k
    pub fit : Recovering next.status next.opened
    pub done : to_do p s ≡ a ∷ to_do_at p s.words next next.status

  -- all processes are so, there or not
  abbrev pub AllRecovering : State → Type 0
  AllRecovering s = (p : ℕ) → Recovering (proc_at p s).status (proc_at p s).opened

  -- the record of the named process, and those of the others
  module _ (a : Action) (p : ℕ) (s s' : State) (h : Heals a p s s') where
    pub own : p < length s.processes → proc_at p s' ≡ h.next
    unfolding proc_at
    own l = ap (λ ps. get_or ps p fresh) h.records ∙ get_or-set_same s.processes p h.next fresh l

    pub others : (q : ℕ) → (q ≡ p → ⊥) → proc_at q s' ≡ proc_at q s
    unfolding proc_at
    others q n = ap (λ ps. get_or ps q fresh) h.records ∙ get_or-set_other s.processes p q h.next fresh n
