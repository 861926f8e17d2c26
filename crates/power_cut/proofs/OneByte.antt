-- One byte of recovery, on the whole state: no word and no log row is touched, what is to be done to the named process gets shorter by that byte, no
-- other record changes, and an answer row that is added is of the row that the process had open.
use Prim.Native.Nat.{ℕ, suc, ◌<◌}
use Rattle.std.proofs.Math.Path.{◌≡◌, refl, sym, ap}
use Rattle.std.proofs.Common.{◌∙◌, subst, append-nil, arith, Option, Some, None, ℕ}
use Rattle.std.specs.Prelude.{Bool, List, [], ◌∷◌}
use Rattle.std.proofs.Math.Bool.{true, false}
use Rattle.std.proofs.Math.Dec.{ltb}
use Rattle.std.proofs.Math.ListN.{length, get_or, set, replicate, get_or-eq_default}
use borrow.Author.Tests.{ltb-true, ltb-false}
use Rattle.runfile.specs.declared.Row.{Row}
use Rattle.runfile.specs.Operations.{row_numbered, first, count}
use Rattle.runfile.specs.Actions.{Action, step as steps, wake as wakes, action, named}
use Rattle.word.specs.Word.{bit}
use Rattle.machine.specs.declared.Answer.{Answer}
use Rattle.machine.specs.declared.Process.{Process}
use Rattle.machine.specs.declared.Stage.{Stage}
use Rattle.machine.specs.declared.Status.{Status}
use Rattle.machine.specs.declared.Status.TheVariants.{Down, Idle, N2, N3, Busy}
use Rattle.machine.specs.Turn.{Turn}
use Rattle.machine.specs.Records.{fresh, with_status, waked, woken_up, row_open}
use Rattle.machine.specs.Steps.{same_bit, entry, decide, step_turn, step_turn_in, working}
use Rattle.machine.specs.Machine.{State, move_of, turn_in, apply, applied, proc_at, act, act_in, step, step_in}
use Rattle.power_cut.specs.Statement.{Mends, waking, stepping, steps_for, kept_bit}
use Rattle.power_cut.specs.Stages.{left, ToGo, Mended, on, over}
use Rattle.power_cut.specs.OneByte.{Recovering, to_do_at, to_do, Heals, AllRecovering}
use Rattle.power_cut.proofs.Stages.{left_some, mended}

module _ (rows : List Row) where
  -- the record of a process that is not idle is there
  there : (p : ℕ) (s : State) → ((proc_at p s).status ≡ Idle → ⊥) → p < length s.processes
  unfolding proc_at
  there p s n = go (ltb p (length s.processes)) refl
    where
      go : (c : Bool) → ltb p (length s.processes) ≡ c → p < length s.processes
      go true e = ltb-true p (length s.processes) e
      go false e = absurd (n (ap (λ r. r.status) (get_or-eq_default s.processes fresh (ltb-false p (length s.processes) e))))

  module _ (t p : ℕ) (s : State) where
    abbrev r : Process
    r = proc_at p s

    abbrev row : Row
    row = row_numbered rows (row_open r.opened)

    abbrev now : ℕ
    now = get_or s.words row.word 0

    -- a wake of a process that is down
    wake_heals : r.status ≡ Down → Heals rows wakes p s (act rows t wakes p s)
    unfolding act_in applied apply left
    wake_heals e =
        record {
          next = with_status (woken_up r.opened) r;
          records = ap (λ x. set s.processes p x) (ap (waked r) e);
          words = refl;
          log = refl;
          new = [];
          answers = sym (append-nil s.answers);
          told = tt;
          begun = refl;
          opened = λ k q. q;
          fit = fits r.opened;
          done = ap (to_do_at rows p s.words r) e ∙ ap (λ l. wakes ∷ l) (sym (rest r.opened));
        }
      where
        fits : (o : Option ℕ) → Recovering (woken_up o) o
        fits None = refl
        fits (Some k) = (tt, (k, refl))

        rest : (o : Option ℕ) → to_do_at rows p s.words (with_status (woken_up o) r) (woken_up o) ≡ replicate (steps_for o r.stored r.checkpoint (kept_bit rows p s.words r)) steps
        rest None = refl
        rest (Some k) = refl

    -- at a stage of recovery, with n more to go
    left-to_do : (n : ℕ) (next : Process) → next.opened ≡ r.opened → (st : Status) → ToGo p now n next st → to_do_at rows p s.words next st ≡ replicate n steps
    left-to_do n next o Down h = absurd h
    left-to_do n next o Idle h = absurd h
    left-to_do n next o N2 h = absurd h
    left-to_do n next o N3 h = absurd h
    left-to_do n next o (Busy stage seen read_at tried_at answer) h =
        ap (λ o. replicate (left stage next.stored next.checkpoint (same_bit (bit p (get_or s.words (row_numbered rows (row_open o)).word 0)) next.kept.bit)) steps) o
        ∙ ap (λ n. replicate n steps) h.1

    still_fit : (n k : ℕ) (next : Process) → next.opened ≡ Some k → (st : Status) → ToGo p now n next st → Recovering st next.opened
    still_fit n k next o Down h = absurd h
    still_fit n k next o Idle h = absurd h
    still_fit n k next o N2 h = absurd h
    still_fit n k next o N3 h = absurd h
    still_fit n k next o (Busy stage seen read_at tried_at answer) h = (h.0, (k, o))

    carried : (n k w : ℕ) (u : Turn) → r.opened ≡ Some k → to_do rows p s ≡ replicate (suc n) steps → Mended p now n r u → Heals rows steps p s (applied p (move_of rows s.log p t (row_open r.opened) w r u) s)
    unfolding applied apply
    carried n k w u o d (on next eo eb g) =
        record {
          next = next;
          records = refl;
          words = refl;
          log = refl;
          new = [];
          answers = sym (append-nil s.answers);
          told = tt;
          begun = eb;
          opened = λ j q. sym eo ∙ q;
          fit = still_fit n k next (eo ∙ o) next.status g;
          done = d ∙ ap (λ l. steps ∷ l) (sym (left-to_do n next eo next.status g));
        }
    carried n k w u o d (over said z) =
        record {
          next = _;
          records = refl;
          words = refl;
          log = refl;
          new = entry t p (row_open r.opened) said ∷ [];
          answers = refl;
          told = (subst (λ o. o ≡ Some (row_open o)) (sym o) refl, tt);
          begun = refl;
          opened = λ j q. absurd (let y : ◌≡◌ {A = ℕ} 0 1 = cc in omega arith);
          fit = refl;
          done = d ∙ ap (λ n. replicate (suc n) steps) z;
        }

    -- what a step comes to at a stage
    turns : (stage : Stage) (seen read_at tried_at : ℕ) (answer : Option Answer) (k : ℕ) → r.status ≡ Busy stage seen read_at tried_at answer → r.opened ≡ Some k
        → step_turn row p t now (first rows p) (count rows p) r r.status ≡ decide row p t now r stage seen read_at tried_at answer
    unfolding step_turn_in
    turns stage seen read_at tried_at answer k e o = ap (step_turn row p t now (first rows p) (count rows p) r) e ∙ working row p t now r r.opened k stage seen read_at tried_at answer o

    -- a step of a process that is awake and not idle
    step_heals : (st : Status) → r.status ≡ st → Recovering st r.opened → (st ≡ Down → ⊥) → (st ≡ Idle → ⊥) → Heals rows steps p s (act rows t steps p s)
    unfolding act_in turn_in
    step_heals Down e f down idle = absurd (down refl)
    step_heals Idle e f down idle = absurd (idle refl)
    step_heals N2 e f down idle = absurd f
    step_heals N3 e f down idle = absurd f
    step_heals (Busy stage seen read_at tried_at answer) e f down idle = go (left_some stage r.stored r.checkpoint (kept_bit rows p s.words r) f.0) f.1
      where
        go : (n : ℕ) × (left stage r.stored r.checkpoint (kept_bit rows p s.words r) ≡ suc n) → (k : ℕ) × (r.opened ≡ Some k) → Heals rows steps p s (act rows t steps p s)
        go (n, l) (k, o) =
            carried n k row.word (step_turn row p t now (first rows p) (count rows p) r r.status) o
            (ap (to_do_at rows p s.words r) e ∙ ap (λ n. replicate n steps) l)
            (subst (Mended p now n r) (sym (turns stage seen read_at tried_at answer k e o)) (mended row p t now n r stage seen read_at tried_at answer f.0 l))

  pub heals : (t byte : ℕ) (s : State) → AllRecovering rows s → Mends (proc_at (named byte) s).status (action byte) → Heals rows (action byte) (named byte) s (step rows t byte s)
  unfolding step_in
  heals t byte s f (waking a d) = rw a (wake_heals t (named byte) s d)
  heals t byte s f (stepping a d i) = rw a (step_heals t (named byte) s (proc_at (named byte) s).status refl (f (named byte)) d i)

  -- what is mended was not idle
  pub mends_there : (p : ℕ) (s : State) (a : Action) → Mends (proc_at p s).status a → p < length s.processes
  mends_there p s a (waking e d) = there p s (λ i. let y : ◌≡◌ {A = ℕ} 0 1 = cc in omega arith)
  mends_there p s a (stepping e d i) = there p s i
