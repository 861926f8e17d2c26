-- What a power cut leaves (change request 11), of the bench machine, for all rows that pass the refusals, all start words and all bytes before the cut.
-- Recovery touches neither words nor log and closes every open row (`Through.antt`); and what demand 3's invariant says of an operation that has
-- ended, that it has one answer row and stands in the log with that answer or not at all, it says of the state at the end.
use Rattle.std.specs.Prelude.{ℕ, suc, ◌+◌, ◌≤◌, ◌<◌, ◌≡◌, refl, Bool, true, false, List, ◌∷◌, ◌++◌, ltb, length, replicate, Option, Some, None}
use Rattle.std.proofs.Math.Path.{sym, ap}
use Rattle.std.proofs.Common.{◌∙◌, subst, arith, zero-add, ltb-true, ltb-false}
use Rattle.runfile.specs.declared.Row.{Row}
use Rattle.runfile.specs.Actions.{step as steps, wake as wakes, named}
use Rattle.runfile.specs.Operations.{row_numbered, count}
use Rattle.machine.specs.Machine.{State, apply, proc_at, act_in, step, step_in, after, after_in, begin}
use Rattle.machine.specs.Laws.{after_join, closed_open}
use Rattle.replay.specs.Lists.{All, all_map, keep_join}
use Rattle.demand3.specs.Statement.{Firmware, of, Logged, owner_of, StillOpen, end_state}
use Rattle.demand3.specs.FlipBit.{flip_bit, through-after}
use Rattle.demand3.specs.Invariant.{Settled, IsOpen, Local, Inv}
use Rattle.demand3.specs.Plans.{Plan}
use Rattle.demand3.specs.Order.{Always, start, inv}
use Rattle.demand3.specs.Order as order
use Rattle.power_cut.specs.Statement as statement
use Rattle.power_cut.specs.Statement.{power_cut, steps_by, steps_for, in_turn, kept_bit, needed, Safe, Leaves}
use Rattle.power_cut.specs.OneByte.{to_do_at, to_do}
use Rattle.power_cut.specs.Since.{Since, since_join}
use Rattle.power_cut.specs.Dark.{down, absent, recovering, since-cut}
use Rattle.power_cut.specs.Through.{Healed, with_cuts}
use Rattle.power_cut.proofs.Through.{healed_with_cuts}
use Rattle.power_cut.proofs.Through as bytewise
use Rattle.power_cut.specs.InTurn.{in_turn_done, in_turn-named}
use Rattle.machine.specs.declared.Answer.{Answer}

few_steps : (stored : Option Answer) (checkpoint same : Bool) → steps_by stored checkpoint same ≤ 5
unfolding steps_by
few_steps (Some a) checkpoint same = omega arith
few_steps None false same = omega arith
few_steps None true false = omega arith
few_steps None true true = omega arith

module _ (rows : List Row) (words : List ℕ) (P : ℕ) (plan : Plan P (length words) rows) (before : List ℕ) where
  abbrev m : Firmware
  m = flip_bit rows P words

  abbrev cut : State
  cut = statement.cut (step rows) P rows words before

  abbrev dark : State
  dark = statement.dark (step rows) P rows words before

  abbrev end_of : List ℕ → State
  end_of = statement.end_of (step rows) P rows words before

  -- the position of F0
  abbrev at : ℕ
  at = length before

  -- demand 3's invariant after any bytes, so at the cut and at the end
  known : (bytes : List ℕ) → Inv rows (start rows words P plan) Always P (0 + length bytes) (end_state m bytes)
  known bytes = subst (Inv rows (start rows words P plan) Always P (0 + length bytes)) (sym (through-after rows P words 0 bytes (begin P words))) (inv rows words P plan bytes)

  local : (p : ℕ) → p < P → Local rows (start rows words P plan) Always p (0 + at) cut (proc_at p cut)
  local p l = (known before).local p l

  -- the bytes after F0 go on from the dark
  end_is : (more : List ℕ) → end_of more ≡ after rows (suc at) more dark
  unfolding after_in
  end_is more =
      through-after rows P words 0 (before ++ (power_cut ∷ more)) (begin P words)
      ∙ after_join rows 0 before (power_cut ∷ more) (begin P words)
      ∙ ap (λ n. after rows (suc n) more (step rows n power_cut (after rows 0 before (begin P words)))) (zero-add at)
      ∙ ap (λ s. after rows (suc at) more (step rows at power_cut s)) (sym (through-after rows P words 0 before (begin P words)))

  few : (p : ℕ) → needed rows cut p ≤ 5
  few p = go (proc_at p cut).opened
    where
      go : (o : Option ℕ) → steps_for o (proc_at p cut).stored (proc_at p cut).checkpoint (kept_bit rows p cut.words (proc_at p cut)) ≤ 5
      go None = omega arith
      go (Some k) = few_steps (proc_at p cut).stored (proc_at p cut).checkpoint (kept_bit rows p cut.words (proc_at p cut))

  there : (p : ℕ) → p < P → p < length cut.processes
  there p l = subst (λ n. p < n) (sym (known before).size) l

  -- what is to be done to each process: one wake, and the steps that it needs
  to_do_lem : (p : ℕ) → p < P → to_do rows p dark ≡ wakes ∷ replicate (needed rows cut p) steps
  unfolding step_in act_in apply
  to_do_lem p l = ap (λ r. to_do_at rows p dark.words r r.status) (down rows at cut p (there p l))

  -- a process that has a row open is there, and the row is one of its own
  open_there : (p k : ℕ) → (proc_at p cut).opened ≡ Some k → p < P
  open_there p k o = go (ltb p P) refl
    where
      go : (c : Bool) → ltb p P ≡ c → p < P
      go true e = ltb-true p P e
      go false e = closed_open (sym (ap (λ r. r.opened) (absent rows at cut p (subst (λ n. n ≤ p) (sym (known before).size) (ltb-false p P e))).1) ∙ o)

  open_own : (p k : ℕ) → (proc_at p cut).opened ≡ Some k → owner_of rows k ≡ p
  open_own p k o =
      let l : p < P = open_there p k o in
      let is : IsOpen rows (start rows words P plan) p k cut (proc_at p cut) = (local p l).opened k o in
      let b : (proc_at p cut).begun ≡ suc is.index = is.begun in
      let f : (proc_at p cut).begun ≤ count rows p = (local p l).fits in
      ap (λ k. (row_numbered rows k).process) is.row ∙ order.own rows words P plan p is.index (omega arith)

  module _ (more : List ℕ) (healed : Healed rows P dark (end_of more)) where
    abbrev end : State
    end = end_of more

    since : Since cut end
    since = since_join cut dark end (since-cut rows at cut) healed.since

    -- row k of process p was open at the cut
    module _ (p k : ℕ) (o : (proc_at p cut).opened ≡ Some k) where
      abbrev here : p < P
      here = open_there p k o

      is : IsOpen rows (start rows words P plan) p k cut (proc_at p cut)
      is = (local p here).opened k o

      settled : Settled p k end.log end.answers
      settled =
          let b : (proc_at p end).begun ≡ suc is.index = since.begun p ∙ is.begun in
          subst (λ k. Settled p k end.log end.answers) (sym is.row)
          (((known (before ++ (power_cut ∷ more))).local p here).ended is.index (omega arith) (λ e. closed_open (sym (healed.shut p here) ∙ e)))

      -- it had no answer row then, so the one that it has is new
      new_once : of k since.new ≡ of k end.answers
      unfolding of
      new_once = sym (ap (of k) since.answers ∙ keep_join _ cut.answers since.new ∙ ap (λ l. l ++ of k since.new) is.unanswered)

      newly : Settled p k end.log since.new
      newly = record { answer = settled.answer; answered = record { entry = settled.answered.entry; once = new_once ∙ settled.answered.once; process = settled.answered.process; says_so = settled.answered.says_so }; logged = settled.logged }

    safe_end : Safe (step rows) P rows words cut end
    safe_end =
        record {
          idle = healed.all_idle_lem;
          no_row_open = healed.shut;
          begun = λ p l. since.begun p;
          words = since.words;
          log = since.log;
          new = since.new;
          answers = since.answers;
          answered = λ k o.
              let e : Settled (owner_of rows k) k end.log since.new = newly (owner_of rows k) k o in
              record { answer = e.answer; told = e.answered; logged = subst (Logged (owner_of rows k) k e.answer) since.log e.logged };
          no_other = all_map (λ e. (proc_at e.process cut).opened ≡ Some e.row) (λ e. StillOpen m rows e.row cut)
              (λ e o. subst (λ p. (proc_at p cut).opened ≡ Some e.row) (sym (open_own e.process e.row o)) o)
              since.new since.told;
        }

  any_order : (more : List ℕ) → All (λ byte. named byte < P) more → ((p : ℕ) → p < P → statement.WokenAndStepped (step rows) P rows words before p more) → statement.Recovers (step rows) P rows words before more
  any_order more here all = bytewise.any_order rows P (suc at) more dark (recovering rows at cut) here (λ p l. all p l ∙ sym (to_do_lem p l))

  safe_with_cuts : (more : List ℕ) → statement.RecoversWithCuts (step rows) P rows words before more → Safe (step rows) P rows words cut (end_of more)
  safe_with_cuts more r = safe_end more (subst (Healed rows P dark) (sym (end_is more)) (healed_with_cuts rows P (suc at) more dark (recovering rows at cut) r))

  -- the claim
  pub leaves : Leaves (step rows) P rows words before
  leaves =
      record {
        at_most_five = few;
        exactly = λ more r p l. bytewise.exactly rows P (suc at) more dark (recovering rows at cut) r p l ∙ to_do_lem p l;
        any_order = any_order;
        in_turn_lem = λ most. any_order (in_turn P (needed rows cut)) (in_turn-named (needed rows cut) P most) (in_turn_done (needed rows cut) P most);
        safe = λ more r. safe_with_cuts more (with_cuts rows P (suc at) more dark r);
        safe_with_cuts = safe_with_cuts;
      }
