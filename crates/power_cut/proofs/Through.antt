-- A whole recovery, by induction over its bytes: it leaves words and log as they were, adds answer rows of open rows only and closes all rows, also if
-- the power is cut again in its midst. One without further cuts does to each process exactly what was to be done to it; and the other way round, bytes
-- that do to each process what is to be done to it, in whatever order among the processes, are a recovery.
use Rattle.std.specs.Prelude.{ℕ, suc, ◌<◌, ◌≡◌, Bool, replicate, Some}
use Rattle.std.proofs.Math.Path.{refl, sym, ap, subst}
use Rattle.std.proofs.Common.{◌∙◌, arith}
use Rattle.std.proofs.Math.Bool.{true, false}
use mathlib.Core.List.{List, [], ◌∷◌}
use Rattle.std.proofs.Math.Dec.{eqb}
use borrow.Author.Tests.{eqb-true, eqb-false}
use Rattle.runfile.specs.declared.Row.{Row}
use Rattle.runfile.specs.Actions.{Action, step as steps, action, named}
use Rattle.machine.specs.declared.Process.{Process}
use Rattle.machine.specs.declared.Status.{Status}
use Rattle.machine.specs.declared.Status.TheVariants.{Down, Idle, N2, N3, Busy}
use Rattle.machine.specs.Machine.{State, proc_at, step, after, after_in}
use Rattle.replay.specs.Lists.{All}
use Rattle.power_cut.specs.Statement.{Mends, waking, stepping, MendsOrCuts, mends, cuts, Recovery, RecoveryWithCuts, done_to, kept_bit}
use Rattle.power_cut.specs.Stages.{left}
use Rattle.power_cut.proofs.Stages.{left_some}
use Rattle.power_cut.specs.OneByte.{Recovering, to_do_at, to_do, Heals, AllRecovering, own, others}
use Rattle.power_cut.proofs.OneByte.{heals, mends_there}
use Rattle.power_cut.specs.Through.{done_own, done_other, Healed}
use Rattle.power_cut.specs.Since.{Since, since_none, since_join}
use Rattle.power_cut.specs.Dark.{recovering, since-cut}

head : {a b : Action} {k l : List Action} → a ∷ k ≡ b ∷ l → a ≡ b
head e = cc

tail : {a b : Action} {k l : List Action} → a ∷ k ≡ b ∷ l → k ≡ l
tail e = cc

some_none : {a : Action} {k : List Action} {A : Type 0} → [] ≡ a ∷ k → A
some_none e = absurd (let z : ◌≡◌ {A = ℕ} 0 1 = cc in omega arith)

module _ (rows : List Row) (P : ℕ) where
  -- one byte
  module _ (t byte : ℕ) (s : State) (f : AllRecovering rows s) (m : Mends (proc_at (named byte) s).status (action byte)) where
    abbrev p : ℕ
    p = named byte

    abbrev s' : State
    s' = step rows t byte s

    h : Heals rows (action byte) p s s'
    h = heals rows t byte s f m

    own_is : proc_at p s' ≡ h.next
    own_is = own rows (action byte) p s s' h (mends_there rows p s (action byte) m)

    other_is : (q : ℕ) → (q ≡ p → ⊥) → proc_at q s' ≡ proc_at q s
    other_is = others rows (action byte) p s s' h

    -- what holds of the record that the named process gets, and of the others' as they were
    each : (Q : ℕ → Process → Type 0) → Q p h.next → ((q : ℕ) → Q q (proc_at q s)) → (q : ℕ) → Q q (proc_at q s')
    each Q mine theirs q = go (eqb q p) refl
      where
        go : (c : Bool) → eqb q p ≡ c → Q q (proc_at q s')
        go true e = subst (λ q. Q q (proc_at q s')) (sym (eqb-true q p e)) (subst (Q p) (sym own_is) mine)
        go false e = subst (Q q) (sym (other_is q (eqb-false q p e))) (theirs q)

    since-step : Since s s'
    since-step =
        record {
          words = h.words;
          log = h.log;
          new = h.new;
          answers = h.answers;
          told = h.told;
          begun = each (λ q r. r.begun ≡ (proc_at q s).begun) h.begun (λ q. refl);
          opened = each (λ q r. (k : ℕ) → r.opened ≡ Some k → (proc_at q s).opened ≡ Some k) h.opened (λ q k e. e);
        }

    still_recovering : AllRecovering rows s'
    still_recovering = each (λ q r. Recovering r.status r.opened) h.fit f

    to_do_lem : to_do rows p s ≡ action byte ∷ to_do rows p s'
    to_do_lem = h.done ∙ ap (λ l. action byte ∷ l) (ap (λ ws. to_do_at rows p ws h.next h.next.status) (sym h.words) ∙ ap (λ r. to_do_at rows p s'.words r r.status) (sym own_is))

    to_do_other : (q : ℕ) → (q ≡ p → ⊥) → to_do rows q s' ≡ to_do rows q s
    to_do_other q n = ap (λ ws. to_do_at rows q ws (proc_at q s') (proc_at q s').status) h.words ∙ ap (λ r. to_do_at rows q s.words r r.status) (other_is q n)

  -- a byte that mends, or one more cut
  module _ (t byte : ℕ) (s : State) (f : AllRecovering rows s) where
    since-byte : MendsOrCuts (proc_at (named byte) s).status byte → Since s (step rows t byte s)
    since-byte (mends m) = since-step t byte s f m
    since-byte (cuts e) = subst (λ byte. Since s (step rows t byte s)) (sym e) (since-cut rows t s)

    recovering-byte : MendsOrCuts (proc_at (named byte) s).status byte → AllRecovering rows (step rows t byte s)
    recovering-byte (mends m) = still_recovering t byte s f m
    recovering-byte (cuts e) = subst (λ byte. AllRecovering rows (step rows t byte s)) (sym e) (recovering rows t s)

  pub healed_with_cuts : (t : ℕ) (bytes : List ℕ) (s : State) → AllRecovering rows s → RecoveryWithCuts (step rows) P t bytes s → Healed rows P s (after rows t bytes s)
  unfolding after_in
  healed_with_cuts t [] s f all_idle_lem = record { since = since_none s; all_idle_lem = all_idle_lem; shut = λ p l. subst (λ st. Recovering st (proc_at p s).opened) (all_idle_lem p l) (f p) }
  healed_with_cuts t (byte ∷ bytes) s f (m, rest) = go (healed_with_cuts (suc t) bytes (step rows t byte s) (recovering-byte t byte s f m) rest)
    where
      go : Healed rows P (step rows t byte s) (after rows (suc t) bytes (step rows t byte s)) → Healed rows P s (after rows (suc t) bytes (step rows t byte s))
      go g = record { since = since_join s (step rows t byte s) (after rows (suc t) bytes (step rows t byte s)) (since-byte t byte s f m) g.since; all_idle_lem = g.all_idle_lem; shut = g.shut }

  -- a recovery without further cuts does to each process what was to be done to it
  pub exactly : (t : ℕ) (bytes : List ℕ) (s : State) → AllRecovering rows s → Recovery (step rows) P t bytes s → (p : ℕ) → p < P → done_to p bytes ≡ to_do rows p s
  unfolding done_to
  exactly t [] s f all_idle_lem p l = sym (ap (to_do_at rows p s.words (proc_at p s)) (all_idle_lem p l))
  exactly t (byte ∷ bytes) s f (m, rest) q l = go (eqb q (named byte)) refl (exactly (suc t) bytes (step rows t byte s) (still_recovering t byte s f m) rest)
    where
      go : (c : Bool) → eqb q (named byte) ≡ c → ((p : ℕ) → p < P → done_to p bytes ≡ to_do rows p (step rows t byte s)) → done_to q (byte ∷ bytes) ≡ to_do rows q s
      go true e ih =
          let is : q ≡ named byte = eqb-true q (named byte) e in
          subst (λ q. done_to q (byte ∷ bytes) ≡ to_do rows q s) (sym is)
          (done_own byte bytes ∙ ap (λ l. action byte ∷ l) (ih (named byte) (subst (λ q. q < P) is l)) ∙ sym (to_do_lem t byte s f m))
      go false e ih =
          let n : q ≡ named byte → ⊥ = eqb-false q (named byte) e in
          done_other q byte bytes n ∙ ih q l ∙ to_do_other t byte s f m q n

  -- where something is to be done, that byte may come; where nothing is, the process is idle
  may : (q : ℕ) (s : State) (a : Action) (more : List Action) (st : Status) → Recovering st (proc_at q s).opened → a ∷ more ≡ to_do_at rows q s.words (proc_at q s) st → Mends st a
  may q s a more Down f e = waking (head e) refl
  may q s a more Idle f e = some_none (sym e)
  may q s a more N2 f e = absurd f
  may q s a more N3 f e = absurd f
  may q s a more (Busy stage seen read_at tried_at answer) f e =
      let some : (n : ℕ) × (left stage (proc_at q s).stored (proc_at q s).checkpoint (kept_bit rows q s.words (proc_at q s)) ≡ suc n) = left_some stage (proc_at q s).stored (proc_at q s).checkpoint (kept_bit rows q s.words (proc_at q s)) f.0 in
      let is : a ∷ more ≡ steps ∷ replicate some.0 steps = e ∙ ap (λ n. replicate n steps) some.1 in
      stepping (head is) (λ d. let z : ◌≡◌ {A = ℕ} 0 1 = cc in omega arith) (λ d. let z : ◌≡◌ {A = ℕ} 0 1 = cc in omega arith)

  none : (q : ℕ) (s : State) (st : Status) → Recovering st (proc_at q s).opened → [] ≡ to_do_at rows q s.words (proc_at q s) st → st ≡ Idle
  none q s Down f e = some_none e
  none q s Idle f e = refl
  none q s N2 f e = absurd f
  none q s N3 f e = absurd f
  none q s (Busy stage seen read_at tried_at answer) f e =
      let some : (n : ℕ) × (left stage (proc_at q s).stored (proc_at q s).checkpoint (kept_bit rows q s.words (proc_at q s)) ≡ suc n) = left_some stage (proc_at q s).stored (proc_at q s).checkpoint (kept_bit rows q s.words (proc_at q s)) f.0 in
      let is : [] ≡ steps ∷ replicate some.0 steps = e ∙ ap (λ n. replicate n steps) some.1 in
      some_none is

  pub any_order : (t : ℕ) (bytes : List ℕ) (s : State) → AllRecovering rows s → All (λ byte. named byte < P) bytes → ((p : ℕ) → p < P → done_to p bytes ≡ to_do rows p s) → Recovery (step rows) P t bytes s
  unfolding done_to
  any_order t [] s f here all = λ q l. none q s (proc_at q s).status (f q) (all q l)
  any_order t (byte ∷ bytes) s f here all =
      let m : Mends (proc_at (named byte) s).status (action byte) = may (named byte) s (action byte) (done_to (named byte) bytes) (proc_at (named byte) s).status (f (named byte)) (sym (done_own byte bytes) ∙ all (named byte) here.0) in
      (m, any_order (suc t) bytes (step rows t byte s) (still_recovering t byte s f m) here.1 (λ q l. rest m q l (eqb q (named byte)) refl))
    where
      rest : (m : Mends (proc_at (named byte) s).status (action byte)) (q : ℕ) → q < P → (c : Bool) → eqb q (named byte) ≡ c → done_to q bytes ≡ to_do rows q (step rows t byte s)
      rest m q l true e =
          let is : q ≡ named byte = eqb-true q (named byte) e in
          subst (λ q. done_to q bytes ≡ to_do rows q (step rows t byte s)) (sym is)
          (tail (sym (done_own byte bytes) ∙ all (named byte) here.0 ∙ to_do_lem t byte s f m))
      rest m q l false e =
          let n : q ≡ named byte → ⊥ = eqb-false q (named byte) e in
          sym (done_other q byte bytes n) ∙ all q l ∙ sym (to_do_other t byte s f m q n)
