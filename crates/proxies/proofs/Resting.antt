-- The other proxy's bytes put to rest: each is replaced by another byte of that proxy; passed over, they do nothing; and put to rest by lawful bytes they are
-- no steps, and no slips if there were none. By induction over the schedule, for the last two with both runs side by side.
use Rattle.std.specs.Prelude.{ℕ, suc, ◌+◌, ◌/◌, ◌<◌, ◌≡◌, Bool, length, get_or}
use Rattle.std.proofs.Math.Path.{refl, ap}
use Rattle.std.proofs.Common.{sym, ◌∙◌, subst, true≢false, arith}
use Rattle.std.proofs.Math.Bool.{true, false}
use mathlib.Core.List.{List, [], ◌∷◌, map}
use Rattle.std.proofs.Math.Seq.{get_or-set_same}
use Rattle.runfile.specs.declared.Row.{Row}
use Rattle.runfile.specs.Actions.{step as steps, crash as crashes, crash_all as crashes_all, none as idles, action_of, action, named}
use Rattle.runfile.specs.Lawful.{LawfulByte, of_one}
use Rattle.machine.specs.declared.Status.{Status}
use Rattle.machine.specs.declared.Status.TheVariants.{Down, Idle}
use Rattle.machine.specs.Records.{fresh, crashed}
use Rattle.machine.specs.Machine.{State, apply, applied, proc_at, act_in, step, step_in}
use Rattle.machine.specs.OneByte.{others, step_down, no_action, all_down}
use Rattle.replay.specs.Lists.{All}
use Rattle.proxies.specs.Statement.{Proxy, Split, owns, Input, Paired, Replaced, same, other, Accepted, OtherByte}
use Rattle.proxies.specs.Parts.{other_than, not_both_own, apart, part_at}
use Rattle.proxies.specs.Sides.{side}
use Rattle.proxies.specs.Owners.{Known, known_step}
use Rattle.proxies.proofs.Proxies.{next_side}
use Rattle.proxies.specs.Bytes.{is_all, not_all, by_whose_lem}
use Rattle.proxies.specs.Rest.{passed_over, resting, rest, NoStepsOf, Fits, NoSlips}

module _ (split : Split) (x : Proxy) where
  passed_names : (byte : ℕ) → named (0x30 + named byte) ≡ named byte
  passed_names byte = omega arith

  passed_action : (byte : ℕ) → action (0x30 + named byte) ≡ idles
  passed_action byte = let e : (0x30 + named byte) / 16 ≡ 3 = omega arith in ap action_of e

  pub passed_nothing : (rows : List Row) (t byte : ℕ) (s : State) → OtherByte split x byte → step rows t (passed_over split x byte) s ≡ s
  unfolding passed_over
  passed_nothing rows t byte s (n, o) =
      by_whose_lem split x (λ b. step rows t b s ≡ s) byte
      (λ e. absurd (n e))
      (λ _ e. absurd (true≢false (sym e ∙ o)))
      (λ _. no_action rows t (0x30 + named byte) s (passed_action byte))

  pub passed_replaced : (bytes : List ℕ) → Paired (Replaced (OtherByte split x)) bytes (map (passed_over split x) bytes)
  unfolding passed_over
  passed_replaced [] = tt
  passed_replaced (byte ∷ bytes) = (
    by_whose_lem split x (λ b. Replaced (OtherByte split x) byte b) byte (λ _. same refl) (λ _ _. same refl)
        (λ o. other o (not_all (action (0x30 + named byte)) (ap is_all (passed_action byte)), ap (owns x split.processes) (passed_names byte) ∙ o.1)),
    passed_replaced bytes,
  )

-- q is a process of the other proxy, and a byte can name it
module _ (split : Split) (x : Proxy) (q : ℕ) (few : q < 16) (not-mine : owns x split.processes q ≡ false) where
  step-action : action q ≡ steps
  step-action = let e : q / 16 ≡ 0 = omega arith in ap action_of e

  step-names : named q ≡ q
  step-names = omega arith

  crash_action : action (0x10 + q) ≡ crashes
  crash_action = let e : (0x10 + q) / 16 ≡ 1 = omega arith in ap action_of e

  crash_names : named (0x10 + q) ≡ q
  crash_names = omega arith

  resting_other : (down : Bool) → OtherByte split x (resting split x q down)
  resting_other true = (not_all (action q) (ap is_all step-action), ap (owns x split.processes) step-names ∙ not-mine)
  resting_other false = (not_all (action (0x10 + q)) (ap is_all crash_action), ap (owns x split.processes) crash_names ∙ not-mine)

  pub rest-replaced : (down : Bool) (bytes : List ℕ) → Paired (Replaced (OtherByte split x)) bytes (rest split x q down bytes)
  unfolding rest
  rest-replaced down [] = tt
  rest-replaced down (byte ∷ bytes) =
      by_whose_lem split x (λ l. Paired (Replaced (OtherByte split x)) (byte ∷ bytes) l) byte
      (λ _. (same refl, rest-replaced true bytes))
      (λ _ _. (same refl, rest-replaced down bytes))
      (λ o. (other o (resting_other down), rest-replaced true bytes))

  -- no byte is refused by 12 if none was
  pub rest_lawful : (P : ℕ) → q < P → (down : Bool) (bytes : List ℕ) → All (LawfulByte P) bytes → All (LawfulByte P) (rest split x q down bytes)
  unfolding rest
  rest_lawful P there down [] h = tt
  rest_lawful P there down (byte ∷ bytes) (h, hs) =
      by_whose_lem split x (λ l. All (LawfulByte P) l) byte
      (λ _. (h, rest_lawful P there true bytes hs))
      (λ _ _. (h, rest_lawful P there down bytes hs))
      (λ _. (lawful down, rest_lawful P there true bytes hs))
    where
      lawful : (down : Bool) → LawfulByte P (resting split x q down)
      lawful true = of_one (omega arith) (rw step-names there)
      lawful false = of_one (omega arith) (rw crash_names there)

  -- what the bytes leave of q's status
  abbrev status_of : Bool → Status
  status_of true = Down
  status_of false = Idle

  after-mine : (rows : List Row) (t byte : ℕ) (s : State) → (action byte ≡ crashes_all → ⊥) → owns x split.processes (named byte) ≡ true → proc_at q (step rows t byte s) ≡ proc_at q s
  after-mine rows t byte s n o = others rows t byte s n q (apart x split.processes q (named byte) not-mine o)

  after_all : (rows : List Row) (t byte : ℕ) (s : State) → action byte ≡ crashes_all → q < length s.processes → (proc_at q (step rows t byte s)).status ≡ Down
  after_all rows t byte s e l = ap (λ r. r.status) (all_down rows t byte s e q l)

  after-resting : (rows : List Row) (t : ℕ) (down : Bool) (s : State) → q < length s.processes → (proc_at q s).status ≡ status_of down → (proc_at q (step rows t (resting split x q down) s)).status ≡ Down
  unfolding step_in act_in applied apply proc_at
  after-resting rows t true s l e = ap (λ s. (proc_at q s).status) (step_down rows t q s step-action (ap (λ p. (proc_at p s).status) step-names ∙ e)) ∙ e
  after-resting rows t false s l e = rw (crash_action, crash_names, get_or-set_same s.processes q (crashed (get_or s.processes q fresh)) fresh l)

  -- Two runs side by side: the one as it is, in state s, and the one whose bytes of the other proxy are put to rest, in state s'
  module _ (P : ℕ) (there : q < P) (i : Input) (a : Accepted split P i) where
    abbrev rows : List Row
    rows = i.rows

    abbrev Reached : ℕ → State → Type 0
    Reached = Known rows i.words P a.plan

    next_known : (t byte : ℕ) (s : State) → Reached t s → Reached (suc t) (step rows t byte s)
    next_known t byte s k = known_step rows i.words P a.plan t s k byte

    next : (t c d : ℕ) → Replaced (OtherByte split x) c d → (s s' : State) → Reached t s → Reached t s' → side split x s ≡ side split x s' → side split x (step rows t c s) ≡ side split x (step rows t d s')
    next = next_side split P x i i a a (record { own_rows = refl; as_many_rows = refl; own_words = refl; schedule = alike i.schedule })
      where
        alike : (l : List ℕ) → Paired (Replaced (OtherByte split x)) l l
        alike [] = tt
        alike (byte ∷ l) = (same refl, alike l)

    inside : (t : ℕ) (s : State) → Reached t s → q < length s.processes
    inside t s k = subst (λ n. q < n) (sym k.inv.size) there

    -- the record of a process of x is the same in both
    own_record : (p : ℕ) (s s' : State) → owns x split.processes p ≡ true → side split x s ≡ side split x s' → proc_at p s ≡ proc_at p s'
    unfolding proc_at
    own_record p s s' o look = part_at x split.processes s.processes s'.processes p fresh o (ap (λ v. v.records) look)

    -- a byte that puts q to rest, or leaves it there
    resting_no_step : (down : Bool) (s : State) → (proc_at q s).status ≡ status_of down → action (resting split x q down) ≡ steps → (proc_at (named (resting split x q down)) s).status ≡ Down
    resting_no_step true s st e = ap (λ p. (proc_at p s).status) step-names ∙ st
    resting_no_step false s st e = absurd (let z : crashes ≡ steps = sym crash_action ∙ e in let y : ◌≡◌ {A = ℕ} 0 1 = cc in omega arith)

    resting-fits : (down : Bool) (s : State) → (proc_at q s).status ≡ status_of down → Fits (action (resting split x q down)) (proc_at (named (resting split x q down)) s).status
    resting-fits true s st = subst (λ a. Fits a (proc_at (named q) s).status) (sym step-action) tt
    resting-fits false s st =
        subst (λ a. Fits a (proc_at (named (0x10 + q)) s).status) (sym crash_action)
        (λ d. let z : Idle ≡ Down = sym st ∙ ap (λ p. (proc_at p s).status) (sym crash_names) ∙ d in let y : ◌≡◌ {A = ℕ} 0 1 = cc in omega arith)

    -- the other proxy takes no steps, and there are no slips if there were none
    abbrev Rests : ℕ → (bytes rested : List ℕ) (s s' : State) → Type 0
    Rests t bytes rested s s' = NoStepsOf rows split (other_than x) t rested s' × (NoSlips rows t bytes s → NoSlips rows t rested s')

    pub rests : (t : ℕ) (bytes : List ℕ) (down : Bool) (s s' : State) → Reached t s → Reached t s' → side split x s ≡ side split x s' → (proc_at q s').status ≡ status_of down
        → Rests t bytes (rest split x q down bytes) s s'
    unfolding rest
    rests t [] down s s' k k' look st = (tt, λ _. tt)
    rests t (byte ∷ bytes) down s s' k k' look st =
        by_whose_lem split x (λ rested. Rests t (byte ∷ bytes) rested s s') byte
        (λ e.
        let on = rests (suc t) bytes true (step rows t byte s) (step rows t byte s') (next_known t byte s k) (next_known t byte s' k') (next t byte byte (same refl) s s' k k' look) (after_all rows t byte s' e (inside t s' k')) in
        ((λ f _. absurd (not_all (action byte) (ap is_all f) e), on.0), λ h. (subst (λ a. Fits a (proc_at (named byte) s').status) (sym e) tt, on.1 h.1)))
        (λ n o.
        let on = rests (suc t) bytes down (step rows t byte s) (step rows t byte s') (next_known t byte s k) (next_known t byte s' k') (next t byte byte (same refl) s s' k k' look) (ap (λ r. r.status) (after-mine rows t byte s' n o) ∙ st) in
        ((λ _ f. absurd (not_both_own x split.processes (named byte) o f), on.0), λ h. (subst (λ r. Fits (action byte) r.status) (own_record (named byte) s s' o look) h.0, on.1 h.1)))
        (λ o.
        let b = resting split x q down in
        let on = rests (suc t) bytes true (step rows t byte s) (step rows t b s') (next_known t byte s k) (next_known t b s' k') (next t byte b (other o (resting_other down)) s s' k k' look) (after-resting rows t down s' (inside t s' k') st) in
        ((λ f _. resting_no_step down s' st f, on.0), λ h. (resting-fits down s' st, on.1 h.1)))
