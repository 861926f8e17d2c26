-- The announcement that is cut off is made again, and for the same row (R105): a process with no row open has none until it has begun one more, and the
-- byte at which it has opens the row that follows. By cases of what one byte may make of a record.
use Prim.Native.Nat.{ℕ, zero, suc, ◌+◌, ◌≤◌, ◌<◌}
use Rattle.std.specs.Prelude.{◌≡◌, Bool, false, eqb, ltb, set, Option, Some, None, ℕ}
use Rattle.std.proofs.Math.Path.{refl, sym, subst}
use Rattle.std.proofs.Common.{◌∙◌, ap, true≢false, get_or-set_same, eqb-true}
use Rattle.std.proofs.Math.Bool.{true}
use mathlib.Core.List.{List, [], ◌∷◌, ◌++◌, map}
use Rattle.std.proofs.Math.Logic.{⊎_elim}
use native.Mathlib.Omega.{arith}
use Rattle.std.proofs.Math.ListN.{length, get_or}
use Rattle.std.proofs.lemmas.List.{length-replicate}
use Rattle.std.proofs.lemmas.Bool.{eqb-false}
use Rattle.runfile.specs.declared.Row.{Row}
use Rattle.runfile.specs.Actions.{Action, step as steps, crash as crashes, wake as wakes, crash_all as crashes_all, none as idles, action, named}
use Rattle.runfile.specs.Kinds.{kind_of}
use Rattle.runfile.specs.Operations.{row_numbered, first, count}
use Rattle.rows.specs.declared.Entry.{Entry}
use Rattle.machine.specs.declared.Answer.{Answer}
use Rattle.machine.specs.declared.Process.{Process}
use Rattle.machine.specs.declared.Stage.{Stage}
use Rattle.machine.specs.declared.Stage.TheVariants.{A1, A2, A3, A4, A5, A6, V1, V2, V3, V4, V5, V6}
use Rattle.machine.specs.declared.Status.{Status}
use Rattle.machine.specs.declared.Status.TheVariants.{Down, Idle, N2, N3, Busy}
use Rattle.machine.specs.Records.{fresh, with_status, with_stored, crashed, waked, woken_up, row_open}
use Rattle.machine.specs.Turn.{Still, Quiet}
use Rattle.machine.specs.Steps.{decide, decide_in, at_work, step_turn, step_turn_in}
use Rattle.machine.specs.KindLaws.{either, read_leads, lost_leads, tried_leads, stored_leads}
use Rattle.machine.specs.Machine.{State, process_of, turn, turn_in, apply, applied, proc_at, act, act_in, step, step_in, after, after_in, begin}
use Rattle.machine.specs.Laws.{after_join, after_snoc, still, first_store, second_store, third_store, works, on, ends, turned, record_set, each_step, fresh_at}
use Rattle.machine.specs.OneByte.{others, step_down, crash_down, no_action, all_down}
use Rattle.machine.specs.Limits.{crash_of, how_many, none_more, size, present}
use Rattle.machine.specs.Cut.{Becomes, turns, falls, rises, Begins, begins_none, begins_one, Unopened, Shut, wake_of, Unwoken, Again}

module _ (rows : List Row) (p t : ℕ) (s : State) where
  untouched : (r : Process) → r ≡ proc_at p s → Becomes rows p (proc_at p s) r
  untouched r e = subst (Becomes rows p (proc_at p s)) (sym e) (turns still)

  put_in : (q : ℕ) (r : Process) → Becomes rows q (proc_at q s) r → Becomes rows p (proc_at p s) (get_or (set s.processes q r) p fresh)
  unfolding proc_at
  put_in q r b =
      ⊎_elim (λ e. subst (Becomes rows p (proc_at p s)) (sym e.1) (subst (λ q. Becomes rows q (proc_at q s) r) (sym e.0) b)) (λ e. untouched _ e) (record_set s.processes q p r)

  all_fall : (l : List Process) (q : ℕ) → Becomes rows p (get_or l q fresh) (get_or (map crashed l) q fresh)
  all_fall [] q = turns still
  all_fall (r ∷ l) zero = falls
  all_fall (r ∷ l) (suc q) = all_fall l q

  pub becomes : (byte : ℕ) → Becomes rows p (proc_at p s) (proc_at p (step rows t byte s))
  unfolding step_in act_in applied apply proc_at
  becomes byte = go (action byte)
    where
      go : (a : Action) → Becomes rows p (proc_at p s) (proc_at p (act rows t a (named byte) s))
      go steps = put_in (named byte) _ (turns (turned rows (named byte) t s.words s.log (proc_at (named byte) s)))
      go crashes = put_in (named byte) _ falls
      go wakes = put_in (named byte) _ rises
      go crashes_all = all_fall s.processes p
      go idles = turns still

begins : (rows : List Row) (p : ℕ) (r next : Process) → Becomes rows p r next → Begins rows p r next
begins rows p r next (turns still) = begins_none refl (λ o. o)
begins rows p r next (turns (first_store l)) = begins_none refl (λ o. o)
begins rows p r next (turns (second_store e)) = begins_none refl (λ o. o)
begins rows p r next (turns (third_store e)) = begins_one refl refl
begins rows p r next (turns (works k q (on o b n))) = begins_none b (λ c. o ∙ c)
begins rows p r next (turns (works k q (ends o i b))) = begins_none b (λ c. o)
begins rows p r next falls = begins_none refl (λ o. o)
begins rows p r next rises = go r.status
  where
    go : (status : Status) → Begins rows p r (waked r status)
    go Down = begins_none refl (λ o. o)
    go Idle = begins_none refl (λ o. o)
    go N2 = begins_none refl (λ o. o)
    go N3 = begins_none refl (λ o. o)
    go (Busy stage seen read_at tried_at answer) = begins_none refl (λ o. o)

module _ (rows : List Row) (p : ℕ) where
  pub begins-at : (t byte : ℕ) (s : State) → Begins rows p (proc_at p s) (proc_at p (step rows t byte s))
  begins-at t byte s = begins rows p (proc_at p s) (proc_at p (step rows t byte s)) (becomes rows p t s byte)

  -- the byte at which p has begun another row opens the row that follows those that it had begun, in whatever state
  pub opens_next : (t byte : ℕ) (s : State) → ((proc_at p (step rows t byte s)).begun ≡ (proc_at p s).begun → ⊥)
      → ((proc_at p (step rows t byte s)).begun ≡ suc (proc_at p s).begun) × ((proc_at p (step rows t byte s)).opened ≡ Some (first rows p + (proc_at p s).begun))
  opens_next t byte s n = go (begins-at t byte s)
    where
      go : Begins rows p (proc_at p s) (proc_at p (step rows t byte s))
          → ((proc_at p (step rows t byte s)).begun ≡ suc (proc_at p s).begun) × ((proc_at p (step rows t byte s)).opened ≡ Some (first rows p + (proc_at p s).begun))
      go (begins_none b o) = absurd (n b)
      go (begins_one b o) = (b, o)

  -- how many rows p has begun never falls
  pub begun_grows : (t : ℕ) (bytes : List ℕ) (s : State) → (proc_at p s).begun ≤ (proc_at p (after rows t bytes s)).begun
  unfolding after_in
  begun_grows t [] s = omega arith
  begun_grows t (byte ∷ bytes) s = go (begins-at t byte s) (begun_grows (suc t) bytes (step rows t byte s))
    where
      go : Begins rows p (proc_at p s) (proc_at p (step rows t byte s)) → {n : ℕ} → (proc_at p (step rows t byte s)).begun ≤ n → (proc_at p s).begun ≤ n
      go (begins_none b o) l = omega arith
      go (begins_one b o) l = omega arith

  -- with no row open, none is until another has begun, whatever the bytes are
  pub shut_until : (t : ℕ) (bytes : List ℕ) (s : State) → (proc_at p s).opened ≡ None → (proc_at p (after rows t bytes s)).begun ≡ (proc_at p s).begun → (proc_at p (after rows t bytes s)).opened ≡ None
  unfolding after_in
  shut_until t [] s o e = o
  shut_until t (byte ∷ bytes) s o e = go (begins-at t byte s) (begun_grows (suc t) bytes (step rows t byte s)) e (shut_until (suc t) bytes (step rows t byte s))
    where
      go : Begins rows p (proc_at p s) (proc_at p (step rows t byte s)) → {n : ℕ} → (proc_at p (step rows t byte s)).begun ≤ n → n ≡ (proc_at p s).begun → {A : Type 0}
          → ((proc_at p (step rows t byte s)).opened ≡ None → n ≡ (proc_at p (step rows t byte s)).begun → A) → A
      go (begins_none b c) l e next = next (c o) (e ∙ sym b)
      go (begins_one b c) l e next = absurd (omega arith)

shut_work : (row : Row) (p t now : ℕ) (r : Process) (stage : Stage) (seen read_at tried_at : ℕ) (answer : Option Answer) → Shut (process_of r (decide row p t now r stage seen read_at tried_at answer))
unfolding decide_in
shut_work row p t now r A1 seen read_at tried_at answer = read_leads (λ st. Shut (with_status st r)) row now t (λ x. absurd x) (λ a x. absurd x)
shut_work row p t now r A2 seen read_at tried_at answer = λ x. absurd x
shut_work row p t now r A3 seen read_at tried_at answer = λ x. absurd x
shut_work row p t now r A4 seen read_at tried_at answer =
    tried_leads (λ u. Shut (process_of r u)) p t row now r seen read_at (λ y x. absurd x) (lost_leads (λ st. Shut (with_status st r)) (kind_of row) seen read_at t (λ x. absurd x) (λ x. absurd x))
shut_work row p t now r A5 seen read_at tried_at answer =
    stored_leads (λ u. Shut (process_of r u)) row (with_stored (Busy A6 seen read_at tried_at answer) answer r) seen read_at tried_at answer (λ x. absurd x) (λ a e x. absurd x) (λ x. absurd x)
shut_work row p t now r A6 seen read_at tried_at answer = λ x. refl
shut_work row p t now r V1 seen read_at tried_at answer = λ x. absurd x
shut_work row p t now r V2 seen read_at tried_at answer = λ x. absurd x
shut_work row p t now r V3 seen read_at tried_at answer = λ x. absurd x
shut_work row p t now r V4 seen read_at tried_at answer = λ x. absurd x
shut_work row p t now r V5 seen read_at tried_at answer = λ x. refl
shut_work row p t now r V6 seen read_at tried_at answer = λ x. refl

module _ (rows : List Row) where
  shut_turn : (p t : ℕ) (words : List ℕ) (log : List Entry) (r : Process) → Shut r → Shut (turn rows p t words log r r.status).process
  unfolding turn_in step_turn_in
  shut_turn p t words log r h = go r.status refl
    where
      work : (o : Option ℕ) (row : Row) (now : ℕ) (stage : Stage) (seen read_at tried_at : ℕ) (answer : Option Answer) → Shut (process_of r (at_work row p t now r o stage seen read_at tried_at answer))
      work None row now stage seen read_at tried_at answer = h
      work (Some k) row now stage seen read_at tried_at answer = shut_work row p t now r stage seen read_at tried_at answer

      go : (status : Status) → r.status ≡ status → Shut (process_of r (step_turn (row_numbered rows (row_open r.opened)) p t (get_or words (row_numbered rows (row_open r.opened)).word 0) (first rows p) (count rows p) r status))
      go Down e = h
      go Idle e = either (λ u. Shut (process_of r u)) (ltb r.begun (count rows p)) (Quiet (with_stored N2 None r)) Still (λ x. h (subst Unopened (sym e) tt)) h
      go N2 e = λ x. h (subst Unopened (sym e) tt)
      go N3 e = λ x. absurd x
      go (Busy stage seen read_at tried_at answer) e = work r.opened _ _ stage seen read_at tried_at answer

  shut_waked : (r : Process) (status : Status) → Shut r → Shut (waked r status)
  shut_waked r Down h = go r.opened refl
    where
      go : (o : Option ℕ) → r.opened ≡ o → Unopened (woken_up o) → r.opened ≡ None
      go None q x = q
      go (Some k) q x = absurd x
  shut_waked r Idle h = h
  shut_waked r N2 h = h
  shut_waked r N3 h = h
  shut_waked r (Busy stage seen read_at tried_at answer) h = h

  pub shut_after : (t : ℕ) (bytes : List ℕ) (s : State) → ((q : ℕ) → Shut (proc_at q s)) → (q : ℕ) → Shut (proc_at q (after rows t bytes s))
  unfolding after_in
  shut_after t [] s h = h
  shut_after t (byte ∷ bytes) s h =
      shut_after (suc t) bytes (step rows t byte s) (each_step rows (λ q r. Shut r) shut_turn (λ p r h x. absurd x) (λ p r h. shut_waked r r.status h) t byte s h)

  -- so it is after every schedule from the start
  pub shut : (P : ℕ) (words bytes : List ℕ) (q : ℕ) → Shut (proc_at q (after rows 0 bytes (begin P words)))
  unfolding begin proc_at
  shut P words bytes q = shut_after 0 bytes (begin P words) (λ q. rw (fresh_at P q) (λ x. refl)) q

abbrev of_all : Action → Bool
of_all steps = false
of_all crashes = false
of_all wakes = false
of_all crashes_all = true
of_all idles = false

module _ (rows : List Row) (p : ℕ) where
  -- a crash of p or of all
  fell : (t byte : ℕ) (s : State) → p < length s.processes → crash_of p (action byte) (named byte) ≡ true → proc_at p (step rows t byte s) ≡ crashed (proc_at p s)
  unfolding step_in act_in applied apply proc_at
  fell t byte s h x = go (action byte) (named byte) refl x
    where
      go : (a : Action) (q : ℕ) → action byte ≡ a → crash_of p a q ≡ true → proc_at p (act rows t a q s) ≡ crashed (proc_at p s)
      go steps q e x = cc
      go crashes q e x = rw (eqb-true q p x) (get_or-set_same s.processes p _ fresh h)
      go wakes q e x = cc
      go crashes_all q e x = fallen s.processes p h
        where
          fallen : (l : List Process) (q : ℕ) → q < length l → get_or (map crashed l) q fresh ≡ crashed (get_or l q fresh)
          fallen [] q h = absurd (omega arith)
          fallen (r ∷ l) zero h = refl
          fallen (r ∷ l) (suc q) h = fallen l q (omega arith)
      go idles q e x = cc

  -- one that is down stays so until it is woken
  lies : (t byte : ℕ) (s : State) → p < length s.processes → (proc_at p s).status ≡ Down → wake_of p (action byte) (named byte) ≡ false → proc_at p (step rows t byte s) ≡ proc_at p s
  lies t byte s h d x = go (action byte) refl x
    where
      other : (a : Action) → action byte ≡ a → of_all a ≡ false → eqb (named byte) p ≡ false → proc_at p (step rows t byte s) ≡ proc_at p s
      other a e f n = others rows t byte s (λ all. true≢false (ap of_all (sym all ∙ e) ∙ f)) p (λ q. eqb-false (named byte) p n (sym q))

      down : eqb (named byte) p ≡ true → (proc_at (named byte) s).status ≡ Down
      down e = ap (λ q. (proc_at q s).status) (eqb-true (named byte) p e) ∙ d

      stepped : action byte ≡ steps → (c : Bool) → eqb (named byte) p ≡ c → proc_at p (step rows t byte s) ≡ proc_at p s
      stepped a true e = ap (proc_at p) (step_down rows t byte s a (down e))
      stepped a false e = other steps a refl e

      crashed-again : action byte ≡ crashes → (c : Bool) → eqb (named byte) p ≡ c → proc_at p (step rows t byte s) ≡ proc_at p s
      crashed-again a true e = ap (proc_at p) (crash_down rows t byte s a (down e))
      crashed-again a false e = other crashes a refl e

      go : (a : Action) → action byte ≡ a → wake_of p a (named byte) ≡ false → proc_at p (step rows t byte s) ≡ proc_at p s
      go steps a x = stepped a (eqb (named byte) p) refl
      go crashes a x = crashed-again a (eqb (named byte) p) refl
      go wakes a x = other wakes a refl x
      go crashes_all a x = all_down rows t byte s a p h ∙ ap (λ st. with_status st (proc_at p s)) (sym d)
      go idles a x = ap (proc_at p) (no_action rows t byte s a)

  lies_still : (t : ℕ) (bytes : List ℕ) (s : State) → p < length s.processes → (proc_at p s).status ≡ Down → Unwoken p bytes → proc_at p (after rows t bytes s) ≡ proc_at p s
  unfolding after_in how_many
  lies_still t [] s h d u = refl
  lies_still t (byte ∷ bytes) s h d u =
      let v = none_more (wake_of p (action byte) (named byte)) u in
      let same : proc_at p (step rows t byte s) ≡ proc_at p s = lies t byte s h d v.0 in
      lies_still (suc t) bytes (step rows t byte s) (rw (size rows p t byte s) h) (ap (λ (r : Process). r.status) same ∙ d) v.1 ∙ same

  rose : (t byte : ℕ) (s : State) → p < length s.processes → action byte ≡ wakes → named byte ≡ p → proc_at p (step rows t byte s) ≡ waked (proc_at p s) (proc_at p s).status
  unfolding step_in act_in applied apply proc_at
  rose t byte s h a q = rw (a, q) (get_or-set_same s.processes p _ fresh h)

-- Cut off before its third store, a process wakes idle with no row open and announces the same row again (R105). After any schedule, p is idle or in the
-- midst of the announcement. Bytes a follow, whatever they are, with which it begins no row; a crash of p or of all; bytes b, none of which wakes p; its wake
module _ (rows : List Row) (words : List ℕ) (P : ℕ) (schedule : List ℕ) (p : ℕ) (here : p < P) where
  abbrev s : State
  s = after rows 0 schedule (begin P words)

  inside : p < length s.processes
  unfolding begin
  inside = present rows p 0 schedule (begin P words) (rw (length-replicate P fresh) here)

  module _ (before : Unopened (proc_at p s).status) (t : ℕ) (a : List ℕ) (none : (proc_at p (after rows t a s)).begun ≡ (proc_at p s).begun)
      (crash : ℕ) (cuts : crash_of p (action crash) (named crash) ≡ true) (b : List ℕ) (down : Unwoken p b)
      (wake : ℕ) (w : action wake ≡ wakes) (of-p : named wake ≡ p) where
    abbrev at_cut : State
    at_cut = after rows t a s

    abbrev fallen : State
    fallen = step rows (t + length a) crash at_cut

    abbrev lying : State
    lying = after rows (suc (t + length a)) b fallen

    abbrev woken : State
    woken = step rows (suc (t + length a) + length b) wake lying

    woken_is : after rows t (a ++ (crash ∷ (b ++ (wake ∷ [])))) s ≡ woken
    unfolding after_in
    woken_is = after_join rows t a (crash ∷ (b ++ (wake ∷ []))) s ∙ after_snoc rows (suc (t + length a)) b wake fallen

    shut_at_cut : (proc_at p at_cut).opened ≡ None
    shut_at_cut = shut_until rows p t a s (shut rows P words schedule p before) none

    fallen_is : proc_at p fallen ≡ crashed (proc_at p at_cut)
    fallen_is = fell rows p (t + length a) crash at_cut (present rows p t a s inside) cuts

    inside_fallen : p < length fallen.processes
    inside_fallen = rw (size rows p (t + length a) crash at_cut) (present rows p t a s inside)

    lying_is : proc_at p lying ≡ crashed (proc_at p at_cut)
    lying_is = lies_still rows p (suc (t + length a)) b fallen inside_fallen (ap (λ (r : Process). r.status) fallen_is) down ∙ fallen_is

    idle : proc_at p woken ≡ with_status Idle (proc_at p at_cut)
    idle =
        rose rows p (suc (t + length a) + length b) wake lying (present rows p (suc (t + length a)) b fallen inside_fallen) w of-p
        ∙ ap (λ r. waked r r.status) lying_is ∙ ap (λ o. with_status (woken_up o) (proc_at p at_cut)) shut_at_cut

    again : Again rows p (proc_at p s).begun (proc_at p at_cut) woken
    again =
        let begun : (proc_at p woken).begun ≡ (proc_at p s).begun = ap (λ (r : Process). r.begun) idle ∙ none in
        let shut : (proc_at p woken).opened ≡ None = ap (λ (r : Process). r.opened) idle ∙ shut_at_cut in
        record {
          no_row = shut_at_cut;
          wakes_idle = idle;
          begun = begun;
          none_open = λ u bytes e. shut_until rows p u bytes woken shut (e ∙ sym begun);
          opens = λ u bytes byte e n.
              subst (λ (x : State). ((proc_at p x).begun ≡ suc (proc_at p s).begun) × ((proc_at p x).opened ≡ Some (first rows p + (proc_at p s).begun))) (sym (after_snoc rows u bytes byte woken))
              (subst (λ m. ((proc_at p (step rows (u + length bytes) byte (after rows u bytes woken))).begun ≡ suc m) × ((proc_at p (step rows (u + length bytes) byte (after rows u bytes woken))).opened ≡ Some (first rows p + m))) e
              (opens_next rows p (u + length bytes) byte (after rows u bytes woken) (λ same. n (ap (λ (x : State). (proc_at p x).begun) (after_snoc rows u bytes byte woken) ∙ same ∙ e))));
        }

    pub announced_again : Again rows p (proc_at p s).begun (proc_at p (after rows t a s)) (after rows t (a ++ (crash ∷ (b ++ (wake ∷ [])))) s)
    announced_again = subst (Again rows p (proc_at p s).begun (proc_at p at_cut)) (sym woken_is) again
