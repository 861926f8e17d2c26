-- What a process keeps, byte by byte and through whatever bytes: its kept value stays until it makes A2 of an advance, and its kept bit until it makes any
-- A2. By cases of what one byte may make of a record.
use Rattle.std.specs.Prelude.{ℕ, zero, suc, ◌≤◌, ◌≡◌, Bool, not, ◌&&◌, eqb, ltb, length, get_or, set, Option, Some, None}
use Rattle.std.proofs.Math.Path.{refl, ap}
use Rattle.std.proofs.Common.{sym, ◌∙◌, ap₂, subst, true≢false, ⊎_elim, get_or-set_same, get_or-set_other, eqb-true, ltb-true, ltb-false}
use Rattle.std.proofs.Math.Bool.{true, false, cond}
use mathlib.Core.List.{List, [], ◌∷◌, map}
use Rattle.std.proofs.Math.ListN.{get_or-eq_default}
use Rattle.std.proofs.Math.Seq.{set_out}
use Rattle.std.proofs.lemmas.Bool.{eqb-false}
use Rattle.runfile.specs.declared.Row.{Row}
use Rattle.runfile.specs.declared.Kind.{Kind}
use Rattle.runfile.specs.declared.Kind.TheVariants.{Read, Compare, Advance}
use Rattle.runfile.specs.Kinds.{kind_of}
use Rattle.runfile.specs.Actions.{Action, step as steps, crash as crashes, wake as wakes, crash_all as crashes_all, none as idles, action, named}
use Rattle.runfile.specs.Operations.{row_numbered, count}
use Rattle.word.specs.Word.{value, bit}
use Rattle.rows.specs.declared.Entry.{Entry}
use Rattle.machine.specs.declared.Answer.{Answer}
use Rattle.machine.specs.declared.Process.{Process}
use Rattle.machine.specs.declared.Kept.{Kept}
use Rattle.machine.specs.declared.Stage.{Stage}
use Rattle.machine.specs.declared.Stage.TheVariants.{A1, A2, A3, A4, A5, A6, V1, V2, V3, V4, V5, V6}
use Rattle.machine.specs.declared.Status.{Status}
use Rattle.machine.specs.declared.Status.TheVariants.{Down, Idle, N2, N3, Busy}
use Rattle.machine.specs.Turn.{Still, Quiet}
use Rattle.machine.specs.Records.{fresh, with_stored, crashed, waked, row_open}
use Rattle.machine.specs.Stages.{stage_number}
use Rattle.machine.specs.Steps.{kept_by, decide, decide_in, at_work, step_turn_in}
use Rattle.machine.specs.KindLaws.{NoAdvance, value-left, bit_kept, either, tried_leads, stored_leads}
use Rattle.machine.specs.Machine.{State, process_of, turn, turn_in, apply, applied, proc_at, act, act_in, step, step_in, after, after_in, begin}
use Rattle.machine.specs.Laws.{record_set, fresh_at}
use Rattle.machine.specs.Limits.{step_of, none_more}
use Rattle.machine.specs.Keeping.{at_a2, in_hand, kind_at, kept_anew, keeps_at, advances, keeps_sort, keepings}

-- a step at each stage, and at whatever status
at_stage : (row : Row) (p t now : ℕ) (r : Process) (stage : Stage) (seen read_at tried_at : ℕ) (answer : Option Answer)
    → (process_of r (decide row p t now r stage seen read_at tried_at answer)).kept ≡ cond (eqb (stage_number stage) 1) (kept_by (kind_of row) r.kept (not (bit p seen)) (value seen)) r.kept
unfolding decide_in
at_stage row p t now r A1 seen read_at tried_at answer = refl
at_stage row p t now r A2 seen read_at tried_at answer = refl
at_stage row p t now r A3 seen read_at tried_at answer = refl
at_stage row p t now r A4 seen read_at tried_at answer = tried_leads (λ u. (process_of r u).kept ≡ r.kept) p t row now r seen read_at (λ x. refl) refl
at_stage row p t now r A5 seen read_at tried_at answer =
    stored_leads (λ u. (process_of r u).kept ≡ r.kept) row (with_stored (Busy A6 seen read_at tried_at answer) answer r) seen read_at tried_at answer refl (λ a e. refl) refl
at_stage row p t now r A6 seen read_at tried_at answer = refl
at_stage row p t now r V1 seen read_at tried_at answer = refl
at_stage row p t now r V2 seen read_at tried_at answer = refl
at_stage row p t now r V3 seen read_at tried_at answer = refl
at_stage row p t now r V4 seen read_at tried_at answer = refl
at_stage row p t now r V5 seen read_at tried_at answer = refl
at_stage row p t now r V6 seen read_at tried_at answer = refl

kept_turn : (rows : List Row) (p t : ℕ) (words : List ℕ) (log : List Entry) (r : Process)
    → (turn rows p t words log r r.status).process.kept ≡ cond (at_a2 r.status r.opened) (kept_anew rows p r) r.kept
unfolding turn_in step_turn_in
kept_turn rows p t words log r = go r.status
  where
    row : Row
    row = row_numbered rows (row_open r.opened)

    now : ℕ
    now = get_or words row.word 0

    anew : ℕ → Kept
    anew seen = kept_by (kind_of row) r.kept (not (bit p seen)) (value seen)

    work : (o : Option ℕ) (stage : Stage) (seen read_at tried_at : ℕ) (answer : Option Answer)
        → (process_of r (at_work row p t now r o stage seen read_at tried_at answer)).kept ≡ cond (at_a2 (Busy stage seen read_at tried_at answer) o) (anew seen) r.kept
    work None stage seen read_at tried_at answer = refl
    work (Some k) stage seen read_at tried_at answer = at_stage row p t now r stage seen read_at tried_at answer

    go : (status : Status) → (turn rows p t words log r status).process.kept ≡ cond (at_a2 status r.opened) (anew (in_hand status)) r.kept
    go Down = refl
    go Idle = either (λ u. (process_of r u).kept ≡ r.kept) (ltb r.begun (count rows p)) (Quiet (with_stored N2 None r)) Still refl refl
    go N2 = refl
    go N3 = refl
    go (Busy stage seen read_at tried_at answer) = work r.opened stage seen read_at tried_at answer

-- a crash and a wake leave it
kept_waked : (r : Process) (status : Status) → (waked r status).kept ≡ r.kept
kept_waked r Down = refl
kept_waked r Idle = refl
kept_waked r N2 = refl
kept_waked r N3 = refl
kept_waked r (Busy stage seen read_at tried_at answer) = refl

kept_crashed : (l : List Process) (p : ℕ) → (get_or (map crashed l) p fresh).kept ≡ (get_or l p fresh).kept
kept_crashed [] p = refl
kept_crashed (r ∷ l) zero = refl
kept_crashed (r ∷ l) (suc p) = kept_crashed l p

-- One byte, whatever it is and in whatever state: what p keeps after it
pub kept_byte : (rows : List Row) (t byte : ℕ) (s : State) (p : ℕ) → (proc_at p (step rows t byte s)).kept ≡ cond (keeps_at p byte s) (kept_anew rows p (proc_at p s)) (proc_at p s).kept
unfolding step_in act_in applied apply proc_at
kept_byte rows t byte s p = go (action byte) (named byte)
  where
    r : Process
    r = get_or s.processes p fresh

    -- another record put in the place of q, which keeps the same
    put : (q : ℕ) (x : Process) → x.kept ≡ (get_or s.processes q fresh).kept → (get_or (set s.processes q x) p fresh).kept ≡ r.kept
    put q x e =
        ⊎_elim (λ h. ap (λ (r : Process). r.kept) h.1 ∙ e ∙ ap (λ q. (get_or s.processes q fresh).kept) (sym h.0)) (λ h. ap (λ (r : Process). r.kept) h) (record_set s.processes q p x)

    stepped : (q : ℕ) (c : Bool) → eqb q p ≡ c → (d : Bool) → ltb p (length s.processes) ≡ d
        → (proc_at p (act rows t steps q s)).kept ≡ cond (c && at_a2 r.status r.opened) (kept_anew rows p r) r.kept
    stepped q false e d f = ap (λ (r : Process). r.kept) (get_or-set_other s.processes q p _ fresh (λ z. eqb-false q p e (sym z)))
    stepped q true e true f = rw (eqb-true q p e) (ap (λ (r : Process). r.kept) (get_or-set_same s.processes p _ fresh (ltb-true p (length s.processes) f)) ∙ kept_turn rows p t s.words s.log r)
    stepped q true e false f =
        let past : length s.processes ≤ p = ltb-false p (length s.processes) f in
        let none : r ≡ fresh = get_or-eq_default s.processes fresh past in
        rw (eqb-true q p e, set_out s.processes p _ past) (subst (λ (r : Process). r.kept ≡ cond (at_a2 r.status r.opened) (kept_anew rows p r) r.kept) (sym none) refl)

    go : (a : Action) (q : ℕ) → (proc_at p (act rows t a q s)).kept ≡ cond (step_of p a q && at_a2 r.status r.opened) (kept_anew rows p r) r.kept
    go steps q = stepped q (eqb q p) refl (ltb p (length s.processes)) refl
    go crashes q = put q _ refl
    go wakes q = put q _ (kept_waked (get_or s.processes q fresh) (get_or s.processes q fresh).status)
    go crashes_all q = kept_crashed s.processes p
    go idles q = refl

module _ (rows : List Row) (t byte : ℕ) (s : State) (p : ℕ) where
  -- a byte that is no step of p
  pub others_leave : step_of p (action byte) (named byte) ≡ false → (proc_at p (step rows t byte s)).kept ≡ (proc_at p s).kept
  others_leave e = kept_byte rows t byte s p ∙ rw e

  -- a step of p at A2 of row k
  module _ (k seen read_at tried_at : ℕ) (answer : Option Answer) (own : step_of p (action byte) (named byte) ≡ true) (st : (proc_at p s).status ≡ Busy A2 seen read_at tried_at answer) (o : (proc_at p s).opened ≡ Some k) where
    keeps_by : (proc_at p (step rows t byte s)).kept ≡ kept_by (kind_of (row_numbered rows k)) (proc_at p s).kept (not (bit p seen)) (value seen)
    keeps_by = kept_byte rows t byte s p ∙ rw (own, st, o)

    -- an advance keeps the own bit turned round and the value that A1 read, both with this byte
    pub advance_keeps : kind_of (row_numbered rows k) ≡ Advance → (proc_at p (step rows t byte s)).kept ≡ record { bit = not (bit p seen); value = value seen }
    advance_keeps e = keeps_by ∙ ap (λ kind. kept_by kind (proc_at p s).kept (not (bit p seen)) (value seen)) e

    -- any other row keeps the bit alone
    pub other_keeps : NoAdvance (kind_of (row_numbered rows k)) → (proc_at p (step rows t byte s)).kept ≡ record { bit = not (bit p seen); value = (proc_at p s).kept.value }
    other_keeps n =
        keeps_by
        ∙ ap₂ (λ b v. record { bit = b; value = v }) (bit_kept (kind_of (row_numbered rows k)) (proc_at p s).kept (not (bit p seen)) (value seen)) (value-left (kind_of (row_numbered rows k)) (proc_at p s).kept (not (bit p seen)) (value seen) n)

module _ (rows : List Row) (p : ℕ) (sort : Kind → Bool) where
  -- what such bytes alone change stays where there is none of them
  stays : {A : Type 0} (part : Kept → A) → ((kind : Kind) (before : Kept) (b : Bool) (v : ℕ) → sort kind ≡ false → part (kept_by kind before b v) ≡ part before)
      → (t : ℕ) (bytes : List ℕ) (s : State) → keepings rows p sort t bytes s ≡ 0 → part (proc_at p (after rows t bytes s)).kept ≡ part (proc_at p s).kept
  unfolding after_in keepings
  stays part left t [] s none = refl
  stays part left t (byte ∷ bytes) s none =
      let no = none_more (keeps_sort rows p sort byte s) none in
      stays part left (suc t) bytes (step rows t byte s) no.1 ∙ ap part (kept_byte rows t byte s p) ∙ go (keeps_at p byte s) (sort (kind_at rows (proc_at p s))) refl no.0
    where
      go : (c d : Bool) → sort (kind_at rows (proc_at p s)) ≡ d → (c && d) ≡ false → part (cond c (kept_anew rows p (proc_at p s)) (proc_at p s).kept) ≡ part (proc_at p s).kept
      go false d e f = refl
      go true d e f = left (kind_at rows (proc_at p s)) (proc_at p s).kept (not (bit p (in_hand (proc_at p s).status))) (value (in_hand (proc_at p s).status)) (e ∙ f)

module _ (rows : List Row) (p t : ℕ) (bytes : List ℕ) (s : State) where
  -- Through whatever bytes: with no A2 of p, what p keeps stays; with no A2 of p of an advance, its value does
  pub kept_stays : keepings rows p (λ kind. true) t bytes s ≡ 0 → (proc_at p (after rows t bytes s)).kept ≡ (proc_at p s).kept
  kept_stays = stays rows p (λ kind. true) (λ kept. kept) (λ kind before b v e. absurd (true≢false e)) t bytes s

  pub value_stays : keepings rows p advances t bytes s ≡ 0 → (proc_at p (after rows t bytes s)).kept.value ≡ (proc_at p s).kept.value
  value_stays = stays rows p advances (λ (kept : Kept). kept.value) (λ kind before b v e. value-left kind before b v (none kind e)) t bytes s
    where
      none : (kind : Kind) → advances kind ≡ false → NoAdvance kind
      none Read e = tt
      none Compare e = tt
      none Advance e = true≢false e

-- So where no row is an advance, as in version 1, the kept value is 0 throughout
module _ (rows : List Row) (none : (k : ℕ) → NoAdvance (kind_of (row_numbered rows k))) (p : ℕ) where
  none_keeps : (t : ℕ) (bytes : List ℕ) (s : State) → keepings rows p advances t bytes s ≡ 0
  unfolding keepings
  none_keeps t [] s = refl
  none_keeps t (byte ∷ bytes) s = go (keeps_at p byte s) (kind_at rows (proc_at p s)) (none (row_open (proc_at p s).opened)) (none_keeps (suc t) bytes (step rows t byte s))
    where
      go : (c : Bool) (kind : Kind) → NoAdvance kind → {n : ℕ} → n ≡ 0 → cond (c && advances kind) (suc n) n ≡ 0
      go false kind a e = e
      go true Read a e = e
      go true Compare a e = e
      go true Advance a e = absurd a

  pub value_zero : (P : ℕ) (words bytes : List ℕ) → (proc_at p (after rows 0 bytes (begin P words))).kept.value ≡ 0
  unfolding begin proc_at
  value_zero P words bytes = value_stays rows p 0 bytes (begin P words) (none_keeps 0 bytes (begin P words)) ∙ ap (λ (r : Process). r.kept.value) (fresh_at P p)
