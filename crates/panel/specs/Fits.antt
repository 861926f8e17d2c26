-- A record that can be is sane, so that it is able to step.
use Rattle.std.specs.Prelude.{ℕ, zero, suc, ◌+◌, ◌≤◌, ◌<◌, ◌≡◌, Bool, true, false, not, List, eqb, get_or, ◌≢◌, Option, Some, None}
use Rattle.std.proofs.Math.Path.{refl}
use Rattle.std.proofs.Common.{subst, true≢false, arith}
use borrow.Author.Tests.{ltb-false, leb-false, eqb-true, eqb-false, not-false}
use Rattle.runfile.specs.declared.Row.{Row}
use Rattle.runfile.specs.Operations.{first, count}
use Rattle.runfile.specs.Lawful.{neither}
use Rattle.runfile.specs.Shares.{last_fits}
use Rattle.machine.specs.declared.Process.{Process}
use Rattle.machine.specs.declared.Status.{Status}
use Rattle.machine.specs.declared.Status.TheVariants.{Down, Idle, N2, N3, Busy}
use Rattle.machine.specs.Records.{nobody, WorkOpen, Announcing}
use Rattle.machine.specs.Laws.{Sane}
use Rattle.panel.specs.Possible.{too_many, not_last, open_while, none_at, none_left, misplaced, impossible, any_impossible}

-- each of the records can be
pub each_possible : (rows : List Row) (ps : List Process) (from n p : ℕ) → any_impossible rows ps from n ≡ false → from ≤ p → p < from + n → impossible rows p (get_or ps p nobody) ≡ false
unfolding any_impossible
each_possible rows ps from zero p e a b = absurd (omega arith)
each_possible rows ps from (suc n) p e a b = go (eqb from p) refl (neither (impossible rows from (get_or ps from nobody)) (any_impossible rows ps (suc from) n) e) (λ h x. each_possible rows ps (suc from) n p h x (omega arith))
  where
    go : (c : Bool) → eqb from p ≡ c → (impossible rows from (get_or ps from nobody) ≡ false) × (any_impossible rows ps (suc from) n ≡ false)
        → (any_impossible rows ps (suc from) n ≡ false → suc from ≤ p → impossible rows p (get_or ps p nobody) ≡ false) → impossible rows p (get_or ps p nobody) ≡ false
    go true q h more = subst (λ p. impossible rows p (get_or ps p nobody) ≡ false) (eqb-true from p q) h.0
    go false q h more = more h.1 (let n : from ≢ p = eqb-false from p q in omega arith)

-- the open row of a record that is not misplaced is one of its process's
pub open_inside : (first count : ℕ) (r : Process) (k : ℕ) → r.opened ≡ Some k → misplaced first count r ≡ false → k < first + count
unfolding misplaced
open_inside first count r k o h =
    let a = neither (too_many count r.begun) _ h in
    let b = neither (not_last first r.begun r.opened) _ a.1 in
    let n = neither (eqb r.begun 0) (not (eqb (k + 1) (first + r.begun))) (subst (λ o. not_last first r.begun o ≡ false) o b.0) in
    let few : r.begun ≤ count = ltb-false count r.begun a.0 in
    let q : k + 1 ≡ first + r.begun = eqb-true (k + 1) (first + r.begun) (not-false (eqb (k + 1) (first + r.begun)) n.1) in
    omega arith

-- a record that can be is sane
pub sane_of : (rows : List Row) (p : ℕ) (r : Process) → impossible rows p r ≡ false → Sane rows p r
unfolding impossible misplaced
sane_of rows p r e =
    let m = (neither (misplaced (first rows p) (count rows p) r) _ e).0 in
    let a = neither (too_many (count rows p) r.begun) _ m in
    let b = neither (not_last (first rows p) r.begun r.opened) _ a.1 in
    let c = neither (open_while r.opened r.status) _ b.1 in
    let d = neither (none_at r.opened r.status) (none_left (count rows p) r.begun r.status) c.1 in
    record {
      in_file = λ k o. let i = open_inside (first rows p) (count rows p) r k o m in let f = last_fits rows p in omega arith;
      works = at_work_lem r.status r.opened refl d.0;
      left = left r.status d.1;
    }
  where
    at_work_lem : (st : Status) (o : Option ℕ) → r.opened ≡ o → none_at o st ≡ false → WorkOpen st r.opened
    at_work_lem Down o q h = tt
    at_work_lem Idle o q h = tt
    at_work_lem N2 o q h = tt
    at_work_lem N3 o q h = tt
    at_work_lem (Busy stage seen read_at tried_at answer) None q h = absurd (true≢false h)
    at_work_lem (Busy stage seen read_at tried_at answer) (Some k) q h = (k, q)

    left : (st : Status) → none_left (count rows p) r.begun st ≡ false → Announcing st → r.begun < count rows p
    left Down h x = absurd x
    left Idle h x = absurd x
    left N2 h x = leb-false (count rows p) r.begun h
    left N3 h x = leb-false (count rows p) r.begun h
    left (Busy stage seen read_at tried_at answer) h x = absurd x
