-- What a step may make of a record, carried over a schedule: what steps, crashes and wakes keep goes on to hold; and so an open row is a row of the file.
use Rattle.std.specs.Prelude.{ℕ, suc, ◌+◌, ◌<◌, ◌≡◌, Option, Some, None}
use Rattle.std.proofs.Math.Path.{refl, sym, subst}
use Rattle.std.proofs.Common.{◌∙◌, arith}
use mathlib.Core.List.{List, [], ◌∷◌}
use Rattle.runfile.specs.declared.Row.{Row}
use Rattle.runfile.specs.Operations.{first, count}
use Rattle.runfile.specs.Shares.{last_fits}
use Rattle.machine.specs.declared.Process.{Process}
use Rattle.machine.specs.declared.Status.{Status}
use Rattle.machine.specs.declared.Status.TheVariants.{Down, Idle, N2, N3, Busy}
use Rattle.machine.specs.Records.{Announcing, InWork, crashed, waked, woken_up, WorkOpen}
use Rattle.machine.specs.Machine.{State, proc_at, step, after, after_in, begin}
use Rattle.machine.specs.Laws.{Turned, still, first_store, second_store, third_store, works, on, ends, turned, each_step, Sane, sane_idle, fresh_at, closed_open}

-- The same after a schedule, for what is kept by whatever a step may make of a record.
module _ (rows : List Row) (Q : ℕ → Process → Type 0)
    (steps-keep : (p : ℕ) (r next : Process) → Q p r → Turned rows p r next → Q p next)
    (crashes-keep : (p : ℕ) (r : Process) → Q p r → Q p (crashed r))
    (wakes-keep : (p : ℕ) (r : Process) → Q p r → Q p (waked r r.status)) where
  pub each_after : (t : ℕ) (bytes : List ℕ) (s : State) → ((q : ℕ) → Q q (proc_at q s)) → (q : ℕ) → Q q (proc_at q (after rows t bytes s))
  unfolding after_in
  each_after t [] s h = h
  each_after t (byte ∷ bytes) s h =
      each_after (suc t) bytes (step rows t byte s)
      (each_step rows Q (λ p t words log r x. steps-keep p r _ x (turned rows p t words log r)) crashes-keep wakes-keep t byte s h)

-- in the midst of work no row is announced
no_store : (status : Status) → InWork status → Announcing status → ⊥
no_store Down w x = w
no_store Idle w x = w
no_store N2 w x = w
no_store N3 w x = w
no_store (Busy stage seen read_at tried_at answer) w x = x

open_any : (status : Status) (opened : Option ℕ) (k : ℕ) → opened ≡ Some k → WorkOpen status opened
open_any Down opened k e = tt
open_any Idle opened k e = tt
open_any N2 opened k e = tt
open_any N3 opened k e = tt
open_any (Busy stage seen read_at tried_at answer) opened k e = (k, e)

module _ (rows : List Row) where
  sane_turned : (p : ℕ) (r next : Process) → Sane rows p r → Turned rows p r next → Sane rows p next
  sane_turned p r next h still = h
  sane_turned p r next h (first_store l) = record { in_file = h.in_file; works = tt; left = λ _. l }
  sane_turned p r next h (second_store e) = record { in_file = h.in_file; works = tt; left = λ _. h.left (subst Announcing (sym e) tt) }
  sane_turned p r next h (third_store e) = record {
    in_file = λ j x. (let l : r.begun < count rows p = h.left (subst Announcing (sym e) tt) in let same : first rows p + r.begun ≡ j = cc in let f = last_fits rows p in omega arith);
    works = (first rows p + r.begun, refl);
    left = λ x. absurd x;
  }
  sane_turned p r next h (works k q (on e b n)) = record { in_file = λ j x. h.in_file j (sym e ∙ x); works = open_any next.status next.opened k (e ∙ q); left = λ x. absurd (no_store next.status n x) }
  sane_turned p r next h (works k q (ends e i b)) = record {
    in_file = λ j x. closed_open (sym e ∙ x);
    works = subst (λ st. WorkOpen st next.opened) (sym i) tt;
    left = λ x. absurd (subst Announcing i x);
  }

  sane_waked : (p : ℕ) (r : Process) (status : Status) → Sane rows p r → Sane rows p (waked r status)
  sane_waked p r Down h = record { in_file = h.in_file; works = go r.opened refl; left = λ x. absurd (quiet r.opened x) }
    where
      go : (o : Option ℕ) → r.opened ≡ o → WorkOpen (woken_up o) r.opened
      go None q = tt
      go (Some k) q = (k, q)

      quiet : (o : Option ℕ) → Announcing (woken_up o) → ⊥
      quiet None x = x
      quiet (Some k) x = x
  sane_waked p r Idle h = h
  sane_waked p r N2 h = h
  sane_waked p r N3 h = h
  sane_waked p r (Busy stage seen read_at tried_at answer) h = h

  -- no index is out of range (R256): whatever the bytes, if it is so before them, an open row is a row of the file, in the midst of work a row is
  -- open, and a row that is announced is there
  pub sane_after : (t : ℕ) (bytes : List ℕ) (s : State) → ((q : ℕ) → Sane rows q (proc_at q s)) → (q : ℕ) → Sane rows q (proc_at q (after rows t bytes s))
  sane_after = each_after rows (Sane rows) sane_turned (λ p r h. record { in_file = h.in_file; works = tt; left = λ x. absurd x }) (λ p r h. sane_waked p r r.status h)

  -- and so after every schedule from the start
  pub sane : (P : ℕ) (words bytes : List ℕ) (q : ℕ) → Sane rows q (proc_at q (after rows 0 bytes (begin P words)))
  unfolding begin proc_at
  sane P words bytes q = sane_after 0 bytes (begin P words) (λ q. rw (fresh_at P q) (sane_idle rows q)) q
