-- A power cut, in whatever state: each process that is there is down, and of its record nothing is lost that is kept (R133, R84); words, log and
-- answers are as they were (R134). So whatever was in the midst of work is to be recovered.
use Rattle.std.specs.Prelude.{ℕ, ◌≤◌, ◌<◌, ◌≡◌, refl, Bool, true, false, List, [], map, ltb, length}
use Rattle.std.proofs.Math.Path.{sym}
use Rattle.std.proofs.Common.{◌∙◌, ap, append-nil, ltb-true, ltb-false}
use Rattle.std.proofs.lemmas.List.{length-map}
use Rattle.std.proofs.Math.ListN.{get_or-eq_default}
use Rattle.runfile.specs.declared.Row.{Row}
use Rattle.machine.specs.declared.Process.{Process}
use Rattle.machine.specs.Records.{fresh, crashed}
use Rattle.machine.specs.Machine.{State, apply, proc_at, act_in, step, step_in}
use Rattle.machine.specs.OneByte.{all_down}
use Rattle.power_cut.specs.Statement.{power_cut}
use Rattle.power_cut.specs.OneByte.{Recovering, AllRecovering}
use Rattle.power_cut.specs.Since.{Since}

module _ (rows : List Row) (t : ℕ) (s : State) where
  abbrev dark : State
  dark = step rows t power_cut s

  -- a record that is there, and one that is not
  pub down : (p : ℕ) → p < length s.processes → proc_at p dark ≡ crashed (proc_at p s)
  down = all_down rows t power_cut s refl

  pub absent : (p : ℕ) → length s.processes ≤ p → (proc_at p dark ≡ fresh) × (proc_at p s ≡ fresh)
  unfolding step_in act_in apply proc_at
  absent p l = (get_or-eq_default (map crashed s.processes) fresh (rw (length-map s.processes crashed) l), get_or-eq_default s.processes fresh l)

  either : (Q : ℕ → Type 0) → ((p : ℕ) → p < length s.processes → Q p) → ((p : ℕ) → length s.processes ≤ p → Q p) → (p : ℕ) → Q p
  either Q here past p = go (ltb p (length s.processes)) refl
    where
      go : (c : Bool) → ltb p (length s.processes) ≡ c → Q p
      go true e = here p (ltb-true p (length s.processes) e)
      go false e = past p (ltb-false p (length s.processes) e)

  pub recovering : AllRecovering rows dark
  recovering =
      either (λ p. Recovering (proc_at p dark).status (proc_at p dark).opened)
      (λ p l. rw (down p l) tt)
      (λ p l. rw (absent p l).0 refl)

  -- what is kept stays
  pub kept : {A : Type 0} (f : Process → A) → ((r : Process) → f (crashed r) ≡ f r) → (p : ℕ) → f (proc_at p dark) ≡ f (proc_at p s)
  kept f same = either (λ p. f (proc_at p dark) ≡ f (proc_at p s)) (λ p l. ap f (down p l) ∙ same (proc_at p s)) (λ p l. ap f ((absent p l).0 ∙ sym (absent p l).1))

  pub since-cut : Since s dark
  unfolding step_in act_in apply
  since-cut =
      record {
        words = refl;
        log = refl;
        new = [];
        answers = sym (append-nil s.answers);
        told = tt;
        begun = kept (λ r. r.begun) (λ r. refl);
        opened = λ q k e. sym (kept (λ r. r.opened) (λ r. refl) q) ∙ e;
      }
