-- What a process at A5, A6 or V5 has: at A5 a lost swap has the swap that beat it in the log (R254); and at none of them is the answer missing (R127).
-- Both are read off the invariant's lines for these stages.
use Rattle.std.specs.Prelude.{ℕ, ◌+◌, ◌<◌, ◌≡◌, Bool, List, map, length, Option, Some, None}
use Rattle.std.proofs.Common.{sym, ◌∙◌, subst, true≢false, arith, eq-eqb}
use Rattle.runfile.specs.declared.Row.{Row}
use Rattle.runfile.specs.Operations.{row_numbered}
use Rattle.runfile.specs.Kinds.{kind_of}
use Rattle.word.specs.Word.{value}
use Rattle.rows.specs.declared.Entry.{Entry}
use Rattle.rows.specs.Log.{is_swap}
use Rattle.machine.specs.declared.Process.{Process}
use Rattle.machine.specs.declared.Kept.{Kept}
use Rattle.machine.specs.declared.Answer.{Answer}
use Rattle.machine.specs.declared.Answer.TheVariants.{False}
use Rattle.machine.specs.declared.Stage.{Stage}
use Rattle.machine.specs.declared.Stage.TheVariants.{A5, A6, V5}
use Rattle.machine.specs.declared.Status.TheVariants.{Busy}
use Rattle.machine.specs.Machine.{State, proc_at, after, begin}
use Rattle.replay.specs.Lists.{keep-found}
use Rattle.replay.specs.Replay.{first_swap_lem}
use Rattle.demand3.specs.FlipBit.{Beaten}
use Rattle.demand3.specs.Invariant.{Times, has_swapped, HasSwap, Pending, won, held, lost, BusyOk, working, StatusOk}
use Rattle.demand3.specs.Plans.{Plan}
use Rattle.demand3.specs.Answers.{answer_false, answer_never, says_not_false}
use Rattle.demand3.specs.Own.{open_same}
use Rattle.demand3.specs.Order.{Always, inv}

none_is : {a : Answer} → None ≡ Some a → ⊥
none_is e = let z : ◌≡◌ {A = ℕ} 0 1 = cc in omega arith

module _ (rows : List Row) (start : List ℕ) (Late : Times) (p k t a x : ℕ) (log : List Entry) (has : Bool) (kept : Kept) where
  pub beaten_of : HasSwap rows start (row_numbered rows k).word a log → Beaten rows (row_numbered rows k).word a log
  beaten_of h =
      record {
        by = h.entry;
        front_most = keep-found (is_swap rows (row_numbered rows k).word a) log h.entry h.rest h.is;
        position = λ otherwise. first_swap_lem rows (row_numbered rows k).word a otherwise log h.entry h.rest h.is;
      }

  pub lost_found : Pending rows start Late p k t a x log has kept (Some False) → value x ≡ (row_numbered rows k).old → Beaten rows (row_numbered rows k).word a log
  lost_found (won e h) old = absurd (says_not_false (kind_of (row_numbered rows k)) kept.value e)
  lost_found (held seen s n h) old = absurd (true≢false (sym (sym (answer_false (row_numbered rows k) (value x) s) ∙ eq-eqb (value x) (row_numbered rows k).old old)))
  lost_found (lost seen e r o h n) old = beaten_of h

  pub pending_some : Pending rows start Late p k t a x log has kept None → ⊥
  pending_some (won e h) = none_is e
  pending_some (held seen s n h) = answer_never (row_numbered rows k) (value x) s
  pending_some (lost seen e r o h n) = none_is e

module _ (rows : List Row) (words : List ℕ) (P : ℕ) (plan : Plan P (length words) rows) (bytes : List ℕ) (p : ℕ) (here : p < P) where
  abbrev s : State
  s = after rows 0 bytes (begin P words)

  abbrev r : Process
  r = proc_at p s

  -- what the invariant has of the stage
  at_stage : (stage : Stage) (x a ta : ℕ) (ans : Option Answer) → r.status ≡ Busy stage x a ta ans → BusyOk rows (map value words) Always p (0 + length bytes) s.words s.log r stage x a ans
  at_stage stage x a ta ans e = subst (λ st. StatusOk rows (map value words) Always p (0 + length bytes) s.words s.log r st) e ((inv rows words P plan bytes).local p here).work

  pub beaten : (k x a ta : ℕ) → r.opened ≡ Some k → r.status ≡ Busy A5 x a ta (Some False) → value x ≡ (row_numbered rows k).old → Beaten rows (row_numbered rows k).word a s.log
  beaten k x a ta o e old = go (at_stage A5 x a ta (Some False) e)
    where
      go : BusyOk rows (map value words) Always p (0 + length bytes) s.words s.log r A5 x a (Some False) → Beaten rows (row_numbered rows k).word a s.log
      go (working j q h) =
          let same : j ≡ k = open_same rows (map value words) Always q o in
          lost_found rows (map value words) Always p k (0 + length bytes) a x s.log (has_swapped rows (map value words) p k s.words r) r.kept
          (subst (λ j. Pending rows (map value words) Always p j (0 + length bytes) a x s.log (has_swapped rows (map value words) p j s.words r) r.kept (Some False)) same h.1) old

  -- where an answer is stored or returned, at A5, A6 and V5, there is one (R127)
  pub stores_some : (x a ta : ℕ) → r.status ≡ Busy A5 x a ta None → ⊥
  stores_some x a ta e = go (at_stage A5 x a ta None e)
    where
      go : BusyOk rows (map value words) Always p (0 + length bytes) s.words s.log r A5 x a None → ⊥
      go (working k o h) = pending_some rows (map value words) Always p k (0 + length bytes) a x s.log (has_swapped rows (map value words) p k s.words r) r.kept h.1

  pub returns_some : (x a ta : ℕ) → r.status ≡ Busy A6 x a ta None → ⊥
  returns_some x a ta e = go (at_stage A6 x a ta None e)
    where
      go : BusyOk rows (map value words) Always p (0 + length bytes) s.words s.log r A6 x a None → ⊥
      go (working k o h) = none_is h.2

  pub recovers_some : (x a ta : ℕ) (ans : Option Answer) → r.status ≡ Busy V5 x a ta ans → r.stored ≡ None → ⊥
  recovers_some x a ta ans e n = go (at_stage V5 x a ta ans e)
    where
      go : BusyOk rows (map value words) Always p (0 + length bytes) s.words s.log r V5 x a ans → ⊥
      go (working k o h) = none_is (sym n ∙ h.1)
