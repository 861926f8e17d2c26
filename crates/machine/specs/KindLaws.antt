-- Laws of what goes by the kind of a row: the lines of `Steps` that A1, A2, A4 and V4 look up. Each is shown by the kinds.
use Rattle.std.specs.Prelude.{ℕ, ◌≡◌, refl, Bool, true, false, cond, eqb, Option, Some, None}
use Rattle.std.proofs.Common.{eqb-true}
use Rattle.runfile.specs.declared.Row.{Row}
use Rattle.runfile.specs.declared.Kind.{Kind}
use Rattle.runfile.specs.declared.Kind.TheVariants.{Read, Compare, Advance}
use Rattle.runfile.specs.Kinds.{kind_numbered, kind_of, new_by_in, new_of}
use Rattle.word.specs.Word.{value, swapped}
use Rattle.rows.specs.Entries.{is_swapped}
use Rattle.machine.specs.declared.Process.{Process}
use Rattle.machine.specs.declared.Kept.{Kept}
use Rattle.machine.specs.declared.Stage.TheVariants.{A1, A2, A5}
use Rattle.machine.specs.declared.Answer.{Answer}
use Rattle.machine.specs.declared.Answer.TheVariants.{False, True, Value, Was}
use Rattle.machine.specs.declared.Status.{Status}
use Rattle.machine.specs.declared.Status.TheVariants.{Busy}
use Rattle.machine.specs.Turn.{Turn, Quiet, Swaps, Logs, Loses}
use Rattle.machine.specs.Records.{with_status}
use Rattle.machine.specs.Steps.{spoken, kept_by, read_by, after_read, swap_says, lost_by, tried, tried_in, storing, storing_in}

-- the kinds that are no advance; a row whose number of kind is not 2 has one of them
abbrev pub NoAdvance : Kind → Type 0
NoAdvance Read = Unit
NoAdvance Compare = Unit
NoAdvance Advance = ⊥

pub no_advance : (number : ℕ) → (number ≡ 2 → ⊥) → NoAdvance (kind_numbered number)
no_advance number other = go (eqb number 0) (eqb number 2) refl
  where
    go : (a b : Bool) → eqb number 2 ≡ b → NoAdvance (cond a Read (cond b Advance Compare))
    go true b e = tt
    go false true e = other (eqb-true number 2 e)
    go false false e = tt

-- Of such a kind a swap says true and puts in new, whatever it found; a lost one is false; and A2 leaves the kept value as it was (R112, R114).
pub says_true : (kind : Kind) (v : ℕ) → NoAdvance kind → swap_says kind v ≡ True
says_true Read v n = refl
says_true Compare v n = refl
says_true Advance v n = absurd n

pub new_put : (b : ℕ) (kind : Kind) (new v : ℕ) → NoAdvance kind → new_by_in b kind new v ≡ new
new_put b Read new v n = refl
new_put b Compare new v n = refl
new_put b Advance new v n = absurd n

pub loss_false : (kind : Kind) (seen read_at t : ℕ) → NoAdvance kind → lost_by kind seen read_at t ≡ Busy A5 seen read_at t (Some False)
loss_false Read seen read_at t n = refl
loss_false Compare seen read_at t n = refl
loss_false Advance seen read_at t n = absurd n

pub value-left : (kind : Kind) (before : Kept) (bit : Bool) (v : ℕ) → NoAdvance kind → (kept_by kind before bit v).value ≡ before.value
value-left Read before bit v n = refl
value-left Compare before bit v n = refl
value-left Advance before bit v n = absurd n

-- Of every kind A2 keeps the bit, in the same store.
pub bit_kept : (kind : Kind) (before : Kept) (bit : Bool) (v : ℕ) → (kept_by kind before bit v).bit ≡ bit
bit_kept Read before bit v = refl
bit_kept Compare before bit v = refl
bit_kept Advance before bit v = refl

-- What a swap says tells of a successful swap; when it is stored, it is in the log already.
pub says-swapped : (kind : Kind) (v : ℕ) → is_swapped (spoken (Some (swap_says kind v))) ≡ true
unfolding is_swapped spoken
says-swapped Read v = refl
says-swapped Compare v = refl
says-swapped Advance v = refl

pub says_stored : (kind : Kind) (v : ℕ) (row : Row) (next : Process) (seen read_at tried_at : ℕ) → storing row next seen read_at tried_at (Some (swap_says kind v)) ≡ Quiet next
unfolding storing_in
says_stored Read v row next seen read_at tried_at = refl
says_stored Compare v row next seen read_at tried_at = refl
says_stored Advance v row next seen read_at tried_at = refl

-- what holds of both outcomes of a test
pub either : {A : Type 0} (Q : A → Type 0) (c : Bool) (x y : A) → Q x → Q y → Q (cond c x y)
either Q true x y a b = a
either Q false x y a b = b

-- Whatever the kind, A1 leads to A2, or with an answer to A5; a lost swap to A5 with false, or back to A1; and A4 to A5 with what the swap says, or to
-- where a lost one leads. A5 leaves the log as it is, or puts into it an answer that tells of no successful swap.
pub read_leads : (Q : Status → Type 0) (row : Row) (now t : ℕ) → Q (Busy A2 now t 0 None) → ((answer : Answer) → Q (Busy A5 now t 0 (Some answer))) → Q (after_read row now t)
read_leads Q row now t goes_on done = go (kind_of row)
  where
    go : (kind : Kind) → Q (read_by kind row.old now t)
    go Read = done (Value (value now))
    go Compare = either Q (eqb (value now) row.old) (Busy A2 now t 0 None) (Busy A5 now t 0 (Some False)) goes_on (done False)
    go Advance = goes_on

pub lost_leads : (Q : Status → Type 0) (kind : Kind) (seen read_at t : ℕ) → Q (Busy A5 seen read_at t (Some False)) → Q (Busy A1 0 0 0 None) → Q (lost_by kind seen read_at t)
lost_leads Q Read seen read_at t false-said back = false-said
lost_leads Q Compare seen read_at t false-said back = false-said
lost_leads Q Advance seen read_at t false-said back = back

pub tried_leads : (Q : Turn → Type 0) (p t : ℕ) (row : Row) (now : ℕ) (r : Process) (seen read_at : ℕ)
    → ((x : ℕ) → Q (Swaps (with_status (Busy A5 seen read_at t (Some (swap_says (kind_of row) (value seen)))) r) x (swap_says (kind_of row) (value seen)))) → Q (Quiet (with_status (lost_by (kind_of row) seen read_at t) r))
    → Q (tried p t row now r seen read_at)
unfolding tried_in
tried_leads Q p t row now r seen read_at won lost = either Q (eqb now seen) _ _ (won (swapped p (new_of row (value seen)) seen)) lost

pub stored_leads : (Q : Turn → Type 0) (row : Row) (next : Process) (seen read_at tried_at : ℕ) (answer : Option Answer)
    → Q (Quiet next) → ((a : Answer) → is_swapped (spoken (Some a)) ≡ false → Q (Logs next read_at a)) → Q (Loses next read_at tried_at) → Q (storing row next seen read_at tried_at answer)
unfolding storing_in is_swapped spoken
stored_leads Q row next seen read_at tried_at None quiet logged lost = quiet
stored_leads Q row next seen read_at tried_at (Some True) quiet logged lost = quiet
stored_leads Q row next seen read_at tried_at (Some (Was v)) quiet logged lost = quiet
stored_leads Q row next seen read_at tried_at (Some (Value v)) quiet logged lost = logged (Value v) refl
stored_leads Q row next seen read_at tried_at (Some False) quiet logged lost = either Q (eqb (value seen) row.old) (Loses next read_at tried_at) (Logs next read_at False) lost (logged False refl)
