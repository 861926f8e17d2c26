-- What it is that two machines of different widths run alike: one whose words have values of a bits, and one whose words have values of b, no fewer, when
-- every word of the second is the first's word rewidened. So a file of version 1 that is widened as it is read prints what it printed.
-- Asked of the rows is that a swap puts in the same at both widths: no advance does, whose sum goes round at another value, and every other row does.
-- One relation between the two states, `Alike`, is kept by every byte (`alike`, in proofs/Widths.antt).
use Prim.Native.Nat.{ℕ, ◌^◌, ◌<◌}
use Rattle.std.specs.Prelude.{◌≡◌}
use Rattle.std.proofs.Math.Path.{subst}
use Rattle.std.proofs.Common.{sym, ◌∙◌}
use mathlib.Core.List.{List, map}
use Rattle.runfile.specs.declared.Row.{Row}
use Rattle.runfile.specs.Kinds.{kind_of, new_in}
use Rattle.runfile.specs.Operations.{row_numbered}
use Rattle.word.specs.Word.{value_in, flips_in}
use Rattle.word.specs.Widths.{rewidened}
use Rattle.machine.specs.declared.Process.{Process}
use Rattle.machine.specs.declared.Status.{Status}
use Rattle.machine.specs.declared.Status.TheVariants.{Down, Idle, N2, N3, Busy}
use Rattle.machine.specs.Records.{with_status}
use Rattle.machine.specs.KindLaws.{NoAdvance, new_put}
use Rattle.machine.specs.Machine.{State}
use Rattle.machine.specs.Absent.{FittingIn}

module _ (a b : ℕ) where
  -- a status, a record and a turn at the second width: the word read and the word put in are rewidened, and all else is as it is
  abbrev pub status_widened : Status → Status
  status_widened Down = Down
  status_widened Idle = Idle
  status_widened N2 = N2
  status_widened N3 = N3
  status_widened (Busy stage seen read_at tried_at answer) = Busy stage (rewidened a b seen) read_at tried_at answer

  abbrev pub record_widened : Process → Process
  record_widened r = with_status (status_widened r.status) r

  -- what is asked of rows: what a swap puts in fits the first width, and is the same at the second
  pub record Agreeing (rows : List Row) : Type 0 where
    pub fits : FittingIn a rows
    pub same : (k v : ℕ) → new_in b (row_numbered rows k) v ≡ new_in a (row_numbered rows k) v

  -- rows that are no advances, and whose new is a value of the first width
  pub agreeing : (rows : List Row) → ((k : ℕ) → NoAdvance (kind_of (row_numbered rows k))) → ((k : ℕ) → (row_numbered rows k).new < 2 ^ a) → Agreeing rows
  agreeing rows none small = record {
    fits = λ k v. subst (λ n. n < 2 ^ a) (sym (new_put a (kind_of (row_numbered rows k)) (row_numbered rows k).new v (none k))) (small k);
    same = λ k v. new_put b (kind_of (row_numbered rows k)) (row_numbered rows k).new v (none k) ∙ sym (new_put a (kind_of (row_numbered rows k)) (row_numbered rows k).new v (none k));
  }

  -- the relation: words and records rewidened one by one, log and answers equal
  pub record Alike (s u : State) : Type 0 where
    pub words : u.words ≡ map (rewidened a b) s.words
    pub processes : u.processes ≡ map record_widened s.processes
    pub log : u.log ≡ s.log
    pub answers : u.answers ≡ s.answers

  -- what it says of all that is printed: the log rows, the answer rows, and of each word the value and the flip bits (R192)
  pub record PrintsAlike (s u : State) : Type 0 where
    pub log : u.log ≡ s.log
    pub answers : u.answers ≡ s.answers
    pub values : map (value_in b) u.words ≡ map (value_in a) s.words
    pub flips : map (flips_in b) u.words ≡ map (flips_in a) s.words
