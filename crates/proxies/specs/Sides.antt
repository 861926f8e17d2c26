-- A proxy's side of a state: what it sees, and the records of its processes, which no one sees and on which all that it will see depends.
use Rattle.std.specs.Prelude.{◌≡◌, List, ℕ}
use Rattle.rows.specs.declared.Entry.{Entry}
use Rattle.machine.specs.declared.Process.{Process}
use Rattle.machine.specs.Machine.{State}
use Rattle.proxies.specs.Statement.{Proxy, Split, part, entries_of}

pub record Side : Type 0 where
  pub words : List ℕ
  pub records : List Process
  pub log : List Entry
  pub answers : List Entry

pub side_same : {w w' : List ℕ} {r r' : List Process} {l l' a a' : List Entry} → w ≡ w' → r ≡ r' → l ≡ l' → a ≡ a'
    → ◌≡◌ {A = Side} (record { words = w; records = r; log = l; answers = a }) (record { words = w'; records = r'; log = l'; answers = a' })
side_same e f g h = λ i. record { words = e i; records = f i; log = g i; answers = h i }

module _ (split : Split) (x : Proxy) where
  abbrev pub side : State → Side
  side s = record { words = part x split.words s.words; records = part x split.processes s.processes; log = entries_of split x s.log; answers = entries_of split x s.answers }
