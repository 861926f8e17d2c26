-- What the program's own functions promise of a key.
use Rattle.std.specs.Prelude.{ℕ, ◌≡◌, ◌+◌, Result, Ok, Err, OnOk, IfErr}
use Rattle.rows.specs.declared.Counts.{Counts}
use Rattle.panel.specs.declared.Refused.{Refused}
use Rattle.panel.specs.declared.Stroke.{Stroke}
use Rattle.panel.specs.Promises.{Keyed}
use Rattle.bench_panel.specs.declared.bench.BenchPanel.{BenchPanel}

-- `lend_records(self, key)`: what a key comes to over the bench's own records and words, and over the rows
abbrev pub Lends : BenchPanel → Stroke → Result Counts Refused → BenchPanel → Type 0
Lends p key r p' = Keyed p.file.now p.bench.records p.bench.words p.log p.answers key r p'.bench.records p'.bench.words p'.log p'.answers

-- the same file, position and counts, and the same text: what a key is not lent
abbrev pub Stays : BenchPanel → BenchPanel → Type 0
Stays p p' = (p'.file ≡ p.file) × (p'.bench.position ≡ p.bench.position) × (p'.bench.counts ≡ p.bench.counts) × (p'.text ≡ p.text)

-- the key that a byte is at the bench's own position and counts
abbrev pub key_of : BenchPanel → ℕ → Stroke
key_of p byte = record { byte = byte; position = p.bench.position; counts = p.bench.counts }

-- `carry_out(self, byte)`: what that key comes to, over the same file and text; its counts are the bench's and the position goes up, or it is
-- refused, and position and counts stay
abbrev pub Carried : BenchPanel → ℕ → Result (Unit {0}) Refused → BenchPanel → Type 0
Carried p byte r p' = (p'.file ≡ p.file) × (p'.text ≡ p.text)
    × OnOk r (Lends p (key_of p byte) (Ok p'.bench.counts) p' × (p'.bench.position ≡ p.bench.position + 1))
    × IfErr r (λ why. Lends p (key_of p byte) (Err why) p' × (p'.bench.position ≡ p.bench.position) × (p'.bench.counts ≡ p.bench.counts))
