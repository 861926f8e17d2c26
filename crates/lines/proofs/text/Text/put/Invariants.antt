-- `put` meets its contract. Invariant: what is still to be put, from here on, gives the whole; as many are put as had room.
use Rattle.std.proofs.Common.{◌≡◌, ◌+◌, ◌-◌, ◌≤◌, length, drop}
use lib.Seq.{sets}
use Rattle.lines.proofs.text.Text.put.Given as goal

abbrev pub invariant-loop-byte : goal.invariant-loop-byte
invariant-loop-byte l =
    (l.end ≡ l.initial.end + l.byte-index)
    × (l.byte-index ≤ length l.initial.self.room.now - l.initial.end)
    × (length l.self.room.now ≡ length l.initial.self.room.now)
    × (sets l.self.room.now l.end (drop l.byte-index l.bytes) ≡ sets l.initial.self.room.now l.initial.end l.bytes)
