-- Records of one list laid over another: how the panel takes the lent records into a table, and gives them back.
use Rattle.std.specs.Prelude.{ℕ, ◌≡◌, List, ◌++◌, length, take, drop, replicate}
use Rattle.std.proofs.Common.{◌∙◌, ap}
use Rattle.std.proofs.lemmas.List.{append-nil}
use Rattle.std.proofs.Math.Seq.{take-length, drop-length}
use Rattle.machine.specs.declared.Process.{Process}
use Rattle.machine.specs.Records.{nobody}

-- the first n of a, and then b from n on
unfoldable pub laid : ℕ → List Process → List Process → List Process
laid n a b = take n a ++ drop n b

-- a table that holds nobody's record
abbrev pub blank : List Process
blank = replicate 16 nobody

-- a whole list laid over another; and a list laid over a whole one
pub laid-whole : (a b : List Process) → laid (length a) a b ≡ a ++ drop (length a) b
unfolding laid
laid-whole a b = ap (λ (l : List Process). l ++ drop (length a) b) (take-length a)

pub laid_over : (a b : List Process) → laid (length b) a b ≡ take (length b) a
unfolding laid
laid_over a b = ap (λ (l : List Process). take (length b) a ++ l) (drop-length b) ∙ append-nil (take (length b) a)
