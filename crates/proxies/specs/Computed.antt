-- Whether each row is on a word of its own proxy, and whether two schedules differ only in the other proxy's bytes, computed; so that instances and wrong
-- machines need no more than to be written out. `proofs/Computed.antt` proves that what passes is so.
use Prim.Native.Nat.{ℕ}
use Rattle.std.specs.Prelude.{Bool, not, ◌&&◌, ◌||◌}
use Rattle.std.proofs.Math.Bool.{true, false}
use mathlib.Core.List.{List, [], ◌∷◌}
use Rattle.std.proofs.Math.Dec.{eqb}
use Rattle.runfile.specs.declared.Row.{Row}
use Rattle.runfile.specs.Actions.{action, named}
use Rattle.proxies.specs.Statement.{Proxy, Split, proxy_of, is_proxy, owns}
use Rattle.proxies.specs.Bytes.{is_all}

module _ (split : Split) where
  -- each row is on a word of its own proxy
  unfoldable pub all_own : List Row → Bool
  all_own [] = true
  all_own (row ∷ rows) = is_proxy (proxy_of split.words row.word) (proxy_of split.processes row.process) && all_own rows

  module _ (x : Proxy) where
    unfoldable pub other_byte : ℕ → Bool
    other_byte byte = not (is_all (action byte)) && not (owns x split.processes (named byte))

    -- byte by byte the same, or both of the other proxy
    unfoldable pub replaced : List ℕ → List ℕ → Bool
    replaced [] [] = true
    replaced [] (d ∷ m) = false
    replaced (c ∷ l) [] = false
    replaced (c ∷ l) (d ∷ m) = (eqb c d || (other_byte c && other_byte d)) && replaced l m
