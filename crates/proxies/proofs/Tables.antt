-- In two tables of rows that differ only in the other proxy's rows, each row on a word of its own proxy, the same row numbers name rows on this proxy's
-- words. Row by row.
use Prim.Native.Nat.{ℕ, zero, suc}
use Rattle.std.specs.Prelude.{◌≡◌, true, eqb}
use Rattle.std.proofs.Math.Path.{refl, ap}
use Rattle.std.proofs.Common.{sym, ◌∙◌, ne_eqb}
use mathlib.Core.List.{List, [], ◌∷◌}
use Rattle.runfile.specs.declared.Row.{Row}
use Rattle.runfile.specs.Operations.{names}
use Rattle.replay.specs.Lists.{All}
use Rattle.proxies.specs.Statement.{Proxy, Split, is_proxy, owns, Paired, Replaced, same, other, OnOwnWord}
use Rattle.proxies.specs.Rows.{OtherRow}
use Rattle.proxies.specs.Parts.{apart}

module _ (split : Split) (x : Proxy) where
  -- the word of a row is on the side of its process
  pub on_side : (row : Row) → OnOwnWord split row → owns x split.words row.word ≡ owns x split.processes row.process
  unfolding owns
  on_side row h = ap (is_proxy x) h

  module _ (w : ℕ) (own : owns x split.words w ≡ true) where
    on_same : (r r' : Row) → OnOwnWord split r → OnOwnWord split r' → Replaced (OtherRow split x) r r' → eqb r.word w ≡ eqb r'.word w
    on_same r r' a a' (same e) = ap (λ r. eqb r.word w) e
    on_same r r' a a' (other b b') = ne_eqb r.word w (apart x split.words r.word w (on_side r a ∙ b) own) ∙ sym (ne_eqb r'.word w (apart x split.words r'.word w (on_side r' a' ∙ b') own))

    pub names_same : (rows rows' : List Row) → All (OnOwnWord split) rows → All (OnOwnWord split) rows' → Paired (Replaced (OtherRow split x)) rows rows' → (k : ℕ) → names rows k w ≡ names rows' k w
    unfolding names
    names_same [] [] a a' h k = refl
    names_same [] (r' ∷ rows') a a' h k = absurd h
    names_same (r ∷ rows) [] a a' h k = absurd h
    names_same (r ∷ rows) (r' ∷ rows') a a' (d, h) zero = on_same r r' a.0 a'.0 d
    names_same (r ∷ rows) (r' ∷ rows') a a' (d, h) (suc k) = names_same rows rows' a.1 a'.1 h k
