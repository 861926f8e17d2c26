-- Two tables of rows that differ only in the other proxy's rows: a row of this proxy is the same in both, and its processes' rows have the same numbers.
-- Row by row.
use Prim.Native.Nat.{ℕ, zero, suc, ◌<◌}
use Rattle.std.specs.Prelude.{◌≡◌, Bool, true, false, ◌&&◌, eqb, ltb, length}
use Rattle.std.proofs.Math.Path.{refl, ap, ap₂}
use Rattle.std.proofs.Common.{sym, ◌∙◌, true≢false, arith, eqb-true, ne_eqb}
use Rattle.std.proofs.Math.Bool.{cond}
use mathlib.Core.List.{List, [], ◌∷◌}
use Rattle.runfile.specs.declared.Row.{Row}
use Rattle.runfile.specs.Operations.{row_numbered, first, count, names}
use Rattle.rows.specs.declared.Entry.{Entry}
use Rattle.rows.specs.Entries.{said, is_swapped}
use Rattle.rows.specs.Log.{is_swap}
use Rattle.replay.specs.Lists.{All}
use Rattle.proxies.specs.Statement.{Proxy, Split, owns, Paired, Replaced, same, other}
use Rattle.proxies.specs.Rows.{OtherRow}
use Rattle.proxies.specs.Parts.{apart, other_side}

-- whether an entry is a successful swap on word w asks of the table only whether the entry's row number names a row on it
pub swap_unnamed : (rows : List Row) (w a : ℕ) (e : Entry) → names rows e.row w ≡ false → is_swap rows w a e ≡ false
unfolding is_swap
swap_unnamed rows w a e n = rw n (go (is_swapped (said e)) (ltb a e.position))
  where
    go : (b c : Bool) → (b && (c && false)) ≡ false
    go true true = refl
    go true false = refl
    go false c = refl

pub swap_by_name : (rows rows' : List Row) (w a : ℕ) (e : Entry) → names rows e.row w ≡ names rows' e.row w → is_swap rows w a e ≡ is_swap rows' w a e
unfolding is_swap
swap_by_name rows rows' w a e n = ap (λ c. is_swapped (said e) && (ltb a e.position && c)) n

-- what holds of each row that is there, by its number and all along
pub all_rows : (Q : Row → Type 0) (rows : List Row) → ((k : ℕ) → k < length rows → Q (row_numbered rows k)) → All Q rows
unfolding row_numbered
all_rows Q [] h = tt
all_rows Q (row ∷ rows) h = (h 0 (omega arith), all_rows Q rows (λ k l. h (suc k) (omega arith)))

pub row_has : (Q : Row → Type 0) (rows : List Row) → All Q rows → (k : ℕ) → k < length rows → Q (row_numbered rows k)
unfolding row_numbered
row_has Q [] h k l = absurd (omega arith)
row_has Q (row ∷ rows) h zero l = h.0
row_has Q (row ∷ rows) h (suc k) l = row_has Q rows h.1 k (omega arith)

-- a row number that names a row on word w
pub named_there : (rows : List Row) (k w : ℕ) → names rows k w ≡ true → (k < length rows) × ((row_numbered rows k).word ≡ w)
unfolding names row_numbered
named_there [] k w e = absurd (true≢false (sym e))
named_there (row ∷ rows) zero w e = (omega arith, eqb-true row.word w e)
named_there (row ∷ rows) (suc k) w e = let h = named_there rows k w e in let l : k < length rows = h.0 in (omega arith, h.1)

module _ (split : Split) (x : Proxy) where
  abbrev Tables : List Row → List Row → Type 0
  Tables = Paired (Replaced (OtherRow split x))

  pub row_same : (rows rows' : List Row) → Tables rows rows' → (k : ℕ) → k < length rows → owns x split.processes (row_numbered rows k).process ≡ true → row_numbered rows k ≡ row_numbered rows' k
  unfolding row_numbered
  row_same [] rows' h k l o = absurd (omega arith)
  row_same (r ∷ rows) [] h k l o = absurd h
  row_same (r ∷ rows) (r' ∷ rows') (same e, h) zero l o = e
  row_same (r ∷ rows) (r' ∷ rows') (other a b, h) zero l o = absurd (true≢false (sym o ∙ a))
  row_same (r ∷ rows) (r' ∷ rows') (d, h) (suc k) l o = row_same rows rows' h k (omega arith) o

  module _ (p : ℕ) (own : owns x split.processes p ≡ true) where
    below-same : (r r' : Row) → Replaced (OtherRow split x) r r' → ltb r.process p ≡ ltb r'.process p
    below-same r r' (same e) = ap (λ r. ltb r.process p) e
    below-same r r' (other a b) = other_side x split.processes r.process p a own ∙ sym (other_side x split.processes r'.process p b own)

    mine-same : (r r' : Row) → Replaced (OtherRow split x) r r' → eqb r.process p ≡ eqb r'.process p
    mine-same r r' (same e) = ap (λ r. eqb r.process p) e
    mine-same r r' (other a b) = ne_eqb r.process p (apart x split.processes r.process p a own) ∙ sym (ne_eqb r'.process p (apart x split.processes r'.process p b own))

    pub first-same : (rows rows' : List Row) → Tables rows rows' → first rows p ≡ first rows' p
    unfolding first
    first-same [] [] h = refl
    first-same [] (r' ∷ rows') h = absurd h
    first-same (r ∷ rows) [] h = absurd h
    first-same (r ∷ rows) (r' ∷ rows') (d, h) = ap₂ (λ c n. cond c (suc n) n) (below-same r r' d) (first-same rows rows' h)

    pub count_same : (rows rows' : List Row) → Tables rows rows' → count rows p ≡ count rows' p
    unfolding count
    count_same [] [] h = refl
    count_same [] (r' ∷ rows') h = absurd h
    count_same (r ∷ rows) [] h = absurd h
    count_same (r ∷ rows) (r' ∷ rows') (d, h) = ap₂ (λ c n. cond c (suc n) n) (mine-same r r' d) (count_same rows rows' h)
