-- Two tables in order of process (R50) that have the same rows of this proxy, and as many rows, differ row by row in rows of the other proxy only. For the
-- rows of proxy one come first: where a row of this proxy met one of the other, one of the two tables would have too many.
use Rattle.std.specs.Prelude.{ℕ, suc, ◌≤◌, ◌<◌, ◌≡◌, refl, Bool, true, false, cond, List, [], ◌∷◌, length}
use Rattle.std.proofs.Common.{sym, ◌∙◌, ap, arith}
use Rattle.runfile.specs.declared.Row.{Row}
use Rattle.runfile.specs.Operations.{row_numbered}
use Rattle.replay.specs.Lists.{All, all_map, keep, keep_all, keep_none}
use Rattle.proxies.specs.Statement.{Proxy, one, two, Split, owns, Paired, Replaced, same, other, rows_of}
use Rattle.proxies.specs.Parts.{above_one, above_two, is_above_one, is_above_two}

-- no row has a smaller process than the row in front of it (R50)
abbrev pub Rising : List Row → Type 0
Rising rows = (k : ℕ) → suc k < length rows → (row_numbered rows k).process ≤ (row_numbered rows (suc k)).process

rising_rest : (r : Row) (rows : List Row) → Rising (r ∷ rows) → Rising rows
unfolding row_numbered
rising_rest r rows h k l = h (suc k) (omega arith)

all_above : (r : Row) (rows : List Row) → Rising (r ∷ rows) → All (λ q. r.process ≤ q.process) rows
unfolding row_numbered
all_above r [] h = tt
all_above r (q ∷ rows) h =
    let l : r.process ≤ q.process = h 0 (omega arith) in
    (l, all_map (λ z. q.process ≤ z.process) (λ z. r.process ≤ z.process) (λ z m. omega arith) rows (all_above q rows (rising_rest r (q ∷ rows) h)))

head : {r q : Row} {k l : List Row} → r ∷ k ≡ q ∷ l → r ≡ q
head e = cc

tail : {r q : Row} {k l : List Row} → r ∷ k ≡ q ∷ l → k ≡ l
tail e = cc

some_none : {r : Row} {k : List Row} → r ∷ k ≡ [] → ⊥
some_none e = let z : ◌≡◌ {A = ℕ} 0 1 = cc in omega arith

fewer : (f : Row → Bool) (l : List Row) → length (keep f l) ≤ length l
fewer f [] = omega arith
fewer f (r ∷ l) = go (f r) (fewer f l)
  where
    go : (c : Bool) → length (keep f l) ≤ length l → length (cond c (r ∷ keep f l) (keep f l)) ≤ suc (length l)
    go true h = omega arith
    go false h = omega arith

module _ (split : Split) where
  -- a row of the other proxy than x
  abbrev pub OtherRow : Proxy → Row → Type 0
  OtherRow x row = owns x split.processes row.process ≡ false

  -- r is of this proxy, r' is of the other
  mixed : (x : Proxy) (r r' : Row) (rows rows' : List Row) → Rising (r ∷ rows) → Rising (r' ∷ rows') → owns x split.processes r.process ≡ true → owns x split.processes r'.process ≡ false
      → r ∷ rows_of split x rows ≡ rows_of split x rows' → length rows ≡ length rows' → ⊥
  mixed one r r' rows rows' o o' c c' e n =
      let l : split.processes ≤ r'.process = above_one split.processes r'.process c' in
      some_none (e ∙ keep_none _ rows' (all_map (λ q. r'.process ≤ q.process) (λ q. owns one split.processes q.process ≡ false) (λ q m. is_above_one split.processes q.process (omega arith)) rows' (all_above r' rows' o')))
  mixed two r r' rows rows' o o' c c' e n =
      let l : split.processes ≤ r.process = above_two split.processes r.process c in
      let all : rows_of split two rows ≡ rows = keep_all _ rows (all_map (λ q. r.process ≤ q.process) (λ q. owns two split.processes q.process ≡ true) (λ q m. is_above_two split.processes q.process (omega arith)) rows (all_above r rows o)) in
      let many : suc (length rows) ≡ length (rows_of split two rows') = ap (λ l. suc (length l)) (sym all) ∙ ap length e in
      let few : length (rows_of split two rows') ≤ length rows' = fewer (λ r. owns two split.processes r.process) rows' in
      omega arith

  pub row_by_row : (x : Proxy) (rows rows' : List Row) → Rising rows → Rising rows' → rows_of split x rows ≡ rows_of split x rows' → length rows ≡ length rows' → Paired (Replaced (OtherRow x)) rows rows'
  row_by_row x [] [] o o' e n = tt
  row_by_row x [] (r' ∷ rows') o o' e n = absurd (omega arith)
  row_by_row x (r ∷ rows) [] o o' e n = absurd (omega arith)
  row_by_row x (r ∷ rows) (r' ∷ rows') o o' e n =
      go (owns x split.processes r.process) refl (owns x split.processes r'.process) refl e (λ q. row_by_row x rows rows' (rising_rest r rows o) (rising_rest r' rows' o') q (omega arith))
    where
      go : (c : Bool) → owns x split.processes r.process ≡ c → (d : Bool) → owns x split.processes r'.process ≡ d
          → cond c (r ∷ rows_of split x rows) (rows_of split x rows) ≡ cond d (r' ∷ rows_of split x rows') (rows_of split x rows')
          → (rows_of split x rows ≡ rows_of split x rows' → Paired (Replaced (OtherRow x)) rows rows')
          → Paired (Replaced (OtherRow x)) (r ∷ rows) (r' ∷ rows')
      go true c true d e ih = (same (head e), ih (tail e))
      go true c false d e ih = absurd (mixed x r r' rows rows' o o' c d e (omega arith))
      go false c true d e ih = absurd (mixed x r' r rows' rows o' o d c (sym e) (omega arith))
      go false c false d e ih = (other c d, ih e)
