-- When a row is on a word of its own proxy, by the numbers. And an input that passes what `specs/Computed.antt` computes is accepted, and two schedules
-- that pass differ only in the other proxy's bytes: by induction over the rows and over the bytes.
use Prim.Native.Nat.{ℕ, zero, suc, ◌≤◌, ◌<◌}
use Rattle.std.specs.Prelude.{◌≡◌, Bool, cond, not, ◌&&◌, ◌||◌, ltb, length}
use Rattle.std.proofs.Math.Path.{refl}
use Rattle.std.proofs.Common.{sym, true≢false, arith}
use Rattle.std.proofs.Math.Bool.{true, false}
use mathlib.Core.List.{List, [], ◌∷◌}
use Rattle.std.proofs.Math.Dec.{eqb}
use borrow.Author.Tests.{eqb-true, ltb-true, ltb-false, lt-ltb, le-ltb, not-true}
use Rattle.runfile.specs.declared.Row.{Row}
use Rattle.runfile.specs.Actions.{action, named}
use Rattle.runfile.specs.Operations.{row_numbered}
use Rattle.replay.specs.Replay.{both_true_0, both_true_1}
use Rattle.demand3.specs.Planned.{all_pass, planned}
use Rattle.proxies.specs.Statement.{Proxy, one, two, Split, proxy_of, is_proxy, owns, Input, Paired, Replaced, same, other, OnOwnWord, Accepted, OtherByte}
use Rattle.proxies.specs.Bytes.{is_all, not_all}
use Rattle.proxies.specs.Computed.{all_own, other_byte, replaced}

-- refusal 17 is not given for a row of proxy one on a word of proxy one, nor for one of proxy two on a word of proxy two
pub on_own_word : (split : Split) (row : Row) → (row.process < split.processes → row.word < split.words) → (split.processes ≤ row.process → split.words ≤ row.word) → OnOwnWord split row
unfolding proxy_of
on_own_word split row first rest = go (ltb row.process split.processes) refl
  where
    go : (c : Bool) → ltb row.process split.processes ≡ c → cond (ltb row.word split.words) one two ≡ cond c one two
    go true e = rw (lt-ltb row.word split.words (first (ltb-true row.process split.processes e)))
    go false e = rw (le-ltb row.word split.words (rest (ltb-false row.process split.processes e)))

module _ (split : Split) where
  is_proxy_lem : (x y : Proxy) → is_proxy x y ≡ true → x ≡ y
  is_proxy_lem one one e = refl
  is_proxy_lem one two e = absurd (true≢false (sym e))
  is_proxy_lem two one e = absurd (true≢false (sym e))
  is_proxy_lem two two e = refl

  own : (rows : List Row) → all_own split rows ≡ true → (k : ℕ) → k < length rows → OnOwnWord split (row_numbered rows k)
  unfolding all_own row_numbered
  own [] e k l = absurd (omega arith)
  own (row ∷ rows) e zero l = is_proxy_lem _ _ (both_true_0 (is_proxy (proxy_of split.words row.word) (proxy_of split.processes row.process)) (all_own split rows) e)
  own (row ∷ rows) e (suc k) l = own rows (both_true_1 (is_proxy (proxy_of split.words row.word) (proxy_of split.processes row.process)) (all_own split rows) e) k (omega arith)

  pub accepts : (P : ℕ) (i : Input) → 0 < length i.words → all_pass P (length i.words) 0 i.rows ≡ true → all_own split i.rows ≡ true → Accepted split P i
  accepts P i some pass e = record { plan = planned P (length i.words) i.rows some pass; own_words = own i.rows e }

  module _ (x : Proxy) where
    is_other_lem : (byte : ℕ) → other_byte split x byte ≡ true → OtherByte split x byte
    unfolding other_byte
    is_other_lem byte e = (
      not_all (action byte) (not-true (is_all (action byte)) (both_true_0 (not (is_all (action byte))) (not (owns x split.processes (named byte))) e)),
      not-true (owns x split.processes (named byte)) (both_true_1 (not (is_all (action byte))) (not (owns x split.processes (named byte))) e),
    )

    pub is_replaced : (l m : List ℕ) → replaced split x l m ≡ true → Paired (Replaced (OtherByte split x)) l m
    unfolding replaced
    is_replaced [] [] e = tt
    is_replaced [] (d ∷ m) e = absurd (true≢false (sym e))
    is_replaced (c ∷ l) [] e = absurd (true≢false (sym e))
    is_replaced (c ∷ l) (d ∷ m) e =
        (go (eqb c d) refl (both_true_0 (eqb c d || (other_byte split x c && other_byte split x d)) (replaced split x l m) e), is_replaced l m (both_true_1 (eqb c d || (other_byte split x c && other_byte split x d)) (replaced split x l m) e))
      where
        go : (b : Bool) → eqb c d ≡ b → (b || (other_byte split x c && other_byte split x d)) ≡ true → Replaced (OtherByte split x) c d
        go true q e = same (eqb-true c d q)
        go false q e = other (is_other_lem c (both_true_0 (other_byte split x c) (other_byte split x d) e)) (is_other_lem d (both_true_1 (other_byte split x c) (other_byte split x d) e))
