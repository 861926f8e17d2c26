-- The claim of change request 8: what a proxy sees of two accepted inputs that differ only in the other proxy is the same, after every byte and at the
-- end, whichever of the two proxies it is. By induction over the two schedules: both bytes are of the other proxy and touch nothing on this one's
-- side, or they are the same byte and do the same to both sides.
use Rattle.std.specs.Prelude.{ℕ, zero, suc, ◌≡◌, take}
use Rattle.std.proofs.Math.Path.{refl}
use Rattle.std.proofs.Common.{sym, ◌∙◌, ap}
use mathlib.Core.List.{List, [], ◌∷◌}
use Rattle.machine.specs.Machine.{State, step, after, after_in, begin}
use Rattle.replay.specs.Lists.{All}
use Rattle.demand3.specs.Statement.{state_after, end_state}
use Rattle.demand3.specs.FlipBit.{flip_bit, through-after}
use Rattle.proxies.specs.Statement.{Proxy, Split, Input, Paired, Replaced, same, other, OnOwnWord, Accepted, OtherByte, DifferOnlyInOther, UnseenThroughout, Unseen}
use Rattle.proxies.specs.Bytes.{Whose, everyone, own, others, whose}
use Rattle.proxies.specs.Sides.{side, side_same}
use Rattle.proxies.proofs.Sides.{side-seen}
use Rattle.proxies.specs.Rows.{OtherRow, row_by_row}
use Rattle.proxies.specs.Tables.{all_rows}
use Rattle.proxies.specs.Owners.{Tidy, Known, tidy, known_step, known_begin}
use Rattle.proxies.proofs.OneByte.{byte_other, byte-same, byte_all}

paired-take : {A : Type 0} (Q : A → A → Type 0) (n : ℕ) (l m : List A) → Paired Q l m → Paired Q (take n l) (take n m)
paired-take Q zero l m h = tt
paired-take Q (suc n) [] [] h = tt
paired-take Q (suc n) [] (y ∷ m) h = absurd h
paired-take Q (suc n) (x ∷ l) [] h = absurd h
paired-take Q (suc n) (x ∷ l) (y ∷ m) h = (h.0, paired-take Q n l m h.1)

module _ (split : Split) (P : ℕ) (x : Proxy) (i j : Input) (a : Accepted split P i) (b : Accepted split P j) (differ : DifferOnlyInOther split x i j) where
  -- the two tables, row by row; and each row is on a word of its own proxy
  tables : Paired (Replaced (OtherRow split x)) i.rows j.rows
  tables = row_by_row split x i.rows j.rows a.plan.order b.plan.order differ.own_rows differ.as_many_rows

  on_i : All (OnOwnWord split) i.rows
  on_i = all_rows (OnOwnWord split) i.rows a.own_words

  on_j : All (OnOwnWord split) j.rows
  on_j = all_rows (OnOwnWord split) j.rows b.own_words

  -- a byte of each schedule, at position t
  module _ (t : ℕ) (s s' : State) (h : Tidy i.rows s) (h' : Tidy j.rows s') (look : side split x s ≡ side split x s') where
    both_other : (c d : ℕ) → OtherByte split x c → OtherByte split x d → side split x (step i.rows t c s) ≡ side split x (step j.rows t d s')
    both_other c d f g = byte_other split x i.rows on_i t c s h f ∙ look ∙ sym (byte_other split x j.rows on_j t d s' h' g)

    the_same : (c : ℕ) → side split x (step i.rows t c s) ≡ side split x (step j.rows t c s')
    the_same c = go (whose split x c)
      where
        go : Whose split x c → side split x (step i.rows t c s) ≡ side split x (step j.rows t c s')
        go (everyone e) = byte_all split x i.rows j.rows on_i on_j tables t s s' h h' look c e
        go (own n o) = byte-same split x i.rows j.rows on_i on_j tables t s s' h h' look c o
        go (others o) = both_other c c o o

    one_byte : (c d : ℕ) → Replaced (OtherByte split x) c d → side split x (step i.rows t c s) ≡ side split x (step j.rows t d s')
    one_byte c d (same e) = the_same c ∙ ap (λ d. side split x (step j.rows t d s')) e
    one_byte c d (other f g) = both_other c d f g

  -- it is so of states that the two runs can come to
  pub next_side : (t c d : ℕ) → Replaced (OtherByte split x) c d → (s s' : State) → Known i.rows i.words P a.plan t s → Known j.rows j.words P b.plan t s'
      → side split x s ≡ side split x s' → side split x (step i.rows t c s) ≡ side split x (step j.rows t d s')
  next_side t c d q s s' k k' e = one_byte t s s' (tidy i.rows i.words P a.plan t s k) (tidy j.rows j.words P b.plan t s' k') e c d q

  both : (t : ℕ) (l m : List ℕ) → Paired (Replaced (OtherByte split x)) l m → (s s' : State) → Known i.rows i.words P a.plan t s → Known j.rows j.words P b.plan t s'
      → side split x s ≡ side split x s' → side split x (after i.rows t l s) ≡ side split x (after j.rows t m s')
  unfolding after_in
  both t [] [] p s s' k k' e = e
  both t [] (d ∷ m) p s s' k k' e = absurd p
  both t (c ∷ l) [] p s s' k k' e = absurd p
  both t (c ∷ l) (d ∷ m) (q, p) s s' k k' e =
      both (suc t) l m p (step i.rows t c s) (step j.rows t d s') (known_step i.rows i.words P a.plan t s k c) (known_step j.rows j.words P b.plan t s' k' d)
      (next_side t c d q s s' k k' e)

  at_first : side split x (begin P i.words) ≡ side split x (begin P j.words)
  unfolding begin
  at_first = side_same differ.own_words refl refl refl

  -- the two schedules, or as many bytes of each
  bytes_same : (l m : List ℕ) → Paired (Replaced (OtherByte split x)) l m → side split x (end_state (flip_bit i.rows P i.words) l) ≡ side split x (end_state (flip_bit j.rows P j.words) m)
  bytes_same l m p =
      ap (side split x) (through-after i.rows P i.words 0 l (begin P i.words))
      ∙ both 0 l m p (begin P i.words) (begin P j.words) (known_begin i.rows i.words P a.plan) (known_begin j.rows j.words P b.plan) at_first
      ∙ sym (ap (side split x) (through-after j.rows P j.words 0 m (begin P j.words)))

  -- its whole side is the same, the records of its processes too
  pub side_throughout : (n : ℕ) → side split x (state_after (flip_bit i.rows P i.words) i.schedule n) ≡ side split x (state_after (flip_bit j.rows P j.words) j.schedule n)
  side_throughout n = bytes_same (take n i.schedule) (take n j.schedule) (paired-take (Replaced (OtherByte split x)) n i.schedule j.schedule differ.schedule)

  pub side-at_end : side split x (end_state (flip_bit i.rows P i.words) i.schedule) ≡ side split x (end_state (flip_bit j.rows P j.words) j.schedule)
  side-at_end = bytes_same i.schedule j.schedule differ.schedule

-- the claim, for either proxy, wherever the split is and for any number of processes
pub unseen_throughout : (split : Split) (P : ℕ) (x : Proxy) → UnseenThroughout split x step P
unseen_throughout split P x i j a b differ n = side-seen split x _ _ (side_throughout split P x i j a b differ n)

pub unseen : (split : Split) (P : ℕ) (x : Proxy) → Unseen split x step P
unseen split P x i j a b differ = side-seen split x _ _ (side-at_end split P x i j a b differ)
