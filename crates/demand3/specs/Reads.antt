-- A log row that tells of no swap has the position of its A1, or, of a lost swap, that of the swap that beat it. A process at A2 to A5 remembers
-- its A1: the state after that byte (`Hist`, kept by every byte); and the one stage that puts such a row into the log is A5.
use Prim.Native.Nat.{ℕ, suc, ◌≤◌, ◌<◌}
use Rattle.std.specs.Prelude.{◌≡◌, cond, ◌&&◌, List, [], ◌∷◌, ◌++◌, map, eqb, ltb, get_or, take, Option, Some, None, ℕ}
use Rattle.std.proofs.Math.Path.{refl, subst}
use Rattle.std.proofs.Common.{sym, ◌∙◌, ap, true≢false, arith, eq-eqb, eqb-true}
use Rattle.std.proofs.Math.Bool.{Bool, true, false}
use Rattle.std.proofs.Math.ListN.{length}
use Rattle.runfile.specs.declared.Row.{Row}
use Rattle.runfile.specs.declared.Kind.{Kind}
use Rattle.runfile.specs.declared.Kind.TheVariants.{Read, Compare, Advance}
use Rattle.runfile.specs.Operations.{row_numbered, count, names}
use Rattle.runfile.specs.Kinds.{kind_of, new_of}
use Rattle.runfile.specs.Actions.{named}
use Rattle.word.specs.Word.{value, bit, swapped}
use Rattle.rows.specs.declared.Entry.{Entry}
use Rattle.rows.specs.Entries.{said, is_swapped}
use Rattle.rows.specs.Log.{is_swap, first_swap, insert}
use Rattle.machine.specs.declared.Process.{Process}
use Rattle.machine.specs.declared.Answer.{Answer}
use Rattle.machine.specs.declared.Answer.TheVariants.{False, True, Value, Was}
use Rattle.machine.specs.declared.Stage.{Stage}
use Rattle.machine.specs.declared.Stage.TheVariants.{A1, A2, A3, A4, A5, A6, V1, V2, V3, V4, V5, V6}
use Rattle.machine.specs.declared.Status.{Status}
use Rattle.machine.specs.declared.Status.TheVariants.{Down, Idle, N2, N3, Busy}
use Rattle.machine.specs.Turn.{Turn, Still, Quiet, Swaps, Logs, Loses}
use Rattle.machine.specs.Records.{waked, woken_up, with_status, with_stored, row_open}
use Rattle.machine.specs.Steps.{spoken, entry, read_by, swap_says, lost_by, recovered, same_bit, decide, at_work, tried_in, storing_in, decide_in, step_turn_in}
use Rattle.machine.specs.KindLaws.{says-swapped}
use Rattle.machine.specs.Machine.{State, quiet, swaps, logs, replies, effect_of, process_of, log_after, proc_at, turn, after, begin, turn_in, after_in}
use Rattle.machine.specs.Laws.{fresh_at}
use Rattle.replay.specs.Lists.{All, all_map, keep, keep_join, keep_none, keep_put_no, Found, keep-found}
use Rattle.replay.specs.Logs.{Put, put, insert_last}
use Rattle.replay.specs.Replay.{GoesOn}
use Rattle.demand3.specs.Statement.{of, owner_of}
use Rattle.demand3.specs.FlipBit.{Beaten, Then, ReadThen, at_read, at_loss}
use Rattle.demand3.specs.Plans.{Plan}
use Rattle.demand3.specs.Moves.{became, log_became, Does, nothing, allowed}
use Rattle.demand3.specs.Order.{Always}
use Rattle.demand3.specs.Lost.{beaten}
use Rattle.demand3.specs.Told.{reached}
use Rattle.demand3.specs.Positions.{open_same, of_all_lem, put_all, at, byte, next, along, end-at, inv_at, opened, owned, what}

found-keep : {A : Type 0} (f : A → Bool) (l : List A) (x : A) (d : Found f l x) → keep f l ≡ x ∷ keep f d.back
found-keep f l x d = ap (keep f) d.whole ∙ keep_join f d.front (x ∷ d.back) ∙ rw (keep_none f d.front d.none, d.passes) refl

value_not : {v : ℕ} → Some (Value v) ≡ Some False → ⊥
value_not e = let z : ◌≡◌ {A = ℕ} 0 1 = cc in omega arith

false_none : is_swapped (spoken (Some False)) ≡ false
unfolding is_swapped spoken
false_none = refl

value_none : (v : ℕ) → is_swapped (spoken (Some (Value v))) ≡ false
unfolding is_swapped spoken
value_none v = refl

module _ (rows : List Row) (words : List ℕ) (P : ℕ) (plan : Plan P (length words) rows) (schedule : List ℕ) where
  abbrev pub now : ℕ → State
  now n = at rows words P plan schedule n

  -- after the byte at a, process p has row k open, and this status
  abbrev pub Has : (p k a : ℕ) → Status → Type 0
  Has p k a status = ((proc_at p (now (suc a))).opened ≡ Some k) × ((proc_at p (now (suc a))).status ≡ status)

  -- the value that was read is old
  abbrev pub is_old : (k x : ℕ) → Bool
  is_old k x = eqb (value x) (row_numbered rows k).old

  -- at A5: its A1 went here; it went to A2, and the swap was lost; it swapped
  pub data AtFive (p k x a : ℕ) (answer : Option Answer) : Type 0 where
    read_so : Has p k a (Busy A5 x a 0 answer) → (answer ≡ Some False → is_old k x ≡ false) → AtFive p k x a answer
    lost_so : Has p k a (Busy A2 x a 0 None) → is_old k x ≡ true → answer ≡ Some False → AtFive p k x a answer
    won_so : is_swapped (spoken answer) ≡ true → AtFive p k x a answer

  abbrev pub Remembers : (p k : ℕ) → Stage → (x a : ℕ) → Option Answer → Type 0
  Remembers p k A1 x a answer = Unit {0}
  Remembers p k A2 x a answer = Has p k a (Busy A2 x a 0 None) × GoesOn (kind_of (row_numbered rows k)) (row_numbered rows k).old (value x)
  Remembers p k A3 x a answer = Has p k a (Busy A2 x a 0 None) × GoesOn (kind_of (row_numbered rows k)) (row_numbered rows k).old (value x)
  Remembers p k A4 x a answer = Has p k a (Busy A2 x a 0 None) × GoesOn (kind_of (row_numbered rows k)) (row_numbered rows k).old (value x)
  Remembers p k A5 x a answer = AtFive p k x a answer
  Remembers p k A6 x a answer = Unit {0}
  Remembers p k V1 x a answer = Unit {0}
  Remembers p k V2 x a answer = Unit {0}
  Remembers p k V3 x a answer = Unit {0}
  Remembers p k V4 x a answer = Unit {0}
  Remembers p k V5 x a answer = Unit {0}
  Remembers p k V6 x a answer = Unit {0}

  -- what a process with this open row and this status remembers
  abbrev pub Hist : ℕ → Option ℕ → Status → Type 0
  Hist p o Down = Unit {0}
  Hist p o Idle = Unit {0}
  Hist p o N2 = Unit {0}
  Hist p o N3 = Unit {0}
  Hist p o (Busy stage x a tried_at answer) = (k : ℕ) → o ≡ Some k → Remembers p k stage x a answer

  module _ (n p k : ℕ) (r : Process) (q : r.opened ≡ Some k) where
    held : (stage : Stage) (x a ta : ℕ) (answer : Option Answer) → Remembers p k stage x a answer → Hist p r.opened (Busy stage x a ta answer)
    held stage x a ta answer h = λ j o. subst (λ k. Remembers p k stage x a answer) (open_same q o) h

    -- the record that it has after the byte at n
    this : (status : Status) → proc_at p (now (suc n)) ≡ with_status status r → Has p k n status
    this status e = (ap (λ r. r.opened) e ∙ q, ap (λ r. r.status) e)

    hist-A1 : (word : ℕ) (kind : Kind) → kind_of (row_numbered rows k) ≡ kind → proc_at p (now (suc n)) ≡ with_status (read_by kind (row_numbered rows k).old word n) r → Hist p r.opened (read_by kind (row_numbered rows k).old word n)
    hist-A1 word Read f e = held A5 word n 0 (Some (Value (value word))) (read_so (this (Busy A5 word n 0 (Some (Value (value word)))) e) (λ f. absurd (value_not f)))
    hist-A1 word Compare f e = go (is_old k word) refl e
      where
        go : (c : Bool) → is_old k word ≡ c → proc_at p (now (suc n)) ≡ with_status (cond c (Busy A2 word n 0 None) (Busy A5 word n 0 (Some False))) r → Hist p r.opened (cond c (Busy A2 word n 0 None) (Busy A5 word n 0 (Some False)))
        go true c e = held A2 word n 0 None (this (Busy A2 word n 0 None) e, subst (λ kind. GoesOn kind (row_numbered rows k).old (value word)) (sym f) (eqb-true (value word) (row_numbered rows k).old c))
        go false c e = held A5 word n 0 (Some False) (read_so (this (Busy A5 word n 0 (Some False)) e) (λ f. c))
    hist-A1 word Advance f e = held A2 word n 0 None (this (Busy A2 word n 0 None) e, subst (λ kind. GoesOn kind (row_numbered rows k).old (value word)) (sym f) tt)

    hist_lost : (kind : Kind) (x a : ℕ) → Has p k a (Busy A2 x a 0 None) → GoesOn kind (row_numbered rows k).old (value x) → Hist p r.opened (lost_by kind x a n)
    hist_lost Read x a h on = absurd on
    hist_lost Compare x a h on = held A5 x a n (Some False) (lost_so h (eq-eqb (value x) (row_numbered rows k).old on) refl)
    hist_lost Advance x a h on = held A1 0 0 0 None tt

    hist-A4 : (x a y : ℕ) (says : Answer) → is_swapped (spoken (Some says)) ≡ true → (kind : Kind) → Has p k a (Busy A2 x a 0 None) × GoesOn kind (row_numbered rows k).old (value x) → (c : Bool)
        → Hist p (process_of r (cond c (Swaps (with_status (Busy A5 x a n (Some says)) r) y says) (Quiet (with_status (lost_by kind x a n) r)))).opened (process_of r (cond c (Swaps (with_status (Busy A5 x a n (Some says)) r) y says) (Quiet (with_status (lost_by kind x a n) r)))).status
    hist-A4 x a y says t kind h true = held A5 x a n (Some says) (won_so t)
    hist-A4 x a y says t kind h false = hist_lost kind x a h.0 h.1

    -- at A6 and in the recovery nothing is remembered
    hist-A5 : (next : Process) (x a ta : ℕ) (answer : Option Answer) → next.status ≡ Busy A6 x a ta answer → (u : ℕ) (c : Bool) → Hist p (process_of r (cond c (Loses next a u) (Logs next a False))).opened (process_of r (cond c (Loses next a u) (Logs next a False))).status
    hist-A5 next x a ta answer e u true = subst (Hist p next.opened) (sym e) (λ j o. tt)
    hist-A5 next x a ta answer e u false = subst (Hist p next.opened) (sym e) (λ j o. tt)

    hist-V1 : (x a ta : ℕ) (answer stored : Option Answer) → Hist p r.opened (Busy (recovered stored) x a ta answer)
    hist-V1 x a ta answer None = λ j o. tt
    hist-V1 x a ta answer (Some b) = λ j o. tt

    hist-V2 : (x a ta : ℕ) (answer : Option Answer) (c : Bool) → Hist p r.opened (Busy (cond c V3 V6) x a ta answer)
    hist-V2 x a ta answer true = λ j o. tt
    hist-V2 x a ta answer false = λ j o. tt

    hist-V3 : (x a ta : ℕ) (answer : Option Answer) (c : Bool) → Hist p r.opened (Busy (cond c V4 V6) x a ta answer)
    hist-V3 x a ta answer true = λ j o. tt
    hist-V3 x a ta answer false = λ j o. tt

    hist_stage : (word : ℕ) (stage : Stage) (x a ta : ℕ) (answer : Option Answer) → Remembers p k stage x a answer
        → proc_at p (now (suc n)) ≡ process_of r (decide (row_numbered rows k) p n word r stage x a ta answer)
        → Hist p (process_of r (decide (row_numbered rows k) p n word r stage x a ta answer)).opened (process_of r (decide (row_numbered rows k) p n word r stage x a ta answer)).status
    unfolding decide_in tried_in storing_in
    hist_stage word A1 x a ta answer h e = hist-A1 word (kind_of (row_numbered rows k)) refl e
    hist_stage word A2 x a ta answer h e = held A3 x a ta answer h
    hist_stage word A3 x a ta answer h e = held A4 x a ta answer h
    hist_stage word A4 x a ta answer h e = hist-A4 x a (swapped p (new_of (row_numbered rows k) (value x)) x) (swap_says (kind_of (row_numbered rows k)) (value x)) (says-swapped (kind_of (row_numbered rows k)) (value x)) (kind_of (row_numbered rows k)) h (eqb word x)
    hist_stage word A5 x a ta None h e = λ j o. tt
    hist_stage word A5 x a ta (Some True) h e = λ j o. tt
    hist_stage word A5 x a ta (Some (Was v)) h e = λ j o. tt
    hist_stage word A5 x a ta (Some (Value v)) h e = λ j o. tt
    hist_stage word A5 x a ta (Some False) h e = hist-A5 (with_stored (Busy A6 x a ta (Some False)) (Some False) r) x a ta (Some False) refl ta (is_old k x)
    hist_stage word A6 x a ta answer h e = tt
    hist_stage word V1 x a ta answer h e = hist-V1 x a ta answer r.stored
    hist_stage word V2 x a ta answer h e = hist-V2 x a ta answer r.checkpoint
    hist_stage word V3 x a ta answer h e = hist-V3 word a ta answer (same_bit (bit p word) r.kept.bit)
    hist_stage word V4 x a ta answer h e = λ j o. tt
    hist_stage word V5 x a ta answer h e = tt
    hist_stage word V6 x a ta answer h e = tt

  -- a step
  hist_turn : (n p : ℕ) (r : Process) (ws : List ℕ) (log : List Entry) → Hist p r.opened r.status → (status : Status) → r.status ≡ status → proc_at p (now (suc n)) ≡ (turn rows p n ws log r status).process
      → Hist p (turn rows p n ws log r status).process.opened (turn rows p n ws log r status).process.status
  unfolding turn_in step_turn_in
  hist_turn n p r ws log h Down e b = h
  hist_turn n p r ws log h Idle e b = go (ltb r.begun (count rows p))
    where
      go : (c : Bool) → Hist p (process_of r (cond c (Quiet (with_stored N2 None r)) Still)).opened (process_of r (cond c (Quiet (with_stored N2 None r)) Still)).status
      go true = tt
      go false = h
  hist_turn n p r ws log h N2 e b = tt
  hist_turn n p r ws log h N3 e b = λ j o. tt
  hist_turn n p r ws log h (Busy stage x a ta answer) e b = go r.opened refl b
    where
      work : Option ℕ → Turn
      work o = at_work (row_numbered rows (row_open o)) p n (get_or ws (row_numbered rows (row_open o)).word 0) r o stage x a ta answer

      go : (o : Option ℕ) → r.opened ≡ o → proc_at p (now (suc n)) ≡ process_of r (work o) → Hist p (process_of r (work o)).opened (process_of r (work o)).status
      go None q b = h
      go (Some k) q b = hist_stage n p k r q (get_or ws (row_numbered rows k).word 0) stage x a ta answer (subst (Hist p r.opened) e h k q) b

  hist_waked : (p : ℕ) (r : Process) → Hist p r.opened r.status → (status : Status) → Hist p (waked r status).opened (waked r status).status
  hist_waked p r h Down = go r.opened
    where
      go : (o : Option ℕ) → Hist p r.opened (woken_up o)
      go None = tt
      go (Some k) = λ j o. tt
  hist_waked p r h Idle = h
  hist_waked p r h N2 = h
  hist_waked p r h N3 = h
  hist_waked p r h (Busy stage x a ta answer) = h

  first_state : (p : ℕ) → Hist p (proc_at p (now 0)).opened (proc_at p (now 0)).status
  unfolding after_in begin proc_at
  first_state p = rw (fresh_at P p) tt

  pub hist : (n : ℕ) → n ≤ length schedule → (p : ℕ) → Hist p (proc_at p (now n)).opened (proc_at p (now n)).status
  hist = along rows words P plan schedule (λ n. (p : ℕ) → Hist p (proc_at p (now n)).opened (proc_at p (now n)).status) first_state each
    where
      each : (n : ℕ) → n < length schedule → ((p : ℕ) → Hist p (proc_at p (now n)).opened (proc_at p (now n)).status) → (p : ℕ) → Hist p (proc_at p (now (suc n))).opened (proc_at p (now (suc n))).status
      each n h v p =
          subst (λ s. proc_at p (now (suc n)) ≡ proc_at p s → Hist p (proc_at p s).opened (proc_at p s).status) (sym (next rows words P plan schedule n h))
          (became rows (λ r. proc_at p (now (suc n)) ≡ r → Hist p r.opened r.status) n (byte rows words P plan schedule n) p (now n)
          (λ e. v p) (λ e. hist_turn n p (proc_at p (now n)) (now n).words (now n).log (v p) (proc_at p (now n)).status refl e) (λ e. tt) (λ e. hist_waked p (proc_at p (now n)) (v p) (proc_at p (now n)).status))
          refl

  -- the front-most swap that a lost one looks for stays the front-most: swaps go to the end, and the others are none
  grows : (n : ℕ) → n < length schedule → (w a : ℕ) (by : Entry) (rest : List Entry) → keep (is_swap rows w a) (now n).log ≡ by ∷ rest
      → (rest : List Entry) × (keep (is_swap rows w a) (now (suc n)).log ≡ by ∷ rest)
  unfolding is_swap
  grows n h w a by rest is = go (what rows words P plan schedule n h)
    where
      f : Entry → Bool
      f = is_swap rows w a

      go : Does rows (map value words) Always (named (byte rows words P plan schedule n)) n (now n) (now (suc n)) → (rest : List Entry) × (keep f (now (suc n)).log ≡ by ∷ rest)
      go (nothing ws l an) = (rest, ap (keep f) l ∙ is)
      go (allowed j quiet g o al ws l an) = (rest, ap (keep f) l ∙ is)
      go (allowed j (replies e) g o al ws l an) = (rest, ap (keep f) l ∙ is)
      go (allowed j (logs e) g o al ws l an) =
          let pt : Put e (now n).log (insert e (now n).log) = put e (now n).log (inv_at rows words P plan schedule n (omega arith)).global.sorted in
          (rest, ap (keep f) (l ∙ pt.now) ∙ keep_put_no f pt.front pt.back e (ap (λ c. c && (ltb a e.position && names rows e.row w)) al.no_swap) ∙ ap (keep f) (sym pt.was) ∙ is)
      go (allowed j (swaps i x e) g o al ws l an) =
          let low : All (λ f. f.position < e.position) (now n).log = subst (λ q. All (λ f. f.position < q) (now n).log) (sym al.at) (inv_at rows words P plan schedule n (omega arith)).global.below in
          let last : insert e (now n).log ≡ (now n).log ++ e ∷ [] = insert_last e (now n).log (inv_at rows words P plan schedule n (omega arith)).global.sorted low in
          (rest ++ keep f (e ∷ []), ap (keep f) (l ∙ last) ∙ keep_join f (now n).log (e ∷ []) ∙ ap (λ l. l ++ keep f (e ∷ [])) is)

  -- as `ReadThen` has it, of the log after n bytes
  data Told (n : ℕ) (e : Entry) : Type 0 where
    told-read : (x : ℕ) (answer : Option Answer) → said e ≡ spoken answer → Has (owner_of rows e.row) e.row e.position (Busy A5 x e.position 0 answer) → Told n e
    told_lost : (x a : ℕ) (by : Entry) (rest : List Entry) → said e ≡ spoken (Some False) → value x ≡ (row_numbered rows e.row).old → Has (owner_of rows e.row) e.row a (Busy A2 x a 0 None)
        → keep (is_swap rows (row_numbered rows e.row).word a) (now n).log ≡ by ∷ rest → e.position ≡ by.position → Told n e

  abbrev Plain : ℕ → Entry → Type 0
  Plain n e = is_swapped (said e) ≡ false → Told n e

  told_later : (n : ℕ) → n < length schedule → (e : Entry) → Told n e → Told (suc n) e
  told_later n h e (told-read x answer s t) = told-read x answer s t
  told_later n h e (told_lost x a by rest s v t is q) = let g = grows n h (row_numbered rows e.row).word a by rest is in told_lost x a by g.0 s v t g.1 q

  module _ (n : ℕ) (h : n < length schedule) (p k : ℕ) (r : Process) (same : proc_at p (now n) ≡ r) (o : r.opened ≡ Some k) (x a ta : ℕ) (answer : Option Answer) (is : r.status ≡ Busy A5 x a ta answer) where
    mine : owner_of rows k ≡ p
    mine = owned rows words P plan schedule n (omega arith) p k (ap (λ r. r.opened) same ∙ o)

    five : AtFive p k x a answer
    five = subst (Hist p (proc_at p (now n)).opened) (ap (λ r. r.status) same ∙ is) (hist n (omega arith) p) k (ap (λ r. r.opened) same ∙ o)

    -- a read, or a value that was not old
    plain_read : is_swapped (spoken answer) ≡ false → (answer ≡ Some False → is_old k x ≡ false) → Plain (suc n) (entry a p k answer)
    plain_read t nf s = go five
      where
        go : AtFive p k x a answer → Told (suc n) (entry a p k answer)
        go (read_so th _) = told-read x answer refl (subst (λ p. Has p k a (Busy A5 x a 0 answer)) (sym mine) th)
        go (lost_so th old e) = absurd (true≢false (sym old ∙ nf e))
        go (won_so e) = absurd (true≢false (sym e ∙ t))

    -- a lost swap
    plain_lost : answer ≡ Some False → is_old k x ≡ true → Plain (suc n) (entry (first_swap rows (row_numbered rows k).word a ta (now n).log) p k (Some False))
    plain_lost e old s = go five
      where
        was : value x ≡ (row_numbered rows k).old
        was = eqb-true (value x) (row_numbered rows k).old old

        found : Beaten rows (row_numbered rows k).word a (now n).log
        found =
            beaten rows words P plan (take n schedule) p (opened rows words P plan schedule n (omega arith) p k (ap (λ r. r.opened) same ∙ o)) k x a ta (ap (λ r. r.opened) same ∙ o)
            (ap (λ r. r.status) same ∙ is ∙ ap (Busy A5 x a ta) e) was

        go : AtFive p k x a answer → Told (suc n) (entry (first_swap rows (row_numbered rows k).word a ta (now n).log) p k (Some False))
        go (read_so th nf) = absurd (true≢false (sym old ∙ nf e))
        go (won_so t) = absurd (true≢false (sym t ∙ ap (λ m. is_swapped (spoken m)) e ∙ false_none))
        go (lost_so th _ _) =
            let g = grows n h (row_numbered rows k).word a found.by (keep (is_swap rows (row_numbered rows k).word a) found.front_most.back) (found-keep (is_swap rows (row_numbered rows k).word a) (now n).log found.by found.front_most) in
            told_lost x a found.by g.0 refl was (subst (λ p. Has p k a (Busy A2 x a 0 None)) (sym mine) th) g.1 (found.position ta)

  module _ (n : ℕ) (h : n < length schedule) (v : All (Plain (suc n)) (now n).log) where
    -- one more in the log
    more : (e : Entry) → Plain (suc n) e → All (Plain (suc n)) (insert e (now n).log)
    more e q = put_all (Plain (suc n)) e (put e (now n).log (inv_at rows words P plan schedule n (omega arith)).global.sorted) q v

    module _ (p k : ℕ) (r : Process) (same : proc_at p (now n) ≡ r) (o : r.opened ≡ Some k) where
      plain-A4 : (w y t : ℕ) (next lost : Process) (says : Answer) → is_swapped (spoken (Some says)) ≡ true → (c : Bool)
          → All (Plain (suc n)) (log_after (effect_of rows (now n).log p t k w (cond c (Swaps next y says) (Quiet lost))) (now n).log)
      plain-A4 w y t next lost says s true = more (entry t p k (Some says)) (λ q. absurd (true≢false (sym s ∙ q)))
      plain-A4 w y t next lost says s false = v

      plain_false : (t x a ta : ℕ) → r.status ≡ Busy A5 x a ta (Some False) → (next : Process) (c : Bool) → is_old k x ≡ c
          → All (Plain (suc n)) (log_after (effect_of rows (now n).log p t k (row_numbered rows k).word (cond c (Loses next a ta) (Logs next a False))) (now n).log)
      plain_false t x a ta is next true c = more (entry (first_swap rows (row_numbered rows k).word a ta (now n).log) p k (Some False)) (plain_lost n h p k r same o x a ta (Some False) is refl c)
      plain_false t x a ta is next false c = more (entry a p k (Some False)) (plain_read n h p k r same o x a ta (Some False) is false_none (λ f. c))

      plain_stage : (word : ℕ) (stage : Stage) (x a ta : ℕ) (answer : Option Answer) → r.status ≡ Busy stage x a ta answer
          → All (Plain (suc n)) (log_after (effect_of rows (now n).log p n k (row_numbered rows k).word (decide (row_numbered rows k) p n word r stage x a ta answer)) (now n).log)
      unfolding decide_in tried_in storing_in
      plain_stage word A1 x a ta answer is = v
      plain_stage word A2 x a ta answer is = v
      plain_stage word A3 x a ta answer is = v
      plain_stage word A4 x a ta answer is =
          plain-A4 (row_numbered rows k).word (swapped p (new_of (row_numbered rows k) (value x)) x) n (with_status (Busy A5 x a n (Some (swap_says (kind_of (row_numbered rows k)) (value x)))) r) (with_status (lost_by (kind_of (row_numbered rows k)) x a n) r)
          (swap_says (kind_of (row_numbered rows k)) (value x)) (says-swapped (kind_of (row_numbered rows k)) (value x)) (eqb word x)
      plain_stage word A5 x a ta None is = v
      plain_stage word A5 x a ta (Some True) is = v
      plain_stage word A5 x a ta (Some (Was u)) is = v
      plain_stage word A5 x a ta (Some (Value u)) is = more (entry a p k (Some (Value u))) (plain_read n h p k r same o x a ta (Some (Value u)) is (value_none u) (λ f. absurd (value_not f)))
      plain_stage word A5 x a ta (Some False) is = plain_false n x a ta is (with_stored (Busy A6 x a ta (Some False)) (Some False) r) (is_old k x) refl
      plain_stage word A6 x a ta answer is = v
      plain_stage word V1 x a ta answer is = v
      plain_stage word V2 x a ta answer is = v
      plain_stage word V3 x a ta answer is = v
      plain_stage word V4 x a ta answer is = v
      plain_stage word V5 x a ta answer is = v
      plain_stage word V6 x a ta answer is = v

    plain_turn : (p : ℕ) (r : Process) → proc_at p (now n) ≡ r → (status : Status) → r.status ≡ status → All (Plain (suc n)) (log_after (turn rows p n (now n).words (now n).log r status).effect (now n).log)
    unfolding turn_in step_turn_in
    plain_turn p r same Down is = v
    plain_turn p r same Idle is = go (ltb r.begun (count rows p))
      where
        go : (c : Bool) → All (Plain (suc n)) (log_after (effect_of rows (now n).log p n (row_open r.opened) (row_numbered rows (row_open r.opened)).word (cond c (Quiet (with_stored N2 None r)) Still)) (now n).log)
        go true = v
        go false = v
    plain_turn p r same N2 is = v
    plain_turn p r same N3 is = v
    plain_turn p r same (Busy stage x a ta answer) is = go r.opened refl
      where
        go : (o : Option ℕ) → r.opened ≡ o
            → All (Plain (suc n)) (log_after (effect_of rows (now n).log p n (row_open o) (row_numbered rows (row_open o)).word (at_work (row_numbered rows (row_open o)) p n (get_or (now n).words (row_numbered rows (row_open o)).word 0) r o stage x a ta answer)) (now n).log)
        go None q = v
        go (Some k) q = plain_stage p k r same q (get_or (now n).words (row_numbered rows k).word 0) stage x a ta answer is

  plain : (n : ℕ) → n ≤ length schedule → All (Plain n) (now n).log
  unfolding after_in begin
  plain = along rows words P plan schedule (λ n. All (Plain n) (now n).log) tt each
    where
      each : (n : ℕ) → n < length schedule → All (Plain n) (now n).log → All (Plain (suc n)) (now (suc n)).log
      each n h v =
          let kept : All (Plain (suc n)) (now n).log = all_map (Plain n) (Plain (suc n)) (λ e q s. told_later n h e (q s)) (now n).log v in
          let b : ℕ = byte rows words P plan schedule n in
          subst (λ s. All (Plain (suc n)) s.log) (sym (next rows words P plan schedule n h))
          (log_became rows (All (Plain (suc n))) n b (now n) kept (plain_turn n h kept (named b) (proc_at (named b) (now n)) refl (proc_at (named b) (now n)).status refl))

  abbrev end : State
  end = after rows 0 schedule (begin P words)

  pub then : (k a : ℕ) (status : Status) → Has (owner_of rows k) k a status → Then rows P words schedule k a status
  then k a status h =
      let e = reached rows words P plan (take (suc a) schedule) in
      record { opened = ap (λ s. (proc_at (owner_of rows k) s).opened) e ∙ h.0; is = ap (λ s. (proc_at (owner_of rows k) s).status) e ∙ h.1 }

  read_then : (e : Entry) → Told (length schedule) e → ReadThen rows P words schedule e.row e end.log
  read_then e (told-read x answer s t) = at_read x answer s (then e.row e.position (Busy A5 x e.position 0 answer) t)
  read_then e (told_lost x a by rest s v t is q) =
      at_loss x a by s v (then e.row a (Busy A2 x a 0 None) t)
      (keep-found (is_swap rows (row_numbered rows e.row).word a) end.log by rest (ap (λ s. keep (is_swap rows (row_numbered rows e.row).word a) s.log) (sym (end-at rows words P plan schedule)) ∙ is)) q

  pub read_time : (k : ℕ) → k < length rows → (e : Entry) → of k end.log ≡ e ∷ [] → is_swapped (said e) ≡ false → ReadThen rows P words schedule k e end.log
  read_time k inside e is none =
      let h : Plain (length schedule) e × (e.row ≡ k) = of_all_lem (Plain (length schedule)) k (now (length schedule)).log e (plain (length schedule) (omega arith)) (ap (λ s. of k s.log) (end-at rows words P plan schedule) ∙ is) in
      subst (λ k. ReadThen rows P words schedule k e end.log) h.1 (read_then e (h.0 none))
