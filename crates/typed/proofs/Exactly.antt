-- A text is told a slip exactly when that is its first offence, and is accepted exactly when it has none. By induction on what is still to be
-- read: what the machine remembers is what Offences.antt says of the characters before.
use mathlib.Core.List.{List, [], ◌∷◌}
use Rattle.std.specs.Prelude.{ℕ, zero, suc, ◌≤◌, ◌<◌, ◌≡◌, refl, Bool, false, cond, ◌&&◌, ◌↔◌, eqb, ltb, length, get_or, drop, Err, Ok, Result}
use Rattle.std.proofs.Common.{sym, ◌∙◌, arith, length-drop, ltb-true, ltb-false, eqb-true}
use Rattle.std.proofs.Math.Path.{ap}
use Rattle.std.proofs.Math.Bool.{true}
use Rattle.std.proofs.Math.ListN.{get_or-eq_default}
use Rattle.std.proofs.lemmas.Bool.{eqb-false}
use Rattle.typed.specs.declared.Slip.{Slip}
use Rattle.typed.specs.declared.Slip.TheVariants.{Stray, Alone, TooMany}
use Rattle.typed.specs.declared.chars.Class.{Class}
use Rattle.typed.specs.declared.chars.Class.TheVariants.{Digit, Blank, NewLine, Hash, Other}
use Rattle.typed.specs.declared.scan.State.{State}
use Rattle.typed.specs.declared.scan.State.TheVariants.{Between, Comment, Half}
use Rattle.typed.specs.declared.scan.Offence.{Offence}
use Rattle.typed.specs.Chars.{digit_class, within, is_digit, class_of}
use Rattle.typed.specs.Reading.{Reading, meets, act, go_on, reading, checked, checked_of, offence}
use Rattle.typed.specs.Offences.{class_at, digit_at, in_comment, begins, begun, separates, Parts, ends, apart, Offends, stray, alone, too_many, First}
use Rattle.typed.specs.Spots.{peel}
use Rattle.typed.specs.Exactly.{true_false, parting_digit, no_digit, begins-in_comment, begins-after, Agrees, Next, plain, agrees_next, Quiet, Verdict, since}

parting_other : (k : Class) → separates k ≡ true → k ≡ Other → ⊥
parting_other k s e = true_false (separates Other) (rw e at s) refl

other_digit : Other ≡ Digit → ⊥
other_digit e = let z : ◌≡◌ {A = ℕ} 0 1 = cc in omega arith

and_first : (a b : Bool) → a && b ≡ true → a ≡ true
and_first true b e = refl
and_first false b e = e

nothing_no_digit : is_digit 0 ≡ false
unfolding is_digit within
nothing_no_digit = refl

module _ (text : List ℕ) where
  begins_digit : (i : ℕ) → begins text i ≡ true → digit_at text i ≡ true
  begins_digit zero e = e
  begins_digit (suc i) e = and_first _ _ (and_first _ _ e)

  past_digit : (i : ℕ) → length text ≤ i → digit_at text i ≡ false
  past_digit i h = rw (get_or-eq_default text 0 h) nothing_no_digit

  parts_no_digit : (i : ℕ) → Parts text i → digit_at text i ≡ false
  parts_no_digit i (ends h) = past_digit i h
  parts_no_digit i (apart s) = no_digit (get_or text i 0) (class_at text i) refl (parting_digit (class_at text i) s)

  other_no_digit : (i : ℕ) → class_at text i ≡ Other → digit_at text i ≡ false
  other_no_digit i o = no_digit (get_or text i 0) Other o other_digit

  module _ (room : ℕ) where
    calm : (i : ℕ) → begins text i ≡ false → (in_comment text i ≡ false → class_at text i ≡ Other → ⊥) → Quiet text room i
    calm i b s k (stray l c o) = s c o
    calm i b s k (alone f e) = true_false (begins text i) f b
    calm i b s k (too_many f d r) = true_false (begins text i) f b

    whole : (i : ℕ) → begins text i ≡ true → digit_at text (suc i) ≡ true → begun text i < room → Quiet text room i
    whole i b d h k (stray l c o) = true_false (digit_at text i) (begins_digit i b) (other_no_digit i o)
    whole i b d h k (alone f e) = true_false (digit_at text (suc i)) d (parts_no_digit (suc i) e)
    whole i b d h k (too_many f n r) = omega arith

    -- a first digit in front of a character that may stand nowhere
    broken : (i : ℕ) → begins text i ≡ true → suc i < length text → class_at text (suc i) ≡ Other → Quiet text room i
    broken i b l q k (stray m c o) = true_false (digit_at text i) (begins_digit i b) (other_no_digit i o)
    broken i b l q k (alone f (ends h)) = omega arith
    broken i b l q k (alone f (apart s)) = parting_other (class_at text (suc i)) s q
    broken i b l q k (too_many f d r) = true_false (digit_at text (suc i)) d (other_no_digit (suc i) q)

    past : (i : ℕ) → length text ≤ i → Quiet text room i
    past i h k (stray l c o) = omega arith
    past i h k (alone f e) = true_false (digit_at text i) (begins_digit i f) (past_digit i h)
    past i h k (too_many f d r) = true_false (digit_at text i) (begins_digit i f) (past_digit i h)

    extend : (i next : ℕ) → next ≡ suc i → Quiet text room i → (c : Result ℕ Offence) → Verdict text room next c → Verdict text room i c
    extend i next e q (Ok m) v = (v.0, λ k j l o. go k j l o (eqb i j) refl)
      where
        go : (k : Slip) (j : ℕ) → i ≤ j → Offends text room k j → (b : Bool) → eqb i j ≡ b → ⊥
        go k j l o true p = let z : j ≡ i = sym (eqb-true i j p) in q k (rw z at o)
        go k j l o false p = v.1 k j (let z = eqb-false i j p in omega arith) o
    extend i next e q (Err x) v = (v.0, let l = v.1 in omega arith, λ k j l h o. go k j l h o (eqb i j) refl)
      where
        go : (k : Slip) (j : ℕ) → i ≤ j → j < x.at → Offends text room k j → (b : Bool) → eqb i j ≡ b → ⊥
        go k j l h o true p = let z : j ≡ i = sym (eqb-true i j p) in q k (rw z at o)
        go k j l h o false p = v.2 k j (let z = eqb-false i j p in omega arith) h o

    here : (slip : Slip) (i : ℕ) → Offends text room slip i → Verdict text room i (Err (offence slip i))
    here slip i o = (o, omega arith, λ k j l h x. omega arith)

    -- an index that begins no byte and is not stray
    step_over : (at : ℕ) (c : Result ℕ Offence) → begins text at ≡ false → (in_comment text at ≡ false → class_at text at ≡ Other → ⊥) → Verdict text room (suc at) c → Verdict text room at c
    step_over at c b s v = extend at (suc at) refl (calm at b s) c v

    -- the second digit of a byte, for which there is room or not
    second : (high first at n : ℕ) (r : Reading) → Agrees text (Half high first) at n → class_at text at ≡ Digit → Verdict text room (suc at) (checked room (suc n) r)
        → (b : Bool) → ltb n room ≡ b → Verdict text room first (cond b (checked room (suc n) r) (Err (offence TooMany first)))
    second high first at n r a q v b t = go b t
      where
        next_digit : digit_at text (suc first) ≡ true
        next_digit = rw (← a.0) (digit_class _ q)

        go : (b : Bool) → ltb n room ≡ b → Verdict text room first (cond b (checked room (suc n) r) (Err (offence TooMany first)))
        go true t =
            let w = step_over at (checked room (suc n) r) (rw a.0 (begins-after text first a.1)) (λ f o. other_digit (sym o ∙ q)) v in
            extend first at a.0 (whole first a.1 next_digit (rw a.3 (ltb-true n room t))) (checked room (suc n) r) w
        go false t = here TooMany first (too_many a.1 next_digit (rw a.3 (ltb-false n room t)))

    all_read : (at : ℕ) → drop at text ≡ [] → at ≤ length text → at ≡ length text
    all_read at e l = omega (arith, length-drop at text, ap length e)

    verdict : (cs : List ℕ) (s : State) (at n : ℕ) → drop at text ≡ cs → at ≤ length text → Agrees text s at n → Verdict text room (since text room s at) (checked room n (reading s at cs))
    unfolding reading act
    verdict [] Between at n e l a = (rw (← (all_read at e l)) a.2, λ k j h o. past j (let z = all_read at e l in omega arith) k o)
    verdict [] Comment at n e l a = (rw (← (all_read at e l)) a.1, λ k j h o. past j (let z = all_read at e l in omega arith) k o)
    verdict [] (Half high first) at n e l a =
        here Alone first (alone a.1 (ends (let z = all_read at e l in let y = a.0 in omega arith)))
    verdict (c ∷ cs) s at n e l a =
        let p = peel text at c cs e in
        let q = ap class_of p.1 in
        go s a p.0 (class_of c) q (agrees_next text at n c s (class_of c) a q) (λ t m. verdict cs t (suc at) m p.2 (let h = p.0 in omega arith))
      where
        blank_over : (k : Class) (x : Result ℕ Offence) → separates k ≡ true → class_at text at ≡ k → Verdict text room (suc at) x → Verdict text room at x
        blank_over k x s q v = step_over at x (plain text at k s q) (λ f y. parting_other k s (sym q ∙ y)) v

        note_over : (x : Result ℕ Offence) → in_comment text at ≡ true → Verdict text room (suc at) x → Verdict text room at x
        note_over x i v = step_over at x (begins-in_comment text at i) (λ f y. true_false (in_comment text at) i f) v

        cut_off : (high first : ℕ) (k : Class) → Agrees text (Half high first) at n → separates k ≡ true → class_at text at ≡ k → Verdict text room first (Err (offence Alone first))
        cut_off high first k a s q = here Alone first (alone a.1 (apart (rw (← a.0, q) s)))

        break_off : (high first : ℕ) → Agrees text (Half high first) at n → at < length text → class_at text at ≡ Other → Verdict text room first (Err (offence Stray at))
        break_off high first a l q = extend first at a.0 (broken first a.1 (rw (← a.0) l) (rw (← a.0) q)) (Err (offence Stray at)) (here Stray at (stray l a.2 q))

        after : State → Result ℕ Offence
        after t = checked room n (reading t (suc at) cs)

        go : (s : State) → Agrees text s at n → at < length text → (k : Class) → class_at text at ≡ k → Next text at n (meets s at c k)
            → ((t : State) (m : ℕ) → Agrees text t (suc at) m → Verdict text room (since text room t (suc at)) (checked room m (reading t (suc at) cs)))
            → Verdict text room (since text room s at) (checked room n (go_on (meets s at c k) (λ t. reading t (suc at) cs)))
        go Between a l Digit q b more = more (Half c at) n b
        go Between a l Blank q b more = blank_over Blank (after Between) refl q (more Between n b)
        go Between a l NewLine q b more = blank_over NewLine (after Between) refl q (more Between n b)
        go Between a l Hash q b more = blank_over Hash (after Comment) refl q (more Comment n b)
        go Between a l Other q b more = here Stray at (stray l a.0 q)
        go Comment a l Digit q b more = note_over (after Comment) a.0 (more Comment n b)
        go Comment a l Blank q b more = note_over (after Comment) a.0 (more Comment n b)
        go Comment a l NewLine q b more = note_over (after Between) a.0 (more Between n b)
        go Comment a l Hash q b more = note_over (after Comment) a.0 (more Comment n b)
        go Comment a l Other q b more = note_over (after Comment) a.0 (more Comment n b)
        go (Half high first) a l Digit q b more = second high first at n (reading Between (suc at) cs) a q (more Between (suc n) b.2) (ltb n room) refl
        go (Half high first) a l Blank q b more = cut_off high first Blank a refl q
        go (Half high first) a l NewLine q b more = cut_off high first NewLine a refl q
        go (Half high first) a l Hash q b more = cut_off high first Hash a refl q
        go (Half high first) a l Other q b more = break_off high first a l q

    whole_verdict : Verdict text room 0 (checked_of text room)
    whole_verdict = verdict text Between 0 0 refl (omega arith) (refl, refl, refl)

    -- a slip is told exactly when it is the first offence
    told-first : (slip : Slip) (i : ℕ) → checked_of text room ≡ Err (offence slip i) → First text room slip i
    told-first slip i e = let v = rw e at whole_verdict in record { offends = v.0; none_before = λ k j h o. v.2 k j (omega arith) h o }

    -- at one index at most one of the three holds
    one_slip : (i : ℕ) (k m : Slip) → Offends text room k i → Offends text room m i → k ≡ m
    one_slip i k m (stray l c o) (stray l' c' o') = refl
    one_slip i k m (stray l c o) (alone f e) = true_false (digit_at text i) (begins_digit i f) (other_no_digit i o)
    one_slip i k m (stray l c o) (too_many f d r) = true_false (digit_at text i) (begins_digit i f) (other_no_digit i o)
    one_slip i k m (alone f e) (stray l c o) = true_false (digit_at text i) (begins_digit i f) (other_no_digit i o)
    one_slip i k m (alone f e) (alone f' e') = refl
    one_slip i k m (alone f e) (too_many f' d r) = true_false (digit_at text (suc i)) d (parts_no_digit (suc i) e)
    one_slip i k m (too_many f d r) (stray l c o) = true_false (digit_at text i) (begins_digit i f) (other_no_digit i o)
    one_slip i k m (too_many f d r) (alone f' e) = true_false (digit_at text (suc i)) d (parts_no_digit (suc i) e)
    one_slip i k m (too_many f d r) (too_many f' d' r') = refl

    one_first : (k m : Slip) (i j : ℕ) → First text room k i → First text room m j → ◌≡◌ {A = Result ℕ Offence} (Err (offence k i)) (Err (offence m j))
    one_first k m i j a b = go (ltb i j) refl (ltb j i) refl
      where
        go : (x : Bool) → ltb i j ≡ x → (y : Bool) → ltb j i ≡ y → ◌≡◌ {A = Result ℕ Offence} (Err (offence k i)) (Err (offence m j))
        go true p y q = absurd (b.none_before k i (ltb-true i j p) a.offends)
        go false p true q = absurd (a.none_before m j (ltb-true j i q) b.offends)
        go false p false q =
            let same : i ≡ j = (let x = ltb-false i j p in let y = ltb-false j i q in omega arith) in
            let slips-same : k ≡ m = one_slip j k m (rw same at a.offends) b.offends in
            rw (same, slips-same)

    pub slips_exactly : (slip : Slip) (i : ℕ) → (checked_of text room ≡ Err (offence slip i)) ↔ First text room slip i
    slips_exactly slip i = (told-first slip i, λ f. go (checked_of text room) refl f)
      where
        go : (c : Result ℕ Offence) → checked_of text room ≡ c → First text room slip i → c ≡ Err (offence slip i)
        go (Ok m) e f = let v = rw e at whole_verdict in absurd (v.1 slip i (omega arith) f.offends)
        go (Err o) e f = one_first o.slip slip o.at i (told-first o.slip o.at e) f

    -- and a text is accepted exactly when nothing offends, with as many bytes as begin in it
    pub accepts_exactly : (n : ℕ) → (checked_of text room ≡ Ok n) ↔ (((k : Slip) (i : ℕ) → Offends text room k i → ⊥) × (begun text (length text) ≡ n))
    accepts_exactly n = (λ e. let v = rw e at whole_verdict in (λ k i o. v.1 k i (omega arith) o, v.0), λ f. go (checked_of text room) refl f)
      where
        go : (c : Result ℕ Offence) → checked_of text room ≡ c → ((k : Slip) (i : ℕ) → Offends text room k i → ⊥) × (begun text (length text) ≡ n) → c ≡ Ok n
        go (Ok m) e f = let v = rw e at whole_verdict in ap Ok (sym v.0 ∙ f.1)
        go (Err o) e f = absurd (f.0 o.slip o.at (told-first o.slip o.at e).offends)
