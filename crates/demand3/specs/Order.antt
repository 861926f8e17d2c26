-- Real-time order (R253): row i of process p had ended when row j of process q had not begun. From then on every entry of the later row has a
-- position at or after that time (this is the invariant, with a `Late` of its own), and the entry of the earlier row is from before. The log
-- is ordered by position.
use Rattle.std.specs.Prelude.{ℕ, suc, ◌+◌, ◌≤◌, ◌<◌, ◌≡◌, refl, true, cond, length, Some}
use Rattle.std.proofs.Math.Path.{sym, ap}
use Rattle.std.proofs.Common.{◌∙◌, arith, ne_eqb, eqb-true}
use Rattle.std.proofs.Math.Bool.{Bool, false}
use mathlib.Core.List.{List, [], ◌∷◌, ◌++◌, map}
use Rattle.std.proofs.Math.Dec.{eqb}
use Rattle.std.proofs.lemmas.List.{length-map}
use Rattle.std.proofs.lemmas.Bool.{eqb-false}
use Rattle.runfile.specs.declared.Row.{Row}
use Rattle.runfile.specs.Operations.{row_numbered, first, count}
use Rattle.word.specs.Word.{value}
use Rattle.rows.specs.declared.Entry.{Entry}
use Rattle.machine.specs.Machine.{State, proc_at, after, begin}
use Rattle.replay.specs.Lists.{All, all_map, all_left, all_right, all_both, keep, keep_skip, Found, keep-found}
use Rattle.replay.specs.Logs.{Ordered, Sorted, sorted_before}
use Rattle.replay.specs.Replay.{Good}
use Rattle.demand3.specs.Statement.{of, Before}
use Rattle.demand3.specs.Invariant.{Times, IsOpen, Global, Inv}
use Rattle.demand3.specs.Frames.{Frame, local_frame}
use Rattle.demand3.specs.Plans.{Plan, good_at, owner}
use Rattle.demand3.specs.Preserve.{inv_begin, inv_after, distinct}
use Rattle.demand3.specs.Past.{Passed, kept_after_lem}

-- every time is late enough
abbrev pub Always : Times
Always k a = Unit {0}

none_of : (k : ℕ) (l : List Entry) → of k l ≡ [] → All (λ e. e.row ≡ k → ⊥) l
unfolding of
none_of k [] h = tt
none_of k (e ∷ l) h = go (eqb e.row k) refl h (none_of k l)
  where
    go : (c : Bool) → eqb e.row k ≡ c → cond c (e ∷ keep (λ e. eqb e.row k) l) (keep (λ e. eqb e.row k) l) ≡ [] → (keep (λ e. eqb e.row k) l ≡ [] → All (λ e. e.row ≡ k → ⊥) l) → All (λ e. e.row ≡ k → ⊥) (e ∷ l)
    go true q h ih = absurd (let z : ◌≡◌ {A = ℕ} 0 1 = cc in omega arith)
    go false q h ih = (eqb-false e.row k q, ih h)

module _ (rows : List Row) (words : List ℕ) (P : ℕ) (plan : Plan P (length words) rows) where
  abbrev pub start : List ℕ
  start = map value words

  pub good : (k : ℕ) → Good (length start) (row_numbered rows k)
  good k = rw (length-map words value) (good_at P (length words) rows plan k)

  pub own : (p i : ℕ) → i < count rows p → (row_numbered rows (first rows p + i)).process ≡ p
  own = owner P (length words) rows plan

  -- the invariant after any schedule
  pub inv : (bytes : List ℕ) → Inv rows start Always P (0 + length bytes) (after rows 0 bytes (begin P words))
  inv bytes = inv_after rows start good own Always (λ k a b h g. tt) P 0 bytes (begin P words) (λ k a h. tt) (inv_begin rows Always P words)

  module _ (pre post : List ℕ) (p i q j : ℕ) (hq : q < P) (fi : i < count rows p) (fj : j < count rows q)
      (passed : Passed rows p i (proc_at p (after rows 0 pre (begin P words))))
      (unborn : (proc_at q (after rows 0 pre (begin P words))).begun ≤ j) where
    abbrev t₀ : ℕ
    t₀ = 0 + length pre

    abbrev s₀ : State
    s₀ = after rows 0 pre (begin P words)

    abbrev s₁ : State
    s₁ = after rows t₀ post s₀

    abbrev Late : Times
    Late k a = k ≡ first rows q + j → t₀ ≤ a

    late_frame : (p : ℕ) → p < P → Frame rows start Always Late p t₀ t₀ s₀ s₀ (proc_at p s₀)
    late_frame p h =
        record {
          later = omega arith;
          bits = λ w. refl;
          log = λ i h. refl;
          answers = λ i h. refl;
          then = λ a w h. refl;
          has = λ w a h. h;
          since = λ w a x h n. n;
          late = λ k a o n e. absurd (go k o e (eqb p q) refl);
        }
      where
        go : (k : ℕ) → (proc_at p s₀).opened ≡ Some k → k ≡ first rows q + j → (c : Bool) → eqb p q ≡ c → ⊥
        go k o e true c =
            let w : IsOpen rows start p k s₀ (proc_at p s₀) = ((inv pre).local p h).opened k o in
            let b : (proc_at q s₀).begun ≡ suc w.index = ap (λ p. (proc_at p s₀).begun) (sym (eqb-true p q c)) ∙ w.begun in
            let m : k ≡ first rows q + w.index = w.row ∙ ap (λ p. first rows p + w.index) (eqb-true p q c) in
            omega arith
        go k o e false c =
            let w : IsOpen rows start p k s₀ (proc_at p s₀) = ((inv pre).local p h).opened k o in
            let b : (proc_at p s₀).begun ≡ suc w.index = w.begun in
            let f : (proc_at p s₀).begun ≤ count rows p = ((inv pre).local p h).fits in
            distinct rows start good own Always (λ k a b h g. tt) p q w.index j (omega arith) fj (λ n. eqb-false p q c (sym n)) (sym w.row ∙ e)

    late_inv : Inv rows start Late P t₀ s₀
    late_inv =
        let g : Global rows start Always t₀ s₀ = (inv pre).global in
        record {
          size = (inv pre).size;
          global =
              record {
                sorted = g.sorted;
                below = g.below;
                late = all_map (λ e. e.row ≡ first rows q + j → ⊥) (λ e. Late e.row e.position) (λ e n m. absurd (n m)) s₀.log (none_of (first rows q + j) s₀.log (((inv pre).local q hq).future_log j unborn fj));
                there = g.there;
                there_answers = g.there_answers;
                right = g.right;
                ends = g.ends;
              };
          local = λ p h. local_frame rows start Always Late p t₀ t₀ s₀ s₀ (proc_at p s₀) (late_frame p h) ((inv pre).local p h);
        }

    late-after : Inv rows start Late P (t₀ + length post) s₁
    late-after = inv_after rows start good own Late (λ k a b h g e. let m : t₀ ≤ a = g e in omega arith) P t₀ post s₀ (λ k a h e. h) late_inv

    -- X's log row is from before; Y's is not
    x-early : (x : Entry) → of (first rows p + i) s₁.log ≡ x ∷ [] → x.position < t₀
    unfolding of
    x-early x hx =
        let k : of (first rows p + i) s₁.log ≡ of (first rows p + i) s₀.log = kept_after_lem rows start good own Always (λ k a b h g. tt) P p i fi t₀ post s₀ (λ k a h. tt) (inv pre) passed in
        let d : Found (λ e. eqb e.row (first rows p + i)) s₀.log x = keep-found (λ e. eqb e.row (first rows p + i)) s₀.log x [] (sym k ∙ hx) in
        (all_right (λ e. e.position < t₀) d.front (x ∷ d.back) (rw d.whole at (inv pre).global.below)).0

    not_y : (x e : Entry) → x.position < t₀ → e.position ≤ x.position → Late e.row e.position → eqb e.row (first rows q + j) ≡ false
    not_y x e h g l = ne_eqb e.row (first rows q + j) (λ n. let m : t₀ ≤ e.position = l n in omega arith)

    pub order : (x y : Entry) → of (first rows p + i) s₁.log ≡ x ∷ [] → of (first rows q + j) s₁.log ≡ y ∷ [] → Before x y s₁.log
    unfolding of
    order x y hx hy =
        let h : x.position < t₀ = x-early x hx in
        let f : Entry → Bool = λ e. eqb e.row (first rows q + j) in
        let d : Found (λ e. eqb e.row (first rows p + i)) s₁.log x = keep-found (λ e. eqb e.row (first rows p + i)) s₁.log x [] hx in
        let a : List Entry = d.front in
        let b : List Entry = d.back in
        let so : Sorted (a ++ x ∷ b) = rw d.whole at late-after.global.sorted in
        let la : All (λ e. Late e.row e.position) (a ++ x ∷ b) = rw d.whole at late-after.global.late in
        let na : All (λ e. f e ≡ false) a =
        all_map (λ e. Ordered e x × Late e.row e.position) (λ e. f e ≡ false) (λ e w. not_y x e h w.0.le w.1) a
        (all_both (λ e. Ordered e x) (λ e. Late e.row e.position) a (sorted_before a b x so) (all_left (λ e. Late e.row e.position) a (x ∷ b) la)) in
        let nx : f x ≡ false = not_y x x h (omega arith) (all_right (λ e. Late e.row e.position) a (x ∷ b) la).0 in
        let kb : keep f b ≡ y ∷ [] = sym (keep_skip f a b x na nx) ∙ ap (keep f) (sym d.whole) ∙ hy in
        let w : Found f b y = keep-found f b y [] kb in
        record { front = a; middle = w.front; back = w.back; whole = d.whole ∙ ap (λ l. a ++ x ∷ l) w.whole }
