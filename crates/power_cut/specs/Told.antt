-- What is told after a power cut, for people. The log at the cut decides: whatever the order of recovery and however often the power is cut again, an
-- operation is told the same. An advance that the log has is told the value before it, the one that the word has at its place in the log (R245); one
-- that the log does not have is told fail.
use Rattle.std.specs.Prelude.{ℕ, ◌≡◌, length, Option, Some, None}
use Rattle.std.proofs.Math.Path.{refl, ap}
use Rattle.std.proofs.Common.{sym, ◌∙◌, subst, arith}
use mathlib.Core.List.{List, [], ◌∷◌, ◌++◌}
use Rattle.std.proofs.Math.Dec.{eqb}
use Rattle.std.proofs.Math.ListN.{get_or}
use borrow.Author.Tests.{eqb-true}
use Rattle.runfile.specs.declared.Row.{Row}
use Rattle.runfile.specs.declared.Kind.TheVariants.{Advance}
use Rattle.runfile.specs.Kinds.{kind_of}
use Rattle.runfile.specs.Operations.{row_numbered}
use Rattle.rows.specs.declared.Entry.{Entry}
use Rattle.rows.specs.Entries.{said}
use Rattle.machine.specs.declared.Answer.{Answer}
use Rattle.machine.specs.declared.Answer.TheVariants.{False, True, Value, Was}
use Rattle.machine.specs.Steps.{spoken}
use Rattle.machine.specs.Machine.{State, step, begin}
use Rattle.replay.specs.Plain.{answer_of, answer_by}
use Rattle.replay.specs.Lists.{Found, keep-found}
use Rattle.replay.specs.Replay.{final, Right, RightAt, right_right}
use Rattle.demand3.specs.Statement.{of, Once, Logged, owner_of, StillOpen}
use Rattle.demand3.specs.FlipBit.{flip_bit, through-after}
use Rattle.demand3.specs.Plans.{Plan}
use Rattle.demand3.specs.Order.{start, inv}
use Rattle.power_cut.specs.Statement.{Answered, Safe, cut}

-- what the log has of a row leaves one answer
logged_one : (p k : ℕ) (log : List Entry) (a b : Option Answer) → Logged p k a log → Logged p k b log → spoken a ≡ spoken b
logged_one p k log None None g h = refl
logged_one p k log None (Some b) g h = absurd (let q : [] ≡ h.entry ∷ [] = sym g ∙ h.once in let z : ◌≡◌ {A = ℕ} 0 1 = cc in omega arith)
logged_one p k log (Some a) None g h = absurd (let q : [] ≡ g.entry ∷ [] = sym h ∙ g.once in let z : ◌≡◌ {A = ℕ} 0 1 = cc in omega arith)
logged_one p k log (Some a) (Some b) g h = let q : g.entry ∷ [] ≡ h.entry ∷ [] = sym g.once ∙ h.once in let e : g.entry ≡ h.entry = cc in sym g.says_so ∙ ap said e ∙ h.says_so

-- two recoveries from one cut tell row k the same verdict and value
pub same-told : (rows : List Row) (k : ℕ) (log new new' : List Entry) (x : Answered rows k log new) (y : Answered rows k log new') → said x.told.entry ≡ said y.told.entry
same-told rows k log new new' x y = x.told.says_so ∙ logged_one (owner_of rows k) k log x.answer y.answer x.logged y.logged ∙ sym y.told.says_so

-- An advance that was open at the cut is told the value before it, and the log has it so, at a place where the word, carrying out the log from the start
-- values, has that value; or it is told fail, and the log does not have it
pub data AdvanceTold (rows : List Row) (values : List ℕ) (k : ℕ) (log new : List Entry) : Type 0 where
  moved : (v : ℕ) (e : Entry) (front back : List Entry) → e.row ≡ k → log ≡ front ++ e ∷ back → get_or (final rows values front) (row_numbered rows k).word 0 ≡ v
      → Once (owner_of rows k) k (Some (Was v)) new → Once (owner_of rows k) k (Some (Was v)) log → AdvanceTold rows values k log new
  failed : Once (owner_of rows k) k None new → of k log ≡ [] → AdvanceTold rows values k log new

-- an answer with verdict 4 is the value before
was : (a : Answer) (v : ℕ) → spoken (Some a) ≡ record { verdict = 4; value = v } → a ≡ Was v
unfolding spoken
was False v e = absurd (let z : ◌≡◌ {A = ℕ} 0 4 = ap (λ d. d.verdict) e in omega arith)
was True v e = absurd (let z : ◌≡◌ {A = ℕ} 1 4 = ap (λ d. d.verdict) e in omega arith)
was (Value u) v e = absurd (let z : ◌≡◌ {A = ℕ} 3 4 = ap (λ d. d.verdict) e in omega arith)
was (Was u) v e = ap Was (ap (λ d. d.value) e)

module _ (rows : List Row) (values : List ℕ) (k : ℕ) (advances : kind_of (row_numbered rows k) ≡ Advance) (log new : List Entry) (right : Right rows values log) where
  -- its log row says what an advance answers where it stands
  stands : (a : Answer) → Once (owner_of rows k) k (Some a) log → Once (owner_of rows k) k (Some a) new → AdvanceTold rows values k log new
  unfolding of answer_of
  stands a l n =
      let d : Found (λ e. eqb e.row k) log l.entry = keep-found (λ e. eqb e.row k) log l.entry [] l.once in
      let is : l.entry.row ≡ k = eqb-true l.entry.row k d.passes in
      let v = get_or (final rows values d.front) (row_numbered rows k).word 0 in
      let says : RightAt rows (final rows values d.front) l.entry = (right_right rows values d.front (l.entry ∷ d.back) (subst (Right rows values) d.whole right)).0 in
      let here : said l.entry ≡ answer_by Advance (row_numbered rows k).old v =
      says
      ∙ ap (λ j. answer_of (row_numbered rows j) (get_or (final rows values d.front) (row_numbered rows j).word 0)) is
      ∙ ap (λ kind. answer_by kind (row_numbered rows k).old v) advances in
      let q : a ≡ Was v = was a v (sym l.says_so ∙ here) in
      moved v l.entry d.front d.back is d.whole refl (subst (λ a. Once (owner_of rows k) k (Some a) new) q n) (subst (λ a. Once (owner_of rows k) k (Some a) log) q l)

  told : (a : Option Answer) → Once (owner_of rows k) k a new → Logged (owner_of rows k) k a log → AdvanceTold rows values k log new
  told None n l = failed n l
  told (Some a) n l = stands a l n

module _ (rows : List Row) (words : List ℕ) (P : ℕ) (plan : Plan P (length words) rows) (before : List ℕ) where
  abbrev cut_state : State
  cut_state = cut (step rows) P rows words before

  pub advance-told : (k : ℕ) → kind_of (row_numbered rows k) ≡ Advance → StillOpen (flip_bit rows P words) rows k cut_state
      → (end : State) (safe : Safe (step rows) P rows words cut_state end) → AdvanceTold rows (start rows words P plan) k cut_state.log safe.new
  advance-told k advances o end safe =
      let x : Answered rows k cut_state.log safe.new = safe.answered k o in
      told rows (start rows words P plan) k advances cut_state.log safe.new
      (subst (λ s. Right rows (start rows words P plan) s.log) (sym (through-after rows P words 0 before (begin P words))) (inv rows words P plan before).global.right)
      x.answer x.told x.logged
