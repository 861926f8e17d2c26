-- The walk over a text, in the terms of its code: what it has still to give is carried over a character, and each of the three that take its items makes of
-- the rest what it is to make of the whole.
use Prim.Native.Nat.{ℕ, zero, suc, ◌+◌, ◌≤◌, ◌<◌}
use mathlib.Core.Path.{◌≡◌, refl, sym, ap, ◌∙◌}
use mathlib.Core.List.{List, [], ◌∷◌}
use native.Mathlib.Omega.{arith}
use native.Mathlib.Numerals.{add-one}
use lib.ListN.{length, get_or, drop, drop_of_length-le}
use lib.Seq.{drop-cons, sets, set_out}
use mathlib.Core.Logic.{◌⊎◌, inl, inr}
use Rattle.std.specs.Prelude.{Err, None, Ok, Option, Result, Some, cond, ltb, slice_get}
use Rattle.std.specs.Option.{MatchOption, option_map}
use Rattle.std.specs.Result.{result_ok}
use Rattle.std.proofs.lemmas.Iterator.Adapters.{option_map_id}
use Rattle.std.proofs.iter.Yields.{nat_range_steps}
use Rattle.std.specs.declared.ops.Range.{Range}
use Rattle.std.specs.Iterator.{YieldsFirst, YieldsThen}
use Rattle.std.proofs.lemmas.Iterator.Consumers.{nth_from_yields_List, YieldsList-from_first}
use Rattle.typed.specs.declared.scan.Scan.{Scan}
use Rattle.typed.specs.declared.Slip.TheVariants.{Alone, TooMany}
use Rattle.typed.specs.declared.scan.State.{State}
use Rattle.typed.specs.declared.scan.State.TheVariants.{Between, Comment, Half}
use Rattle.typed.specs.declared.scan.Step.{Step}
use Rattle.typed.specs.declared.scan.Step.TheVariants.{To, Whole, Stop}
use Rattle.typed.specs.declared.scan.Byte.{Byte}
use Rattle.typed.specs.declared.scan.Offence.{Offence}
use Rattle.typed.specs.Reading.{act, Reading, slips, byte, end, at_end, go_on, reading, reading_of, offence, checked, spot, bytes_in, items_in, items_left}

abbrev pub Items : Type 0
Items = List (Result Byte Offence)

-- what is still to be read, and what is still to be given of it
abbrev pub Rest : List ℕ → State → ℕ → Reading
Rest text s i = reading s i (drop i text)

abbrev pub Left : List ℕ → State → ℕ → Items
Left text s i = items_in (Rest text s i)

-- a step is what the character at an index leads to
pub record Met (text : List ℕ) (s : State) (i : ℕ) (d : Step) : Type 0 where
  pub inside : i < length text
  pub step : d ≡ act s i (get_or text i 0)

pub met : (text : List ℕ) (s : State) (i : ℕ) (d : Step) (c : ℕ) → (i < length text) × ((e : ℕ) → c ≡ get_or text i e) → d ≡ act s i c → Met text s i d
met text s i d c there e = record { inside = there.0; step = e ∙ ap (act s i) (there.1 0) }

nothing_left : (text : List ℕ) (i : ℕ) → length text ≤ i → Left text Between i ≡ []
unfolding reading
nothing_left text i h = rw (drop_of_length-le text h)

module _ {text : List ℕ} {s : State} {i : ℕ} {d : Step} {all : Items} (left : Left text s i ≡ all) where
  turn : Met text s i d → items_in (go_on d (λ t. Rest text t (i + 1))) ≡ all
  unfolding reading
  turn m = rw (m.step, add-one i) (rw (drop-cons text i 0 m.inside) at left)

  pub goes : {t : State} → Met text s i d → d ≡ To t → Left text t (i + 1) ≡ all
  goes m e = rw e at (turn m)

  pub gives : {b : Byte} → Met text s i d → d ≡ Whole b → all ≡ Ok b ∷ Left text Between (i + 1)
  gives m e = sym (rw e at (turn m))

  pub stops : {o : Offence} → Met text s i d → d ≡ Stop o → all ≡ Err o ∷ Left text Between (length text)
  stops m e = rw (nothing_left text (length text) (omega arith)) (sym (rw e at (turn m)))

module _ (text : List ℕ) (s : State) (i : ℕ) {all : Items} (left : Left text s i ≡ all) (h : length text ≤ i) where
  last : items_in (at_end s) ≡ all
  unfolding reading
  last = rw (drop_of_length-le text h) at left

  pub cut_off : {high at : ℕ} {o : Offence} → s ≡ Half high at → o ≡ offence Alone at → all ≡ Err o ∷ Left text Between i
  cut_off e f = rw (f, nothing_left text i h) (sym (rw e at last))

  pub over : ((high at : ℕ) → s ≡ Half high at → ⊥) → (all ≡ []) × (Left text s i ≡ [])
  over n = let e = go s n in (sym last ∙ e, left ∙ sym last ∙ e)
    where
      go : (t : State) → ((high at : ℕ) → t ≡ Half high at → ⊥) → items_in (at_end t) ≡ []
      go Between m = refl
      go Comment m = refl
      go (Half high at) m = absurd (m high at refl)

pub shorter : {item : Result Byte Offence} {more all : Items} → all ≡ item ∷ more → length more < length all
shorter e = rw e (omega arith)

-- what the check makes of the items: it counts the bytes, and stops at a slip or at a byte that has no room
abbrev pub counted : ℕ → ℕ → Items → Result ℕ Offence
counted room n [] = Ok n
counted room n (Ok b ∷ is) = cond (ltb n room) (counted room (suc n) is) (Err (offence TooMany b.first))
counted room n (Err o ∷ is) = Err o

pub counted_is : (room n : ℕ) (r : Reading) → counted room n (items_in r) ≡ checked room n r
counted_is room n end = refl
counted_is room n (slips slip at) = refl
counted_is room n (byte v first r) = rw (counted_is room (suc n) r)

-- where the byte of an item stands
abbrev pub spot_of : Option (Result Byte Offence) → Option ℕ
spot_of None = None
spot_of (Some item) = option_map (λ b. b.first) (result_ok item)

pub spot_is : (n : ℕ) (r : Reading) → spot n r ≡ spot_of (slice_get (items_in r) n)
spot_is n end = refl
spot_is zero (slips slip at) = refl
spot_is (suc n) (slips slip at) = refl
spot_is zero (byte v first r) = refl
spot_is (suc n) (byte v first r) = spot_is n r

-- the item of a number, as `nth` gives it, is the byte that is looked for, or there is none
module _ (n : ℕ) (text : List ℕ) (scan after : Scan) (r : Option (Result Byte Offence)) (all : items_left scan ≡ items_in (reading_of text))
    (ran : (xs : Items) × YieldsThen (YieldsFirst items_left) scan xs r after × MatchOption r (length xs ≤ n) (λ _. length xs ≡ n)) where
  spotted : spot_of r ≡ spot n (reading_of text)
  spotted = ap spot_of (sym (option_map_id r) ∙ nth_from_yields_List r after n ran (YieldsList-from_first (λ x. x) items_left _ all)) ∙ sym (spot_is n (reading_of text))

  pub missed : r ≡ None → None ≡ spot n (reading_of text)
  missed e = rw e at spotted

  pub reached : {item : Result Byte Offence} (o : Option Byte) → r ≡ Some item → o ≡ result_ok item → option_map (λ b. b.first) o ≡ spot n (reading_of text)
  reached o e f = rw f (rw e at spotted)

-- the bytes of the items, up to the first slip
abbrev pub values : Items → List ℕ
values [] = []
values (Ok b ∷ is) = b.value ∷ values is
values (Err o ∷ is) = []

pub values_are : (r : Reading) → values (items_in r) ≡ bytes_in r
values_are end = refl
values_are (slips slip at) = refl
values_are (byte v first r) = rw (values_are r)

sets_past : (l : List ℕ) (i : ℕ) (vs : List ℕ) → length l ≤ i → sets l i vs ≡ l
sets_past l i [] h = refl
sets_past l i (v ∷ vs) h = rw (set_out l i v h) (sets_past l (suc i) vs (omega arith))

-- the places of a buffer have come to their end, or the items have
pub filled : (out whole : List ℕ) (places : Range ℕ) (scan : Scan) → places.end ≡ length out → sets out places.start (values (items_left scan)) ≡ whole
    → ((u : Range ℕ) × nat_range_steps places None u) ⊎ ((u : Scan) × YieldsFirst items_left scan None u) → out ≡ whole
filled out whole places scan e f (inl w) = sym (sets_past out places.start (values (items_left scan)) (let z = w.1.1.0 in omega arith)) ∙ f
filled out whole places scan e f (inr w) = rw w.1.0 at f
