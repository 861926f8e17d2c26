-- Whose a schedule byte is: one that crashes all, which is nobody's; one of this proxy; or one of the other.
use Rattle.std.specs.Prelude.{ℕ, ◌≡◌, refl, Bool, true, false, cond}
use Rattle.std.proofs.Common.{sym, ◌∙◌, ap, true≢false}
use Rattle.runfile.specs.Actions.{Action, step as steps, crash as crashes, wake as wakes, crash_all as crashes_all, none as idles, action, named}
use Rattle.proxies.specs.Statement.{Proxy, Split, owns, OtherByte}

abbrev pub is_all : Action → Bool
is_all steps = false
is_all crashes = false
is_all wakes = false
is_all crashes_all = true
is_all idles = false

is_all_lem : (a : Action) → is_all a ≡ true → a ≡ crashes_all
is_all_lem steps e = absurd (true≢false (sym e))
is_all_lem crashes e = absurd (true≢false (sym e))
is_all_lem wakes e = absurd (true≢false (sym e))
is_all_lem crashes_all e = refl
is_all_lem idles e = absurd (true≢false (sym e))

pub not_all : (a : Action) → is_all a ≡ false → a ≡ crashes_all → ⊥
not_all a e q = true≢false (ap is_all (sym q) ∙ e)

module _ (split : Split) (x : Proxy) where
  -- one thing for a byte that crashes all, one for a byte of proxy x, and one for a byte of the other proxy
  abbrev pub by_whose : {A : Type 0} → (byte : ℕ) → (all mine others : A) → A
  by_whose byte all mine others = cond (is_all (action byte)) all (cond (owns x split.processes (named byte)) mine others)

  -- by whose byte it is
  pub by_whose_lem : {A : Type 0} (Q : A → Type 0) (byte : ℕ) {all mine others : A} → (action byte ≡ crashes_all → Q all) → ((action byte ≡ crashes_all → ⊥) → owns x split.processes (named byte) ≡ true → Q mine)
      → (OtherByte split x byte → Q others) → Q (by_whose byte all mine others)
  by_whose_lem Q byte {all} {mine} {others} f g h = go (is_all (action byte)) refl (owns x split.processes (named byte)) refl
    where
      go : (c : Bool) → is_all (action byte) ≡ c → (d : Bool) → owns x split.processes (named byte) ≡ d → Q (cond c all (cond d mine others))
      go true e d k = f (is_all_lem (action byte) e)
      go false e true k = g (not_all (action byte) e) k
      go false e false k = h (λ q. absurd (not_all (action byte) e q), k)

  pub data Whose (byte : ℕ) : Type 0 where
    everyone : action byte ≡ crashes_all → Whose byte
    own : (action byte ≡ crashes_all → ⊥) → owns x split.processes (named byte) ≡ true → Whose byte
    others : OtherByte split x byte → Whose byte

  pub whose : (byte : ℕ) → Whose byte
  whose byte = by_whose_lem (λ (u : Unit {0}). Whose byte) byte {all = tt} {mine = tt} {others = tt} everyone own others
