-- A file that is longer than the longest is decided by its first 7,308 bytes: refusals 1 to 7 look at the header, and then the length is
-- wrong for both (R35). So a program may read 7,308 bytes and answer as the whole file would be.
use Rattle.std.specs.Prelude.{ℕ, ◌+◌, ◌≤◌, ◌<◌, ◌≡◌, Bool, List, ◌∷◌, ◌++◌, length, take, Result, Ok, Err}
use Rattle.std.proofs.Math.Path.{refl}
use Rattle.std.proofs.Common.{sym, ◌∙◌, arith, get_or-take, length-take-le, take_all, ltb-true, ltb-false, ne_eqb, le-ltb}
use Rattle.std.proofs.Math.Bool.{true, false}
use Rattle.std.proofs.Math.Dec.{ltb}
use Rattle.runfile.specs.declared.Header.{Header}
use Rattle.runfile.specs.declared.Room.{Room}
use Rattle.runfile.specs.declared.Refusal.{Refusal}
use Rattle.runfile.specs.declared.Refusal.TheVariants as refusal
use Rattle.runfile.specs.declared.Refused.{Refused}
use Rattle.runfile.specs.Format.{least_head, longest_holds, longest_of_all, longest_most}
use Rattle.runfile.specs.Layout.{u16_at, marked, header_in, length_given}
use Rattle.runfile.specs.Refusals.{out_of_range, found, refused, first_of, count_checks, body_checks, later_checks, refusal_of}
use Rattle.runfile.specs.Order.{passes, stops, accepts, whole_clear}
use Rattle.runfile.specs.Lawful.{in_range}

-- how many bytes are enough
abbrev pub enough : ℕ
enough = 1 + longest_of_all

-- refusals 1 to 7, and those after 8
abbrev front : List Refusal
front = refusal.Short ∷ (refusal.Mark ∷ count_checks)

abbrev behind : List Refusal
behind = body_checks ++ later_checks

-- the header and the mark are in the first eleven bytes
same_header : (f : List ℕ) (n : ℕ) → least_head ≤ n → header_in (take n f) ≡ header_in f
unfolding header_in u16_at
same_header f n h =
    rw (
      get_or-take n f 3 0 (omega arith),
      get_or-take n f 4 0 (omega arith),
      get_or-take n f 5 0 (omega arith),
      get_or-take n f 6 0 (omega arith),
      get_or-take n f 7 0 (omega arith),
      get_or-take n f 8 0 (omega arith),
      get_or-take n f 9 0 (omega arith),
      get_or-take n f 10 0 (omega arith),
    )

same_mark : (f : List ℕ) (n : ℕ) → least_head ≤ n → marked (take n f) ≡ marked f
unfolding marked
same_mark f n h = rw (get_or-take n f 0 0 (omega arith), get_or-take n f 1 0 (omega arith), get_or-take n f 2 0 (omega arith))

module _ (f : List ℕ) (room : Room) where
  module _ (long : enough < length f) where
    size : length (take enough f) ≡ enough
    size = length-take-le enough f (omega arith)

    -- refusals 1 to 7 find the same
    same-front : first_of (found (header_in f) (take enough f) room) front (header_in f) ≡ first_of (found (header_in f) f room) front (header_in f)
    same-front = rw (le-ltb (length (take enough f)) 11 (let s = size in omega arith), le-ltb (length f) 11 (omega arith), same_mark f enough (omega arith))

    wrong-length : (x : List ℕ) → (length x ≡ length_given (header_in f) → ⊥) → first_of (found (header_in f) x room) (refusal.Length ∷ behind) (header_in f) ≡ refused refusal.Length 0
    wrong-length x n = rw (ne_eqb (length x) (length_given (header_in f)) n)

    answer : (c : Result Header Refused) → first_of (found (header_in f) f room) front (header_in f) ≡ c
        → first_of (found (header_in f) (take enough f) room) (front ++ (refusal.Length ∷ behind)) (header_in f) ≡ first_of (found (header_in f) f room) (front ++ (refusal.Length ∷ behind)) (header_in f)
    answer (Err r) e =
        stops (found (header_in f) (take enough f) room) (header_in f) front (refusal.Length ∷ behind) r (same-front ∙ e)
        ∙ sym (stops (found (header_in f) f room) (header_in f) front (refusal.Length ∷ behind) r e)
    answer (Ok x) e =
        let c = (accepts (found (header_in f) f room) (header_in f) front x e).1 in
        let r = c.1.1.1 in
        let w = (in_range (header_in f).words (whole_clear (out_of_range (header_in f).words) r.1.0)).1 in
        let n = ltb-false 512 (header_in f).rows (whole_clear (ltb 512 (header_in f).rows) r.1.1.0) in
        let s = ltb-false 1024 (header_in f).steps (whole_clear (ltb 1024 (header_in f).steps) r.1.1.1.0) in
        let v : ℕ = (header_in f).version in
        let m = longest_holds v (header_in f).words (header_in f).rows (header_in f).steps w n s in
        let most = longest_most v in
        passes (found (header_in f) (take enough f) room) (header_in f) front (refusal.Length ∷ behind) x (same-front ∙ e)
        ∙ wrong-length (take enough f) (λ q. (let z = size in omega arith))
        ∙ sym (passes (found (header_in f) f room) (header_in f) front (refusal.Length ∷ behind) x e ∙ wrong-length f (λ q. omega arith))

  -- the first 7,308 bytes decide
  pub decided : refusal_of (take enough f) room ≡ refusal_of f room
  unfolding refusal_of
  decided = go (ltb enough (length f)) refl
    where
      go : (c : Bool) → ltb enough (length f) ≡ c → first_of (found (header_in (take enough f)) (take enough f) room) (front ++ (refusal.Length ∷ behind)) (header_in (take enough f)) ≡ first_of (found (header_in f) f room) (front ++ (refusal.Length ∷ behind)) (header_in f)
      go true e = rw (same_header f enough (omega arith)) (answer (ltb-true enough (length f) e) _ refl)
      go false e = rw (take_all enough f (ltb-false enough (length f) e))
