-- What holds of a key that is not refused: each test of the verdict has failed.
use Rattle.std.specs.Prelude.{ℕ, ◌+◌, ◌*◌, ◌≤◌, ◌≡◌, Bool, true, false, cond, List, ltb, Result, Ok, Err}
use Rattle.std.proofs.Math.Path.{refl, ap}
use Rattle.std.proofs.Common.{◌∙◌, subst, arith}
use borrow.Author.Tests.{ltb-false}
use Rattle.runfile.specs.declared.Header.{Header}
use Rattle.runfile.specs.declared.Room.{Room}
use Rattle.runfile.specs.declared.Refused.{Refused as FileRefused}
use Rattle.runfile.specs.Operations.{table_of}
use Rattle.runfile.specs.Refusals.{bad_byte, file_refusal}
use Rattle.runfile.proofs.Lawful.{lawful_file}
use Rattle.panel.specs.declared.Stroke.{Stroke}
use Rattle.panel.specs.declared.Table.{Table}
use Rattle.panel.specs.declared.Refused.{Refused}
use Rattle.panel.specs.Possible.{any_impossible}
use Rattle.panel.specs.Press.{Verdict, and_then, roomy, idle_key, sound, judged, judged_as, verdict_of, Fit}

pub not_fine : {r : Refused} {h : Header} → ◌≡◌ {A = Verdict} (Err r) (Ok h) → ⊥
not_fine e = let z : ◌≡◌ {A = ℕ} 0 1 = cc in omega arith

same_header : {g h : Header} → ◌≡◌ {A = Verdict} (Ok g) (Ok h) → g ≡ h
same_header e = cc

-- a test that did not refuse
passed : (c : Bool) (r : Refused) (rest : Verdict) (h : Header) → cond c (Err r) rest ≡ Ok h → (c ≡ false) × (rest ≡ Ok h)
passed true r rest h e = absurd (not_fine e)
passed false r rest h e = (refl, e)

both_fine : (v next : Verdict) (h : Header) → and_then v next ≡ Ok h → ((g : Header) × (v ≡ Ok g)) × (next ≡ Ok h)
both_fine (Err r) next h e = absurd (not_fine e)
both_fine (Ok g) next h e = ((g, refl), e)

-- each test of 13 to 15, 21, 22 and 16, by which a key over a file with this header is not refused
record Unrefused (h : Header) (f : List ℕ) (t : Table) (room : Room) (k : Stroke) : Type 0 where
  words : ltb room.words h.words ≡ false
  records : ltb t.held h.processes ≡ false
  log : ltb room.log (k.counts.log * 5 + 5) ≡ false
  answers : ltb room.answers (k.counts.answers * 5 + 5) ≡ false
  position : ltb 1023 k.position ≡ false
  possible : any_impossible (table_of h f) t.processes 0 h.processes ≡ false
  byte : bad_byte h.processes k.byte ≡ false
  not_idle : idle_key t.processes k.byte ≡ false

unrefused : (g : Header) (f : List ℕ) (t : Table) (room : Room) (k : Stroke) (h : Header) → judged g f t room k ≡ Ok h → (g ≡ h) × Unrefused g f t room k
unfolding judged
unrefused g f t room k h e =
    let b = both_fine (roomy g t.held room k) (sound g f t.processes k) h e in
    let r1 = passed (ltb room.words g.words) _ _ _ b.0.1 in
    let r2 = passed (ltb t.held g.processes) _ _ _ r1.1 in
    let r3 = passed (ltb room.log (k.counts.log * 5 + 5)) _ _ _ r2.1 in
    let r4 = passed (ltb room.answers (k.counts.answers * 5 + 5)) _ _ _ r3.1 in
    let s1 = passed (ltb 1023 k.position) _ _ _ b.1 in
    let s2 = passed (any_impossible (table_of g f) t.processes 0 g.processes) _ _ _ s1.1 in
    let s3 = passed (bad_byte g.processes k.byte) _ _ _ s2.1 in
    let s4 = passed (idle_key t.processes k.byte) _ _ _ s3.1 in
    (same_header s4.1, record { words = r1.0; records = r2.0; log = r3.0; answers = r4.0; position = s1.0; possible = s2.0; byte = s3.0; not_idle = s4.0 })

-- the list of records is long enough
pub list_room : (g : Header) (f : List ℕ) (t : Table) (room : Room) (k : Stroke) (h : Header) → judged g f t room k ≡ Ok h → h.processes ≤ t.held
list_room g f t room k h e = let u = unrefused g f t room k h e in subst (λ h. h.processes ≤ t.held) u.0 (ltb-false t.held g.processes u.1.records)

module _ (f : List ℕ) (t : Table) (room : Room) (k : Stroke) (h : Header) (e : verdict_of f t room k ≡ Ok h) where
  -- the file is accepted
  pub fine_file : (file_refusal f ≡ Ok h) × (h.processes ≤ t.held)
  unfolding verdict_of
  fine_file = go (file_refusal f) refl e
    where
      go : (c : Result Header FileRefused) → file_refusal f ≡ c → judged_as c f t room k ≡ Ok h → (file_refusal f ≡ Ok h) × (h.processes ≤ t.held)
      go (Err r) q e = absurd (not_fine e)
      go (Ok g) q e = (q ∙ ap Ok (unrefused g f t room k h e).0, list_room g f t room k h e)

  pub fit : Fit h f t.processes room k
  unfolding verdict_of
  fit =
      let accepted = fine_file.0 in
      let u = (unrefused h f t room k h (subst (λ c. judged_as c f t room k ≡ Ok h) accepted e)).1 in
      record {
        lawful = lawful_file f h accepted;
        words_room = ltb-false room.words h.words u.words;
        log_room = ltb-false room.log (k.counts.log * 5 + 5) u.log;
        answers_room = ltb-false room.answers (k.counts.answers * 5 + 5) u.answers;
        early = ltb-false 1023 k.position u.position;
        possible = u.possible;
        action = u.byte;
        not_idle = u.not_idle;
      }
