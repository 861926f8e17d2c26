-- A file of version 1 and its transcription to version 2 come to the same outcome with the same buffers (`same_run`): they are checked alike, and
-- the run takes the words, the rows and the schedule alone, which are the same. Where both are refused, the number is the same and the places go together.
use Rattle.std.specs.Prelude.{ℕ, zero, suc, ◌+◌, ◌<◌, ◌≡◌, refl, List, [], ◌∷◌, length, Result, Ok, Err}
use Rattle.std.proofs.Common.{sym, ap, subst, ◌∙◌, arith}
use Rattle.runfile.specs.declared.Header.{Header}
use Rattle.runfile.specs.declared.Row.{Row}
use Rattle.runfile.specs.declared.Room.{Room}
use Rattle.runfile.specs.declared.Refusal.TheVariants as refusal
use Rattle.runfile.specs.declared.Refused.{Refused}
use Rattle.runfile.specs.Format.{head_size, word_size, row_size, new_place}
use Rattle.runfile.specs.Layout.{u16_at, u32_at, u64_at, widened, marked, header_in, number_at, row_at, schedule_in}
use Rattle.runfile.specs.Ups.{up_from, idles}
use Rattle.runfile.specs.Operations.{words_of, table_of}
use Rattle.runfile.specs.Refusals.{bad_field, same_fields, bad_byte, first_bad_field, first_row, first_later_row, first_byte, refused, refusal_of}
use Rattle.runfile.specs.Table.{row_of, zero_byte_of}
use Rattle.runfile.specs.Transcribed.{Transcribes, SamePlace, CheckedAlike, tables_alike}
use Rattle.runfile.proofs.Transcribed.{checked_alike}
use Rattle.rows.specs.Buffers.{flat, infront}
use Rattle.machine.specs.Machine.{State, begin, after}
use Rattle.run.specs.Run.{Outcome, end_of, room_of, outcome_of, words_left, log_left, answers_left, Ends}

-- the same numbers of rows; or the same refusal, at places that go together
abbrev pub OutcomesAlike : Header → Header → Outcome → Outcome → Type 0
OutcomesAlike a b (Ok x) (Ok y) = (y.log ≡ x.log) × (y.answers ≡ x.answers)
OutcomesAlike a b (Ok x) (Err q) = ⊥
OutcomesAlike a b (Err p) (Ok y) = ⊥
OutcomesAlike a b (Err p) (Err q) = (q.why ≡ p.why) × SamePlace a b p.why p.place q.place

-- the run ends in the same state: words, log and answers
pub same_end : (f g : List ℕ) → Transcribes f g → end_of (header_in f) f ≡ end_of (header_in g) g
unfolding end_of
same_end f g t =
    ap (λ rows. after rows 0 (schedule_in (header_in f) f) (begin (header_in f).processes (words_of (header_in f) f))) (tables_alike f g t)
    ∙ ap (λ schedule. after (table_of (header_in g) g) 0 schedule (begin (header_in f).processes (words_of (header_in f) f))) t.schedule
    ∙ ap (λ processes. after (table_of (header_in g) g) 0 (schedule_in (header_in g) g) (begin processes (words_of (header_in f) f))) t.processes
    ∙ ap (λ words. after (table_of (header_in g) g) 0 (schedule_in (header_in g) g) (begin (header_in g).processes words)) t.start_words

pub record RunsAlike (f g words log answers : List ℕ) (c d : Result Header Refused) : Type 0 where
  pub outcomes : OutcomesAlike (header_in f) (header_in g) (outcome_of c f) (outcome_of d g)
  pub words_are : words_left d g words ≡ words_left c f words
  pub log_is : log_left d g log ≡ log_left c f log
  pub answers_are : answers_left d g answers ≡ answers_left c f answers

runs_alike : (f g words log answers : List ℕ) → Transcribes f g → (c d : Result Header Refused) → CheckedAlike (header_in f) (header_in g) c d → RunsAlike f g words log answers c d
runs_alike f g words log answers t (Err p) (Err q) r = record { outcomes = r; words_are = refl; log_is = refl; answers_are = refl }
runs_alike f g words log answers t (Err p) (Ok y) r = absurd r
runs_alike f g words log answers t (Ok x) (Err q) r = absurd r
runs_alike f g words log answers t (Ok x) (Ok y) r =
    let e : end_of y g ≡ end_of x f = ap (λ h. end_of h g) r.1 ∙ sym (same_end f g t) ∙ sym (ap (λ h. end_of h f) r.0) in
    record {
      outcomes = (ap (λ (s : State). length s.log) e, ap (λ (s : State). length s.answers) e);
      words_are = ap (λ (s : State). infront s.words words) e;
      log_is = ap (λ (s : State). infront (flat s.log) log) e;
      answers_are = ap (λ (s : State). infront (flat s.answers) answers) e;
    }

-- what the run of g gives and leaves, beside what the run of f gave and left with the same buffers
pub record SameRun (f g : List ℕ) (r s : Outcome) (words words' log log' answers answers' : List ℕ) : Type 0 where
  pub outcomes : OutcomesAlike (header_in f) (header_in g) r s
  pub words_are : words' ≡ words
  pub log_is : log' ≡ log
  pub answers_are : answers' ≡ answers

module _ (f g words log answers : List ℕ) (t : Transcribes f g) where
  pub same_run : (r s : Outcome) (words₁ log₁ answers₁ words₂ log₂ answers₂ : List ℕ)
      → Ends f words log answers r words₁ log₁ answers₁ → Ends g words log answers s words₂ log₂ answers₂
      → SameRun f g r s words₁ words₂ log₁ log₂ answers₁ answers₂
  same_run r s words₁ log₁ answers₁ words₂ log₂ answers₂ e d =
      let x = runs_alike f g words log answers t (refusal_of f (room_of words log answers)) (refusal_of g (room_of words log answers)) (checked_alike f g t (room_of words log answers)) in
      record {
        outcomes =
            subst (λ o. OutcomesAlike (header_in f) (header_in g) o s) (sym e.result)
            (subst (λ o. OutcomesAlike (header_in f) (header_in g) (outcome_of (refusal_of f (room_of words log answers)) f) o) (sym d.result) x.outcomes);
        words_are = d.words_are ∙ x.words_are ∙ sym e.words_are;
        log_is = d.log_is ∙ x.log_is ∙ sym e.log_is;
        answers_are = d.answers_are ∙ x.answers_are ∙ sym e.answers_are;
      }

-- Two files that are so, by computation: one word at 7 with the flip bit of process 0, two rows that would swap it, and a schedule of twelve bytes.
-- With 9 as the second row's new both are accepted; with 7 both are refused by 11, at 23 and at 31, where that row begins.
abbrev schedule : List ℕ
schedule = 0 ∷ 0 ∷ 1 ∷ 1 ∷ 1 ∷ 1 ∷ 1 ∷ 0 ∷ 0 ∷ 0 ∷ 0 ∷ 0 ∷ []

abbrev narrow_file : ℕ → List ℕ
narrow_file new = 83 ∷ 87 ∷ 82 ∷ 1 ∷ 0 ∷ 2 ∷ 1 ∷ 2 ∷ 0 ∷ 12 ∷ 0 ∷ 7 ∷ 0 ∷ 1 ∷ 0 ∷ 0 ∷ 1 ∷ 0 ∷ 0 ∷ 7 ∷ 0 ∷ 8 ∷ 0 ∷ 1 ∷ 1 ∷ 0 ∷ 0 ∷ 7 ∷ 0 ∷ new ∷ 0 ∷ schedule

abbrev wide_file : ℕ → List ℕ
wide_file new =
    83 ∷ 87 ∷ 82 ∷ 2 ∷ 0 ∷ 2 ∷ 1 ∷ 2 ∷ 0 ∷ 12 ∷ 0 ∷ 7 ∷ 0 ∷ 0 ∷ 0 ∷ 1 ∷ 0 ∷ 0 ∷ 0 ∷ 0 ∷ 1 ∷ 0 ∷ 0 ∷ 7 ∷ 0 ∷ 0 ∷ 0 ∷ 8 ∷ 0 ∷ 0 ∷ 0
    ∷ 1 ∷ 1 ∷ 0 ∷ 0 ∷ 7 ∷ 0 ∷ 0 ∷ 0 ∷ new ∷ 0 ∷ 0 ∷ 0 ∷ schedule

abbrev second : ℕ → Row
second new = record { process = 1; kind = 1; word = 0; old = 7; new = new }

-- two more bytes that are 0
padded : (new : ℕ) → new + 0 ≡ new + 0 + 0 + 0
padded new = omega arith

row : (new k : ℕ) → k < 2 → row_of (header_in (narrow_file new)) (narrow_file new) k ≡ row_of (header_in (wide_file new)) (wide_file new) k
unfolding head_size word_size row_size new_place header_in u16_at u32_at number_at row_at
row new zero l = refl
row new (suc zero) l = ap second (padded new)
row new (suc (suc k)) l = absurd (omega arith)

zero_byte : (new k : ℕ) → k < 2 → zero_byte_of (header_in (narrow_file new)) (narrow_file new) k ≡ zero_byte_of (header_in (wide_file new)) (wide_file new) k
unfolding head_size word_size row_size header_in u16_at
zero_byte new zero l = refl
zero_byte new (suc zero) l = refl
zero_byte new (suc (suc k)) l = absurd (omega arith)

no_advance : (new k : ℕ) → k < 2 → (row_of (header_in (narrow_file new)) (narrow_file new) k).kind ≡ 2 → ⊥
unfolding head_size word_size row_size header_in u16_at row_at
no_advance new zero l e = omega arith
no_advance new (suc zero) l e = omega arith
no_advance new (suc (suc k)) l e = omega arith

pub transcribed : (new : ℕ) → Transcribes (narrow_file new) (wide_file new)
unfolding head_size word_size row_size new_place header_in u16_at u32_at u64_at widened marked number_at row_at words_of
transcribed new = record {
  first = refl;
  second = refl;
  long = omega arith;
  wide_long = omega arith;
  marks = refl;
  processes = refl;
  words = refl;
  rows = refl;
  steps = refl;
  lengths = refl;
  start_words = refl;
  row = row new;
  zero_byte = zero_byte new;
  no_advance = no_advance new;
  schedule = refl;
}

abbrev room : Room
room = record { words = 1; log = 60; answers = 60 }

pub both_accepted : (refusal_of (narrow_file 9) room ≡ Ok (header_in (narrow_file 9))) × (refusal_of (wide_file 9) room ≡ Ok (header_in (wide_file 9)))
unfolding refusal_of head_size word_size row_size new_place header_in u16_at u32_at marked number_at row_at bad_field same_fields bad_byte first_bad_field first_row first_later_row first_byte idles up_from
both_accepted = (refl, refl)

pub both_refused : (refusal_of (narrow_file 7) room ≡ refused refusal.Same 23) × (refusal_of (wide_file 7) room ≡ refused refusal.Same 31)
unfolding refusal_of head_size word_size row_size new_place header_in u16_at u32_at marked number_at row_at bad_field same_fields bad_byte first_bad_field first_row first_later_row first_byte idles up_from
both_refused = (refl, refl)
