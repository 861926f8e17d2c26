-- The first bytes of a file decide: whatever `run` gives and leaves, lent as many of the first bytes of a file as decide, it gives and leaves for the whole file.
-- A file that is accepted has no more bytes than that; one that is refused is refused alike (`decided`), and a refusal depends on nothing else.
use Rattle.std.specs.Prelude.{ℕ, ◌≤◌, ◌≡◌, refl, List, length, take, Result, Ok, Err}
use Rattle.std.proofs.Common.{sym, subst, ◌∙◌, arith, take_all}
use Rattle.runfile.specs.declared.Header.{Header}
use Rattle.runfile.specs.declared.Refused.{Refused}
use Rattle.runfile.specs.Refusals.{refusal_of}
use Rattle.runfile.specs.Lawful.{longest_any}
use Rattle.runfile.proofs.Lawful.{lawful}
use Rattle.runfile.specs.Enough.{enough, decided}
use Rattle.run.specs.Run.{Outcome, room_of, EndsAs, Ends}

pub first-bytes : (f words log answers : List ℕ) (r : Outcome) (words' log' answers' : List ℕ) → Ends (take enough f) words log answers r words' log' answers' → Ends f words log answers r words' log' answers'
first-bytes f words log answers r words' log' answers' e = go (refusal_of f (room_of words log answers)) refl
  where
    go : (c : Result Header Refused) → refusal_of f (room_of words log answers) ≡ c → Ends f words log answers r words' log' answers'
    go (Err x) q =
        let h = subst (λ c. EndsAs c (take enough f) words log answers r words' log' answers') (decided f (room_of words log answers) ∙ q) e in
        subst (λ c. EndsAs c f words log answers r words' log' answers') (sym q) (record { result = h.result; words_are = h.words_are; log_is = h.log_is; answers_are = h.answers_are })
    go (Ok h) q =
        let few : length f ≤ enough = (let l = longest_any h f (lawful f (room_of words log answers) h q).file.head in omega arith) in
        subst (λ g. Ends g words log answers r words' log' answers') (take_all enough f few) e
