-- Demand 3 of the bench machine, for all rows that pass the refusals, all start words and all schedules: what is known of each row, put
-- together.
use Rattle.std.specs.Prelude.{ℕ, ◌+◌, ◌≡◌, List, map, take}
use Rattle.std.proofs.Common.{sym, ◌∙◌, ap, subst}
use Rattle.std.proofs.Math.ListN.{length}
use Rattle.std.proofs.lemmas.List.{length-map}
use Rattle.runfile.specs.declared.Row.{Row}
use Rattle.runfile.specs.Operations.{row_numbered}
use Rattle.word.specs.Word.{value}
use Rattle.machine.specs.Machine.{State, proc_at, after, begin}
use Rattle.replay.specs.Replay.{replayed}
use Rattle.demand3.specs.Statement.{Firmware, owner_of, Begun, StillOpen, Ended, through, Demand3, Meets}
use Rattle.demand3.specs.FlipBit.{flip_bit, Beaten, OfFlipBit}
use Rattle.demand3.specs.Invariant.{Global}
use Rattle.demand3.specs.Plans.{Plan}
use Rattle.demand3.specs.Effects.{words_length}
use Rattle.demand3.specs.Order.{Always, good, inv}
use Rattle.demand3.specs.Lost.{beaten}
use Rattle.demand3.specs.Told as told
use Rattle.demand3.specs.Positions.{log_time, answer_time, log_first}
use Rattle.demand3.specs.Reads.{read_time}
use Rattle.demand3.specs.GoesBack.{overtaken_time}
use Rattle.demand3.specs.Rounds.{rounds}

module _ (rows : List Row) (words : List ℕ) (P : ℕ) (plan : Plan P (length words) rows) (schedule : List ℕ) where
  abbrev m : Firmware
  m = flip_bit rows P words

  abbrev end : State
  end = after rows 0 schedule (begin P words)

  reached : (bytes : List ℕ) → through m 0 bytes (begin P words) ≡ after rows 0 bytes (begin P words)
  reached = told.reached rows words P plan

  -- as many words at the end as at the start
  pub words_stay : length end.words ≡ length words
  words_stay = words_length rows (map value words) (good rows words P plan) Always (0 + length schedule) end (inv rows words P plan schedule).global ∙ length-map words value

  meets : Demand3 m rows schedule end.log end.answers (map value end.words)
  unfolding begin
  meets =
      let g : Global rows (map value words) Always (0 + length schedule) end = (inv rows words P plan schedule).global in
      record {
        replayed = replayed rows (map value words) end.log (map value end.words) g.right g.ends;
        ended = λ k h e. told.told rows words P plan k h schedule (subst (Ended m rows k) (reached schedule) e);
        still_open = λ k h o. told.untold rows words P plan k h schedule (subst (StillOpen m rows k) (reached schedule) o);
        unbegun = λ k h n. told.unbegun rows words P plan k h schedule (λ b. n (subst (Begun m rows k) (sym (reached schedule)) b));
        log_rows = g.there;
        answer_rows = g.there_answers;
        order = λ n k j hk hj e b. told.in_order rows words P plan schedule n k j hk hj (subst (Ended m rows k) (reached (take n schedule)) e) (λ c. b (subst (Begun m rows j) (sym (reached (take n schedule))) c));
        sorted = g.sorted;
        log_times = log_time rows words P plan schedule;
        answer_times = answer_time rows words P plan schedule;
        log_first = log_first rows words P plan schedule;
      }

  pub demand3 : OfFlipBit rows P words schedule end.log end.answers (map value end.words)
  demand3 =
      record {
        demand = meets;
        beaten = λ n k seen read_at tried_at h o e old.
            subst (λ s. Beaten rows (row_numbered rows k).word read_at s.log) (sym (reached (take n schedule)))
            (beaten rows words P plan (take n schedule) (owner_of rows k) (plan.present k h) k seen read_at tried_at (subst (StillOpen m rows k) (reached (take n schedule)) o)
            (ap (λ s. (proc_at (owner_of rows k) s).status) (sym (reached (take n schedule))) ∙ e) old);
        read_times = read_time rows words P plan schedule;
        overtaken = overtaken_time rows words P plan schedule;
        rounds = λ k h. rounds rows words P plan k h schedule;
      }

  -- and so of what the machine itself shows at the end
  pub demand3_meets : Meets m rows schedule
  demand3_meets = subst (λ s. Demand3 m rows schedule s.log s.answers (map value s.words)) (sym (reached schedule)) meets
