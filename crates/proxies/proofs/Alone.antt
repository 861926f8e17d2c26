-- For whoever looks at one proxy: what it sees does not depend on whether the other's processes take any steps at all. It sees, after every byte, what it
-- would see if each byte of the other proxy were passed over, taking up its position and no more; and what it would see of a lawful schedule in which
-- the other's processes take no steps. Both are instances of the claim.
use Rattle.std.specs.Prelude.{ℕ, ◌<◌, ◌≡◌}
use Rattle.std.proofs.Math.Path.{refl}
use Rattle.std.proofs.Math.Bool.{false}
use Rattle.machine.specs.Machine.{step, begin, proc_at}
use Rattle.machine.specs.Laws.{fresh_at}
use Rattle.proxies.specs.Statement.{Proxy, Split, owns, Input, Accepted, DifferOnlyInOther, seen_after}
use Rattle.proxies.specs.Owners.{known_begin}
use Rattle.proxies.proofs.Proxies.{unseen_throughout}
use Rattle.proxies.specs.Alone.{alone, WithoutSteps, at_rest}
use Rattle.proxies.proofs.Resting.{passed_replaced, rest-replaced, rest_lawful, rests}

module _ (split : Split) (P : ℕ) (x : Proxy) (i : Input) (a : Accepted split P i) where
  pub as_if_alone : (n : ℕ) → seen_after split x step P i n ≡ seen_after split x step P (alone split P x i a) n
  as_if_alone = unseen_throughout split P x i (alone split P x i a) a (record { plan = a.plan; own_words = a.own_words }) (record { own_rows = refl; as_many_rows = refl; own_words = refl; schedule = passed_replaced split x i.schedule })

  module _ (q : ℕ) (few : q < 16) (there : q < P) (not-mine : owns x split.processes q ≡ false) where
    differ : DifferOnlyInOther split x i (at_rest split P x i a q few there not-mine)
    differ = record { own_rows = refl; as_many_rows = refl; own_words = refl; schedule = rest-replaced split x q few not-mine false i.schedule }

    pub whether_or_not : WithoutSteps split P x i a (at_rest split P x i a q few there not-mine)
    unfolding begin proc_at
    whether_or_not =
        let k = known_begin i.rows i.words P a.plan in
        let on = rests split x q few not-mine P there i a 0 i.schedule false (begin P i.words) (begin P i.words) k k refl (rw (fresh_at P q)) in
        record {
          accepted = record { plan = a.plan; own_words = a.own_words };
          lawful = rest_lawful split x q few not-mine P there false i.schedule;
          no_slips = on.1;
          differ = differ;
          no_steps = on.0;
          same = unseen_throughout split P x i (at_rest split P x i a q few there not-mine) a (record { plan = a.plan; own_words = a.own_words }) differ;
        }
