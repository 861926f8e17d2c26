-- The claim at two small inputs that differ in proxy two's row, start word and bytes, as an instance of the theorem: proxy one sees the same. And by
-- computation two inputs with rows on the other's word, in which it does not.
use Rattle.std.specs.Prelude.{ℕ, ◌≡◌, refl, get_or, replicate}
use Rattle.std.proofs.Common.{sym, ◌∙◌, ap, arith}
use Rattle.runfile.specs.Operations.{row_numbered, first, count}
use Rattle.runfile.specs.Refusals.{same_fields}
use Rattle.word.specs.Word.{value_in, bit_in, swapped_in, bit_of, turn_of, flips_in}
use Rattle.machine.specs.Steps.{tried_in, storing_in, decide_in, step_turn_in}
use Rattle.machine.specs.Machine.{turn_in, apply, applied, proc_at, act_in, step_in, begin}
use Rattle.demand3.specs.Statement.{through}
use Rattle.demand3.specs.Planned.{passes, all_pass}
use Rattle.proxies.specs.Statement.{one, proxy_of, owns, part, Accepted, DifferOnlyInOther}
use Rattle.proxies.specs.Instances.{split, one_sees, here, there, reading, swapping}
use Rattle.proxies.proofs.Proxies.{unseen}
use Rattle.proxies.specs.Computed.{all_own, other_byte, replaced}
use Rattle.proxies.proofs.Computed.{accepts, is_replaced}

accepted_here : Accepted split 2 here
unfolding here passes all_pass same_fields all_own proxy_of
accepted_here = accepts split 2 here (omega arith) refl refl

accepted_there : Accepted split 2 there
unfolding there passes all_pass same_fields all_own proxy_of
accepted_there = accepts split 2 there (omega arith) refl refl

differ : DifferOnlyInOther split one here there
unfolding here there owns proxy_of part replaced other_byte
differ = record { own_rows = refl; as_many_rows = refl; own_words = refl; schedule = is_replaced split one here.schedule there.schedule refl }

-- the claim applies
pub looks_the_same : one_sees here ≡ one_sees there
looks_the_same = unseen split 2 one here there accepted_here accepted_there differ

-- refusal 17 is needed: process 1 reads word 0, or swaps on it
word_read : get_or (one_sees reading).words 0 0 ≡ 7
unfolding reading through part row_numbered first count value_in bit_in swapped_in bit_of turn_of flips_in tried_in storing_in decide_in step_turn_in applied apply proc_at turn_in act_in step_in begin
word_read = refl

word-swapped : get_or (one_sees swapping).words 0 0 ≡ 8589934601
unfolding swapping through part row_numbered first count value_in bit_in swapped_in bit_of turn_of flips_in tried_in storing_in decide_in step_turn_in applied apply proc_at turn_in act_in step_in begin
word-swapped = refl

pub on_the_others_word : DifferOnlyInOther split one reading swapping × (one_sees reading ≡ one_sees swapping → ⊥)
unfolding reading swapping owns proxy_of part replaced other_byte
on_the_others_word = (
  record { own_rows = refl; as_many_rows = refl; own_words = refl; schedule = is_replaced split one (replicate 7 0x01) (replicate 7 0x01) refl },
  λ e. let z : ◌≡◌ {A = ℕ} 7 8589934601 = sym word_read ∙ ap (λ v. get_or v.words 0 0) e ∙ word-swapped in omega arith,
)
