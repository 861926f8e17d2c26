-- The wrong machine of `specs/Wrong.antt` breaks the claim: the position at which a proxy's own false stands in the log tells it when the other proxy
-- swapped. By computation of two runs.
use Rattle.std.specs.Prelude.{ℕ, ◌≡◌, refl, List, get_or}
use Rattle.std.proofs.Common.{sym, ◌∙◌, ap, arith}
use Rattle.runfile.specs.Operations.{row_numbered, first, count, names}
use Rattle.runfile.specs.Refusals.{same_fields}
use Rattle.word.specs.Word.{value_in, bit_in, swapped_in, bit_of, turn_of, flips_in}
use Rattle.rows.specs.Entries.{is_swapped}
use Rattle.rows.specs.Log.{one_past, place, insert, is_swap, first_swap}
use Rattle.machine.specs.Steps.{spoken, tried_in, storing_in, decide_in, step_turn_in}
use Rattle.machine.specs.Machine.{applied, apply, proc_at, turn_in, act_in, step_in, begin}
use Rattle.demand3.specs.Statement.{through}
use Rattle.demand3.specs.Planned.{passes, all_pass}
use Rattle.demand3.specs.Rule.{turn_by, act_by, step_by}
use Rattle.proxies.specs.Statement.{one, proxy_of, owns, part, Accepted, DifferOnlyInOther, entries_of, Unseen}
use Rattle.proxies.specs.Computed.{all_own, other_byte, replaced}
use Rattle.proxies.specs.Wrong.{first_anywhere, any_word, leaky, split, rows, busy, resting, input, nothing, false_at}
use Rattle.proxies.proofs.Computed.{accepts, is_replaced}

-- process 0's false stands at the position of process 2's swap
told_of_it : false_at busy ≡ 10
unfolding rows busy first_anywhere any_word turn_by act_by step_by through owns proxy_of part entries_of names is_swap first_swap row_numbered first count value_in bit_in swapped_in bit_of turn_of flips_in is_swapped one_past place insert spoken tried_in storing_in decide_in step_turn_in applied apply proc_at turn_in act_in step_in begin
told_of_it = refl

-- or, where process 2 makes none, of process 1's
told_of_none : false_at resting ≡ 17
unfolding rows resting first_anywhere any_word turn_by act_by step_by through owns proxy_of part entries_of names is_swap first_swap row_numbered first count value_in bit_in swapped_in bit_of turn_of flips_in is_swapped one_past place insert spoken tried_in storing_in decide_in step_turn_in applied apply proc_at turn_in act_in step_in begin
told_of_none = refl

-- both inputs are accepted, and differ only in proxy two's bytes
accepted : (schedule : List ℕ) → Accepted split 3 (input schedule)
unfolding rows passes all_pass same_fields all_own proxy_of
accepted schedule = accepts split 3 (input schedule) (omega arith) refl refl

differ : DifferOnlyInOther split one (input busy) (input resting)
unfolding busy resting replaced other_byte owns proxy_of
differ = record { own_rows = refl; as_many_rows = refl; own_words = refl; schedule = is_replaced split one busy resting refl }

pub leaks : Unseen split one leaky 3 → ⊥
leaks d =
    let z : ◌≡◌ {A = ℕ} 10 17 = sym told_of_it ∙ ap (λ v. (get_or v.log 0 nothing).position) (d (input busy) (input resting) (accepted busy) (accepted resting) differ) ∙ told_of_none in
    omega arith
