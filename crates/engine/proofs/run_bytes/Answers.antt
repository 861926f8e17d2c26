-- `run_bytes` meets its contract: the loop's invariant holds at first, each way through the loop is one of the ways that Ways.antt names, with what the
-- calls on that way ensure, and the state after all bytes is what the contract says.
use mathlib.Core.Path.{◌≡◌, refl, ◌∙◌}
use native.Mathlib.Omega.{arith}
use lib.ListN.{length}
use borrow.Author.Rules.{rules}
use Rattle.runfile.specs.Operations.{rows_from}
use Rattle.runfile.specs.Shares.{sum_fits}
use Rattle.engine.proofs.Loop.{mapped, hold_start, hold_end, left_in}
use Rattle.engine.proofs.Ways.{bit_by, swapped_by, entry_by, at_byte, all_of, still, announced, rests, second, start_fits, third, reach, number_in, log_room, first_read, bit_kept, checked, won, lost, entered_row, recovers, by_checkpoint, by_bit, says_kept, replied, crash, wake_idle, wake_busy, wake_awake, fall}
use Rattle.engine.proofs.run_bytes.Goals.{in-0+in-Down, in-0+in-Idle+then-process-counts, in-0+in-Idle+else-process-counts, in-0+in-N2, in-0+in-N3, in-0+in-Busy+in-0-number, in-0+in-Busy+in-1-number, in-0+in-Busy+in-2-number, in-0+in-Busy+in-3+then-now-seen, in-0+in-Busy+in-3+else-now-seen, in-0+in-Busy+in-4, in-0+in-Busy+in-6, in-0+in-Busy+in-7, in-0+in-Busy+in-8, in-0+in-Busy+in-9, in-0+in-Busy+in_default-number, in-1, in-2+in-Down-status+in-None, in-2+in-Down-status+in-Some, in-2+in_default-status, in-3-to-14, in_default}
use Rattle.engine.proofs.run_bytes.Goals as goal

pub firsts_of-firsts-requires : goal.firsts_of-firsts-requires
firsts_of-firsts-requires c =
    let o = c.args.operations in
    sum_fits o.stride o.table.now o.count c.counts-counts.result c.requires.lined.few c.counts-counts.ensures

pub loop-i-init : goal.loop-i-init
loop-i-init c =
    let a = c.args in
    let o = a.operations in
    let sixteen : length a.part.from.processes ≡ 16 = search (rules, mapped) in
    (sixteen, hold_start (rows_from o.stride o.table.now 0 o.count) a.part.present a.part.from a.schedule.now a.words.now a.log.now a.answers.now sixteen (let r = c.requires.log_room in omega arith) (let r = c.requires.answers_room in omega arith), refl, refl)

pub start-requires : goal.start-requires
start-requires c =
    let b = at_byte c.requires (c.loop-i.invariant.0, c.loop-i.invariant.1) c.loop-i-test.true c.from-at.ensures c.counts-counts.ensures c.firsts_of-firsts.ensures in
    start_fits b c.in-0.is c.in-N3.is

pub row-requires : goal.row-requires
row-requires c =
    let b = at_byte c.requires (c.loop-i.invariant.0, c.loop-i.invariant.1) c.loop-i-test.true c.from-at.ensures c.counts-counts.ensures c.firsts_of-firsts.ensures in
    (reach b c.in-0.is c.in-Busy.is c.open_row-row.ensures c.from-k.ensures).row

pub row-requires-in-1-number : goal.row-requires-in-1-number
row-requires-in-1-number c =
    let b = at_byte c.requires (c.loop-i.invariant.0, c.loop-i.invariant.1) c.loop-i-test.true c.from-at.ensures c.counts-counts.ensures c.firsts_of-firsts.ensures in
    (reach b c.in-0.is c.in-Busy.is c.open_row-row.ensures c.from-k.ensures).row

pub row-operation-requires : goal.row-operation-requires
row-operation-requires c =
    let b = at_byte c.requires (c.loop-i.invariant.0, c.loop-i.invariant.1) c.loop-i-test.true c.from-at.ensures c.counts-counts.ensures c.firsts_of-firsts.ensures in
    (reach b c.in-0.is c.in-Busy.is c.open_row-row.ensures c.from-k.ensures).row

pub row-requires-in-9 : goal.row-requires-in-9
row-requires-in-9 c =
    let b = at_byte c.requires (c.loop-i.invariant.0, c.loop-i.invariant.1) c.loop-i-test.true c.from-at.ensures c.counts-counts.ensures c.firsts_of-firsts.ensures in
    (reach b c.in-0.is c.in-Busy.is c.open_row-row.ensures c.from-k.ensures).row

pub word_now-now-requires : goal.word_now-now-requires
word_now-now-requires c =
    let b = at_byte c.requires (c.loop-i.invariant.0, c.loop-i.invariant.1) c.loop-i-test.true c.from-at.ensures c.counts-counts.ensures c.firsts_of-firsts.ensures in
    reach b c.in-0.is c.in-Busy.is c.open_row-row.ensures c.from-k.ensures

pub word_now-now-requires-in-3 : goal.word_now-now-requires-in-3
word_now-now-requires-in-3 c =
    let b = at_byte c.requires (c.loop-i.invariant.0, c.loop-i.invariant.1) c.loop-i-test.true c.from-at.ensures c.counts-counts.ensures c.firsts_of-firsts.ensures in
    reach b c.in-0.is c.in-Busy.is c.open_row-row.ensures c.from-k.ensures

pub store_word-requires : goal.store_word-requires
store_word-requires c =
    let b = at_byte c.requires (c.loop-i.invariant.0, c.loop-i.invariant.1) c.loop-i-test.true c.from-at.ensures c.counts-counts.ensures c.firsts_of-firsts.ensures in
    reach b c.in-0.is c.in-Busy.is c.open_row-row.ensures c.from-k.ensures

pub word_now-now-requires-in-8 : goal.word_now-now-requires-in-8
word_now-now-requires-in-8 c =
    let b = at_byte c.requires (c.loop-i.invariant.0, c.loop-i.invariant.1) c.loop-i-test.true c.from-at.ensures c.counts-counts.ensures c.firsts_of-firsts.ensures in
    reach b c.in-0.is c.in-Busy.is c.open_row-row.ensures c.from-k.ensures

pub enter-requires : goal.enter-requires
enter-requires c =
    let b = at_byte c.requires (c.loop-i.invariant.0, c.loop-i.invariant.1) c.loop-i-test.true c.from-at.ensures c.counts-counts.ensures c.firsts_of-firsts.ensures in
    record { looked = record { size = c.requires.lined.size; whole = c.requires.lined.whole; row = number_in b c.in-0.is c.in-Busy.is c.open_row-row.ensures; rows = let r = log_room b in omega arith }; room = log_room b }

pub loop-i-preserved : goal.loop-i-preserved
loop-i-preserved c =
    let b = at_byte c.requires (c.loop-i.invariant.0, c.loop-i.invariant.1) c.loop-i-test.true c.from-at.ensures c.counts-counts.ensures c.firsts_of-firsts.ensures in
    elim c.match-byte-div16.branch [
      | in-0+in-Down w ↦ rw (w.words-is, w.processes-is, w.log-is, w.answers-is) (c.loop-i.invariant.0, still b w.in-0.is w.in-Down.is, c.loop-i.invariant.2, c.loop-i.invariant.3)
      | in-0+in-Idle+then-process-counts w ↦ rw (w.words-is, w.processes-is, w.log-is, w.answers-is) (c.loop-i.invariant.0, announced b w.in-0.is w.in-Idle.is w.if-process-counts.true, c.loop-i.invariant.2, c.loop-i.invariant.3)
      | in-0+in-Idle+else-process-counts w ↦ rw (w.words-is, w.processes-is, w.log-is, w.answers-is) (c.loop-i.invariant.0, rests b w.in-0.is w.in-Idle.is w.if-process-counts.false, c.loop-i.invariant.2, c.loop-i.invariant.3)
      | in-0+in-N2 w ↦ rw (w.words-is, w.processes-is, w.log-is, w.answers-is) (c.loop-i.invariant.0, second b w.in-0.is w.in-N2.is, c.loop-i.invariant.2, c.loop-i.invariant.3)
      | in-0+in-N3 w ↦ rw (w.words-is, w.processes-is, w.log-is, w.answers-is) (c.loop-i.invariant.0, third b w.in-0.is w.in-N3.is w.start.ensures, c.loop-i.invariant.2, c.loop-i.invariant.3)
      | in-0+in-Busy+in-0-number w ↦ rw (w.words-is, w.processes-is, w.log-is, w.answers-is) (c.loop-i.invariant.0, first_read b w.in-0.is w.in-Busy.is w.open_row-row.ensures w.from-k.ensures w.from-number.ensures w.in-0-number.is w.row.ensures w.word_now-now.ensures w.after_read.ensures, c.loop-i.invariant.2, c.loop-i.invariant.3)
      | in-0+in-Busy+in-1-number w ↦ rw (w.words-is, w.processes-is, w.log-is, w.answers-is) (c.loop-i.invariant.0, bit_kept b w.in-0.is w.in-Busy.is w.open_row-row.ensures w.from-k.ensures w.from-number.ensures w.in-1-number.is w.row-in-1-number.ensures w.kind_of-kind.ensures (bit_by _ w.bit_of-turned.ensures w.from.ensures) w.value_of-value.ensures w.keep.ensures w.busy.ensures, c.loop-i.invariant.2, c.loop-i.invariant.3)
      | in-0+in-Busy+in-2-number w ↦ rw (w.words-is, w.processes-is, w.log-is, w.answers-is) (c.loop-i.invariant.0, checked b w.in-0.is w.in-Busy.is w.open_row-row.ensures w.from-k.ensures w.from-number.ensures w.in-2-number.is w.busy-in-2-number.ensures, c.loop-i.invariant.2, c.loop-i.invariant.3)
      | in-0+in-Busy+in-3+then-now-seen w ↦ rw (w.words-is, w.processes-is, w.log-is, w.answers-is) (c.loop-i.invariant.0, won b w.in-0.is w.in-Busy.is w.open_row-row.ensures w.from-k.ensures w.from-number.ensures w.in-3.is w.row-operation.ensures w.kind_of-kind-in-3.ensures w.word_now-now-in-3.ensures w.if-now-seen.true w.value_of-found.ensures w.swap_says.ensures w.busy-then-now-seen.ensures w.put_in-mark.ensures (swapped_by _ _ w.swapped_of-new.ensures w.from-then-now-seen.ensures) w.store_word.ensures (entry_by _ _ _ w.entry_of.ensures w.from-then-now-seen-2.ensures) w.insert.ensures.counted w.insert.ensures.inserted, w.insert.ensures.same_buffer ∙ c.loop-i.invariant.2, c.loop-i.invariant.3)
      | in-0+in-Busy+in-3+else-now-seen w ↦ rw (w.words-is, w.processes-is, w.log-is, w.answers-is) (c.loop-i.invariant.0, lost b w.in-0.is w.in-Busy.is w.open_row-row.ensures w.from-k.ensures w.from-number.ensures w.in-3.is w.row-operation.ensures w.kind_of-kind-in-3.ensures w.word_now-now-in-3.ensures w.if-now-seen.false w.after_loss.ensures, c.loop-i.invariant.2, c.loop-i.invariant.3)
      | in-0+in-Busy+in-4 w ↦ rw (w.words-is, w.processes-is, w.log-is, w.answers-is) (c.loop-i.invariant.0, entered_row b w.in-0.is w.in-Busy.is w.open_row-row.ensures w.from-k.ensures w.from-number.ensures w.in-4.is w.busy-in-4.ensures refl w.enter.ensures.entered, w.enter.ensures.same_buffer ∙ c.loop-i.invariant.2, c.loop-i.invariant.3)
      | in-0+in-Busy+in-6 w ↦ rw (w.words-is, w.processes-is, w.log-is, w.answers-is) (c.loop-i.invariant.0, recovers b w.in-0.is w.in-Busy.is w.open_row-row.ensures w.from-k.ensures w.from-number.ensures w.in-6.is w.recovered_of-next.ensures w.busy-in-6.ensures, c.loop-i.invariant.2, c.loop-i.invariant.3)
      | in-0+in-Busy+in-7 w ↦ rw (w.words-is, w.processes-is, w.log-is, w.answers-is) (c.loop-i.invariant.0, by_checkpoint b w.in-0.is w.in-Busy.is w.open_row-row.ensures w.from-k.ensures w.from-number.ensures w.in-7.is w.by_checkpoint-next.ensures w.busy-in-7.ensures, c.loop-i.invariant.2, c.loop-i.invariant.3)
      | in-0+in-Busy+in-8 w ↦ rw (w.words-is, w.processes-is, w.log-is, w.answers-is) (c.loop-i.invariant.0, by_bit b w.in-0.is w.in-Busy.is w.open_row-row.ensures w.from-k.ensures w.from-number.ensures w.in-8.is w.word_now-now-in-8.ensures w.by_bit-next.ensures w.busy-in-8.ensures, c.loop-i.invariant.2, c.loop-i.invariant.3)
      | in-0+in-Busy+in-9 w ↦ rw (w.words-is, w.processes-is, w.log-is, w.answers-is) (c.loop-i.invariant.0, says_kept b w.in-0.is w.in-Busy.is w.open_row-row.ensures w.from-k.ensures w.from-number.ensures w.in-9.is w.row-in-9.ensures w.kind_of-kind-in-9.ensures w.swap_says-in-9.ensures w.busy-in-9.ensures, c.loop-i.invariant.2, c.loop-i.invariant.3)
      | in-0+in-Busy+in_default-number w ↦ let n = w.in_default-number in rw (w.words-is, w.processes-is, w.log-is, w.answers-is) (c.loop-i.invariant.0, replied b w.in-0.is w.in-Busy.is w.open_row-row.ensures w.from-k.ensures w.from-number.ensures (λ e. omega arith) (λ e. omega arith) (λ e. omega arith) (λ e. omega arith) (λ e. omega arith) (λ e. omega arith) (λ e. omega arith) (λ e. omega arith) (λ e. omega arith) w.reply_of-said.ensures (entry_by _ _ _ w.entry_of-in_default-number.ensures w.from-in_default-number.ensures) w.push.ensures.counted w.push.ensures.added, c.loop-i.invariant.2, w.push.ensures.same_buffer ∙ c.loop-i.invariant.3)
      | in-1 w ↦ rw (w.words-is, w.processes-is, w.log-is, w.answers-is) (c.loop-i.invariant.0, crash b w.in-1.is, c.loop-i.invariant.2, c.loop-i.invariant.3)
      | in-2+in-Down-status+in-None w ↦ rw (w.words-is, w.processes-is, w.log-is, w.answers-is) (c.loop-i.invariant.0, wake_idle b w.in-2.is w.in-Down-status.is w.in-None.is, c.loop-i.invariant.2, c.loop-i.invariant.3)
      | in-2+in-Down-status+in-Some w ↦ rw (w.words-is, w.processes-is, w.log-is, w.answers-is) (c.loop-i.invariant.0, wake_busy b w.in-2.is w.in-Down-status.is w.in-Some.is w.busy-in-Some.ensures, c.loop-i.invariant.2, c.loop-i.invariant.3)
      | in-2+in_default-status w ↦ rw (w.words-is, w.processes-is, w.log-is, w.answers-is) (c.loop-i.invariant.0, wake_awake b w.in-2.is w.in_default-status.not-Down, c.loop-i.invariant.2, c.loop-i.invariant.3)
      | in-3-to-14 w ↦ let n = w.in-3-to-14 in absurd (let a = all_of b (λ e. omega arith) (λ e. omega arith) (λ e. omega arith) in omega arith)
      | in_default w ↦ let n = w.in_default in rw (w.words-is, w.processes-is, w.log-is, w.answers-is) (c.loop-i.invariant.0, fall b (λ e. omega arith) (λ e. omega arith) (λ e. omega arith) w.crash_first-processes.ensures, c.loop-i.invariant.2, c.loop-i.invariant.3)
    ]

pub returns : goal.returns
returns c =
    let a = c.args in
    let o = a.operations in
    let l = c.loop-i in
    let h = hold_end (rows_from o.stride o.table.now 0 o.count) a.part.present a.part.from a.schedule.now a.words.now a.log.now a.answers.now l.invariant.1 (let d = l.invariant.1.done in let t = c.loop-i-test.false in omega arith) in
    left_in h (search rules) (search rules)
