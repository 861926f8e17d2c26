-- `first_idle` meets its contract. Invariant: the table says who is up after the first i bytes, and what the search finds from i on is what the whole
-- search finds.
use Rattle.runfile.proofs.First.{begin, hit, over}
use Rattle.runfile.proofs.Idle.{all_up, asked, missed, no_step, crashed, waked, all_crashed, stayed, stepped}
use Rattle.runfile.specs.Refusals.{offends_at, first_byte}
use Rattle.runfile.specs.Ups.{idles}
use lib.ListN.{length}
use Prim.Native.Nat.{ℕ, ◌+◌}
use mathlib.Core.List.{List}
use mathlib.Core.Path.{refl, ◌∙◌}
use native.Mathlib.Omega.{arith}
use Rattle.runfile.proofs.schedule.first_idle.Goals.{then-byte-ge16+else-is_idle+in-1, then-byte-ge16+else-is_idle+in-2, then-byte-ge16+else-is_idle+in-15, then-byte-ge16+else-is_idle+in_default, else-byte-ge16}
use Rattle.runfile.proofs.schedule.first_idle.Goals as goal

pub loop-i-init : goal.loop-i-init
loop-i-init c =
    let a = c.args in
    let s : List ℕ = a.schedule.now in
    (all_up, begin (λ j. a.start + j) (offends_at idles s) (length s))

-- what the call asks is the test of this byte, after those before it
pub returns-then-is_idle : goal.returns-then-is_idle
unfolding first_byte
returns-then-is_idle c =
    let s : List ℕ = c.args.schedule.now in
    let l = c.loop-i in
    let t = asked s l.i l.up l.invariant.0 c.from-p.result c.is_idle.result c.from-p.ensures c.is_idle.ensures in
    hit (λ j. c.args.start + j) (offends_at idles s) (length s) l.i _ c.loop-i-test.true (t ∙ c.if-is_idle.true) l.invariant.1

-- a crash, a wake, a crash of all, no action; and a step, of which nothing was asked
pub loop-i-preserved : goal.loop-i-preserved
loop-i-preserved c =
    let s : List ℕ = c.args.schedule.now in
    let l = c.loop-i in
    elim c.if-byte-ge16.branch [
      | then-byte-ge16+else-is_idle+in-1 w ↦
          let t = asked s l.i l.up l.invariant.0 w.from-p.result w.is_idle.result w.from-p.ensures w.is_idle.ensures in
          rw w.up-is (crashed s l.i l.up l.invariant.0 c.loop-i-test.true _ refl w.from-p.result w.from-p.ensures w.in-1.is, missed c.args.start s l.i c.loop-i-test.true (t ∙ w.if-is_idle.false) l.invariant.1)
      | then-byte-ge16+else-is_idle+in-2 w ↦
          let t = asked s l.i l.up l.invariant.0 w.from-p.result w.is_idle.result w.from-p.ensures w.is_idle.ensures in
          rw w.up-is (waked s l.i l.up l.invariant.0 c.loop-i-test.true _ refl w.from-p.result w.from-p.ensures w.in-2.is, missed c.args.start s l.i c.loop-i-test.true (t ∙ w.if-is_idle.false) l.invariant.1)
      | then-byte-ge16+else-is_idle+in-15 w ↦
          let t = asked s l.i l.up l.invariant.0 w.from-p.result w.is_idle.result w.from-p.ensures w.is_idle.ensures in
          rw w.up-is (all_crashed s l.i l.up l.invariant.0 c.loop-i-test.true _ refl w.in-15.is, missed c.args.start s l.i c.loop-i-test.true (t ∙ w.if-is_idle.false) l.invariant.1)
      | then-byte-ge16+else-is_idle+in_default w ↦
          let t = asked s l.i l.up l.invariant.0 w.from-p.result w.is_idle.result w.from-p.ensures w.is_idle.ensures in
          rw w.up-is (stayed s l.i l.up l.invariant.0 c.loop-i-test.true _ refl (λ e. let n = w.in_default in omega arith) (λ e. let n = w.in_default in omega arith) (λ e. let n = w.in_default in omega arith), missed c.args.start s l.i c.loop-i-test.true (t ∙ w.if-is_idle.false) l.invariant.1)
      | else-byte-ge16 w ↦
          rw w.up-is (stepped s l.i l.up l.invariant.0 c.loop-i-test.true w.if-byte-ge16.false, missed c.args.start s l.i c.loop-i-test.true (no_step s l.i w.if-byte-ge16.false) l.invariant.1)
    ]

pub returns : goal.returns
unfolding first_byte
returns c =
    let s : List ℕ = c.args.schedule.now in
    over (λ j. c.args.start + j) (offends_at idles s) (length s) c.loop-i.i _ c.loop-i-test.false c.loop-i.invariant.1
