-- `load_words` meets its contract. Invariant: the first i start words stand in front.
use Rattle.run.proofs.Start.{load_turn, load_end}
use Rattle.rows.specs.Buffers.{infront}
use Rattle.runfile.specs.OperationLaws.{word-within}
use lib.ListN.{length}
use native.Mathlib.Omega.{arith}
use mathlib.Core.Path.{◌≡◌, refl, ◌∙◌}
use Rattle.run.proofs.load.load_words.Goals as goal

pub loop-i-init : goal.loop-i-init
unfolding infront
loop-i-init c = refl

pub word_at-requires : goal.word_at-requires
word_at-requires c =
    let a = c.args in
    let w = word-within a.header.version c.loop-i.i (length a.words.now) c.loop-i-test.true in
    let p = c.requires in
    omega arith

pub loop-i-preserved : goal.loop-i-preserved
loop-i-preserved c =
    let a = c.args in
    load_turn a.header.version a.file.now a.words.now c.loop-i.words c.loop-i.i c.word_at.result c.loop-i-test.true c.loop-i.invariant c.word_at.ensures

pub returns : goal.returns
returns c =
    let a = c.args in
    let e : c.loop-i.i ≡ length a.words.now = (let z = c.loop-i-test.false in let b = c.loop-i.auto.i-end in omega arith) in
    c.loop-i.invariant ∙ rw e (load_end a.header.version a.file.now a.words.now)
