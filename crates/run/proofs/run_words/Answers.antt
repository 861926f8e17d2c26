-- `run_words` meets its contract: the parts of the file are its table and its schedule, and what is lent to the machine is its first state.
use Prim.Native.Nat.{ℕ, ◌≤◌}
use mathlib.Core.Path.{sym, subst}
use native.Mathlib.Omega.{arith}
use lib.ListN.{length}
use Rattle.runfile.specs.Layout.{word_place}
use Rattle.run.proofs.Finish.{asked, told}
use Rattle.run.proofs.run_words.Goals as goal

pub load_words-requires : goal.load_words-requires
load_words-requires c =
    let a = c.args in
    let e = c.requires.1.file.head.exact in
    subst (λ (n : ℕ). word_place a.header.version n ≤ length a.file.now) (sym c.requires.0) (omega arith)

pub run_bytes-left-requires : goal.run_bytes-left-requires
run_bytes-left-requires c =
    let a = c.args in
    asked a.header a.file.now a.words.now a.log.now a.answers.now c.requires.1 c.of-operations.result c.of-operations.ensures _ _ _ _ c.schedule_start-start.ensures.0 c.from.ensures c.load_words.ensures c.requires.0 c.fresh.ensures

pub returns : goal.returns
returns c =
    let a = c.args in
    told a.header a.file.now a.words.now a.log.now a.answers.now c.requires.1 c.of-operations.result c.of-operations.ensures _ _ _ _ c.schedule_start-start.ensures.0 c.from.ensures c.load_words.ensures c.requires.0 c.fresh.ensures _ _ _ _ c.run_bytes-left.ensures
