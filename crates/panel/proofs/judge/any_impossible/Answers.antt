-- `any_impossible` meets its contract: the closure tests a record, with the two tables at its process.
use Rattle.std.proofs.Common.{rules, tests, refl, ◌≡◌, ◌∙◌, ℕ, ◌+◌, ◌≤◌, ◌<◌, Bool, ◌||◌, List, get_or, arith}
use Rattle.std.proofs.lemmas.Iterator.{YieldsList-from_range, serves_from_Range}
use Rattle.std.proofs.lemmas.Iterator.Search.{any_from_yields_List}
use Rattle.runfile.specs.declared.Row.{Row}
use Rattle.runfile.specs.Kinds.{kind_of}
use Rattle.runfile.specs.Operations.{rows_from, row_numbered}
use Rattle.runfile.specs.OperationLaws.{length-rows_from}
use Rattle.engine.specs.Part.{rows_lent}
use Rattle.runfile.specs.Shares.{Counted, Summed, last_fits, first-at, sum_fits}
use Rattle.machine.specs.declared.Process.{Process}
use Rattle.machine.specs.Records.{nobody, row_open}
use Rattle.panel.specs.Possible.{misplaced, misdone, impossible}
use Rattle.panel.proofs.Search.{any_tested}
use Rattle.panel.proofs.judge.any_impossible.Goals as goal

-- what the closure tests: the record, with the two tables at its process
abbrev test : List Row → (firsts counts : List ℕ) → List Process → ℕ → Bool
test rows firsts counts ps p = let r = get_or ps p nobody in misplaced (get_or firsts p 0) (get_or counts p 0) r || misdone (kind_of (row_numbered rows (row_open r.opened))) r

tested : (rows : List Row) (firsts counts : List ℕ) (ps : List Process) (p : ℕ) → Counted rows counts → Summed counts firsts → p < 16 → test rows firsts counts ps p ≡ impossible rows p (get_or ps p nobody)
unfolding impossible
tested rows firsts counts ps p c s low = rw (first-at rows counts firsts c s p low, c.each p low) refl

-- its rows are in the table
in_table : (stride : ℕ) (table : List ℕ) (n : ℕ) (firsts counts : List ℕ) (p : ℕ) → Counted (rows_from stride table 0 n) counts → Summed counts firsts → p < 16 → get_or firsts p 0 + get_or counts p 0 ≤ n
in_table stride table n firsts counts p c s low =
    let rows = rows_from stride table 0 n in
    omega (arith, first-at rows counts firsts c s p low, c.each p low, last_fits rows p, length-rows_from stride table 0 n)

pub firsts_of-firsts-requires : goal.firsts_of-firsts-requires
firsts_of-firsts-requires c = let o = c.args.operations in sum_fits o.stride o.table.now o.count _ c.requires.lined.few c.counts-counts.ensures

pub any-requires-clause-callable : goal.any-requires-clause-callable
any-requires-clause-callable c = serves_from_Range (λ x q k. search rules) (λ x from to.
    let low : x < 16 = omega (arith, c.requires.sixteen) in
    let fits = in_table _ _ _ _ _ x c.counts-counts.ensures c.firsts_of-firsts.ensures low in
    let lined = c.requires.lined in
    search rules)

pub returns : goal.returns
returns c =
    let tested_by = test (rows_lent c.args.operations) c.firsts_of-firsts.result c.counts-counts.result c.args.processes in
    any_from_yields_List tested_by _ _ _ c.any.ensures.ran (YieldsList-from_range 0 c.args.present c.args.present refl (omega arith)) (λ x b q k. search (rules, tests))
    ∙ any_tested _ c.args.processes tested_by 0 c.args.present (λ p i. tested _ _ _ _ p c.counts-counts.ensures c.firsts_of-firsts.ensures (omega (arith, c.requires.sixteen)))
