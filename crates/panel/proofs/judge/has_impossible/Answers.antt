-- `has_impossible` meets its contract: the records are searched over the operations that the file lends.
use Rattle.std.proofs.Common.{◌≡◌, ℕ, Bool, List}
use Rattle.runfile.specs.declared.Header.{Header}
use Rattle.runfile.specs.declared.Operations.{Operations}
use Rattle.runfile.specs.Lawful.{LawfulFile}
use Rattle.runfile.specs.Operations.{table_of}
use Rattle.runfile.specs.Promises.{RowsLent}
use Rattle.runfile.specs.Shares.{Lined}
use Rattle.engine.specs.Part.{rows_lent}
use Rattle.run.specs.Parts.{lined-part, table-part}
use Rattle.machine.specs.declared.Process.{Process}
use Rattle.panel.specs.Possible.{any_impossible}
use Rattle.panel.proofs.Whole.{rows_within}
use Rattle.panel.proofs.judge.has_impossible.Goals as goal

module _ (h : Header) (f : List ℕ) (o : Operations) (lent : RowsLent h f o.table.now o.stride o.count) where
  lined : LawfulFile h f → Lined o.stride o.table.now o.count
  lined l = rw (lent.table_is, lent.stride_is, lent.count_is) (lined-part h f l)

  found : (ps : List Process) (P : ℕ) (b : Bool) → P ≡ h.processes → b ≡ any_impossible (rows_lent o) ps 0 P → b ≡ any_impossible (table_of h f) ps 0 h.processes
  found ps P b here e = rw (lent.table_is, lent.stride_is, lent.count_is, here, table-part h f) at e

pub of-operations-requires : goal.of-operations-requires
of-operations-requires c = rows_within _ _ c.requires

pub any_impossible-requires-clause-lined : goal.any_impossible-requires-clause-lined
any_impossible-requires-clause-lined c = lined _ _ c.of-operations.result c.of-operations.ensures c.requires

pub any_impossible-requires-clause-sixteen : goal.any_impossible-requires-clause-sixteen
any_impossible-requires-clause-sixteen c = rw c.from.ensures c.requires.head.processes

pub returns : goal.returns
returns c = found _ _ c.of-operations.result c.of-operations.ensures _ _ _ c.from.ensures c.any_impossible.ensures
