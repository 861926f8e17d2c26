-- `insert` meets its contract: the part from the place on comes back with its rows moved up, and the new row is written over its front (`put_back`).
use Prim.Native.Nat.{◌*◌, ◌-◌}
use mathlib.Core.Path.{◌∙◌}
use native.Mathlib.Omega.{arith}
use Rattle.rows.proofs.Insert.{put_back}
use Rattle.rows.proofs.Entries.insert.Goals as goal

pub returns-clause-inserted : goal.returns-clause-inserted
returns-clause-inserted c =
    let found = rw (c.rows.ensures.same_count, c.rows.ensures.same_numbers) at c.place_of-at.ensures in
    let place = c.place_of-at.result in
    let count = c.args.self.now.count in
    c.write_row.ensures
    ∙ put_back count place (count * 5 - place * 5) c.args.self.now.numbers.now c.args.entry c.requires found.within (omega (arith, found.within)) c.shift_rows.new.part c.shift_rows.ensures found.result
