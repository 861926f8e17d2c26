-- `first_bad_field` meets its contract. Before row k: what the search finds from row k on is what the whole search finds. Before a field of
-- row k: what the search in the row finds from that field on is what it finds in the whole row.
use Rattle.runfile.proofs.First.{Left, From}
use Rattle.runfile.specs.Refusals.{bad_in, first_found, bad_field_in}
use Rattle.runfile.specs.Format.{offset_of}
use Rattle.runfile.specs.Fields.{field_at}
use Rattle.runfile.specs.Layout.{row_place}
use Rattle.runfile.specs.declared.Header.{Header}
use Rattle.std.specs.Prelude.{None}
use Prim.Native.Nat.{ℕ, ◌+◌}
use mathlib.Core.List.{List}
use mathlib.Core.Bool.{Bool}
use mathlib.Core.Path.{◌≡◌}
use Rattle.runfile.proofs.rows.Rows.first_bad_field.Given as goal

abbrev pub place : ℕ → ℕ → ℕ → ℕ → ℕ
place stride start k i = row_place stride start k + offset_of stride (field_at i)

abbrev pub bad_at : Header → ℕ → List ℕ → ℕ → ℕ → ℕ → Bool
bad_at header stride file start k i = bad_in header stride file start k (field_at i)

abbrev pub invariant-loop-field : goal.invariant-loop-field
invariant-loop-field l = let r = l.self in
    (l.found ≡ None) × (From (place r.stride r.start l.k) (bad_at l.header r.stride r.file.now r.start l.k) 6 l.field-index ≡ bad_field_in l.header r.stride r.file.now r.start l.k)

abbrev pub invariant-rows : goal.invariant-rows
invariant-rows l = let r = l.self in
    (l.found ≡ None) × (Left (bad_field_in l.header r.stride r.file.now r.start) r.count l.k ≡ first_found (bad_field_in l.header r.stride r.file.now r.start) 0 r.count)
