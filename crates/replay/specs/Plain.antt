-- Plain words: values without flip bits, that are read, compared and swapped, or added to, at one stroke (R244); and a log carried out on them (R245).
use Rattle.std.specs.Prelude.{ℕ, ◌≡◌, cond, List, [], ◌∷◌, eqb, get_or, set}
use Rattle.runfile.specs.declared.Row.{Row}
use Rattle.runfile.specs.declared.Kind.{Kind}
use Rattle.runfile.specs.declared.Kind.TheVariants.{Read, Compare, Advance}
use Rattle.runfile.specs.Operations.{row_numbered}
use Rattle.runfile.specs.Kinds.{kind_of, new_of}
use Rattle.rows.specs.declared.Entry.{Entry}
use Rattle.rows.specs.Entries.{Said, said, is_swapped}

-- what a row answers where its word has the value v, by its kind and its old (R244), with the verdicts of R161
abbrev pub answer_by : Kind → (old v : ℕ) → Said
answer_by Read old v = record { verdict = 3; value = v }
answer_by Compare old v = cond (eqb v old) (record { verdict = 1; value = 0 }) (record { verdict = 0; value = 0 })
answer_by Advance old v = record { verdict = 4; value = v }

unfoldable pub answer_of : Row → ℕ → Said
answer_of row v = answer_by (kind_of row) row.old v

-- the values that it leaves: what a swap puts in is put in exactly where it answers with a successful one (R244)
unfoldable pub leaves : Row → List ℕ → List ℕ
leaves row values =
    let v = get_or values row.word 0 in
    cond (is_swapped (answer_of row v)) (set values row.word (new_of row v)) values

-- from these values the log's rows, front to back, give what stands in them, and the words end with these final values (R245)
abbrev pub Replayed : List Row → List ℕ → List Entry → List ℕ → Type 0
Replayed rows values [] finals = values ≡ finals
Replayed rows values (e ∷ log) finals =
    (said e ≡ answer_of (row_numbered rows e.row) (get_or values (row_numbered rows e.row).word 0)) × Replayed rows (leaves (row_numbered rows e.row) values) log finals
