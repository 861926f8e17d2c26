-- What the contracts of `check` and `check_file` come to, said of every answer: each refusal exactly as the table says, and what is accepted is lawful.
use Rattle.std.specs.Prelude.{ℕ, ◌≡◌, List, ◌↔◌, Result, Ok}
use Rattle.std.proofs.Common.{sym, ◌∙◌}
use Rattle.runfile.specs.declared.Room.{Room}
use Rattle.runfile.specs.declared.Refusal.{Refusal}
use Rattle.runfile.specs.declared.Refused.{Refused}
use Rattle.runfile.specs.declared.Header.{Header}
use Rattle.runfile.specs.Layout.{header_in}
use Rattle.runfile.specs.Refusals.{refused}
use Rattle.runfile.specs.Table.{Given, Earlier}
use Rattle.runfile.specs.Lawful.{Lawful, LawfulFile}
use Rattle.runfile.specs.Promises.{Decides, DecidesFile}
use Rattle.runfile.proofs.Exactly.{exactly}
use Rattle.runfile.proofs.Lawful.{lawful, lawful_file}

-- what `check` promises, number by number: it answers `why` at `at` exactly when the table's line says so and no earlier line does
pub decides_exactly : (f : List ℕ) (room : Room) (r : Result Header Refused) → Decides f room r → (why : Refusal) (at : ℕ)
    → (r ≡ refused why at)
    ↔ (Given (header_in f) f room why at × ((e : Refusal) → Earlier e why → (p : ℕ) → Given (header_in f) f room e p → ⊥))
decides_exactly f room r d why at = let x = exactly f room why at in (λ e. x.0 (sym d.result ∙ e), λ g. d.result ∙ x.1 g)

-- and what it accepts is lawful, with the header that it hands over
pub decides_lawful : (f : List ℕ) (room : Room) (r : Result Header Refused) → Decides f room r → (h : Header) → r ≡ Ok h → Lawful h f room
decides_lawful f room r d h e = lawful f room h (sym d.result ∙ e)

pub decides_file_lawful : (f : List ℕ) (r : Result Header Refused) → DecidesFile f r → (h : Header) → r ≡ Ok h → LawfulFile h f
decides_file_lawful f r d h e = lawful_file f h (sym d ∙ e)
