-- What a key comes to over lent records (R200 to R203).
use Rattle.std.specs.Prelude.{ℕ, List, length}
use Rattle.machine.specs.declared.Process.{Process}
use Rattle.panel.specs.declared.Stroke.{Stroke}
use Rattle.panel.specs.Press.{Pressed, pressed}

-- every record of the list is the caller's
unfoldable pub keyed : (file : List ℕ) (records : List Process) (words log answers : List ℕ) → Stroke → Pressed
keyed file records = pressed file (record { processes = records; held = length records })
