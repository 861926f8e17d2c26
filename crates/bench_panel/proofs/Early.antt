-- A key that was carried out came at a position of at most 1,023, since any other is refused by 21: so the next position is in reach.
use Rattle.std.proofs.Common.{ℕ, ◌≤◌, ◌≡◌, refl, List, length}
use Rattle.std.specs.Prelude.{Ok, Err}
use Rattle.machine.specs.declared.Process.{Process}
use Rattle.rows.specs.declared.Counts.{Counts}
use Rattle.run.specs.Run.{room_of}
use Rattle.panel.specs.declared.Stroke.{Stroke}
use Rattle.panel.specs.declared.Table.{Table}
use Rattle.panel.specs.Press.{Outcome, Verdict, lent, verdict_of, pressed_as, pressed}
use Rattle.panel.specs.Key.{keyed}
use Rattle.panel.proofs.Fits.{fit}

went : (f : List ℕ) (t : Table) (words log answers : List ℕ) (k : Stroke) (v : Verdict) (c : Counts)
    → verdict_of f t (room_of words log answers) k ≡ v → ◌≡◌ {A = Outcome} (pressed_as v f (lent t.processes words log answers) k).outcome (Ok c) → k.position ≤ 1023
went f t words log answers k (Err r) c q e = cc
went f t words log answers k (Ok h) c q e = (fit f t (room_of words log answers) k h q).early

pub early : (file : List ℕ) (records : List Process) (words log answers : List ℕ) (k : Stroke) (c : Counts) → ◌≡◌ {A = Outcome} (keyed file records words log answers k).outcome (Ok c) → k.position ≤ 1023
unfolding keyed pressed
early file records words log answers k c e = went file (record { processes = records; held = length records }) words log answers k _ c refl e
