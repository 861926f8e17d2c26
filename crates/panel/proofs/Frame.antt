-- Whatever is lent, and whatever the key: it is refused, and all is as it was (R222), or it is carried out, and leaves alone what it must (R204, R206).
use Rattle.std.specs.Prelude.{ℕ, ◌≡◌, List, Ok, Err}
use Rattle.std.proofs.Math.Path.{refl}
use Rattle.std.proofs.Math.ListN.{length}
use Rattle.machine.specs.declared.Process.{Process}
use Rattle.run.specs.Run.{room_of}
use Rattle.panel.specs.declared.Stroke.{Stroke}
use Rattle.panel.specs.declared.Table.{Table}
use Rattle.panel.proofs.Fits.{fit, fine_file}
use Rattle.panel.specs.Press.{Verdict, Lent, lent, verdict_of, pressed_as, pressed}
use Rattle.panel.specs.Key.{keyed}
use Rattle.panel.specs.Frame.{Comes, refused, went, frame_carried}

module _ (f : List ℕ) (records : List Process) (words log answers : List ℕ) (key : Stroke) where
  abbrev lends : Lent
  lends = lent records words log answers

  abbrev whole : Table
  whole = record { processes = records; held = length records }

  pub frame : Comes f lends key (keyed f records words log answers key)
  unfolding keyed pressed
  frame = go (verdict_of f whole (room_of words log answers) key) refl
    where
      go : (v : Verdict) → verdict_of f whole (room_of words log answers) key ≡ v → Comes f lends key (pressed_as v f lends key)
      go (Err r) e = refused r.why r.place refl
      go (Ok h) e =
          let file = fine_file f whole (room_of words log answers) key h e in
          went h file.0 _ _ refl (frame_carried h f records words log answers key (fit f whole (room_of words log answers) key h e) file.1)
