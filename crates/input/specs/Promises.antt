-- What is promised of reading: the room is for as many bytes as decide (R9), and what is read stands in front. Which bytes they are is promised beside this,
-- by std's `Consumes`, of a reader whose bytes are known; of a file or of standard input no contract can say.
use Rattle.std.specs.Prelude.{ℕ, ◌≤◌, ◌≡◌, List, length, take}
use Rattle.runfile.specs.Enough.{enough}

pub record Reads (r : ℕ) (file : List ℕ) : Type 0 where
  pub room : length file ≡ enough
  pub within : r ≤ length file
  -- said once more of the part that is handed on, as whoever lends it wants it
  pub handed_on : r ≡ length (take r file)
