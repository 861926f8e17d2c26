-- A wrong machine, to be held against the claim, which is said of its own states: a lost swap takes the position of the first swap on any word, where R168
-- asks for one on the same word. Then the position at which a proxy's own false stands in the log tells it when the other proxy swapped
-- (`proofs/Wrong.antt`).
use Rattle.std.specs.Prelude.{ℕ, cond, ◌&&◌, List, [], ◌∷◌, ◌++◌, ltb, get_or, replicate}
use Rattle.runfile.specs.declared.Row.{Row}
use Rattle.rows.specs.declared.Entry.{Entry}
use Rattle.rows.specs.Entries.{said, is_swapped}
use Rattle.machine.specs.declared.Answer.TheVariants.{False}
use Rattle.machine.specs.declared.Process.{Process}
use Rattle.machine.specs.Turn.{Turn, Still, Quiet, Swaps, Logs, Loses, Replies}
use Rattle.machine.specs.Machine.{State}
use Rattle.demand3.specs.Rule.{step_by}
use Rattle.proxies.specs.Statement.{one, Split, Input, seen_at_end}

-- the position of the first successful swap that is later than an A1 at position a, on whatever word
unfoldable pub first_anywhere : (a none : ℕ) → List Entry → ℕ
first_anywhere a none [] = none
first_anywhere a none (e ∷ log) = cond (is_swapped (said e) && ltb a e.position) e.position (first_anywhere a none log)

unfoldable pub any_word : (log : List Entry) → Row → (now next : ℕ) → Process → Turn → Turn
any_word log row now k r Still = Still
any_word log row now k r (Quiet next) = Quiet next
any_word log row now k r (Swaps next x says) = Swaps next x says
any_word log row now k r (Logs next q a) = Logs next q a
any_word log row now k r (Loses next after otherwise) = Logs next (first_anywhere after otherwise log) False
any_word log row now k r (Replies next said) = Replies next said

abbrev pub leaky : List Row → (t byte : ℕ) → State → State
leaky rows = step_by any_word rows

-- processes 0 and 1 and word 0 belong to proxy one, process 2 and word 1 to proxy two
abbrev pub split : Split
split = record { processes = 2; words = 1 }

unfoldable pub rows : List Row
rows = record { process = 0; kind = 1; word = 0; old = 7; new = 8 } ∷ record { process = 1; kind = 1; word = 0; old = 7; new = 9 } ∷ record { process = 2; kind = 1; word = 1; old = 7; new = 9 } ∷ []

-- Process 0 has read word 0; then come seven bytes of proxy two; then process 1 swaps on word 0 and process 0 loses to it. In one schedule process 2 swaps
-- meanwhile, on its own word; in the other it is crashed, and its steps do nothing
unfoldable pub busy : List ℕ
busy = replicate 4 0x00 ++ (replicate 7 0x02 ++ (replicate 7 0x01 ++ replicate 4 0x00))

unfoldable pub resting : List ℕ
resting = replicate 4 0x00 ++ ((0x12 ∷ replicate 6 0x02) ++ (replicate 7 0x01 ++ replicate 4 0x00))

abbrev pub input : List ℕ → Input
input schedule = record { rows = rows; words = 7 ∷ 7 ∷ []; schedule = schedule }

-- the position of the front-most row that proxy one sees in the log: that of process 0's false
pub nothing : Entry
nothing = record { position = 0; process = 0; row = 0; verdict = 0; value = 0 }

abbrev pub false_at : List ℕ → ℕ
false_at schedule = (get_or (seen_at_end split one leaky 3 (input schedule)).log 0 nothing).position
