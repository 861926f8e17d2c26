-- One key of the panel: refused, for the file, for what is lent, for the position and the records or for the byte (R220 to R232); or carried
-- out as a byte of a run (R202).
use Rattle.std.specs.Prelude.{ℕ, ◌+◌, ◌*◌, ◌≤◌, ◌≡◌, Bool, false, cond, List, ◌++◌, ltb, get_or, length, take, drop, Result, Ok, Err, codes}
use Rattle.std.specs.Fmt.{decimal}
use Rattle.runfile.specs.declared.Header.{Header}
use Rattle.runfile.specs.declared.Room.{Room}
use Rattle.runfile.specs.declared.Refused.{Refused as FileRefused}
use Rattle.runfile.specs.declared.Refusal.TheVariants.{Idle, WordsRoom, LogRoom, AnswersRoom}
use Rattle.runfile.specs.Actions.{action, named}
use Rattle.runfile.specs.Ups.{idle_by}
use Rattle.runfile.specs.Operations.{table_of}
use Rattle.runfile.specs.Lawful.{LawfulFile}
use Rattle.runfile.specs.Refusals.{number_of, bad_byte, file_refusal}
use Rattle.rows.specs.Buffers.{rows_of, flat, infront}
use Rattle.machine.specs.declared.Process.{Process}
use Rattle.machine.specs.Records.{nobody, is_awake}
use Rattle.machine.specs.Machine.{State, step}
use Rattle.rows.specs.declared.Counts.{Counts}
use Rattle.run.specs.Run.{room_of}
use Rattle.panel.specs.declared.Stroke.{Stroke}
use Rattle.panel.specs.declared.Table.{Table}
use Rattle.panel.specs.declared.Why.{Why}
use Rattle.panel.specs.declared.Why.TheVariants.{Run, Record, Key}
use Rattle.panel.specs.declared.Refused.{Refused}
use Rattle.panel.specs.Possible.{any_impossible}

-- the numbers of a key's refusals (R220)
abbrev pub number_of_why : Why → ℕ
number_of_why (Run why) = number_of why
number_of_why Record = 21
number_of_why Key = 22

-- what a key comes to (R203): the two row counts after it, or the refusal; and whether it is carried out, on a file with this header
abbrev pub Outcome : Type 0
Outcome = Result Counts Refused

abbrev pub Verdict : Type 0
Verdict = Result Header Refused

abbrev pub done : (log answers : ℕ) → Outcome
done log answers = Ok (record { log = log; answers = answers })

abbrev pub refuses : {A : Type 0} → Why → (place : ℕ) → Result A Refused
refuses why place = Err (record { why = why; place = place })

-- as it is printed: its number, and its place (R195)
abbrev pub refused_text : Refused → List ℕ
refused_text r = codes "refused " ++ (decimal (number_of_why r.why) ++ (codes " " ++ decimal r.place))

-- a refusal of the file is the key's (R221)
abbrev pub of_file : FileRefused → Refused
of_file r = record { why = Run r.why; place = r.place }

-- what is lent: the records, and the three buffers (R201)
pub record Lent : Type 0 where
  pub processes : List Process
  pub words : List ℕ
  pub log : List ℕ
  pub answers : List ℕ

abbrev pub lent : List Process → (words log answers : List ℕ) → Lent
lent processes words log answers = record { processes = processes; words = words; log = log; answers = answers }

-- 13 to 15, for a file that is accepted: enough words, enough records (R223), and room for one row (R224, R225)
abbrev pub roomy : Header → (held : ℕ) → Room → Stroke → Verdict
roomy h held room k =
    cond (ltb room.words h.words) (refuses (Run WordsRoom) 0)
    (cond (ltb held h.processes) (refuses (Run WordsRoom) 0)
    (cond (ltb room.log (k.counts.log * 5 + 5)) (refuses (Run LogRoom) 0)
    (cond (ltb room.answers (k.counts.answers * 5 + 5)) (refuses (Run AnswersRoom) 0) (Ok h))))

-- the byte is a crash of a process that is down by its lent record, or a wake of one that is awake (R226)
abbrev pub idle_key : List Process → (byte : ℕ) → Bool
idle_key processes byte = idle_by (action byte) (is_awake (get_or processes (named byte) nobody).status)

-- then 21 (R231), 22 (R232) and 16 (R226)
abbrev pub sound : Header → List ℕ → List Process → Stroke → Verdict
sound h f processes k =
    cond (ltb 1023 k.position) (refuses Record 0)
    (cond (any_impossible (table_of h f) processes 0 h.processes) (refuses Record 0)
    (cond (bad_byte h.processes k.byte) (refuses Key 0)
    (cond (idle_key processes k.byte) (refuses (Run Idle) 0) (Ok h))))

abbrev pub and_then : Verdict → Verdict → Verdict
and_then (Err r) next = Err r
and_then (Ok h) next = next

unfoldable pub judged : Header → List ℕ → Table → Room → Stroke → Verdict
judged h f t room k = and_then (roomy h t.held room k) (sound h f t.processes k)

abbrev pub judged_as : Result Header FileRefused → List ℕ → Table → Room → Stroke → Verdict
judged_as (Err r) f t room k = Err (of_file r)
judged_as (Ok h) f t room k = judged h f t room k

-- the file's own refusals, 1 to 12, go first (R220, R221)
unfoldable pub verdict_of : List ℕ → Table → Room → Stroke → Verdict
verdict_of f t room k = judged_as (file_refusal f) f t room k

-- the state that is lent: the first P records, the words, and the rows that the counts give; and the state after the byte (R202)
unfoldable pub state_of : ℕ → Lent → Stroke → State
state_of P l k = record { words = l.words; processes = take P l.processes; log = rows_of k.counts.log l.log; answers = rows_of k.counts.answers l.answers }

unfoldable pub stepped : Header → List ℕ → Lent → Stroke → State
stepped h f l k = step (table_of h f) k.position k.byte (state_of h.processes l k)

-- all that there is after a key: what it came to, the records, and the three buffers
pub record Pressed : Type 0 where
  pub outcome : Outcome
  pub processes : List Process
  pub words : List ℕ
  pub log : List ℕ
  pub answers : List ℕ

-- carried out: the state is put back. Records beyond the first P (R204) and numbers behind the rows (R206) are as they were
abbrev pub carried : Header → List ℕ → Lent → Stroke → Pressed
carried h f l k =
    let s = stepped h f l k in
    record {
      outcome = done (length s.log) (length s.answers);
      processes = s.processes ++ drop h.processes l.processes;
      words = s.words;
      log = infront (flat s.log) l.log;
      answers = infront (flat s.answers) l.answers;
    }

-- refused: all that was lent is as it was (R222)
abbrev pub pressed_as : Verdict → List ℕ → Lent → Stroke → Pressed
pressed_as (Err r) f l k = record { outcome = Err r; processes = l.processes; words = l.words; log = l.log; answers = l.answers }
pressed_as (Ok h) f l k = carried h f l k

unfoldable pub pressed : (file : List ℕ) → Table → (words log answers : List ℕ) → Stroke → Pressed
pressed file t words log answers k = pressed_as (verdict_of file t (room_of words log answers) k) file (lent t.processes words log answers) k

-- what a function returned and left is what p says
pub record Leaves (p : Pressed) (r : Outcome) (processes : List Process) (words log answers : List ℕ) : Type 0 where
  pub result : r ≡ p.outcome
  pub processes_are : processes ≡ p.processes
  pub words_are : words ≡ p.words
  pub log_is : log ≡ p.log
  pub answers_are : answers ≡ p.answers

-- what holds of a key that is not refused
pub record Fit (h : Header) (f : List ℕ) (processes : List Process) (room : Room) (k : Stroke) : Type 0 where
  pub lawful : LawfulFile h f
  pub words_room : h.words ≤ room.words
  pub log_room : k.counts.log * 5 + 5 ≤ room.log
  pub answers_room : k.counts.answers * 5 + 5 ≤ room.answers
  pub early : k.position ≤ 1023
  pub possible : any_impossible (table_of h f) processes 0 h.processes ≡ false
  pub action : bad_byte h.processes k.byte ≡ false
  pub not_idle : idle_key processes k.byte ≡ false
