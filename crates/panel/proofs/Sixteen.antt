-- `key` takes the lent records into a table of sixteen, presses the key there and lays the table back. What comes of it is what a key comes to
-- over the list itself, however long the list is: no file has more than sixteen processes, and a byte looks at the first P records alone.
use Prim.Native.Nat.{ℕ, zero, suc, ◌+◌, ◌≤◌, ◌<◌, min}
use mathlib.Core.Path.{◌≡◌, refl, ◌∙◌, ap}
use mathlib.Core.Bool.{Bool, true, false, not, cond}
use mathlib.Core.List.{List, [], ◌∷◌, ◌++◌}
use Rattle.std.specs.Prelude.{Result, Ok, Err}
use native.Mathlib.Omega.{arith}
use lib.Dec.{leb, ltb}
use lib.ListN.{length, take, drop, get_or, take-append-drop, get_or-append}
use lib.Seq.{length-take-le, take_at, take-take, take-append-le, get_or-take}
use borrow.Author.Tests.{ltb-true, ltb-false, leb-false, lt-ltb, le-ltb}
use Rattle.runfile.specs.declared.Header.{Header}
use Rattle.runfile.specs.declared.Room.{Room}
use Rattle.runfile.specs.declared.Row.{Row}
use Rattle.runfile.specs.declared.Refused.{Refused as FileRefused}
use Rattle.runfile.specs.declared.Refusal.TheVariants.{Idle, WordsRoom}
use Rattle.runfile.specs.Actions.{Action, step as steps, crash as crashes, wake as wakes, crash_all as crashes_all, none as idles, action, named}
use Rattle.runfile.specs.Ups.{idle_by}
use Rattle.runfile.specs.Operations.{table_of}
use Rattle.runfile.specs.Refusals.{bad_action, bad_byte, file_refusal}
use Rattle.runfile.proofs.Lawful.{lawful_file}
use Rattle.machine.specs.declared.Process.{Process}
use Rattle.rows.specs.Buffers.{rows_of, flat, infront}
use Rattle.machine.specs.Records.{nobody, is_awake}
use Rattle.machine.specs.Machine.{step}
use Rattle.run.specs.Run.{room_of}
use Rattle.panel.specs.declared.Stroke.{Stroke}
use Rattle.panel.specs.declared.Table.{Table}
use Rattle.panel.specs.declared.Why.TheVariants.{Run, Record, Key}
use Rattle.panel.proofs.Fits.{not_fine, list_room}
use Rattle.panel.specs.Longer.{grows}
use Rattle.panel.specs.Laid.{blank, laid}
use Rattle.panel.specs.Possible.{any_impossible}
use Rattle.panel.specs.Press.{Verdict, done, refuses, of_file, Lent, lent, idle_key, sound, and_then, judged, judged_as, verdict_of, state_of, stepped, Pressed, pressed_as, pressed}
use Rattle.panel.specs.Key.{keyed}

-- with the first n of the table laid back into the list
abbrev pub given_back : ℕ → List Process → Pressed → Pressed
given_back n records p = record { outcome = p.outcome; processes = laid n p.processes records; words = p.words; log = p.log; answers = p.answers }

-- a front part that is made another one, in a table that is laid back into the list
front_back : (records rest front : List Process) (n : ℕ) → n ≤ length records → length front ≤ n → take n (front ++ drop (length front) (take n records ++ rest)) ++ drop n records ≡ front ++ drop (length front) records
front_back records rest [] n fits few =
    ap (λ l. l ++ drop n records) (take_at (take n records) rest n (length-take-le n records fits)) ∙ take-append-drop n records
front_back [] rest (x ∷ front) zero fits few = absurd (omega arith)
front_back [] rest (x ∷ front) (suc n) fits few = absurd (omega arith)
front_back (r ∷ records) rest (x ∷ front) zero fits few = absurd (omega arith)
front_back (r ∷ records) rest (x ∷ front) (suc n) fits few = ap (λ l. x ∷ l) (front_back records rest front n (omega arith) (omega arith))

module _ (records over : List Process) (n : ℕ) (fits : n ≤ length records) where
  -- the first of the table are the list's
  take-laid : (m : ℕ) → m ≤ n → take m (laid n records over) ≡ take m records
  unfolding laid
  take-laid m h = take-append-le m (take n records) (drop n over) (rw (length-take-le n records fits) h) ∙ take-take m n records h

  get_or_laid : (i : ℕ) (d : Process) → i < n → get_or (laid n records over) i d ≡ get_or records i d
  unfolding laid
  get_or_laid i d h = get_or-append (take n records) (drop n over) d i (rw (length-take-le n records fits) h) ∙ get_or-take n records i d h

  -- laid back, the table leaves the list as it was, but for a front part that is made another one
  laid-front : (front : List Process) (m : ℕ) → length front ≡ m → m ≤ n → laid n (front ++ drop m (laid n records over)) records ≡ front ++ drop m records
  unfolding laid
  laid-front front m e h = rw (← e) (front_back records (drop n over) front n fits (rw e h))

  pub laid_same : laid n (laid n records over) records ≡ records
  unfolding laid
  laid_same = laid-front [] 0 refl (omega arith)

  any_laid : (rows : List Row) (from m : ℕ) → from + m ≤ n → any_impossible rows (laid n records over) from m ≡ any_impossible rows records from m
  unfolding any_impossible
  any_laid rows from zero h = refl
  any_laid rows from (suc m) h = rw (get_or_laid from nobody (omega arith), any_laid rows (suc from) m (omega arith))

-- sixteen are enough
short_alike : (n P : ℕ) → P ≤ 16 → ltb (min n 16) P ≡ ltb n P
short_alike n P h = go (ltb n P) refl
  where
    go : (c : Bool) → ltb n P ≡ c → ltb (min n 16) P ≡ c
    go true e = lt-ltb (min n 16) P (let l = ltb-true n P e in omega arith)
    go false e = le-ltb (min n 16) P (let l = ltb-false n P e in omega arith)

module _ (f : List ℕ) (records : List Process) (words log answers : List ℕ) (k : Stroke) where
  abbrev n : ℕ
  n = min (length records) 16

  abbrev room : Room
  room = room_of words log answers

  -- what `press` is handed: the records in the table; and what the caller lends
  abbrev table : Table
  table = record { processes = laid n records blank; held = n }

  abbrev whole : Table
  whole = record { processes = records; held = length records }

  abbrev in_table : Lent
  in_table = lent (laid n records blank) words log answers

  abbrev lends : Lent
  lends = lent records words log answers

  held : n ≤ length records
  held = omega arith

  -- a byte that is an action names one of the first P, or is F0 and looks at no record
  idle_alike : (P : ℕ) → P ≤ n → bad_byte P k.byte ≡ false → idle_key (laid n records blank) k.byte ≡ idle_key records k.byte
  unfolding bad_byte
  idle_alike P few e = go (action k.byte) e
    where
      same : leb P (named k.byte) ≡ false → get_or (laid n records blank) (named k.byte) nobody ≡ get_or records (named k.byte) nobody
      same e = get_or_laid records blank n held (named k.byte) nobody (let i = leb-false P (named k.byte) e in omega arith)

      go : (a : Action) → bad_action P (named k.byte) a ≡ false → idle_by a (is_awake (get_or (laid n records blank) (named k.byte) nobody).status) ≡ idle_by a (is_awake (get_or records (named k.byte) nobody).status)
      go steps e = refl
      go crashes e = ap (λ (r : Process). not (is_awake r.status)) (same e)
      go wakes e = ap (λ (r : Process). is_awake r.status) (same e)
      go crashes_all e = refl
      go idles e = refl

  sound_alike : (h : Header) → h.processes ≤ n → sound h f (laid n records blank) k ≡ sound h f records k
  sound_alike h few =
      rw (any_laid records blank n held (table_of h f) 0 h.processes (omega arith))
      (ap (λ v. cond (ltb 1023 k.position) (refuses Record 0) (cond (any_impossible (table_of h f) records 0 h.processes) (refuses Record 0) v)) (go (bad_byte h.processes k.byte) refl))
    where
      go : (c : Bool) → bad_byte h.processes k.byte ≡ c → ◌≡◌ {A = Verdict} (cond c (refuses Key 0) (cond (idle_key (laid n records blank) k.byte) (refuses (Run Idle) 0) (Ok h))) (cond c (refuses Key 0) (cond (idle_key records k.byte) (refuses (Run Idle) 0) (Ok h)))
      go true e = refl
      go false e = rw (idle_alike h.processes few e) refl

  -- the verdict over the table is the verdict over the list
  verdict_alike : (h : Header) → h.processes ≤ 16 → judged h f table room k ≡ judged h f whole room k
  unfolding judged
  verdict_alike h few = rw (← (short_alike (length records) h.processes few)) (go (ltb (length words) h.words) (ltb n h.processes) refl _)
    where
      go : (a c : Bool) → ltb n h.processes ≡ c → (rest : Verdict)
          → and_then (cond a (refuses (Run WordsRoom) 0) (cond c (refuses (Run WordsRoom) 0) rest)) (sound h f (laid n records blank) k)
          ≡ and_then (cond a (refuses (Run WordsRoom) 0) (cond c (refuses (Run WordsRoom) 0) rest)) (sound h f records k)
      go true c q rest = refl
      go false true q rest = refl
      go false false q rest = ap (and_then rest) (sound_alike h (ltb-false n h.processes q))

  -- and so are the state that is lent and the state after the byte, of P records
  state_alike : (h : Header) → h.processes ≤ n → stepped h f in_table k ≡ stepped h f lends k
  unfolding stepped state_of
  state_alike h few =
      ap (λ ps. step (table_of h f) k.position k.byte (record { words = words; processes = ps; log = rows_of k.counts.log log; answers = rows_of k.counts.answers answers }))
      (take-laid records blank n held h.processes few)

  all_there : (h : Header) → h.processes ≤ n → length (stepped h f lends k).processes ≡ h.processes
  unfolding stepped state_of
  all_there h few = (grows (table_of h f) k.position k.byte (state_of h.processes lends k)).processes ∙ length-take-le h.processes records (omega arith)

  -- what is pressed over the table and laid back is what is pressed over the list
  alike : (v : Verdict) → ((h : Header) → v ≡ Ok h → h.processes ≤ n) → given_back n records (pressed_as v f in_table k) ≡ pressed_as v f lends k
  alike (Err r) fits = ap (λ l. record { outcome = Err r; processes = l; words = words; log = log; answers = answers }) (laid_same records blank n held)
  alike (Ok h) fits =
      let P = h.processes in
      let few : P ≤ n = fits h refl in
      let same : stepped h f in_table k ≡ stepped h f lends k = state_alike h few in
      let all : length (stepped h f lends k).processes ≡ P = all_there h few in
      ap (λ s. record {
        outcome = done (length s.log) (length s.answers);
        processes = laid n (s.processes ++ drop P (laid n records blank)) records;
        words = s.words;
        log = infront (flat s.log) log;
        answers = infront (flat s.answers) answers;
      }) same
      ∙ ap (λ l. record {
        outcome = done (length (stepped h f lends k).log) (length (stepped h f lends k).answers);
        processes = l;
        words = (stepped h f lends k).words;
        log = infront (flat (stepped h f lends k).log) log;
        answers = infront (flat (stepped h f lends k).answers) answers;
      }) (laid-front records blank n held (stepped h f lends k).processes P all few)

  -- over the table and laid back, and over the list
  pub keyed_is : given_back n records (pressed f table words log answers k) ≡ keyed f records words log answers k
  unfolding keyed pressed verdict_of
  keyed_is = go (file_refusal f) refl
    where
      go : (c : Result Header FileRefused) → file_refusal f ≡ c → given_back n records (pressed_as (judged_as c f table room k) f in_table k) ≡ pressed_as (judged_as c f whole room k) f lends k
      go (Err r) q = alike (Err (of_file r)) (λ h e. absurd (not_fine e))
      go (Ok h) q =
          alike (judged h f table room k) (λ g e. list_room h f table room k g e) ∙ ap (λ v. pressed_as v f lends k) (verdict_alike h (lawful_file f h q).head.processes)
