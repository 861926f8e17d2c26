-- What is known in a turn of the loop of `run_bytes` (`AtByte`), and that each way through the turn makes the buffers and the records hold the state after
-- one byte more: for each way the step that Loop.antt names, with the row, the word and the kind that the code reads of the open row.
use Rattle.std.specs.Prelude.{Option, Some, None}
use mathlib.Core.Path.{◌≡◌, refl, sym, ap, subst, ◌∙◌}
use mathlib.Core.Logic.{◌≢◌}
use mathlib.Core.List.{List, [], ◌∷◌, ◌++◌}
use mathlib.Core.Bool.{Bool, true, false, cond, not}
use Prim.Native.Nat.{ℕ, ◌+◌, ◌*◌, ◌/◌, ◌≤◌, ◌<◌}
use native.Mathlib.Omega.{arith}
use lib.ListN.{length, get_or, set}
use Rattle.word.specs.Word.{width, value, bit, swapped}
use Rattle.rows.specs.BufferLaws.{length-infront, length-flat, length-rows_of, length_snoc}
use Rattle.rows.specs.LogLaws.{length-insert}
use Rattle.runfile.specs.declared.Operations.{Operations}
use Rattle.runfile.specs.declared.Row.{Row}
use Rattle.runfile.specs.declared.Kind.{Kind}
use Rattle.runfile.specs.Actions.{named}
use Rattle.runfile.specs.Kinds.{kind_of, new_by_in}
use Rattle.runfile.specs.Layout.{row_of_table}
use Rattle.runfile.specs.Operations.{rows_from, row_numbered, first, count}
use Rattle.runfile.specs.OperationLaws.{length-rows_from}
use Rattle.runfile.specs.Shares.{Counted, Summed, has_row, last_fits, first-at}
use Rattle.rows.specs.declared.Entry.{Entry}
use Rattle.rows.specs.Log.{insert}
use Rattle.rows.specs.Buffers.{rows_of, flat, infront}
use Rattle.machine.specs.declared.Process.{Process}
use Rattle.machine.specs.declared.Stage.{Stage}
use Rattle.machine.specs.declared.Stage.TheVariants.{A3, A4, A5, A6, V1, V3, V4, V5, V6}
use Rattle.machine.specs.declared.Kept.{Kept}
use Rattle.machine.specs.declared.Answer.{Answer}
use Rattle.machine.specs.declared.Status.{Status}
use Rattle.machine.specs.declared.Work.{Work}
use Rattle.machine.specs.declared.Status.TheVariants.{Down, Idle, N2, N3, Busy}
use Rattle.machine.specs.Stages.{stage_number}
use Rattle.machine.specs.Records.{nobody, row_open, waked, down_to, crashed, closed, started, with_status, with_kept, with_checkpoint, with_stored, WorkOpen, Announcing}
use Rattle.machine.specs.Steps.{storing, entry, after_read, kept_by, swap_says, lost_by, recovered, same_bit}
use Rattle.machine.specs.Laws.{Sane}
use Rattle.machine.specs.Machine.{effect_of}
use Rattle.machine.specs.Promises.{entered, Enters, reply_at}
use Rattle.machine.specs.Reach.{Reach, row_is}
use Rattle.engine.specs.declared.Part.{Part}
use Rattle.engine.specs.Part.{Runnable}
use Rattle.engine.proofs.Loop.{log_grown, Holding, Meets, sane_lent, last_of, hold_all, sane_mine, hold_crash, hold_wake_idle, hold_wake_busy, hold_awake, hold_still, hold_record, hold_won, hold_answer, hold_entered, at-down, at-idle, at_done, at-N2, at-N3, at-A1, at-A2, at-A3, at_won, at_lost, at-A5, at-V1, at-V2, at-V3, at-V4, at_reply}

-- what a call says of a number that it was handed widened
pub bit_by : {p q : ℕ} (word : ℕ) {c : Bool} → c ≡ bit p word → p ≡ q → c ≡ bit q word
bit_by word {c} e h = subst (λ p. c ≡ bit p word) h e

pub swapped_by : {p q : ℕ} (mark word : ℕ) {x : ℕ} → x ≡ swapped p mark word → p ≡ q → x ≡ swapped q mark word
swapped_by mark word {x} e h = subst (λ p. x ≡ swapped p mark word) h e

pub entry_by : {t u : ℕ} (p k : ℕ) (said : Option Answer) {e : Entry} → e ≡ entry t p k said → t ≡ u → e ≡ entry u p k said
entry_by p k said {e} is h = subst (λ t. e ≡ entry t p k said) h is

-- a status other than Down is not woken
pub awake : (r : Process) (st : Status) → st ≢ Down → waked r st ≡ r
awake r Down h = absurd (h refl)
awake r Idle h = refl
awake r N2 h = refl
awake r N3 h = refl
awake r (Busy stage seen read_at tried_at answer) h = refl

-- at byte i: what was asked of the part, what holds after the bytes before, that the byte is there and names the record `at`, and what the two tables are
pub record AtByte (part : Part) (operations : Operations) (schedule words₀ log₀ answers₀ counts firsts : List ℕ) (i : ℕ) (words log answers : List ℕ) (ps : List Process) (m k at : ℕ) : Type 0 where
  pub asked : Runnable part operations schedule words₀ log₀ answers₀
  pub sixteen : length part.from.processes ≡ 16
  pub holds : Holding (rows_from operations.stride operations.table.now 0 operations.count) part.present part.from schedule words₀ log₀ answers₀ i words log answers ps m k
  pub inside : i < length schedule
  pub here : at ≡ named (get_or schedule i 0)
  pub counted : Counted (rows_from operations.stride operations.table.now 0 operations.count) counts
  pub summed : Summed counts firsts

-- so it is known from what is asked, what the loop holds, its test and the calls before
pub at_byte : {part : Part} {operations : Operations} {schedule words₀ log₀ answers₀ counts firsts : List ℕ} {i : ℕ} {words log answers : List ℕ} {ps : List Process} {m k at : ℕ}
    → Runnable part operations schedule words₀ log₀ answers₀
    → (length part.from.processes ≡ 16) × Holding (rows_from operations.stride operations.table.now 0 operations.count) part.present part.from schedule words₀ log₀ answers₀ i words log answers ps m k
    → i < length schedule → at ≡ named (get_or schedule i 0) → Counted (rows_from operations.stride operations.table.now 0 operations.count) counts → Summed counts firsts
    → AtByte part operations schedule words₀ log₀ answers₀ counts firsts i words log answers ps m k at
at_byte a h i e c s = record { asked = a; sixteen = h.0; holds = h.1; inside = i; here = e; counted = c; summed = s }

module _ {part : Part} {operations : Operations} {schedule words₀ log₀ answers₀ counts firsts : List ℕ} {i : ℕ} {words log answers : List ℕ} {ps : List Process} {m k at : ℕ}
    (b : AtByte part operations schedule words₀ log₀ answers₀ counts firsts i words log answers ps m k at) where
  abbrev rows : List Row
  rows = rows_from operations.stride operations.table.now 0 operations.count

  abbrev byte : ℕ
  byte = get_or schedule i 0

  abbrev me : ℕ
  me = named byte

  abbrev r : Process
  r = get_or ps at nobody

  abbrev t : ℕ
  t = part.from.position + i

  -- what the turn leaves
  abbrev Next : (words' log' answers' : List ℕ) (ps' : List Process) (m' k' : ℕ) → Type 0
  Next words' log' answers' ps' m' k' = Holding rows part.present part.from schedule words₀ log₀ answers₀ (i + 1) words' log' answers' ps' m' k'

  -- there is room for one row more, so the numbers of rows stay small
  pub log_room : m * 5 + 5 ≤ length log
  log_room = let v = b.holds in let a = v.log_same in let f = v.log_few in let d = b.inside in let e = b.asked.log_room in omega arith

  pub answers_room : k * 5 + 5 ≤ length answers
  answers_room = let v = b.holds in let a = v.answers_same in let f = v.answers_few in let d = b.inside in let e = b.asked.answers_room in omega arith

  -- a buffer that has been written from the front, at most a row more than before, is as long as it was
  as_long : (es : List Entry) (n : ℕ) (xs xs' : List ℕ) → length es ≤ n + 1 → n * 5 + 5 ≤ length xs → xs' ≡ infront (flat es) xs → length xs' ≡ length xs
  as_long es n xs xs' few room put = ap length put ∙ length-infront (flat es) xs (let a = length-flat es in omega arith)

  -- positions are small
  pub early : part.from.position + i < 1024
  early = let a = b.inside in let e = b.asked.early in omega arith

  meets : Meets part.present schedule i log answers m k
  meets = record { inside = b.inside; log_room = let a = log_room in omega arith; answers_room = let a = answers_room in omega arith; few = b.asked.present; lawful = b.asked.lawful i b.inside }

  counts_are : get_or counts at 0 ≡ count rows me
  counts_are = ap (λ (j : ℕ). get_or counts j 0) b.here ∙ b.counted.each me (omega arith)

  firsts_are : get_or firsts at 0 ≡ first rows me
  firsts_are = ap (λ (j : ℕ). get_or firsts j 0) b.here ∙ first-at rows counts firsts b.counted b.summed me (omega arith)

  pub crash : byte / 16 ≡ 1 → Next words log answers (set ps at (crashed r)) m k
  crash e = hold_crash b.holds meets (omega arith) b.here e

  pub wake_idle : byte / 16 ≡ 2 → r.status ≡ Down → r.opened ≡ None → Next words log answers (set ps at (with_status Idle r)) m k
  wake_idle e d o = hold_wake_idle b.holds meets (omega arith) b.here e d o

  pub wake_busy : byte / 16 ≡ 2 → r.status ≡ Down → {j : ℕ} → r.opened ≡ Some j → {st : Status} → st ≡ Busy V1 0 0 0 None → Next words log answers (set ps at (with_status st r)) m k
  wake_busy e d {j} o {st} s = hold_wake_busy b.holds meets (omega arith) b.here e d j o st s

  pub wake_awake : byte / 16 ≡ 2 → r.status ≢ Down → Next words log answers ps m k
  wake_awake e n = hold_awake b.holds meets (omega arith) b.here e (awake r r.status n)

  -- high four bits that are none of 0, 1 and 2 are 15: no other byte is lawful
  pub all_of : byte / 16 ≢ 0 → byte / 16 ≢ 1 → byte / 16 ≢ 2 → byte / 16 ≡ 15
  all_of x y z = last_of b.holds meets (omega arith)

  pub fall : byte / 16 ≢ 0 → byte / 16 ≢ 1 → byte / 16 ≢ 2 → {x : List Process} → x ≡ down_to part.present ps → Next words log answers x m k
  fall x y z {x = ps'} down = hold_all b.holds meets (all_of x y z) ps' down

  -- high four bits of 0 are a step
  module _ (step : byte / 16 ≡ 0) where
    low : byte / 16 < 3
    low = omega arith

    is : byte < 16
    is = omega arith

    sane_of : Sane rows me r
    sane_of = sane_mine b.holds meets low b.here (sane_lent rows part.present part.from schedule words₀ log₀ answers₀ b.sixteen b.asked.present b.asked.sane)

    pub still : r.status ≡ Down → Next words log answers ps m k
    still d = hold_still b.holds meets low b.here is (at-down b.holds meets low b.here is d)

    pub announced : r.status ≡ Idle → r.begun < get_or counts at 0 → Next words log answers (set ps at (with_stored N2 None r)) m k
    announced s l = hold_record b.holds meets low b.here is _ (at-idle b.holds meets low b.here is s _ counts_are l)

    pub rests : r.status ≡ Idle → get_or counts at 0 ≤ r.begun → Next words log answers ps m k
    rests s l = hold_still b.holds meets low b.here is (at_done b.holds meets low b.here is s _ counts_are l)

    pub second : r.status ≡ N2 → Next words log answers (set ps at (with_checkpoint N3 false r)) m k
    second s = hold_record b.holds meets low b.here is _ (at-N2 b.holds meets low b.here is s)

    -- the number of the row that is opened is small
    pub start_fits : r.status ≡ N3 → get_or firsts at 0 + r.begun < 65535
    start_fits s =
        let left = sane_of.left (subst Announcing (sym s) tt) in
        let f = last_fits rows me in
        let g = length-rows_from operations.stride operations.table.now 0 operations.count in
        let d = b.asked.lined.few in
        rw firsts_are (omega arith)

    pub third : r.status ≡ N3 → {x : Process} → x ≡ started (get_or firsts at 0 + r.begun) r → Next words log answers (set ps at x) m k
    third s {x} y = hold_record b.holds meets low b.here is _ (at-N3 b.holds meets low b.here is s _ firsts_are x y)

    -- in the midst of work a row is open, and it is in the file: its number, as it is read from the table
    module _ {stage : Stage} {seen ra ta : ℕ} {answer : Option Answer} (st : r.status ≡ Busy stage seen ra ta answer) {number : ℕ} (row_no : number ≡ row_open r.opened) where
      abbrev K : ℕ
      K = row_open r.opened

      abbrev row : Row
      row = row_numbered rows K

      busy_is : WorkOpen r.status r.opened
      busy_is = sane_of.works

      pub open_in : K < operations.count
      open_in =
          let w = subst (λ st. WorkOpen st r.opened) st busy_is in
          subst (λ o. row_open o < operations.count) (sym w.1) (rw (length-rows_from operations.stride operations.table.now 0 operations.count) at (sane_of.in_file w.0 w.1))

      pub number_in : number < operations.count
      number_in = subst (λ (k : ℕ). k < operations.count) (sym row_no) open_in

      found_is : row_of_table operations.stride operations.table.now number ≡ row
      found_is = ap (λ (k : ℕ). row_of_table operations.stride operations.table.now k) row_no ∙ row_is operations.stride operations.table.now operations.count K open_in

      -- the row and its word are in reach, also by the number as an index
      pub reach : {at' : ℕ} → at' ≡ number → Reach operations.stride operations.table.now at' words
      reach e =
          subst (λ (k : ℕ). Reach operations.stride operations.table.now k words) (sym (e ∙ row_no))
          (record { row = has_row operations.stride operations.table.now operations.count K b.asked.lined.size b.asked.lined.whole open_in; word = rw b.holds.words_same (b.asked.on_words K open_in) })

      module _ {index : ℕ} (index_is : index ≡ number) {shown : ℕ} (numbers : shown ≡ stage_number stage) where
        row_found : {found : Row} → found ≡ row_of_table operations.stride operations.table.now index → found ≡ row
        row_found f = f ∙ ap (λ (k : ℕ). row_of_table operations.stride operations.table.now k) index_is ∙ found_is

        kind_found : {found : Row} {kind : Kind} → found ≡ row_of_table operations.stride operations.table.now index → kind ≡ kind_of found → kind ≡ kind_of row
        kind_found f g = g ∙ ap kind_of (row_found f)

        word_found : {now : ℕ} → now ≡ get_or words (row_of_table operations.stride operations.table.now index).word 0 → now ≡ get_or words row.word 0
        word_found e = e ∙ ap (λ (row : Row). get_or words row.word 0) (row_found refl)

        pub first_read : shown ≡ 0 → {found : Row} → found ≡ row_of_table operations.stride operations.table.now index → {now : ℕ} → now ≡ get_or words (row_of_table operations.stride operations.table.now index).word 0
            → {next : Status} → next ≡ after_read found now t → Next words log answers (set ps at (with_status next r)) m k
        first_read e f n s = hold_record b.holds meets low b.here is _ (at-A1 b.holds meets low b.here is st busy_is shown numbers e _ _ _ (row_found f) (word_found n) s)

        pub bit_kept : shown ≡ 1 → {found : Row} → found ≡ row_of_table operations.stride operations.table.now index → {kind : Kind} → kind ≡ kind_of found → {c : Bool} → c ≡ bit me seen → {v : ℕ} → v ≡ value seen
            → {kept : Kept} → kept ≡ kept_by kind r.kept (not c) v → {next : Status} → next ≡ Busy A3 seen ra ta answer → Next words log answers (set ps at (with_kept next kept r)) m k
        bit_kept e f g c v kept s = hold_record b.holds meets low b.here is _ (at-A2 b.holds meets low b.here is st busy_is shown numbers e _ (kind_found f g) _ _ c v _ kept _ s)

        pub checked : shown ≡ 2 → {next : Status} → next ≡ Busy A4 seen ra ta answer → Next words log answers (set ps at (with_checkpoint next true r)) m k
        checked e s = hold_record b.holds meets low b.here is _ (at-A3 b.holds meets low b.here is st busy_is shown numbers e _ s)

        -- A4: the swap with its log row, or lost
        pub won : shown ≡ 3 → {found : Row} → found ≡ row_of_table operations.stride operations.table.now index → {kind : Kind} → kind ≡ kind_of found
            → {now : ℕ} → now ≡ get_or words (row_of_table operations.stride operations.table.now index).word 0 → now ≡ seen → {v : ℕ} → v ≡ value seen → {says : Answer} → says ≡ swap_says kind v
            → {next : Status} → next ≡ Busy A5 seen ra t (Some says) → {mark : ℕ} → mark ≡ new_by_in width kind found.new v → {x : ℕ} → x ≡ swapped me mark seen
            → {words' : List ℕ} → words' ≡ set words (row_of_table operations.stride operations.table.now index).word x → {e : Entry} → e ≡ entry t me number (Some says)
            → {m' : ℕ} → m' ≡ m + 1 → {log' : List ℕ} → log' ≡ infront (flat (insert e (rows_of m log))) log
            → Next words' log' answers (set ps at (with_status next r)) m' k
        won e3 f g n same v {says = said} says {next = next} s mark {x = new} x {words' = ws} wrote {e = row'} en more {log' = l} put =
            let few : length (insert row' (rows_of m log)) ≤ m + 1 = (let a = length-insert row' (rows_of m log) in let b = length-rows_of m log in omega arith) in
            subst (λ (n : ℕ). Next ws l answers (set ps at (with_status next r)) n k) (sym more)
            (hold_won b.holds meets low b.here is _ _ _ _ _ _
            (at_won b.holds meets low b.here is st busy_is shown numbers e3 _ (word_found n) same _ (kind_found f g) _ v _ says _ s _ (row_found f) _ mark _ x)
            (en ∙ ap (λ (k : ℕ). entry t me k (Some said)) row_no)
            (wrote ∙ ap (λ (row : Row). set words row.word new) (row_found refl))
            (as_long _ m log l few log_room put)
            put)

        pub lost : shown ≡ 3 → {found : Row} → found ≡ row_of_table operations.stride operations.table.now index → {kind : Kind} → kind ≡ kind_of found
            → {now : ℕ} → now ≡ get_or words (row_of_table operations.stride operations.table.now index).word 0 → now ≢ seen → {next : Status} → next ≡ lost_by kind seen ra t
            → Next words log answers (set ps at (with_status next r)) m k
        lost e f g n differ s = hold_record b.holds meets low b.here is _ (at_lost b.holds meets low b.here is st busy_is shown numbers e _ (word_found n) differ _ (kind_found f g) _ s)

        pub entered_row : shown ≡ 4 → {next : Status} → next ≡ Busy A6 seen ra ta answer → {p : ℕ} → p ≡ me → {m' : ℕ} {log' : List ℕ}
            → Enters rows (row_of_table operations.stride operations.table.now number) log m (record { process = p; row = number; seen = seen; read_at = ra; tried_at = ta; answer = answer }) m' log'
            → Next words log' answers (set ps at (with_stored next answer r)) m' k
        unfolding entered
        entered_row e s {p = by} p {log' = l} d =
            let work : Work = record { process = by; row = number; seen = seen; read_at = ra; tried_at = ta; answer = answer } in
            let grown = log_grown (effect_of rows (rows_of m log) by 0 number (row_of_table operations.stride operations.table.now number).word (storing (row_of_table operations.stride operations.table.now number) nobody seen ra ta answer)) (rows_of m log) in
            let few : length (entered rows (row_of_table operations.stride operations.table.now number) (rows_of m log) work) ≤ m + 1 = (let a = grown.1 in let b = length-rows_of m log in omega arith) in
            hold_entered b.holds meets low b.here is _ _ _ _ _ (at-A5 b.holds meets low b.here is st busy_is shown numbers e _ s) p row_no found_is (as_long _ m log l few log_room d.log_is) d

        pub recovers : shown ≡ 6 → {to : Stage} → to ≡ recovered r.stored → {next : Status} → next ≡ Busy to seen ra ta answer → Next words log answers (set ps at (with_status next r)) m k
        recovers e g s = hold_record b.holds meets low b.here is _ (at-V1 b.holds meets low b.here is st busy_is shown numbers e _ g _ s)

        pub by_checkpoint : shown ≡ 7 → {to : Stage} → to ≡ cond r.checkpoint V3 V6 → {next : Status} → next ≡ Busy to seen ra ta answer → Next words log answers (set ps at (with_status next r)) m k
        by_checkpoint e g s = hold_record b.holds meets low b.here is _ (at-V2 b.holds meets low b.here is st busy_is shown numbers e _ g _ s)

        pub by_bit : shown ≡ 8 → {now : ℕ} → now ≡ get_or words (row_of_table operations.stride operations.table.now index).word 0 → {to : Stage} → to ≡ cond (same_bit (bit me now) r.kept.bit) V4 V6
            → {next : Status} → next ≡ Busy to now ra ta answer → Next words log answers (set ps at (with_status next r)) m k
        by_bit e n g s = hold_record b.holds meets low b.here is _ (at-V3 b.holds meets low b.here is st busy_is shown numbers e _ (word_found n) _ g _ s)

        pub says_kept : shown ≡ 9 → {found : Row} → found ≡ row_of_table operations.stride operations.table.now index → {kind : Kind} → kind ≡ kind_of found → {says : Answer} → says ≡ swap_says kind r.kept.value
            → {next : Status} → next ≡ Busy V5 seen ra ta answer → Next words log answers (set ps at (with_stored next (Some says) r)) m k
        says_kept e f g a s = hold_record b.holds meets low b.here is _ (at-V4 b.holds meets low b.here is st busy_is shown numbers e _ (kind_found f g) _ a _ s)

        -- A6, V5 and V6, with the answer row
        pub replied : shown ≢ 0 → shown ≢ 1 → shown ≢ 2 → shown ≢ 3 → shown ≢ 4 → shown ≢ 6 → shown ≢ 7 → shown ≢ 8 → shown ≢ 9 → {said : Option Answer} → said ≡ reply_at shown answer r.stored
            → {e : Entry} → e ≡ entry t me number said → {k' : ℕ} → k' ≡ k + 1 → {answers' : List ℕ} → answers' ≡ infront (flat (rows_of k answers ++ (e ∷ []))) answers
            → Next words log answers' (set ps at (closed r)) m k'
        replied n0 n1 n2 n3 n4 n6 n7 n8 n9 {said = told} s {e = row'} en more {answers' = l} put =
            let few : length (rows_of k answers ++ (row' ∷ [])) ≤ k + 1 = (let a = length_snoc row' (rows_of k answers) in let b = length-rows_of k answers in omega arith) in
            subst (λ (n : ℕ). Next words log l (set ps at (closed r)) m n) (sym more)
            (hold_answer b.holds meets low b.here is _ _ _ _
            (at_reply b.holds meets low b.here is st busy_is shown numbers n0 n1 n2 n3 n4 n6 n7 n8 n9 _ s)
            (en ∙ ap (λ (k : ℕ). entry t me k told) row_no)
            (as_long _ k answers l few answers_room put)
            put)
