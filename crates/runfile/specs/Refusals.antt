-- What is refused, as a computation (R30 to R56). `found` is the table, a line for each refusal; Table.antt says the same in propositions,
-- and proofs/Exactly.antt proves that the two agree.
use Rattle.std.specs.Prelude.{ℕ, zero, suc, ◌+◌, ◌*◌, ◌-◌, Bool, true, false, not, ◌&&◌, ◌||◌, List, [], ◌∷◌, ◌++◌, leb, ltb, eqb, get_or, length, take, Option, Some, None, Result, Ok, Err, codes}
use Rattle.std.specs.Fmt.{decimal}
use Rattle.runfile.specs.declared.Header.{Header}
use Rattle.runfile.specs.declared.Row.{Row}
use Rattle.runfile.specs.declared.Kind.{Kind}
use Rattle.runfile.specs.declared.Kind.TheVariants.{Read, Compare, Advance}
use Rattle.runfile.specs.declared.Field.{Field}
use Rattle.runfile.specs.declared.Field.TheVariants as field
use Rattle.runfile.specs.declared.Room.{Room}
use Rattle.runfile.specs.declared.Refusal.{Refusal}
use Rattle.runfile.specs.declared.Refusal.TheVariants as refusal
use Rattle.runfile.specs.declared.Refused.{Refused}
use Rattle.runfile.specs.Format.{least_head, offset_of}
use Rattle.runfile.specs.Layout.{marked, header_in, rows_start, stride_of, row_place, row_in, zero_byte_at, schedule_start, schedule_in, length_given}
use Rattle.runfile.specs.Fields.{fields, field_at}
use Rattle.runfile.specs.Kinds.{kind_of}
use Rattle.runfile.specs.Actions.{Action, step, crash, wake, crash_all, none, action, named}
use Rattle.runfile.specs.Ups.{idles}

-- the numbers of the refusals (R41 to R56)
abbrev pub number_of : Refusal → ℕ
number_of refusal.Short = 1
number_of refusal.Mark = 2
number_of refusal.Version = 3
number_of refusal.Processes = 4
number_of refusal.Words = 5
number_of refusal.Rows = 6
number_of refusal.Steps = 7
number_of refusal.Length = 8
number_of refusal.Row = 9
number_of refusal.Order = 10
number_of refusal.Same = 11
number_of refusal.Action = 12
number_of refusal.Idle = 16
number_of refusal.WordsRoom = 13
number_of refusal.LogRoom = 14
number_of refusal.AnswersRoom = 15

-- a version that is neither 1 nor 2 (R43)
abbrev pub unknown_version : ℕ → Bool
unknown_version version = not (eqb version 1) && not (eqb version 2)

-- P and W may be 1 to 16 (R44, R45)
abbrev pub out_of_range : ℕ → Bool
out_of_range n = eqb n 0 || ltb 16 n

-- which numbers are no kinds in a version (R49b), which kinds must have old 0 (R49e) and which new 0 (R49f)
abbrev pub bad_kind : ℕ → ℕ → Bool
bad_kind version kind = (eqb version 1 && eqb kind 2) || ltb 2 kind

abbrev pub zero_old : Kind → Bool
zero_old Read = true
zero_old Compare = false
zero_old Advance = true

abbrev pub zero_new : Kind → Bool
zero_new Read = true
zero_new Compare = false
zero_new Advance = false

-- 9: whether a field of a row is faulty, a line for each field (R49a to R49f)
abbrev pub bad_number : Bool → ℕ → Bool
bad_number must number = must && not (eqb number 0)

unfoldable pub bad_field : Header → Row → ℕ → Field → Bool
bad_field h row zero_read field.Process = leb h.processes row.process
bad_field h row zero_read field.Kind = bad_kind h.version row.kind
bad_field h row zero_read field.Word = leb h.words row.word
bad_field h row zero_read field.ZeroByte = not (eqb zero_read 0)
bad_field h row zero_read field.Old = bad_number (zero_old (kind_of row)) row.old
bad_field h row zero_read field.New = bad_number (zero_new (kind_of row)) row.new

abbrev pub bad_in : Header → ℕ → List ℕ → ℕ → ℕ → Field → Bool
bad_in h stride f start k = bad_field h (row_in stride f start k) (zero_byte_at f (row_place stride start k))

-- 10: a row has a smaller process than the row in front of it (R50)
abbrev pub below : ℕ → List ℕ → ℕ → ℕ → Bool
below stride f start k = ltb (row_in stride f start k).process (row_in stride f start (k - 1)).process

-- 11: old and new are alike in a row that compares, or the amount of one that advances is 0 (R51)
abbrev pub same_by : Kind → (old new : ℕ) → Bool
same_by Read old new = false
same_by Compare old new = eqb old new
same_by Advance old new = eqb new 0

unfoldable pub same_fields : Row → Bool
same_fields row = same_by (kind_of row) row.old row.new

abbrev pub same : ℕ → List ℕ → ℕ → ℕ → Bool
same stride f start k = same_fields (row_in stride f start k)

-- 12: a byte is no action, by its action and its low four bits (R73)
abbrev pub bad_action : ℕ → ℕ → Action → Bool
bad_action processes low step = leb processes low
bad_action processes low crash = leb processes low
bad_action processes low wake = leb processes low
bad_action processes low crash_all = not (eqb low 0)
bad_action processes low none = true

unfoldable pub bad_byte : ℕ → ℕ → Bool
bad_byte processes byte = bad_action processes (named byte) (action byte)

-- what is found first, going by the numbers k, k + 1, .. (n of them; R33)
abbrev pub or_later : Option ℕ → Option ℕ → Option ℕ
or_later (Some place) later = Some place
or_later None later = later

abbrev pub first_found : (ℕ → Option ℕ) → ℕ → ℕ → Option ℕ
first_found finds k zero = None
first_found finds k (suc n) = or_later (finds k) (first_found finds (suc k) n)

-- the first offender among these numbers, and its place
abbrev pub found_if : Bool → ℕ → Option ℕ
found_if true place = Some place
found_if false place = None

abbrev pub first_offender : (ℕ → ℕ) → (ℕ → Bool) → ℕ → ℕ → Option ℕ
first_offender place offends = first_found (λ k. found_if (offends k) (place k))

-- the place of the first faulty field, in file order: in row k, and over the n rows from `start` on (R36)
abbrev pub bad_field_in : Header → ℕ → List ℕ → ℕ → ℕ → Option ℕ
bad_field_in h stride f start k = first_offender (λ i. row_place stride start k + offset_of stride (field_at i)) (λ i. bad_in h stride f start k (field_at i)) 0 (length fields)

unfoldable pub first_bad_field : Header → ℕ → List ℕ → ℕ → ℕ → Option ℕ
first_bad_field h stride f start n = first_found (bad_field_in h stride f start) 0 n

-- over the n rows from `start` on, the row's first byte; over those that have a row before; of the file as a whole, 0
unfoldable pub first_row : ℕ → ℕ → ℕ → (ℕ → Bool) → Option ℕ
first_row stride start n offends = first_offender (row_place stride start) offends 0 n

unfoldable pub first_later_row : ℕ → ℕ → ℕ → (ℕ → Bool) → Option ℕ
first_later_row stride start n offends = first_offender (row_place stride start) offends 1 (n - 1)

-- over the schedule, that byte: the test sees the bytes before it, and the byte
abbrev pub offends_at : (List ℕ → ℕ → Bool) → List ℕ → ℕ → Bool
offends_at offends bytes i = offends (take i bytes) (get_or bytes i 0)

unfoldable pub first_byte : ℕ → (List ℕ → ℕ → Bool) → List ℕ → Option ℕ
first_byte start offends bytes = first_offender (λ i. start + i) (offends_at offends bytes) 0 (length bytes)

abbrev pub whole : Bool → Option ℕ
whole t = found_if t 0

-- the table: what each check finds, over the whole file (R41 to R56)
abbrev pub found : Header → List ℕ → Room → Refusal → Option ℕ
found h f room refusal.Short = whole (ltb (length f) least_head)
found h f room refusal.Mark = whole (not (marked f))
found h f room refusal.Version = whole (unknown_version h.version)
found h f room refusal.Processes = whole (out_of_range h.processes)
found h f room refusal.Words = whole (out_of_range h.words)
found h f room refusal.Rows = whole (ltb 512 h.rows)
found h f room refusal.Steps = whole (ltb 1024 h.steps)
found h f room refusal.Length = whole (not (eqb (length f) (length_given h)))
found h f room refusal.Row = first_bad_field h (stride_of h) f (rows_start h) h.rows
found h f room refusal.Order = first_later_row (stride_of h) (rows_start h) h.rows (below (stride_of h) f (rows_start h))
found h f room refusal.Same = first_row (stride_of h) (rows_start h) h.rows (same (stride_of h) f (rows_start h))
found h f room refusal.Action = first_byte (schedule_start h) (λ before. bad_byte h.processes) (schedule_in h f)
found h f room refusal.Idle = first_byte (schedule_start h) idles (schedule_in h f)
found h f room refusal.WordsRoom = whole (ltb room.words h.words)
found h f room refusal.LogRoom = whole (ltb room.log (5 * h.steps))
found h f room refusal.AnswersRoom = whole (ltb room.answers (5 * h.steps))

-- the checks in order, each over the whole file: the first that finds something decides (R32, R33)
abbrev pub refused : Refusal → ℕ → Result Header Refused
refused why at = Err (record { why = why; place = at })

-- as it is printed: its number, and its place (R195)
abbrev pub refused_text : Refused → List ℕ
refused_text r = codes "refused " ++ (decimal (number_of r.why) ++ (codes " " ++ decimal r.place))

abbrev pub or_else : Refusal → Option ℕ → Result Header Refused → Result Header Refused
or_else why (Some place) later = refused why place
or_else why None later = later

abbrev pub first_of : (Refusal → Option ℕ) → List Refusal → Header → Result Header Refused
first_of finds [] h = Ok h
first_of finds (why ∷ later) h = or_else why (finds why) (first_of finds later h)

abbrev pub count_checks : List Refusal
count_checks = refusal.Version ∷ refusal.Processes ∷ refusal.Words ∷ refusal.Rows ∷ refusal.Steps ∷ []

abbrev pub head_checks : List Refusal
head_checks = refusal.Mark ∷ (count_checks ++ (refusal.Length ∷ []))

abbrev pub body_checks : List Refusal
body_checks = refusal.Row ∷ refusal.Order ∷ refusal.Same ∷ refusal.Action ∷ []

abbrev pub room_checks : List Refusal
room_checks = refusal.WordsRoom ∷ refusal.LogRoom ∷ refusal.AnswersRoom ∷ []

abbrev pub file_checks : List Refusal
file_checks = refusal.Short ∷ (head_checks ++ body_checks)

-- what is checked behind 12: 16 goes before 13 (R32)
abbrev pub later_checks : List Refusal
later_checks = refusal.Idle ∷ room_checks

abbrev pub refusals_in_order : List Refusal
refusals_in_order = file_checks ++ later_checks

-- a check's place in that list, from 0
abbrev pub place_of : Refusal → ℕ
place_of refusal.Short = 0
place_of refusal.Mark = 1
place_of refusal.Version = 2
place_of refusal.Processes = 3
place_of refusal.Words = 4
place_of refusal.Rows = 5
place_of refusal.Steps = 6
place_of refusal.Length = 7
place_of refusal.Row = 8
place_of refusal.Order = 9
place_of refusal.Same = 10
place_of refusal.Action = 11
place_of refusal.Idle = 12
place_of refusal.WordsRoom = 13
place_of refusal.LogRoom = 14
place_of refusal.AnswersRoom = 15

-- the whole answer (R30)
unfoldable pub refusal_of : List ℕ → Room → Result Header Refused
refusal_of f room = first_of (found (header_in f) f room) refusals_in_order (header_in f)

-- refusals 1 to 12 alone: they look at no buffer (R221)
abbrev pub no_room : Room
no_room = record { words = 0; log = 0; answers = 0 }

unfoldable pub file_refusal : List ℕ → Result Header Refused
file_refusal f = first_of (found (header_in f) f no_room) file_checks (header_in f)
