-- The definitions at files, by computation: case f (R266) is accepted, case l (R272) is refused by 11 at place 15, and one slip in each field
-- of a row is refused by 9 at that field's first byte (R36), in both versions; and idle bytes of a schedule are refused by 16 (R56).
use Rattle.std.specs.Prelude.{ℕ, ◌+◌, ◌≡◌, refl, List, [], ◌∷◌, ◌++◌, map, length, Ok}
use Rattle.runfile.specs.declared.Room.{Room}
use Rattle.runfile.specs.declared.Refusal.TheVariants as refusal
use Rattle.runfile.specs.Format.{head_size, word_size, row_size, new_place}
use Rattle.runfile.specs.Layout.{u16_at, u32_at, u64_at, widened, marked, header_in, number_at, row_at}
use Rattle.runfile.specs.Ups.{up_from, idles}
use Rattle.runfile.specs.Operations.{words_of}
use Rattle.runfile.specs.Refusals.{bad_field, same_fields, bad_byte, first_bad_field, first_row, first_later_row, first_byte, refused, refusal_of}

-- the file of case f (R266)
abbrev case_f : List ℕ
case_f =
    83 ∷ 87 ∷ 82 ∷ 1 ∷ 0 ∷ 2 ∷ 1 ∷ 2 ∷ 0 ∷ 12 ∷ 0 ∷ 7 ∷ 0 ∷ 0 ∷ 0 ∷ 0 ∷ 1 ∷ 0 ∷ 0 ∷ 7 ∷ 0 ∷ 8 ∷ 0 ∷ 1 ∷ 1 ∷ 0 ∷ 0 ∷ 7 ∷ 0 ∷ 9 ∷ 0
    ∷ 0 ∷ 0 ∷ 1 ∷ 1 ∷ 1 ∷ 1 ∷ 1 ∷ 0 ∷ 0 ∷ 0 ∷ 0 ∷ 0 ∷ []

-- the file of case l: one word at 7, a row of process 0 that would swap 7 for 7, no schedule (R272)
abbrev case_l : List ℕ
case_l = 83 ∷ 87 ∷ 82 ∷ 1 ∷ 0 ∷ 1 ∷ 1 ∷ 1 ∷ 0 ∷ 0 ∷ 0 ∷ 7 ∷ 0 ∷ 0 ∷ 0 ∷ 0 ∷ 1 ∷ 0 ∷ 0 ∷ 7 ∷ 0 ∷ 7 ∷ 0 ∷ []

abbrev enough : Room
enough = record { words = 1; log = 60; answers = 60 }

pub f_accepted : refusal_of case_f enough ≡ Ok (record { version = 1; processes = 2; words = 1; rows = 2; steps = 12 })
unfolding refusal_of idles up_from head_size word_size row_size new_place header_in u16_at u32_at marked number_at row_at bad_field same_fields bad_byte first_bad_field first_row first_later_row first_byte
f_accepted = refl

pub l_refused : refusal_of case_l enough ≡ refused refusal.Same 15
unfolding refusal_of idles up_from head_size word_size row_size new_place header_in u16_at u32_at marked number_at row_at bad_field same_fields bad_byte first_bad_field first_row first_later_row first_byte
l_refused = refl

-- two processes, one word, two rows, no schedule: the rows begin at 15 and at 23
abbrev with_rows : List ℕ → List ℕ → List ℕ
with_rows a b = 83 ∷ 87 ∷ 82 ∷ 1 ∷ 0 ∷ 2 ∷ 1 ∷ 2 ∷ 0 ∷ 0 ∷ 0 ∷ 7 ∷ 0 ∷ 0 ∷ 0 ∷ (a ++ b)

-- a read by process 0 with no slip
abbrev sound : List ℕ
sound = 0 ∷ 0 ∷ 0 ∷ 0 ∷ 0 ∷ 0 ∷ 0 ∷ 0 ∷ []

-- a read by process 1, as the second row, with one slip
abbrev slips : List (List ℕ)
slips =
    (2 ∷ 0 ∷ 0 ∷ 0 ∷ 0 ∷ 0 ∷ 0 ∷ 0 ∷ [])
    ∷ (1 ∷ 2 ∷ 0 ∷ 0 ∷ 0 ∷ 0 ∷ 0 ∷ 0 ∷ [])
    ∷ (1 ∷ 0 ∷ 1 ∷ 0 ∷ 0 ∷ 0 ∷ 0 ∷ 0 ∷ [])
    ∷ (1 ∷ 0 ∷ 0 ∷ 1 ∷ 0 ∷ 0 ∷ 0 ∷ 0 ∷ [])
    ∷ (1 ∷ 0 ∷ 0 ∷ 0 ∷ 0 ∷ 1 ∷ 0 ∷ 0 ∷ [])
    ∷ (1 ∷ 0 ∷ 0 ∷ 0 ∷ 0 ∷ 0 ∷ 0 ∷ 1 ∷ [])
    ∷ []

-- process, kind, word, zero byte, old, new; the slip in old and in new is in the second byte, and the first one's place is given
pub slips_refused : map (λ row. refusal_of (with_rows sound row) enough) slips ≡ map (refused refusal.Row) (23 ∷ 24 ∷ 25 ∷ 26 ∷ 27 ∷ 29 ∷ [])
unfolding refusal_of idles up_from head_size word_size row_size new_place header_in u16_at u32_at marked number_at row_at bad_field same_fields bad_byte first_bad_field first_row first_later_row first_byte
slips_refused = refl

-- several slips in a row: the first one in file order counts
pub first_slip : refusal_of (with_rows sound (1 ∷ 0 ∷ 1 ∷ 1 ∷ 7 ∷ 0 ∷ 8 ∷ 0 ∷ [])) enough ≡ refused refusal.Row 25
unfolding refusal_of idles up_from head_size word_size row_size new_place header_in u16_at u32_at marked number_at row_at bad_field same_fields bad_byte first_bad_field first_row first_later_row first_byte
first_slip = refl

-- the last field of the first row comes before the first field of the second
pub first-row : refusal_of (with_rows (0 ∷ 0 ∷ 0 ∷ 0 ∷ 0 ∷ 0 ∷ 8 ∷ 0 ∷ []) (2 ∷ 2 ∷ 1 ∷ 1 ∷ 7 ∷ 0 ∷ 8 ∷ 0 ∷ [])) enough ≡ refused refusal.Row 21
unfolding refusal_of idles up_from head_size word_size row_size new_place header_in u16_at u32_at marked number_at row_at bad_field same_fields bad_byte first_bad_field first_row first_later_row first_byte
first-row = refl

-- the same in version 2: words of 8 bytes, rows of 12, which begin at 19 and at 31
abbrev wide_rows : List ℕ → List ℕ → List ℕ
wide_rows a b = 83 ∷ 87 ∷ 82 ∷ 2 ∷ 0 ∷ 2 ∷ 1 ∷ 2 ∷ 0 ∷ 0 ∷ 0 ∷ 7 ∷ 0 ∷ 0 ∷ 0 ∷ 0 ∷ 0 ∷ 0 ∷ 0 ∷ (a ++ b)

abbrev wide_sound : List ℕ
wide_sound = 0 ∷ 0 ∷ 0 ∷ 0 ∷ 0 ∷ 0 ∷ 0 ∷ 0 ∷ 0 ∷ 0 ∷ 0 ∷ 0 ∷ []

-- process 1 compares with 4,294,967,295, the largest number of 4 bytes, and swaps in 0
abbrev wide_compare : List ℕ
wide_compare = 1 ∷ 1 ∷ 0 ∷ 0 ∷ 255 ∷ 255 ∷ 255 ∷ 255 ∷ 0 ∷ 0 ∷ 0 ∷ 0 ∷ []

pub second_accepted : refusal_of (wide_rows wide_sound wide_compare) enough ≡ Ok (record { version = 2; processes = 2; words = 1; rows = 2; steps = 0 })
unfolding refusal_of idles up_from head_size word_size row_size new_place header_in u16_at u32_at marked number_at row_at bad_field same_fields bad_byte first_bad_field first_row first_later_row first_byte
second_accepted = refl

-- process, kind, word, zero byte, and a slip in the last byte of old and of new
abbrev wide_slips : List (List ℕ)
wide_slips =
    (2 ∷ 0 ∷ 0 ∷ 0 ∷ 0 ∷ 0 ∷ 0 ∷ 0 ∷ 0 ∷ 0 ∷ 0 ∷ 0 ∷ [])
    ∷ (1 ∷ 3 ∷ 0 ∷ 0 ∷ 0 ∷ 0 ∷ 0 ∷ 0 ∷ 0 ∷ 0 ∷ 0 ∷ 0 ∷ [])
    ∷ (1 ∷ 0 ∷ 1 ∷ 0 ∷ 0 ∷ 0 ∷ 0 ∷ 0 ∷ 0 ∷ 0 ∷ 0 ∷ 0 ∷ [])
    ∷ (1 ∷ 0 ∷ 0 ∷ 1 ∷ 0 ∷ 0 ∷ 0 ∷ 0 ∷ 0 ∷ 0 ∷ 0 ∷ 0 ∷ [])
    ∷ (1 ∷ 0 ∷ 0 ∷ 0 ∷ 0 ∷ 0 ∷ 0 ∷ 1 ∷ 0 ∷ 0 ∷ 0 ∷ 0 ∷ [])
    ∷ (1 ∷ 0 ∷ 0 ∷ 0 ∷ 0 ∷ 0 ∷ 0 ∷ 0 ∷ 0 ∷ 0 ∷ 0 ∷ 1 ∷ [])
    ∷ []

pub wide_slips_refused : map (λ row. refusal_of (wide_rows wide_sound row) enough) wide_slips ≡ map (refused refusal.Row) (31 ∷ 32 ∷ 33 ∷ 34 ∷ 35 ∷ 39 ∷ [])
unfolding refusal_of idles up_from head_size word_size row_size new_place header_in u16_at u32_at marked number_at row_at bad_field same_fields bad_byte first_bad_field first_row first_later_row first_byte
wide_slips_refused = refl

-- old and new alike in all four bytes: 11, at the row's first byte (R51)
pub second-same : refusal_of (wide_rows wide_sound (1 ∷ 1 ∷ 0 ∷ 0 ∷ 7 ∷ 0 ∷ 0 ∷ 1 ∷ 7 ∷ 0 ∷ 0 ∷ 1 ∷ [])) enough ≡ refused refusal.Same 31
unfolding refusal_of idles up_from head_size word_size row_size new_place header_in u16_at u32_at marked number_at row_at bad_field same_fields bad_byte first_bad_field first_row first_later_row first_byte
second-same = refl

-- process 1 advances: by 5, which is accepted; from old 1, which is refused by 9 at that field (R49e); by 0, which is refused by 11 at the row (R51)
abbrev wide_advance : (old amount : ℕ) → List ℕ
wide_advance old amount = 1 ∷ 2 ∷ 0 ∷ 0 ∷ old ∷ 0 ∷ 0 ∷ 0 ∷ amount ∷ 0 ∷ 0 ∷ 0 ∷ []

pub advances-judged : map (λ row. refusal_of (wide_rows wide_sound row) enough) (wide_advance 0 5 ∷ wide_advance 1 5 ∷ wide_advance 0 0 ∷ [])
    ≡ Ok (record { version = 2; processes = 2; words = 1; rows = 2; steps = 0 }) ∷ refused refusal.Row 35 ∷ refused refusal.Same 31 ∷ []
unfolding refusal_of idles up_from head_size word_size row_size new_place header_in u16_at u32_at marked number_at row_at bad_field same_fields bad_byte first_bad_field first_row first_later_row first_byte
advances-judged = refl

-- versions 0 and 3 are refused by 3 (R43)
pub unknown_versions : map (λ v. refusal_of (83 ∷ 87 ∷ 82 ∷ v ∷ 0 ∷ 1 ∷ 1 ∷ 0 ∷ 0 ∷ 0 ∷ 0 ∷ []) enough) (0 ∷ 3 ∷ []) ≡ map (refused refusal.Version) (0 ∷ 0 ∷ [])
unfolding refusal_of idles up_from head_size word_size row_size new_place header_in u16_at u32_at marked number_at row_at bad_field same_fields bad_byte first_bad_field first_row first_later_row first_byte
unknown_versions = refl

-- a start word of version 1 is widened: value 7 and the flip bits of processes 0 and 15
pub first-widened : words_of (record { version = 1; processes = 1; words = 1; rows = 0; steps = 0 }) (83 ∷ 87 ∷ 82 ∷ 1 ∷ 0 ∷ 1 ∷ 1 ∷ 0 ∷ 0 ∷ 0 ∷ 0 ∷ 7 ∷ 0 ∷ 1 ∷ 128 ∷ []) ≡ (7 + 4294967296 + 140737488355328) ∷ []
unfolding words_of head_size word_size u32_at widened
first-widened = refl

-- one of version 2 is read as it stands
pub second_as_is : words_of (record { version = 2; processes = 1; words = 1; rows = 0; steps = 0 }) (83 ∷ 87 ∷ 82 ∷ 2 ∷ 0 ∷ 1 ∷ 1 ∷ 0 ∷ 0 ∷ 0 ∷ 0 ∷ 7 ∷ 0 ∷ 0 ∷ 0 ∷ 1 ∷ 0 ∷ 0 ∷ 0 ∷ []) ≡ 4294967303 ∷ []
unfolding words_of head_size word_size u32_at u64_at
second_as_is = refl

-- two processes, one word, no row: the schedule begins at 15
abbrev with_bytes : List ℕ → List ℕ
with_bytes bytes = 83 ∷ 87 ∷ 82 ∷ 1 ∷ 0 ∷ 2 ∷ 1 ∷ 0 ∷ 0 ∷ length bytes ∷ 0 ∷ 7 ∷ 0 ∷ 0 ∷ 0 ∷ bytes

-- 10 00 20 11 F0 F0 01 20 21: a crash, a step of the one that is down, its wake; a crash of the other and then of all, twice; a step of one that is
-- down, and a wake of each
pub busy_accepted : refusal_of (with_bytes (16 ∷ 0 ∷ 32 ∷ 17 ∷ 240 ∷ 240 ∷ 1 ∷ 32 ∷ 33 ∷ [])) enough ≡ Ok (record { version = 1; processes = 2; words = 1; rows = 0; steps = 9 })
unfolding refusal_of idles up_from head_size word_size row_size new_place header_in u16_at u32_at marked number_at row_at bad_field same_fields bad_byte first_bad_field first_row first_later_row first_byte
busy_accepted = refl

-- a wake of one that is up; a second crash; a crash after a crash of all; a second wake; and a byte that is no action goes before, though it stands behind
abbrev idle_schedules : List (List ℕ)
idle_schedules = (0 ∷ 32 ∷ []) ∷ (16 ∷ 17 ∷ 16 ∷ []) ∷ (240 ∷ 0 ∷ 0 ∷ 17 ∷ []) ∷ (240 ∷ 33 ∷ 33 ∷ []) ∷ (32 ∷ 255 ∷ []) ∷ []

pub idle_refused : map (λ bytes. refusal_of (with_bytes bytes) enough) idle_schedules
    ≡ refused refusal.Idle 16 ∷ refused refusal.Idle 17 ∷ refused refusal.Idle 18 ∷ refused refusal.Idle 17 ∷ refused refusal.Action 16 ∷ []
unfolding refusal_of idles up_from head_size word_size row_size new_place header_in u16_at u32_at marked number_at row_at bad_field same_fields bad_byte first_bad_field first_row first_later_row first_byte
idle_refused = refl

-- 16 goes before 13
pub idle_before_room : refusal_of (with_bytes (32 ∷ [])) (record { words = 0; log = 0; answers = 0 }) ≡ refused refusal.Idle 15
unfolding refusal_of idles up_from head_size word_size row_size new_place header_in u16_at u32_at marked number_at row_at bad_field same_fields bad_byte first_bad_field first_row first_later_row first_byte
idle_before_room = refl
