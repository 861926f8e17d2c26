-- A file that is not refused is lawful: `lawful_file` of refusals 1 to 12, and `lawful` of all. A search that found nothing passed nothing
-- (`none_offends`), so each check that found nothing gives its fact for every row, field and byte.
use Rattle.std.specs.Prelude.{ℕ, suc, ◌+◌, ◌*◌, ◌-◌, ◌≤◌, ◌<◌, ◌≡◌, Bool, false, List, ltb, length, take, None, Ok}
use Rattle.std.proofs.Common.{sym, subst, arith, length-drop, ltb-false}
use Rattle.runfile.specs.declared.Header.{Header}
use Rattle.runfile.specs.declared.Field.{Field}
use Rattle.runfile.specs.declared.Room.{Room}
use Rattle.runfile.specs.Format.{least_head, offset_of}
use Rattle.runfile.specs.Layout.{header_in, rows_start, stride_of, row_place, schedule_start, schedule_in}
use Rattle.runfile.specs.Fields.{fields, field_at, order_of, ordered}
use Rattle.runfile.specs.Ups.{idles}
use Rattle.runfile.specs.Refusals.{bad_in, same_fields, bad_byte, offends_at, bad_field_in, first_bad_field, first_row, first_later_row, first_byte, below, same, found, head_checks, body_checks, file_checks, later_checks, refusals_in_order, refusal_of, no_room, file_refusal}
use Rattle.runfile.specs.Table.{row_of, zero_byte_of, byte_of}
use Rattle.runfile.specs.Order.{Clear, clear_parts, accepts, whole_clear}
use Rattle.runfile.specs.Refusals.{found_if, first_offender}
use Rattle.runfile.specs.Searches.{not_found, none_found}
use Rattle.runfile.specs.Lawful.{LawfulFile, Lawful, lawful_head, lawful_row, not_same, lawful_byte, not_idle_byte}

pub none_offends : (place : ℕ → ℕ) (offends : ℕ → Bool) (k n : ℕ) → first_offender place offends k n ≡ None → (j : ℕ) → k ≤ j → j < k + n → offends j ≡ false
none_offends place offends k n e j a b = not_found (offends j) (place j) (none_found (λ i. found_if (offends i) (place i)) k n e j a b)

-- of a row: no field is faulty
pub no_bad_field : (h : Header) (s : ℕ) (f : List ℕ) (start k : ℕ) → bad_field_in h s f start k ≡ None → (x : Field) → bad_in h s f start k x ≡ false
no_bad_field h s f start k e x =
    let o = ordered x in
    subst (λ y. bad_in h s f start k y ≡ false) o.1 (none_offends (λ i. row_place s start k + offset_of s (field_at i)) (λ i. bad_in h s f start k (field_at i)) 0 (length fields) e (order_of x) (omega arith) (let b = o.0 in omega arith))

-- from checks 1 to 12 that found nothing, whatever the buffers are
lawful_checks : (f : List ℕ) (room : Room) (h : Header) → h ≡ header_in f → Clear (found h f room) file_checks → LawfulFile h f
unfolding first_bad_field first_row first_later_row first_byte same_fields
lawful_checks f room h is c =
    let b = clear_parts (found h f room) head_checks body_checks c.1 in
    let head = lawful_head h f room b.0 in
    let body = b.1 in
    let start : ℕ = rows_start h in
    let s : ℕ = stride_of h in
    let steps : length (schedule_in h f) ≡ h.steps = simp length-drop (let x = head.exact in omega arith) in
    record {
      header = is;
      long = ltb-false (length f) least_head (whole_clear (ltb (length f) least_head) c.0);
      head = head;
      rows = λ k l. lawful_row h (row_of h f k) (zero_byte_of h f k) (no_bad_field h s f start k (none_found (bad_field_in h s f start) 0 h.rows body.0 k (omega arith) (omega arith)));
      ordered = λ k l. ltb-false (row_of h f (suc k)).process (row_of h f k).process (let back : suc k - 1 ≡ k = omega arith in rw back at (none_offends (row_place s start) (below s f start) 1 (h.rows - 1) body.1.0 (suc k) (omega arith) (omega arith)));
      differ = λ k l. not_same (row_of h f k) (none_offends (row_place s start) (same s f start) 0 h.rows body.1.1.0 k (omega arith) (omega arith));
      actions = λ i l. lawful_byte h.processes (byte_of h f i) (none_offends (λ j. schedule_start h + j) (offends_at (λ before. bad_byte h.processes) (schedule_in h f)) 0 (length (schedule_in h f)) body.1.1.1.0 i (omega arith) (omega arith));
      schedule = steps;
    }

pub lawful_file : (f : List ℕ) (h : Header) → file_refusal f ≡ Ok h → LawfulFile h f
unfolding file_refusal
lawful_file f h e =
    let g : Header = header_in f in
    let a = accepts (found g f no_room) g file_checks h e in
    lawful_checks f no_room h (sym a.0) (rw a.0 at a.1)

pub lawful : (f : List ℕ) (room : Room) (h : Header) → refusal_of f room ≡ Ok h → Lawful h f room
unfolding refusal_of first_byte
lawful f room h e =
    let g : Header = header_in f in
    let a = accepts (found g f room) g refusals_in_order h e in
    let finds = found h f room in
    let c : Clear finds refusals_in_order = rw a.0 at a.1 in
    let d = clear_parts finds file_checks later_checks c in
    let file = lawful_checks f room h (sym a.0) d.0 in
    let rooms = d.1.1 in
    record {
      file = file;
      not_idle = λ i l. not_idle_byte (take i (schedule_in h f)) (byte_of h f i) (none_offends (λ j. schedule_start h + j) (offends_at idles (schedule_in h f)) 0 (length (schedule_in h f)) d.1.0 i (omega arith) (let s = file.schedule in omega arith));
      words_room = ltb-false room.words h.words (whole_clear (ltb room.words h.words) rooms.0);
      log_room = ltb-false room.log (5 * h.steps) (whole_clear (ltb room.log (5 * h.steps)) rooms.1.0);
      answers_room = ltb-false room.answers (5 * h.steps) (whole_clear (ltb room.answers (5 * h.steps)) rooms.1.1.0);
    }
