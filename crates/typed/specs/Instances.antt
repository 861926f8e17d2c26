-- Texts and what they come to, computed: each slip is met, in the order of the text, with its line and its column.
use Rattle.std.specs.Prelude.{◌≡◌, refl, [], ◌∷◌, ◌++◌, Err, None, Ok, Some}
use Rattle.typed.specs.declared.Slip.TheVariants.{Stray, Alone, TooMany}
use Rattle.typed.specs.Chars.{within, is_digit, is_blank, class_of, value_of, byte_of, digit_of}
use Rattle.typed.specs.Reading.{act, reading}
use Rattle.typed.specs.Places.{behind, place_at}
use Rattle.typed.specs.Writing.{after_byte, paired, gap, spaces, on_one_line, lined, remark, text_of}
use Rattle.typed.specs.Promises.{typed_of, bytes_of, located_of, slip_at}

-- `5Z 5`: the Z is told, and no lone 5 before it
pub stray_after_digit : typed_of (53 ∷ 90 ∷ 32 ∷ 53 ∷ []) 9 ≡ Err (slip_at Stray (record { line = 1; column = 2 }))
unfolding within is_digit is_blank class_of act reading behind place_at
stray_after_digit = refl

-- `53 5 5Z`: the first in the text is told
pub lone_then_stray : typed_of (53 ∷ 51 ∷ 32 ∷ 53 ∷ 32 ∷ 53 ∷ 90 ∷ []) 9 ≡ Err (slip_at Alone (record { line = 1; column = 4 }))
unfolding within is_digit is_blank class_of act reading behind place_at
lone_then_stray = refl

-- `0#`: alone in front of a comment
pub lone_before_comment : typed_of (48 ∷ 35 ∷ []) 9 ≡ Err (slip_at Alone (record { line = 1; column = 1 }))
unfolding within is_digit is_blank class_of act reading behind place_at
lone_before_comment = refl

-- `53`, a newline, a tab, `57 Z`: line 2, and the tab is one column
pub stray_on_line_two : typed_of (53 ∷ 51 ∷ 10 ∷ 9 ∷ 53 ∷ 55 ∷ 32 ∷ 90 ∷ []) 9 ≡ Err (slip_at Stray (record { line = 2; column = 5 }))
unfolding within is_digit is_blank class_of act reading behind place_at
stray_on_line_two = refl

-- `5357 52` with room for two: the third byte's first digit
pub third_of_two : typed_of (53 ∷ 51 ∷ 53 ∷ 55 ∷ 32 ∷ 53 ∷ 50 ∷ []) 2 ≡ Err (slip_at TooMany (record { line = 1; column = 6 }))
unfolding within is_digit is_blank class_of act reading behind place_at
third_of_two = refl

-- `5`: alone at the end of the text
pub lone_at_end : typed_of (53 ∷ []) 9 ≡ Err (slip_at Alone (record { line = 1; column = 1 }))
unfolding within is_digit is_blank class_of act reading behind place_at
lone_at_end = refl

-- `fF # Z5`, a carriage return, a newline, `0a`: two bytes, and nothing in the comment is told
pub two_bytes : typed_of (102 ∷ 70 ∷ 32 ∷ 35 ∷ 32 ∷ 90 ∷ 53 ∷ 13 ∷ 10 ∷ 48 ∷ 97 ∷ []) 9 ≡ Ok 2
unfolding within is_digit is_blank class_of act reading
two_bytes = refl

pub their_values : bytes_of (102 ∷ 70 ∷ 32 ∷ 35 ∷ 32 ∷ 90 ∷ 53 ∷ 13 ∷ 10 ∷ 48 ∷ 97 ∷ []) ≡ 255 ∷ 10 ∷ []
unfolding within is_digit is_blank class_of value_of byte_of act reading
their_values = refl

pub second-place : located_of (102 ∷ 70 ∷ 32 ∷ 35 ∷ 32 ∷ 90 ∷ 53 ∷ 13 ∷ 10 ∷ 48 ∷ 97 ∷ []) 1 ≡ Some (record { line = 2; column = 1 })
unfolding within is_digit is_blank class_of act reading behind place_at
second-place = refl

pub no_third : located_of (102 ∷ 70 ∷ 32 ∷ 35 ∷ 32 ∷ 90 ∷ 53 ∷ 13 ∷ 10 ∷ 48 ∷ 97 ∷ []) 2 ≡ None
unfolding within is_digit is_blank class_of act reading
no_third = refl

-- 255 and 10, put with the comment `a`, a newline, `b`: `FF 0A`, eleven spaces, `# a b` and a newline
pub two-put : text_of (255 ∷ 10 ∷ []) (97 ∷ 10 ∷ 98 ∷ []) ≡ 70 ∷ 70 ∷ 32 ∷ 48 ∷ 65 ∷ spaces 11 ++ (35 ∷ 32 ∷ 97 ∷ 32 ∷ 98 ∷ 10 ∷ [])
unfolding digit_of after_byte paired gap spaces on_one_line lined remark text_of
two-put = refl
