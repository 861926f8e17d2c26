-- The fields of a row in file order (R10). Each has a number in that order, numbers go up with offsets, and at its offset stands what the row
-- holds for it; so a place names a row and a field (R36).
use Rattle.std.specs.Prelude.{ℕ, zero, suc, ◌+◌, ◌*◌, ◌-◌, ◌/◌, ◌%◌, ◌≤◌, ◌<◌, ◌≡◌, refl, ◌↔◌, ◌⊎◌, List, [], ◌∷◌, get_or, length}
use Rattle.std.proofs.Common.{sym, ap, ◌∙◌, inl, inr, ⊎_elim, add-zero, zero-add, mod-eq_of_lt, arith}
use Rattle.std.proofs.Math.Nat.{div-eq_of_lt, add-mul-mod_self_right, add-mul-div_right}
use Rattle.runfile.specs.declared.Row.{Row}
use Rattle.runfile.specs.declared.Field.{Field}
use Rattle.runfile.specs.declared.Field.TheVariants.{Process, Kind, Word, ZeroByte, Old, New}
use Rattle.runfile.specs.Format.{RowSize, new_place, new_after, offset_of}
use Rattle.runfile.specs.Layout.{row_place, byte_at, number_at, row_at, zero_byte_at}

-- the six fields, in the order in which they stand and are looked at (R10, R36)
abbrev pub fields : List Field
fields = Process ∷ Kind ∷ Word ∷ ZeroByte ∷ Old ∷ New ∷ []

abbrev pub field_at : ℕ → Field
field_at i = get_or fields i Process

-- what stands at a field's offset is the row's field
abbrev held : Row → ℕ → Field → ℕ
held row zero_read Process = row.process
held row zero_read Kind = row.kind
held row zero_read Word = row.word
held row zero_read ZeroByte = zero_read
held row zero_read Old = row.old
held row zero_read New = row.new

abbrev read : ℕ → List ℕ → ℕ → Field → ℕ
read stride f at Process = byte_at f at
read stride f at Kind = byte_at f at
read stride f at Word = byte_at f at
read stride f at ZeroByte = byte_at f at
read stride f at Old = number_at stride f at
read stride f at New = number_at stride f at

pub stands : (stride : ℕ) (f : List ℕ) (at : ℕ) (x : Field) → read stride f (at + offset_of stride x) x ≡ held (row_at stride f at) (zero_byte_at f at) x
unfolding row_at
stands stride f at Process = rw (add-zero at)
stands stride f at Kind = refl
stands stride f at Word = refl
stands stride f at ZeroByte = refl
stands stride f at Old = refl
stands stride f at New = refl

-- a field's number in file order
abbrev pub order_of : Field → ℕ
order_of Process = 0
order_of Kind = 1
order_of Word = 2
order_of ZeroByte = 3
order_of Old = 4
order_of New = 5

-- the number names the field, and no other number does
pub ordered : (x : Field) → (order_of x < length fields) × (field_at (order_of x) ≡ x)
ordered Process = (omega arith, refl)
ordered Kind = (omega arith, refl)
ordered Word = (omega arith, refl)
ordered ZeroByte = (omega arith, refl)
ordered Old = (omega arith, refl)
ordered New = (omega arith, refl)

pub order_at : (i : ℕ) → i < length fields → order_of (field_at i) ≡ i
order_at zero h = refl
order_at (suc zero) h = refl
order_at (suc (suc zero)) h = refl
order_at (suc (suc (suc zero))) h = refl
order_at (suc (suc (suc (suc zero)))) h = refl
order_at (suc (suc (suc (suc (suc zero))))) h = refl
order_at (suc (suc (suc (suc (suc (suc i)))))) h = absurd (omega arith)

-- only the last field's offset is not its number, and it is larger, so numbers and offsets go up together
slot : (stride : ℕ) (x : Field) → ((offset_of stride x ≡ order_of x) × (order_of x < 5)) ⊎ ((offset_of stride x ≡ new_place stride) × (order_of x ≡ 5))
slot stride Process = inl (refl, omega arith)
slot stride Kind = inl (refl, omega arith)
slot stride Word = inl (refl, omega arith)
slot stride ZeroByte = inl (refl, omega arith)
slot stride Old = inl (refl, omega arith)
slot stride New = inr (refl, refl)

pub rising : (stride : ℕ) (x y : Field) → (offset_of stride x < offset_of stride y) ↔ (order_of x < order_of y)
rising stride x y = go (new_after stride) (slot stride x) (slot stride y)
  where
    go : 5 < new_place stride → ((offset_of stride x ≡ order_of x) × (order_of x < 5)) ⊎ ((offset_of stride x ≡ new_place stride) × (order_of x ≡ 5))
        → ((offset_of stride y ≡ order_of y) × (order_of y < 5)) ⊎ ((offset_of stride y ≡ new_place stride) × (order_of y ≡ 5))
        → (offset_of stride x < offset_of stride y) ↔ (order_of x < order_of y)
    go n (inl p) (inl q) = (λ h. omega arith, λ h. omega arith)
    go n (inl p) (inr q) = (λ h. omega arith, λ h. omega arith)
    go n (inr p) (inl q) = (λ h. omega arith, λ h. omega arith)
    go n (inr p) (inr q) = (λ h. omega arith, λ h. omega arith)

-- a field begins within its row
pub offset_within : (stride : ℕ) → RowSize stride → (x : Field) → offset_of stride x < stride
offset_within stride s x = let n = s.new_within in let l = s.least in ⊎_elim (λ p. omega arith) (λ p. omega arith) (slot stride x)

-- a place gives the row, by division by a row's size, and the offset of the field, by the remainder; and an offset names one field
past : (stride start k o : ℕ) → row_place stride start k + o - start ≡ o + k * stride
past stride start k o = omega arith

pub place-row : (stride start k : ℕ) → RowSize stride → (x : Field) → (row_place stride start k + offset_of stride x - start) / stride ≡ k
place-row stride start k s x =
    let l = s.least in
    rw (past stride start k (offset_of stride x), add-mul-div_right (offset_of stride x) k (positive l), div-eq_of_lt (offset_within stride s x)) (zero-add k)
  where
    positive : 8 ≤ stride → 0 < stride
    positive l = omega arith

pub place_offset : (stride start k : ℕ) → RowSize stride → (x : Field) → (row_place stride start k + offset_of stride x - start) % stride ≡ offset_of stride x
place_offset stride start k s x = rw (past stride start k (offset_of stride x), add-mul-mod_self_right (offset_of stride x) k stride, mod-eq_of_lt (offset_within stride s x))

pub one_field : (stride : ℕ) (x y : Field) → offset_of stride x ≡ offset_of stride y → x ≡ y
one_field stride x y e = sym (ordered x).1 ∙ (ap field_at same ∙ (ordered y).1)
  where
    same : order_of x ≡ order_of y
    same =
        let n = new_after stride in
        ⊎_elim (λ p. ⊎_elim (λ q. omega arith) (λ q. omega arith) (slot stride y)) (λ p. ⊎_elim (λ q. omega arith) (λ q. omega arith) (slot stride y)) (slot stride x)
