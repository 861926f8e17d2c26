-- What depends on the version of a file: the sizes of header, word and row, and the longest file, by the version (R2, R6, R7, R9); where a row's
-- fields stand, by the row's size (R10). All other definitions take these numbers from here, and the code takes them from src/format.rt.
use Rattle.std.specs.Prelude.{ℕ, zero, suc, ◌+◌, ◌*◌, ◌-◌, ◌≤◌, ◌<◌, ◌≡◌, refl, ◌⊎◌, Bool, true, false, cond, eqb}
use Rattle.std.proofs.Props.{props}
use Rattle.std.proofs.Common.{ap, inl, inr, eq-eqb, ne_eqb, mul-le-mul_right, suc-mul, arith}
use Rattle.runfile.specs.declared.Field.{Field}
use Rattle.runfile.specs.declared.Field.TheVariants.{Process, Kind, Word, ZeroByte, Old, New}

-- the bytes that every version's header has: the mark, the version, P, W, the row count and S (R2)
abbrev pub least_head : ℕ
least_head = 11

-- the bytes of the header (R2), of a word (R6) and of a row (R7): version 1 alone is narrow
unfoldable pub head_size : ℕ → ℕ
head_size version = least_head

unfoldable pub word_size : ℕ → ℕ
word_size version = cond (eqb version 1) 4 8

unfoldable pub row_size : ℕ → ℕ
row_size version = cond (eqb version 1) 8 12

-- how many bytes old and new have in a row of this size, where new stands, and each field's first byte (R10)
unfoldable pub number_size : ℕ → ℕ
number_size size = cond (eqb size 8) 2 4

unfoldable pub new_place : ℕ → ℕ
new_place size = cond (eqb size 8) 6 8

abbrev pub offset_of : ℕ → Field → ℕ
offset_of size Process = 0
offset_of size Kind = 1
offset_of size Word = 2
offset_of size ZeroByte = 3
offset_of size Old = 4
offset_of size New = new_place size

-- the sizes that a row has, and that its fields stand in it one behind the other
pub record RowSize (size : ℕ) : Type 0 where
  pub one_of : (size ≡ 8) ⊎ (size ≡ 12)
  pub least : 8 ≤ size
  pub most : size ≤ 12
  pub old_fits : 4 + number_size size ≤ new_place size
  pub new_fits : new_place size + number_size size ≤ size
  pub new_within : new_place size < size

-- a size is one of the two in one way, so a struct may keep that it is
one_of_prop : (size : ℕ) → IsProp ((size ≡ 8) ⊎ (size ≡ 12))
one_of_prop size (inl a) (inl b) = ap inl (let p : IsProp (size ≡ 8) = hlevel props in p a b)
one_of_prop size (inl a) (inr b) = absurd (omega arith)
one_of_prop size (inr a) (inl b) = absurd (omega arith)
one_of_prop size (inr a) (inr b) = ap inr (let p : IsProp (size ≡ 12) = hlevel props in p a b)

pub RowSize-prop : (size : ℕ) → IsProp (RowSize size)
RowSize-prop size = hlevel (props, one_of_prop size)

pub row-narrow : RowSize 8
unfolding number_size new_place
row-narrow = record { one_of = inl refl; least = omega arith; most = omega arith; old_fits = omega arith; new_fits = omega arith; new_within = omega arith }

pub row_wide : RowSize 12
unfolding number_size new_place
row_wide = record { one_of = inr refl; least = omega arith; most = omega arith; old_fits = omega arith; new_fits = omega arith; new_within = omega arith }

pub row_size_lem : (version : ℕ) → RowSize (row_size version)
unfolding row_size
row_size_lem version = go (eqb version 1)
  where
    go : (narrow : Bool) → RowSize (cond narrow 8 12)
    go true = row-narrow
    go false = row_wide

pub number-narrow : (size : ℕ) → size ≡ 8 → number_size size ≡ 2
unfolding number_size
number-narrow size e = rw (eq-eqb size 8 e)

pub number_wide : (size : ℕ) → (size ≡ 8 → ⊥) → number_size size ≡ 4
unfolding number_size
number_wide size n = rw (ne_eqb size 8 n)

pub word_wide : (version : ℕ) → (version ≡ 1 → ⊥) → word_size version ≡ 8
unfolding word_size
word_wide version n = rw (ne_eqb version 1 n)

pub new_after : (size : ℕ) → 5 < new_place size
unfolding new_place
new_after size = go (eqb size 8)
  where
    go : (narrow : Bool) → 5 < cond narrow 6 8
    go true = omega arith
    go false = omega arith

-- the longest file of a version: sixteen words, 512 rows and 1,024 schedule bytes (R5, R9)
unfoldable pub longest_file : ℕ → ℕ
longest_file version = head_size version + 16 * word_size version + 512 * row_size version + 1024

pub longest_first : longest_file 1 ≡ 5195
unfolding longest_file head_size word_size row_size
longest_first = refl

pub longest_second : longest_file 2 ≡ 7307
unfolding longest_file head_size word_size row_size
longest_second = refl

-- and of any version
abbrev pub longest_of_all : ℕ
longest_of_all = 7307

pub longest_most : (version : ℕ) → longest_file version ≤ longest_of_all
unfolding longest_file head_size word_size row_size
longest_most version = go (eqb version 1)
  where
    go : (narrow : Bool) → least_head + 16 * cond narrow 4 8 + 512 * cond narrow 8 12 + 1024 ≤ longest_of_all
    go true = omega arith
    go false = omega arith

pub longest_holds : (version words rows steps : ℕ) → words ≤ 16 → rows ≤ 512 → steps ≤ 1024
    → head_size version + words * word_size version + rows * row_size version + steps ≤ longest_file version
unfolding longest_file
longest_holds version words rows steps w r s =
    let a = mul-le-mul_right (word_size version) w in
    let b = mul-le-mul_right (row_size version) r in
    omega arith

pub one_more : (k size : ℕ) → (k + 1) * size ≡ k * size + size
one_more k size = omega arith

-- row k of n rows of this size is within them, and the row before stands one row earlier
pub within : (size start k n : ℕ) → k < n → start + k * size + size ≤ start + n * size
within size start k n h = let a = mul-le-mul_right size (next h) in let b = one_more k size in omega arith
  where
    next : k < n → k + 1 ≤ n
    next h = omega arith

pub one_before : (size start k : ℕ) → 1 ≤ k → start + (k - 1) * size + size ≡ start + k * size
one_before size start zero h = absurd (omega arith)
one_before size start (suc k) h = rw (suc-mul k size) (let e : suc k - 1 ≡ k = omega arith in rw e (omega arith))
