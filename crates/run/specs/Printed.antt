-- A file of version 1 prints what it printed (R18): its log rows, its answer rows, and the value and the flip bits of each final word are those of the
-- machine as it was, which is the same step rules at the width of version 1, on the words as they stand in the file. The words are read widened
-- (`as_read`), what a row of version 1 swaps in fits the narrower width, and then the runs at the two widths are alike (`alike`).
use Rattle.std.specs.Prelude.{ℕ, zero, suc, ◌+◌, ◌*◌, ◌/◌, ◌%◌, ◌^◌, ◌<◌, ◌≡◌, Bool, List, [], ◌∷◌, ◌++◌, map}
use Rattle.std.proofs.Math.Path.{refl, subst}
use Rattle.std.proofs.Common.{sym, ap, ap₂, ◌∙◌, arith, add_comm}
use Rattle.std.proofs.Math.Bool.{true, false}
use Rattle.std.proofs.Math.Dec.{ltb}
use borrow.Author.Tests.{ltb-true, ltb-false}
use Rattle.runfile.specs.declared.Header.{Header}
use Rattle.runfile.specs.declared.Row.{Row}
use Rattle.runfile.specs.Format.{row_size}
use Rattle.runfile.specs.Layout.{byte_at, u32_at, widened, word_place, rows_start, stride_of, row_at, schedule_in}
use Rattle.runfile.specs.declared.Room.{Room}
use Rattle.runfile.specs.Kinds.{kind_of}
use Rattle.runfile.specs.Table.{row_of}
use Rattle.runfile.specs.Lawful.{Lawful}
use Rattle.runfile.specs.Operations.{words_from, words_of, rows_from, table_of, row_numbered, blank}
use Rattle.runfile.specs.OperationLaws.{row_numbered-rows_from, row_numbered_past}
use Rattle.runfile.specs.RowLaws.{narrow-fits}
use Rattle.word.specs.Word.{width, value_in, flips_in}
use Rattle.word.specs.Widths.{rewidened}
use Rattle.machine.specs.KindLaws.{NoAdvance, no_advance}
use Rattle.machine.specs.Machine.{State, after, after_in, begin}
use Rattle.machine.specs.Widths.{PrintsAlike, Agreeing, agreeing}
use Rattle.machine.proofs.Widths.{alike}
use Rattle.run.specs.Run.{end_of}

-- how many bits of a word of version 1 are its value
abbrev pub narrow : ℕ
narrow = 16

-- the first n start words of a file of version 1, as they stand in it
pub narrow_words : List ℕ → ℕ → List ℕ
narrow_words f zero = []
narrow_words f (suc n) = narrow_words f n ++ (u32_at f (word_place 1 n) ∷ [])

-- the machine as it was, at the end of the schedule
unfoldable pub as_it_was : Header → List ℕ → State
as_it_was h f = after_in narrow (table_of h f) 0 (schedule_in h f) (begin h.processes (narrow_words f h.words))

is_widened : (w : ℕ) → widened w ≡ rewidened narrow width w
unfolding widened rewidened value_in flips_in
is_widened w = add_comm (w % 65536) (w / 65536 * 4294967296)

map_snoc : (g : ℕ → ℕ) (xs : List ℕ) (x : ℕ) → map g (xs ++ (x ∷ [])) ≡ map g xs ++ (g x ∷ [])
map_snoc g [] x = refl
map_snoc g (y ∷ xs) x = ap (λ l. g y ∷ l) (map_snoc g xs x)

-- the start words as they are read
pub as_read : (f : List ℕ) (n : ℕ) → words_from 1 f n ≡ map (rewidened narrow width) (narrow_words f n)
unfolding narrow_words
as_read f zero = refl
as_read f (suc n) =
    ap₂ (λ l w. l ++ (w ∷ [])) (as_read f n) (is_widened (u32_at f (word_place 1 n)))
    ∙ sym (map_snoc (rewidened narrow width) (narrow_words f n) (u32_at f (word_place 1 n)))

-- Version 1 has no kind 2 (R49b): so a file that is accepted has no row of it (`Lawful`)
module _ (f : List ℕ) (bytes : (at : ℕ) → byte_at f at < 256) (h : Header) (first : h.version ≡ 1) (none : (k : ℕ) → k < h.rows → (row_of h f k).kind ≡ 2 → ⊥) where
  -- of each row that the file has, and of what stands for one that it has not
  each : (Q : Row → Type 0) → ((k : ℕ) → k < h.rows → Q (row_of h f k)) → Q blank → (k : ℕ) → Q (row_numbered (table_of h f) k)
  unfolding table_of
  each Q has past k = go (ltb k h.rows) refl
    where
      go : (c : Bool) → ltb k h.rows ≡ c → Q (row_numbered (rows_from (stride_of h) f (rows_start h) h.rows) k)
      go true e = let l = ltb-true k h.rows e in subst Q (sym (row_numbered-rows_from (stride_of h) f (rows_start h) h.rows k l)) (has k l)
      go false e = subst Q (sym (row_numbered_past (stride_of h) f (rows_start h) h.rows k (ltb-false k h.rows e))) past

  -- what a row swaps in
  agrees : Agreeing narrow width (table_of h f)
  agrees =
      agreeing narrow width (table_of h f)
      (each (λ row. NoAdvance (kind_of row)) (λ k l. no_advance (row_of h f k).kind (none k l)) tt)
      (each (λ row. row.new < 2 ^ narrow)
      (λ k l. subst (λ version. (row_at (row_size version) f (rows_start h + k * stride_of h)).new < 2 ^ narrow) (sym first) (narrow-fits f bytes (rows_start h + k * stride_of h)))
      (omega arith))

  pub printed : PrintsAlike narrow width (as_it_was h f) (end_of h f)
  unfolding as_it_was end_of words_of
  printed =
      subst (λ words. PrintsAlike narrow width (as_it_was h f) (after (table_of h f) 0 (schedule_in h f) (begin h.processes words)))
      (sym (ap (λ version. words_from version f h.words) first ∙ as_read f h.words))
      (alike narrow width (omega arith) (table_of h f) agrees h.processes (narrow_words f h.words) (schedule_in h f))

-- and so of every file of version 1 that is accepted
pub printed_accepted : (f : List ℕ) → ((at : ℕ) → byte_at f at < 256) → (h : Header) (room : Room) → Lawful h f room → h.version ≡ 1 → PrintsAlike narrow width (as_it_was h f) (end_of h f)
printed_accepted f bytes h room l first = printed f bytes h first (λ k within. (l.file.rows k within).no_advance first)
