-- A key, whole: refused, or run by the machine as a schedule of one byte, from what is lent to what the key comes to.
use Prim.Native.Nat.{ℕ, zero, suc, ◌≤◌, ◌<◌}
use mathlib.Core.Path.{◌≡◌, refl, sym, ap₂, subst}
use mathlib.Core.List.{List, [], ◌∷◌}
use native.Mathlib.Omega.{arith}
use lib.ListN.{length, get_or}
use Rattle.std.specs.Prelude.{Ok, Err}
use Rattle.runfile.specs.declared.Header.{Header}
use Rattle.runfile.specs.declared.Operations.{Operations}
use Rattle.runfile.specs.Layout.{rows_start}
use Rattle.runfile.specs.Promises.{RowsLent}
use Rattle.runfile.specs.Operations.{table_of}
use Rattle.runfile.specs.Lawful.{LawfulFile, LawfulByte, lawful_byte}
use Rattle.engine.specs.declared.Standing.{Standing}
use Rattle.engine.specs.declared.Part.{Part}
use Rattle.machine.specs.Records.{nobody}
use Rattle.machine.specs.Laws.{Sane}
use Rattle.machine.specs.Machine.{after_in}
use Rattle.engine.specs.Part.{Runnable, Runs, state_lent}
use Rattle.run.specs.Parts.{table-part, lined-part, words_part}
use Rattle.run.specs.Run.{room_of}
use Rattle.panel.specs.declared.Stroke.{Stroke}
use Rattle.panel.specs.declared.Table.{Table}
use Rattle.panel.specs.declared.Refused.{Refused}
use Rattle.panel.specs.Press.{done, verdict_of, Fit, state_of, stepped, pressed}
use Rattle.panel.specs.Promises.{PressedOn}
use Rattle.panel.specs.Fits.{each_possible, sane_of}
use Rattle.panel.proofs.Fits.{fit}

-- the rows of a lawful file begin in it
pub rows_within : (h : Header) (f : List ℕ) → LawfulFile h f → rows_start h ≤ length f
rows_within h f l = let e = l.head.exact in omega arith

module _ (f : List ℕ) (t : Table) (words log answers : List ℕ) (k : Stroke) where
  -- refused
  pub refused : (r : Refused) → verdict_of f t (room_of words log answers) k ≡ Err r → PressedOn f t words log answers k (Err r) words log answers
  unfolding pressed
  refused r v = rw v (record { result = refl; processes_are = refl; words_are = refl; log_is = refl; answers_are = refl })

  module _ (h : Header) (v : verdict_of f t (room_of words log answers) k ≡ Ok h) where
    ft : Fit h f t.processes (room_of words log answers) k
    ft = fit f t (room_of words log answers) k h v

    -- the table begins in the file
    pub begins : rows_start h ≤ length f
    begins = rows_within h f ft.lawful

    -- the key as a part of a schedule, from where a run stands before it
    abbrev part_of : ℕ → Part
    part_of P = record { present = P; from = record { processes = t.processes; position = k.position; counts = k.counts } }

    lawful_key : (i : ℕ) → i < 1 → LawfulByte h.processes (get_or (k.byte ∷ []) i 0)
    lawful_key zero b = lawful_byte h.processes k.byte ft.action
    lawful_key (suc i) b = absurd (omega arith)

    sane_key : (p : ℕ) → p < h.processes → Sane (table_of h f) p (get_or t.processes p nobody)
    sane_key p i = sane_of (table_of h f) p (get_or t.processes p nobody) (each_possible (table_of h f) t.processes 0 h.processes p ft.possible (omega arith) (omega arith))

    module _ (operations : Operations) (P : ℕ) (o : RowsLent h f operations.table.now operations.stride operations.count) (here : P ≡ h.processes) where
      -- it may be run
      pub able : Runnable (part_of P) operations (k.byte ∷ []) words log answers
      able =
          let lined = lined-part h f ft.lawful in
          let early = ft.early in
          let log_room = ft.log_room in
          let answers_room = ft.answers_room in
          rw (o.table_is, o.stride_is, o.count_is, here)
          (record {
            lined = lined;
            on_words = λ j i. let a = words_part h f ft.lawful j i in let b = ft.words_room in omega arith;
            present = ft.lawful.head.processes;
            lawful = lawful_key;
            early = omega arith;
            log_room = omega arith;
            answers_room = omega arith;
            sane = λ p i. subst (λ rows. Sane rows p (get_or t.processes p nobody)) (sym (table-part h f)) (sane_key p i);
          })

      -- and what it leaves is what the key comes to
      pub went : (left : Standing) (words' log' answers' : List ℕ) → Runs (part_of P) operations (k.byte ∷ []) words log answers left words' log' answers'
          → PressedOn f t words log answers k (Ok left) words' log' answers'
      unfolding pressed stepped state_of after_in state_lent
      went left words' log' answers' runs =
          let m = rw (o.table_is, o.stride_is, o.count_is, here, table-part h f) at runs in
          rw v
          (record {
            result = ap₂ done m.holds.log_count m.holds.answers_count;
            processes_are = m.processes_are;
            words_are = m.holds.words_are;
            log_is = m.holds.log_is;
            answers_are = m.holds.answers_are;
          })
