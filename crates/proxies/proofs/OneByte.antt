-- One byte. A byte of the other proxy touches nothing on this proxy's side; a byte of this proxy, or F0, does the same in two states that have the same side.
-- Both by the six things that a step may come to, whatever its stage.
use Rattle.std.specs.Prelude.{ℕ, ◌+◌, ◌≡◌, Bool, cond, List, [], ◌∷◌, ◌++◌, ◌⊎◌, ltb, get_or, set, Some, None}
use Rattle.std.proofs.Math.Path.{refl, sym, ap, subst}
use Rattle.std.proofs.Common.{◌∙◌, inl, inr}
use Rattle.std.proofs.Math.Bool.{true, false}
use Rattle.runfile.specs.declared.Row.{Row}
use Rattle.runfile.specs.Actions.{Action, step as steps, crash as crashes, wake as wakes, crash_all as crashes_all, none as idles, action, named}
use Rattle.runfile.specs.Operations.{row_numbered, first, count, names}
use Rattle.rows.specs.declared.Entry.{Entry}
use Rattle.rows.specs.Log.{insert, is_swap, first_swap}
use Rattle.machine.specs.declared.Answer.TheVariants.{False}
use Rattle.machine.specs.declared.Process.{Process}
use Rattle.machine.specs.declared.Status.{Status}
use Rattle.machine.specs.declared.Status.TheVariants.{Down, Idle, N2, N3, Busy}
use Rattle.machine.specs.Turn.{Turn, Still, Quiet, Swaps, Logs, Loses, Replies}
use Rattle.machine.specs.Records.{fresh, crashed, waked, started, with_stored, with_checkpoint, row_open, WorkOpen}
use Rattle.machine.specs.Steps.{entry, step_turn, step_turn_in}
use Rattle.machine.specs.Machine.{State, quiet, alone, move_of, turn, turn_in, apply, applied, proc_at, act, act_in, step, step_in}
use Rattle.replay.specs.Lists.{All, all_map, keep}
use Rattle.proxies.specs.Statement.{Proxy, Split, owns, part, Paired, Replaced, OnOwnWord, OtherByte, entries_of}
use Rattle.proxies.specs.Sides.{side, side_same}
use Rattle.proxies.specs.Rows.{OtherRow}
use Rattle.proxies.specs.Parts.{part_set_other, part_set_own, part_at, part-map}
use Rattle.proxies.specs.Filters.{insert_other, insert_own, last_other, last_own, swap_kept, swap_tables}
use Rattle.proxies.specs.Tables.{swap_unnamed, swap_by_name, row_has, named_there, row_same, first-same, count_same}
use Rattle.proxies.proofs.Tables.{on_side, names_same}
use Rattle.proxies.specs.Owners.{quiet_or_open, Owned, OwnOpen, Tidy}

module _ (split : Split) (x : Proxy) where
  -- an entry of this proxy
  abbrev Own : Entry → Bool
  Own e = owns x split.processes e.process

  -- the word of an open row is on the side of the process
  row_word : (rows : List Row) → All (OnOwnWord split) rows → (p k : ℕ) → OwnOpen rows p k → owns x split.words (row_numbered rows k).word ≡ owns x split.processes p
  row_word rows own p k h = on_side split x (row_numbered rows k) (row_has (OnOwnWord split) rows own k h.inside) ∙ ap (owns x split.processes) h.owner

  -- A byte of the other proxy
  module _ (rows : List Row) (own : All (OnOwnWord split) rows) (t : ℕ) (s : State) (h : Tidy rows s) (q : ℕ) (not-mine : owns x split.processes q ≡ false) where
    records_other : (next : Process) → part x split.processes (set s.processes q next) ≡ part x split.processes s.processes
    records_other next = part_set_other x split.processes s.processes q next not-mine

    record_other : (next : Process) → side split x (applied q (alone next) s) ≡ side split x s
    unfolding applied apply
    record_other next = side_same refl (records_other next) refl refl

    -- it works at row k, which is on word w
    effect_other : (k w : ℕ) (r : Process) (u : Turn) → owns x split.words w ≡ false → side split x (applied q (move_of rows s.log q t k w r u) s) ≡ side split x s
    unfolding applied apply entries_of
    effect_other k w r Still o = record_other r
    effect_other k w r (Quiet next) o = record_other next
    effect_other k w r (Swaps next v says) o = side_same (part_set_other x split.words s.words w v o) (records_other next) (insert_other Own _ s.log not-mine) refl
    effect_other k w r (Logs next at a) o = side_same refl (records_other next) (insert_other Own _ s.log not-mine) refl
    effect_other k w r (Loses next after otherwise) o = side_same refl (records_other next) (insert_other Own _ s.log not-mine) refl
    effect_other k w r (Replies next answer) o = side_same refl (records_other next) refl (last_other Own _ s.answers not-mine)

    open_other : (r : Process) (k : ℕ) → r.opened ≡ Some k → OwnOpen rows q k → (st : Status) → side split x (applied q (turn rows q t s.words s.log r st) s) ≡ side split x s
    unfolding turn_in
    open_other r k o is st =
        let row = row_numbered rows (row_open r.opened) in
        effect_other (row_open r.opened) row.word r (step_turn row q t (get_or s.words row.word 0) (first rows q) (count rows q) r st)
        (ap (λ o. owns x split.words (row_numbered rows (row_open o)).word) o ∙ row_word rows own q k is ∙ not-mine)

    step_other : side split x (applied q (turn rows q t s.words s.log (proc_at q s) (proc_at q s).status) s) ≡ side split x s
    unfolding applied
    step_other = go (quiet_or_open rows q t s.words s.log (proc_at q s) (proc_at q s).status (h.works q))
      where
        go : ((turn rows q t s.words s.log (proc_at q s) (proc_at q s).status).effect ≡ quiet) ⊎ ((k : ℕ) × ((proc_at q s).opened ≡ Some k))
            → side split x (applied q (turn rows q t s.words s.log (proc_at q s) (proc_at q s).status) s) ≡ side split x s
        go (inl e) =
            let m = turn rows q t s.words s.log (proc_at q s) (proc_at q s).status in
            ap (λ f. side split x (apply f (set s.processes q m.process) s)) e ∙ record_other m.process
        go (inr (k, o)) = open_other (proc_at q s) k o (h.opened q k o) (proc_at q s).status

    act_other : (a : Action) → (a ≡ crashes_all → ⊥) → side split x (act rows t a q s) ≡ side split x s
    unfolding act_in
    act_other steps n = step_other
    act_other crashes n = record_other (crashed (proc_at q s))
    act_other wakes n = record_other (waked (proc_at q s) (proc_at q s).status)
    act_other crashes_all n = absurd (n refl)
    act_other idles n = refl

  -- a byte of the other proxy touches nothing of mine
  pub byte_other : (rows : List Row) → All (OnOwnWord split) rows → (t byte : ℕ) (s : State) → Tidy rows s → OtherByte split x byte → side split x (step rows t byte s) ≡ side split x s
  unfolding step_in
  byte_other rows own t byte s h (n, o) = act_other rows own t s h (named byte) o (action byte) n

  -- Two states with the same side
  module _ (rows rows' : List Row) (own : All (OnOwnWord split) rows) (own' : All (OnOwnWord split) rows') (tables : Paired (Replaced (OtherRow split x)) rows rows')
      (t : ℕ) (s s' : State) (h : Tidy rows s) (h' : Tidy rows' s') (look : side split x s ≡ side split x s') where
    words_same : part x split.words s.words ≡ part x split.words s'.words
    words_same = ap (λ v. v.words) look

    records_same : part x split.processes s.processes ≡ part x split.processes s'.processes
    records_same = ap (λ v. v.records) look

    log_same : entries_of split x s.log ≡ entries_of split x s'.log
    log_same = ap (λ v. v.log) look

    answers_same : entries_of split x s.answers ≡ entries_of split x s'.answers
    answers_same = ap (λ v. v.answers) look

    -- the same entry goes into both logs, or behind both answers
    insert-same : (e : Entry) → Own e ≡ true → entries_of split x (insert e s.log) ≡ entries_of split x (insert e s'.log)
    unfolding entries_of
    insert-same e o = insert_own Own e s.log h.sorted o ∙ ap (insert e) log_same ∙ sym (insert_own Own e s'.log h'.sorted o)

    last_same : (e : Entry) → Own e ≡ true → entries_of split x (s.answers ++ (e ∷ [])) ≡ entries_of split x (s'.answers ++ (e ∷ []))
    unfolding entries_of
    last_same e o = last_own Own e s.answers o ∙ ap (λ l. l ++ (e ∷ [])) answers_same ∙ sym (last_own Own e s'.answers o)

    -- a lost swap on a word of this proxy finds the same swap: no entry of the other proxy is one on that word
    no_swap : (table : List Row) → All (OnOwnWord split) table → (w a : ℕ) → owns x split.words w ≡ true → (l : List Entry) → Owned table l → All (λ e. Own e ≡ false → is_swap table w a e ≡ false) l
    no_swap table on w a o l owned = all_map (λ e. (row_numbered table e.row).process ≡ e.process) (λ e. Own e ≡ false → is_swap table w a e ≡ false) (λ e is n. swap_unnamed table w a e (go e is n (names table e.row w) refl)) l owned
      where
        go : (e : Entry) → (row_numbered table e.row).process ≡ e.process → Own e ≡ false → (c : Bool) → names table e.row w ≡ c → c ≡ false
        go e is n false q = refl
        go e is n true q =
            let there = named_there table e.row w q in
            sym o ∙ ap (owns x split.words) (sym there.1) ∙ on_side split x (row_numbered table e.row) (row_has (OnOwnWord split) table on e.row there.0) ∙ ap (owns x split.processes) is ∙ n

    swap_same : (w a none : ℕ) → owns x split.words w ≡ true → first_swap rows w a none s.log ≡ first_swap rows' w a none s'.log
    unfolding entries_of
    swap_same w a none o =
        swap_kept Own rows w a none s.log (no_swap rows own w a o s.log h.owned)
        ∙ ap (first_swap rows w a none) log_same
        ∙ swap_tables rows rows' w a none (λ e. swap_by_name rows rows' w a e (names_same split x w o rows rows' own own' tables e.row)) (keep Own s'.log)
        ∙ sym (swap_kept Own rows' w a none s'.log (no_swap rows' own' w a o s'.log h'.owned))

    -- F0
    all_same : (p : ℕ) → side split x (act rows t crashes_all p s) ≡ side split x (act rows' t crashes_all p s')
    unfolding act_in apply
    all_same p = side_same words_same (part-map x split.processes crashed s.processes s'.processes records_same) log_same answers_same

    module _ (p : ℕ) (mine : owns x split.processes p ≡ true) where
      records_own : (next : Process) → part x split.processes (set s.processes p next) ≡ part x split.processes (set s'.processes p next)
      records_own next = part_set_own x split.processes s.processes s'.processes p next mine records_same

      record_same : (next : Process) → side split x (applied p (alone next) s) ≡ side split x (applied p (alone next) s')
      unfolding applied apply
      record_same next = side_same words_same (records_own next) log_same answers_same

      -- it works at row k, which is on word w
      effect_same : (k w : ℕ) (r : Process) (u : Turn) → owns x split.words w ≡ true
          → side split x (applied p (move_of rows s.log p t k w r u) s) ≡ side split x (applied p (move_of rows' s'.log p t k w r u) s')
      unfolding applied apply
      effect_same k w r Still o = record_same r
      effect_same k w r (Quiet next) o = record_same next
      effect_same k w r (Swaps next v says) o =
          side_same (part_set_own x split.words s.words s'.words w v o words_same) (records_own next)
          (insert-same _ mine) answers_same
      effect_same k w r (Logs next at a) o =
          side_same words_same (records_own next)
          (insert-same _ mine) answers_same
      effect_same k w r (Loses next after otherwise) o =
          side_same words_same (records_own next)
          (insert-same (entry (first_swap rows w after otherwise s.log) p k (Some False)) mine
          ∙ ap (λ at. entries_of split x (insert (entry at p k (Some False)) s'.log)) (swap_same w after otherwise o)) answers_same
      effect_same k w r (Replies next answer) o =
          side_same words_same (records_own next)
          log_same (last_same _ mine)

      -- in the midst of work, at row k
      work_same : (r : Process) (k : ℕ) → r.opened ≡ Some k → OwnOpen rows p k → (st : Status)
          → side split x (applied p (turn rows p t s.words s.log r st) s) ≡ side split x (applied p (turn rows' p t s'.words s'.log r st) s')
      unfolding turn_in
      work_same r k o is st =
          let j = row_open r.opened in
          let row : Row = row_numbered rows j in
          let at : j ≡ k = ap row_open o in
          let on : owns x split.words row.word ≡ true = ap (λ j. owns x split.words (row_numbered rows j).word) at ∙ row_word rows own p k is ∙ mine in
          let rows_are : row ≡ row_numbered rows' j = subst (λ j. row_numbered rows j ≡ row_numbered rows' j) (sym at) (row_same split x rows rows' tables k is.inside (ap (owns x split.processes) is.owner ∙ mine)) in
          effect_same j row.word r (step_turn row p t (get_or s.words row.word 0) (first rows p) (count rows p) r st) on
          ∙ ap (λ now. side split x (applied p (move_of rows' s'.log p t j row.word r (step_turn row p t now (first rows p) (count rows p) r st)) s')) (part_at x split.words s.words s'.words row.word 0 on words_same)
          ∙ ap (λ f. side split x (applied p (move_of rows' s'.log p t j row.word r (step_turn row p t (get_or s'.words row.word 0) f (count rows p) r st)) s')) (first-same split x p mine rows rows' tables)
          ∙ ap (λ c. side split x (applied p (move_of rows' s'.log p t j row.word r (step_turn row p t (get_or s'.words row.word 0) (first rows' p) c r st)) s')) (count_same split x p mine rows rows' tables)
          ∙ ap (λ row. side split x (applied p (move_of rows' s'.log p t j row.word r (step_turn row p t (get_or s'.words row.word 0) (first rows' p) (count rows' p) r st)) s')) rows_are

      turn-same : (r : Process) → ((k : ℕ) → r.opened ≡ Some k → OwnOpen rows p k) → (st : Status) → WorkOpen st r.opened
          → side split x (applied p (turn rows p t s.words s.log r st) s) ≡ side split x (applied p (turn rows' p t s'.words s'.log r st) s')
      unfolding turn_in step_turn_in
      turn-same r is Down w = record_same r
      turn-same r is Idle w = go (ltb r.begun (count rows p)) ∙ ap (λ n. side split x (applied p (move_of rows' s'.log p t (row_open r.opened) (row_numbered rows' (row_open r.opened)).word r (cond (ltb r.begun n) (Quiet (with_stored N2 None r)) Still)) s')) (count_same split x p mine rows rows' tables)
        where
          go : (c : Bool)
              → side split x (applied p (move_of rows s.log p t (row_open r.opened) (row_numbered rows (row_open r.opened)).word r (cond c (Quiet (with_stored N2 None r)) Still)) s)
              ≡ side split x (applied p (move_of rows' s'.log p t (row_open r.opened) (row_numbered rows' (row_open r.opened)).word r (cond c (Quiet (with_stored N2 None r)) Still)) s')
          go true = record_same (with_stored N2 None r)
          go false = record_same r
      turn-same r is N2 w = record_same (with_checkpoint N3 false r)
      turn-same r is N3 w = record_same (started (first rows p + r.begun) r) ∙ ap (λ n. side split x (applied p (alone (started (n + r.begun) r)) s')) (first-same split x p mine rows rows' tables)
      turn-same r is (Busy stage seen read_at tried_at answer) (k, o) = work_same r k o (is k o) (Busy stage seen read_at tried_at answer)

      own_record : proc_at p s ≡ proc_at p s'
      unfolding proc_at
      own_record = part_at x split.processes s.processes s'.processes p fresh mine records_same

      act-same : (a : Action) → side split x (act rows t a p s) ≡ side split x (act rows' t a p s')
      unfolding act_in
      act-same steps = turn-same (proc_at p s) (h.opened p) (proc_at p s).status (h.works p) ∙ ap (λ r. side split x (applied p (turn rows' p t s'.words s'.log r r.status) s')) own_record
      act-same crashes = record_same (crashed (proc_at p s)) ∙ ap (λ r. side split x (applied p (alone (crashed r)) s')) own_record
      act-same wakes = record_same (waked (proc_at p s) (proc_at p s).status) ∙ ap (λ r. side split x (applied p (alone (waked r r.status)) s')) own_record
      act-same crashes_all = all_same p
      act-same idles = look

    -- a byte of mine does the same in both, and so does F0
    pub byte-same : (byte : ℕ) → owns x split.processes (named byte) ≡ true → side split x (step rows t byte s) ≡ side split x (step rows' t byte s')
    unfolding step_in
    byte-same byte o = act-same (named byte) o (action byte)

    pub byte_all : (byte : ℕ) → action byte ≡ crashes_all → side split x (step rows t byte s) ≡ side split x (step rows' t byte s')
    unfolding step_in
    byte_all byte e = rw e (all_same (named byte))
