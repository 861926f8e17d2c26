-- Two proxies on one memory card (change request 8), stated for rows, start words and a schedule: if two accepted inputs differ only in the other
-- proxy's start words, in its rows (their number kept) and in its schedule bytes, each replaced in place by another byte of that proxy, this proxy sees
-- the same. F0 stays where it is.
--
-- Here is every definition that the claim rests on, beside those of the machine's states and of the rows that pass the refusals. What a proxy may see
-- is one definition (`seen`), and when two inputs differ only in the other proxy is one (`DifferOnlyInOther`). The claim is said of any machine that has
-- the bench machine's states, so that wrong ones can be held against it (`Wrong.antt`). `proofs/Proxies.antt` proves it of the bench machine,
-- `proofs/Alone.antt` says what it comes to for whoever looks at one proxy alone.
use Rattle.std.specs.Prelude.{ℕ, ◌<◌, ◌≡◌, Bool, true, false, cond, List, [], ◌∷◌, ltb, length, take, drop}
use Rattle.runfile.specs.declared.Row.{Row}
use Rattle.runfile.specs.Actions.{crash_all as crashes_all, action, named}
use Rattle.runfile.specs.Operations.{row_numbered}
use Rattle.rows.specs.declared.Entry.{Entry}
use Rattle.machine.specs.Machine.{State}
use Rattle.replay.specs.Lists.{keep}
use Rattle.demand3.specs.Statement.{Firmware, state_after, end_state}
use Rattle.demand3.specs.FlipBit.{machine_of}
use Rattle.demand3.specs.Plans.{Plan}

pub data Proxy : Type 0 where
  one two : Proxy

-- processes below the first number and words below the second belong to proxy one, the rest to proxy two
pub record Split : Type 0 where
  pub processes : ℕ
  pub words : ℕ

-- whose number n is, of a process or of a word; and whether it is proxy x's
unfoldable pub proxy_of : (split n : ℕ) → Proxy
proxy_of split n = cond (ltb n split) one two

abbrev pub is_proxy : Proxy → Proxy → Bool
is_proxy one one = true
is_proxy one two = false
is_proxy two one = false
is_proxy two two = true

unfoldable pub owns : Proxy → (split n : ℕ) → Bool
owns x split n = is_proxy x (proxy_of split n)

-- a proxy's part of a list that has an element for each word, or for each process
unfoldable pub part : {A : Type 0} → Proxy → (split : ℕ) → List A → List A
part one split l = take split l
part two split l = drop split l

-- what the machine is run on
pub record Input : Type 0 where
  pub rows : List Row
  pub words : List ℕ
  pub schedule : List ℕ

-- one by one, and as many
abbrev pub Paired : {A : Type 0} → (A → A → Type 0) → List A → List A → Type 0
Paired Q [] [] = Unit {0}
Paired Q [] (y ∷ m) = ⊥
Paired Q (x ∷ l) [] = ⊥
Paired Q (x ∷ l) (y ∷ m) = Q x y × Paired Q l m

-- the same, or one of the other proxy in place of another of that proxy
pub data Replaced {A : Type 0} (Other : A → Type 0) (a b : A) : Type 0 where
  same : a ≡ b → Replaced Other a b
  other : Other a → Other b → Replaced Other a b

-- what a proxy may see: its own words, whole; its log rows and its answer rows in order, with all five numbers
pub record Seen : Type 0 where
  pub words : List ℕ
  pub log : List Entry
  pub answers : List Entry

module _ (split : Split) where
  -- a row may touch only its own proxy's words: refusal 17 is not given for it
  abbrev pub OnOwnWord : Row → Type 0
  OnOwnWord row = proxy_of split.words row.word ≡ proxy_of split.processes row.process

  -- an input that is not refused, for P processes: refusals 9, 10 and 11 are given for none of the rows, nor is 17
  pub record Accepted (P : ℕ) (i : Input) : Type 0 where
    pub plan : Plan P (length i.words) i.rows
    pub own_words : (k : ℕ) → k < length i.rows → OnOwnWord (row_numbered i.rows k)

  module _ (x : Proxy) where
    -- the rows of the file, and those of log or answers, that are of x's processes, in order
    abbrev pub rows_of : List Row → List Row
    rows_of rows = keep (λ row. owns x split.processes row.process) rows

    unfoldable pub entries_of : List Entry → List Entry
    entries_of entries = keep (λ e. owns x split.processes e.process) entries

    -- a byte of the other proxy than x, which F0 is not
    abbrev pub OtherByte : ℕ → Type 0
    OtherByte byte = (action byte ≡ crashes_all → ⊥) × (owns x split.processes (named byte) ≡ false)

    -- two inputs differ only in the other proxy than x
    pub record DifferOnlyInOther (i j : Input) : Type 0 where
      pub own_rows : rows_of i.rows ≡ rows_of j.rows
      pub as_many_rows : length i.rows ≡ length j.rows
      pub own_words : part x split.words i.words ≡ part x split.words j.words
      pub schedule : Paired (Replaced OtherByte) i.schedule j.schedule

    -- what x may see, the words, the log and the answers being these
    abbrev pub seen : (words : List ℕ) (log answers : List Entry) → Seen
    seen words log answers = record { words = part x split.words words; log = entries_of log; answers = entries_of answers }

    abbrev pub seen_of : State → Seen
    seen_of s = seen s.words s.log s.answers

    -- the machine, by the rows that it is run on: what the byte at position t makes of a state
    module _ (does : List Row → (t byte : ℕ) → State → State) (P : ℕ) where
      abbrev pub machine : Input → Firmware
      machine i = machine_of (does i.rows) P i.words

      -- what x sees after the first n bytes, and at the end
      abbrev pub seen_after : Input → ℕ → Seen
      seen_after i n = seen_of (state_after (machine i) i.schedule n)

      abbrev pub seen_at_end : Input → Seen
      seen_at_end i = seen_of (end_state (machine i) i.schedule)

      -- the claim, after every byte and at the end
      abbrev pub UnseenThroughout : Type 0
      UnseenThroughout = (i j : Input) → Accepted P i → Accepted P j → DifferOnlyInOther i j → (n : ℕ) → seen_after i n ≡ seen_after j n

      abbrev pub Unseen : Type 0
      Unseen = (i j : Input) → Accepted P i → Accepted P j → DifferOnlyInOther i j → seen_at_end i ≡ seen_at_end j
