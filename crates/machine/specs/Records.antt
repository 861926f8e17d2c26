-- The process record: its status, which has all that is volatile (R80 to R83), and what is kept through a crash (R84).
use Rattle.std.specs.Prelude.{ℕ, suc, ◌≡◌, List, ◌++◌, map, take, drop, Bool, true, false, Option, Some, None}
use Rattle.machine.specs.declared.Answer.{Answer}
use Rattle.machine.specs.declared.Process.{Process}
use Rattle.machine.specs.declared.Kept.{Kept}
use Rattle.machine.specs.declared.Stage.TheVariants.{A1, V1}
use Rattle.machine.specs.declared.Status.{Status}
use Rattle.machine.specs.declared.Status.TheVariants.{Down, Idle, N2, N3, Busy}

-- before the first A2 of a process the kept bit and the kept value are 0 (R86)
abbrev pub unkept : Kept
unkept = record { bit = false; value = 0 }

-- the record before the first byte (R86)
abbrev pub fresh : Process
fresh = record { status = Idle; opened = None; stored = None; checkpoint = false; kept = unkept; begun = 0 }

-- what stands past the end of an array of records: each field's first case
abbrev pub nobody : Process
nobody = record { status = Down; opened = None; stored = None; checkpoint = false; kept = unkept; begun = 0 }

-- a record with another status, and with one kept thing changed as well
abbrev pub with_status : Status → Process → Process
with_status status r = record { status = status; opened = r.opened; stored = r.stored; checkpoint = r.checkpoint; kept = r.kept; begun = r.begun }

abbrev pub with_kept : Status → Kept → Process → Process
with_kept status kept r = record { status = status; opened = r.opened; stored = r.stored; checkpoint = r.checkpoint; kept = kept; begun = r.begun }

abbrev pub with_checkpoint : Status → Bool → Process → Process
with_checkpoint status bit r = record { status = status; opened = r.opened; stored = r.stored; checkpoint = bit; kept = r.kept; begun = r.begun }

abbrev pub with_stored : Status → Option Answer → Process → Process
with_stored status stored r = record { status = status; opened = r.opened; stored = stored; checkpoint = r.checkpoint; kept = r.kept; begun = r.begun }

-- the row is closed, and the process is idle (R116, R125, R126)
abbrev pub closed : Process → Process
closed r = record { status = Idle; opened = None; stored = r.stored; checkpoint = r.checkpoint; kept = r.kept; begun = r.begun }

-- N3, the last of the three stores that announce a row: the row is opened, and counts as begun from now on (R103)
abbrev pub started : ℕ → Process → Process
started k r = record { status = Busy A1 0 0 0 None; opened = Some k; stored = r.stored; checkpoint = r.checkpoint; kept = r.kept; begun = suc r.begun }

-- a crash: the process is down, and what is kept stays (R130)
abbrev pub crashed : Process → Process
crashed r = with_status Down r

-- the first n of a list of records brought down, the others as they were (R133)
abbrev pub down_to : ℕ → List Process → List Process
down_to n records = map crashed (take n records) ++ drop n records

-- a wake: with a row open to V1 (R131), with none idle (R132)
abbrev pub woken_up : Option ℕ → Status
woken_up None = Idle
woken_up (Some k) = Busy V1 0 0 0 None

abbrev pub waked : Process → Status → Process
waked r Down = with_status (woken_up r.opened) r
waked r Idle = r
waked r N2 = r
waked r N3 = r
waked r (Busy stage word read_at tried_at answer) = r

-- a process is awake unless it is down (R80)
abbrev pub is_awake : Status → Bool
is_awake Down = false
is_awake Idle = true
is_awake N2 = true
is_awake N3 = true
is_awake (Busy stage word read_at tried_at answer) = true

-- the number of the open row; and that a row is open in the midst of work
abbrev pub row_open : Option ℕ → ℕ
row_open None = 0
row_open (Some k) = k

abbrev pub WorkOpen : Status → Option ℕ → Type 0
WorkOpen Down opened = Unit
WorkOpen Idle opened = Unit
WorkOpen N2 opened = Unit
WorkOpen N3 opened = Unit
WorkOpen (Busy stage word read_at tried_at answer) opened = (k : ℕ) × (opened ≡ Some k)

-- in the midst of the announcement (R81): the first store is made, the last is not
abbrev pub Announcing : Status → Type 0
Announcing Down = ⊥
Announcing Idle = ⊥
Announcing N2 = Unit
Announcing N3 = Unit
Announcing (Busy stage word read_at tried_at answer) = ⊥

-- in the midst of work (R82)
abbrev pub InWork : Status → Type 0
InWork Down = ⊥
InWork Idle = ⊥
InWork N2 = ⊥
InWork N3 = ⊥
InWork (Busy stage word read_at tried_at answer) = Unit
