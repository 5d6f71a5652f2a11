-- What a script asks of the cells as it goes. Here s is what it keeps to itself.
use Rattle.std.specs.Prelude.{ℕ, zero, suc, ◌+◌, ◌-◌, ◌%◌, ◌^◌, nat_lt, if◌then◌else◌, List, [], ◌∷◌, ◌++◌, length, map, replicate, take, slice_get, slice_index, slice_set, Option, Some, None}
use Rattle.stm_model.specs.Accesses.{addr_of}
use Rattle.stm_model.specs.declared.access.Ask.{Ask}
use Rattle.stm_model.specs.declared.access.Ask.TheVariants as ask
use Rattle.stm_model.specs.declared.cause.Cause.TheVariants as cause
use Rattle.ledger_model.specs.Run.{End, Kept, Failed, Retried}
use Rattle.ledger_model.specs.declared.script.Operand.{Operand}
use Rattle.ledger_model.specs.declared.script.Operand.TheVariants.{Reg, Number}
use Rattle.ledger_model.specs.declared.script.Statement.{Statement}
use Rattle.ledger_model.specs.declared.script.Statement.TheOpen.{Statement-F, Const, Read, Write, Add, Sub, Print, Check, Need, Move, Inner, Either, Late, Hook}
use Rattle.ledger_model.specs.declared.script.Statement.TheFolds.{fold-Statement, map-Statement}
use Rattle.ledger_model.specs.declared.script.Statement.TheViews.{roll-Statement}

-- What is still to come of a script: an end, a print, a request and what follows each answer to it, or the end of a before-commit body.
pub data Talk : Type 0 where
  Over : (end : End) → Talk
  Says : (number : ℕ) → (rest : Talk) → Talk
  Asks : (ask : Ask) → (rest : ℕ → Talk) → Talk
  Ends : (rest : Talk) → Talk

-- what a script keeps to itself: its registers, and all before-commit bodies that it has registered
pub record Own : Type 0 where
  pub registers : List ℕ
  pub lates : List (List Statement)

-- what comes next, by how a part has ended
abbrev pub Next : Type 0
Next = End → Own → Talk

-- what a part of a script asks, and then what comes next
abbrev pub Part : Type 0
Part = Own → Next → Talk

-- a statement, with what it asks
pub record Spoken : Type 0 where
  pub itself : Statement
  pub says : Part

-- ---- values

abbrev pub value_in : Operand → Own → ℕ
value_in (Reg r) s = slice_index s.registers r
value_in (Number n) s = n

abbrev pub with_register : ℕ → ℕ → Own → Own
with_register r n s = record s { registers = slice_set s.registers r n }

-- ---- parts of a script

-- a request whose answer is of no use
abbrev pub tells : Ask → Talk → Talk
tells this rest = Asks this (λ answer. rest)

-- the rest of a block, where this part of it was kept
abbrev pub if_kept : (Own → Talk) → Next → Next
if_kept rest next Kept s = rest s
if_kept rest next end s = next end s

-- one statement after another, up to the first that isn't kept
abbrev pub all_of : List Spoken → Part
all_of [] s next = next Kept s
all_of (part ∷ parts) s next = part.says s (if_kept (λ t. all_of parts t next) next)

-- back to these registers, and to the first so many before-commit bodies
abbrev pub back_to : List ℕ → ℕ → Own → Own
back_to registers count s = record { registers = registers; lates = take count s.lates }

-- The end of a level: it is kept, or else undone.
abbrev pub closed : List ℕ → ℕ → Next → Next
closed registers count next Kept s = tells ask.Keep (next Kept s)
closed registers count next end s = tells ask.Undo (next end (back_to registers count s))

-- a nested block
abbrev pub level : List Spoken → Part
level block s next = tells ask.Enter (all_of block s (closed s.registers (length s.lates) next))

-- where a nested block failed, its code goes to a register, and 0 where it was kept
abbrev pub catching : ℕ → Next → Next
catching r next Kept s = next Kept (with_register r 0 s)
catching r next (Failed code) s = next Kept (with_register r code s)
catching r next Retried s = next Retried s

-- another part, where this one retries
abbrev pub if_retried : (Own → Talk) → Next → Next
if_retried other next Retried s = other s
if_retried other next end s = next end s

-- the first part that doesn't retry
abbrev pub first_of_them : List (List Spoken) → Part
first_of_them [] s next = next Retried s
first_of_them (part ∷ parts) s next = level part s (if_retried (λ t. first_of_them parts t next) next)

-- a sum that fits a word goes into the reference
abbrev pub adding : ℕ → ℕ → Part
adding into n s next =
    Asks (ask.Get (addr_of into)) (λ here. if nat_lt (here + n) (2 ^ 64) then tells (ask.Set (addr_of into) (here + n)) (next Kept s) else next (Failed 2) s)

abbrev pub moving : ℕ → ℕ → ℕ → Part
moving from into n s next =
    Asks (ask.Get (addr_of from)) (λ there. if nat_lt there n then next (Failed 1) s else tells (ask.Set (addr_of from) (there - n)) (adding into n s next))

-- ---- statements

-- A statement, with what each statement inside it asks in that statement's place. Those on maps ask nothing yet.
abbrev pub part_by : Statement-F Spoken → Part
part_by (Const r n) s next = next Kept (with_register r n s)
part_by (Read r cell) s next = Asks (ask.Get (addr_of cell)) (λ value. next Kept (with_register r value s))
part_by (Write cell x) s next = tells (ask.Set (addr_of cell) (value_in x s)) (next Kept s)
part_by (Add r x) s next = next Kept (with_register r ((slice_index s.registers r + value_in x s) % 2 ^ 64) s)
part_by (Sub r x) s next = next Kept (with_register r ((slice_index s.registers r + (2 ^ 64 - value_in x s)) % 2 ^ 64) s)
part_by (Print x) s next = Says (value_in x s) (next Kept s)
part_by (Check x y code) s next = if nat_lt (value_in x s) (value_in y s) then next (Failed code) s else next Kept s
part_by (Need x y) s next = if nat_lt (value_in x s) (value_in y s) then next Retried s else next Kept s
part_by (Move from into x) s next = moving from into (value_in x s) s next
part_by (Inner r block) s next = level block s (catching r next)
part_by (Either parts) s next = first_of_them parts s next
part_by (Late block) s next = tells (ask.Later (length s.lates)) (next Kept (record s { lates = s.lates ++ map (λ part. part.itself) block ∷ [] }))
part_by (Hook phase token) s next = tells (ask.Hook phase token) (next Kept s)
part_by _ s next = next Kept s

abbrev pub spoken_by : Statement-F Spoken → Spoken
spoken_by layer = record { itself = roll-Statement (map-Statement Spoken Statement (λ part. part.itself) layer); says = part_by layer }

-- each statement, with what it asks
abbrev pub spoken : Statement → Spoken
spoken = fold-Statement Spoken spoken_by

abbrev pub block_part : List Statement → Part
block_part block = all_of (map spoken block)

-- ---- scripts

-- A script that isn't kept gives up, with a cause of its own.
abbrev pub over : Next
over Kept s = Over Kept
over (Failed code) s = tells (ask.Abandon (cause.User code)) (Over (Failed code))
over Retried s = tells (ask.Abandon cause.Retry) (Over Retried)

-- the before-commit body that has its turn, and then the rest of them
abbrev pub next_late : (Own → Talk) → Own → Option (List Statement) → Talk
next_late rest s None = Over Kept
next_late rest s (Some body) = block_part body s (if_kept (λ t. Ends (rest t)) over)

-- The before-commit bodies behind the first so many, in order of registration, at most `turns` of them. A body may register more.
unfoldable pub late_talk : (turns done : ℕ) → Own → Talk
late_talk zero done s = Over Kept
late_talk (suc turns) done s = next_late (late_talk turns (suc done)) s (slice_get s.lates done)

-- All registers are 0, and nothing is registered.
abbrev pub own_start : Own
own_start = record { registers = replicate 16 0; lates = [] }

-- What a script asks from the start: its block, to finish, and its before-commit bodies. A script of at most 2 ^ 32 statements registers no more bodies than that.
abbrev pub talk : List Statement → Talk
talk block = block_part block own_start (if_kept (λ s. tells ask.Finish (late_talk (2 ^ 32) 0 s)) over)
