-- Scripts that are worked out, in the words of the job language.
use Rattle.std.specs.Prelude.{ℕ, ◌+◌, ◌-◌, ◌^◌, List, [], ◌∷◌, replicate}
use Rattle.stm_model.specs.declared.cause.HookPhase.{HookPhase}
use Rattle.stm_model.specs.declared.cause.HookPhase.TheVariants.{Preparing, Committing, Commit, Rollback, Completion}
use Rattle.ledger_model.specs.declared.job.Contents.{Contents}
use Rattle.ledger_model.specs.declared.script.Operand.{Operand}
use Rattle.ledger_model.specs.declared.script.Operand.TheVariants.{Reg, Number}
use Rattle.ledger_model.specs.declared.script.Statement.{Statement}
use Rattle.ledger_model.specs.declared.script.Statement.TheOpen as made
use Rattle.ledger_model.specs.declared.script.Statement.TheViews.{roll-Statement}
use Rattle.ledger_model.specs.Run.{Outcome, run}
use Rattle.ledger_model.specs.Settle.{Settled, handler_runs, settle}

-- ---- statements

abbrev pub const : (r n : ℕ) → Statement
const r n = roll-Statement (made.Const r n)

abbrev pub read : (r cell : ℕ) → Statement
read r cell = roll-Statement (made.Read r cell)

abbrev pub write : ℕ → Operand → Statement
write cell x = roll-Statement (made.Write cell x)

abbrev pub add : ℕ → Operand → Statement
add r x = roll-Statement (made.Add r x)

abbrev pub sub : ℕ → Operand → Statement
sub r x = roll-Statement (made.Sub r x)

abbrev pub print : Operand → Statement
print x = roll-Statement (made.Print x)

abbrev pub check : Operand → Operand → ℕ → Statement
check x y code = roll-Statement (made.Check x y code)

abbrev pub need : Operand → Operand → Statement
need x y = roll-Statement (made.Need x y)

abbrev pub move : (from into : ℕ) → Operand → Statement
move from into x = roll-Statement (made.Move from into x)

abbrev pub inner : ℕ → List Statement → Statement
inner r block = roll-Statement (made.Inner r block)

abbrev pub either : List (List Statement) → Statement
either parts = roll-Statement (made.Either parts)

abbrev pub late : List Statement → Statement
late block = roll-Statement (made.Late block)

abbrev pub hook : HookPhase → ℕ → Statement
hook phase token = roll-Statement (made.Hook phase token)

abbrev pub put : ℕ → Operand → Operand → Statement
put m key value = roll-Statement (made.Put m key value)

abbrev pub del : ℕ → Operand → Statement
del m key = roll-Statement (made.Del m key)

abbrev pub look : (r m : ℕ) → (key other : Operand) → Statement
look r m key other = roll-Statement (made.Look r m key other)

abbrev pub look_slot : (r slot : ℕ) → (key other : Operand) → Statement
look_slot r slot key other = roll-Statement (made.LookSlot r slot key other)

abbrev pub snap : (slot m : ℕ) → Statement
snap slot m = roll-Statement (made.Snap slot m)

abbrev pub share : (from into : ℕ) → Statement
share from into = roll-Statement (made.Share from into)

-- ---- where they run

-- references with these values, and so many maps and slots that are empty
abbrev pub holding : List ℕ → (maps slots : ℕ) → Contents
holding refs maps slots = record { refs = refs; maps = replicate maps []; slots = replicate slots []; used = 0 }

abbrev pub on_refs : List ℕ → List Statement → Outcome
on_refs refs script = run script (holding refs 0 0)

abbrev pub on_maps : (maps slots : ℕ) → List Statement → Outcome
on_maps maps slots script = run script (holding [] maps slots)

-- what becomes of it after so many writers, of which there may be nine
abbrev pub settled : ℕ → Outcome → Settled
settled writers o = settle o writers 9

-- the handlers that run then
abbrev pub runs_after : ℕ → Outcome → List (HookPhase × ℕ)
runs_after writers o = handler_runs (settled writers o) o.after

-- ---- numbers

-- below 0, and past the end of a word
abbrev pub sums : List Statement
sums =
    const 0 3 ∷ sub 0 (Number 5) ∷ print (Reg 0) ∷ add 0 (Number 5) ∷ print (Reg 0) ∷ add 0 (Reg 0) ∷ print (Reg 0) ∷
    sub 0 (Number 0) ∷ print (Reg 0) ∷ sub 0 (Reg 0) ∷ print (Reg 0) ∷
    read 1 0 ∷ add 1 (Number 1) ∷ write 0 (Reg 1) ∷ []

-- tests that hold at equality, and then another statement
abbrev pub bounds : Statement → List Statement
bounds last =
    check (Number 4) (Number 4) 5 ∷ need (Number 4) (Number 4) ∷ check (Number 5) (Number 4) 5 ∷ need (Number 5) (Number 4) ∷
    print (Number 1) ∷ last ∷ print (Number 2) ∷ []

-- ---- moves

abbrev pub moved : ℕ → List Statement
moved n = move 0 1 (Number n) ∷ []

-- All of a reference goes to itself, and then one more than it holds. All of a full one goes to itself, and more comes to it.
abbrev pub to_itself : List Statement
to_itself =
    move 0 0 (Number 10) ∷ inner 1 (move 0 0 (Number 11) ∷ []) ∷ print (Reg 1) ∷
    move 1 1 (Number (2 ^ 64 - 1)) ∷ inner 2 (move 0 1 (Number 5) ∷ []) ∷ print (Reg 2) ∷
    read 3 0 ∷ print (Reg 3) ∷ []

-- ---- nested blocks

-- A block writes, prints and fails. Another is kept.
abbrev pub failed_block : List Statement
failed_block =
    const 3 8 ∷ write 0 (Number 1) ∷
    inner 3 (const 4 6 ∷ write 0 (Number 7) ∷ write 1 (Number 7) ∷ print (Number 9) ∷ check (Number 0) (Number 1) 5 ∷ []) ∷
    print (Reg 3) ∷ print (Reg 4) ∷
    inner 3 (write 1 (Number 4) ∷ print (Number 2) ∷ []) ∷
    print (Reg 3) ∷ read 0 0 ∷ print (Reg 0) ∷ []

-- The innermost block fails, and then the one around it.
abbrev pub failed_twice : List Statement
failed_twice =
    inner 1 (
    write 0 (Number 1) ∷
    inner 2 (write 1 (Number 2) ∷ check (Number 0) (Number 1) 6 ∷ []) ∷
    print (Reg 2) ∷ check (Reg 2) (Number 7) 8 ∷ []) ∷
    print (Reg 1) ∷ print (Reg 2) ∷ []

-- ---- parts

abbrev pub first_part : List Statement
first_part = either ((write 0 (Number 7) ∷ []) ∷ (write 1 (Number 8) ∷ []) ∷ []) ∷ []

abbrev pub second_part : List Statement
second_part = either ((read 0 0 ∷ write 0 (Number 7) ∷ need (Reg 0) (Number 1) ∷ []) ∷ (write 1 (Number 8) ∷ []) ∷ []) ∷ []

abbrev pub all_retry : List Statement
all_retry = either ((read 0 0 ∷ need (Reg 0) (Number 1) ∷ []) ∷ (read 1 1 ∷ need (Reg 1) (Number 1) ∷ []) ∷ []) ∷ []

-- The parts of a part all retry.
abbrev pub retry_of_parts : List Statement
retry_of_parts =
    either (
    (write 0 (Number 1) ∷ either ((write 1 (Number 2) ∷ need (Number 0) (Number 1) ∷ []) ∷ (need (Number 0) (Number 1) ∷ []) ∷ []) ∷ []) ∷
    (write 1 (Number 8) ∷ []) ∷ []) ∷ []

abbrev pub retry_of_a_block : List Statement
retry_of_a_block = inner 1 (hook Rollback 1 ∷ write 0 (Number 1) ∷ need (Number 0) (Number 1) ∷ []) ∷ write 0 (Number 2) ∷ []

-- A retry leaves a block inside a part, and then a failure leaves the next part.
abbrev pub left_through : List Statement
left_through =
    inner 1 (
    either (
    (hook Rollback 1 ∷ inner 2 (hook Completion 2 ∷ print (Number 5) ∷ need (Number 0) (Number 1) ∷ []) ∷ []) ∷
    (hook Rollback 3 ∷ print (Number 6) ∷ check (Number 0) (Number 1) 9 ∷ []) ∷
    (print (Number 7) ∷ []) ∷ []) ∷ []) ∷
    print (Reg 1) ∷ print (Reg 2) ∷ []

-- ---- handlers

-- Handlers of all phases, a block of handlers that fails and one that is kept, and then the rest.
abbrev pub handlers : List Statement → List Statement
handlers rest =
    hook Rollback 1 ∷ hook Completion 2 ∷ hook Commit 3 ∷ hook Committing 4 ∷ hook Preparing 5 ∷ hook Completion 6 ∷ hook Preparing 7 ∷
    inner 0 (hook Rollback 11 ∷ hook Completion 12 ∷ hook Commit 13 ∷ hook Rollback 14 ∷ check (Number 0) (Number 1) 9 ∷ []) ∷
    inner 1 (hook Commit 15 ∷ []) ∷ rest

abbrev pub handlers_of_a_writer : List Statement
handlers_of_a_writer = handlers (write 0 (Reg 0) ∷ [])

-- ---- before-commit bodies

abbrev pub late_count : List Statement
late_count = late (read 0 0 ∷ add 0 (Number 1) ∷ write 0 (Reg 0) ∷ []) ∷ write 0 (Number 5) ∷ []

-- a body in a body in a body, and a fourth one that is registered before the second
abbrev pub late_in_late : List Statement
late_in_late =
    late (print (Number 1) ∷ late (print (Number 2) ∷ late (print (Reg 0) ∷ []) ∷ []) ∷ []) ∷
    late (print (Number 4) ∷ const 0 3 ∷ []) ∷
    const 0 9 ∷ print (Reg 0) ∷ []

-- bodies of a block that fails, of one that is kept, and of none
abbrev pub late_in_blocks : List Statement
late_in_blocks =
    inner 1 (late (print (Number 8) ∷ []) ∷ check (Number 0) (Number 1) 5 ∷ []) ∷
    inner 2 (late (print (Number 7) ∷ []) ∷ []) ∷
    late (print (Reg 1) ∷ []) ∷ []

-- A body that a block registered fails, before another one.
abbrev pub late_failure : List Statement
late_failure =
    inner 0 (late (write 0 (Number 1) ∷ hook Rollback 1 ∷ check (Number 0) (Number 1) 6 ∷ []) ∷ []) ∷
    late (print (Number 2) ∷ []) ∷ []

-- A body that a part registered retries.
abbrev pub late_retry : List Statement
late_retry = either ((late (need (Number 0) (Number 1) ∷ []) ∷ []) ∷ (write 0 (Number 1) ∷ []) ∷ []) ∷ []

-- parts in a body, which register bodies
abbrev pub late_parts : List Statement
late_parts =
    late (
    either (
    (late (print (Number 1) ∷ []) ∷ need (Number 0) (Number 1) ∷ []) ∷
    (late (print (Number 2) ∷ []) ∷ []) ∷ []) ∷ []) ∷ []

-- ---- maps

-- Nine keys of one hash: the two halves of each, taken together, are those of 1. Then one of them is set again and one removed.
abbrev pub one_hash : List Statement
one_hash =
    put 0 (Number 1) (Number 10) ∷ put 0 (Number 4294967296) (Number 11) ∷ put 0 (Number 8589934595) (Number 12) ∷
    put 0 (Number 12884901890) (Number 13) ∷ put 0 (Number 17179869189) (Number 14) ∷ put 0 (Number 21474836484) (Number 15) ∷
    put 0 (Number 25769803783) (Number 16) ∷ put 0 (Number 30064771078) (Number 17) ∷ put 0 (Number 34359738377) (Number 18) ∷
    put 0 (Number 1) (Number 50) ∷ del 0 (Number 4294967296) ∷
    look 0 0 (Number 1) (Number 0) ∷ print (Reg 0) ∷
    look 1 0 (Number 4294967296) (Number 99) ∷ print (Reg 1) ∷ []

-- the greatest key, the least one, and keys that differ in their upper halves alone
abbrev pub far_keys : List Statement
far_keys =
    sub 1 (Number 1) ∷ put 0 (Reg 1) (Number 7) ∷ put 0 (Number (2 ^ 63)) (Number 8) ∷ put 0 (Number 0) (Number 9) ∷
    put 0 (Number (2 ^ 32 + 5)) (Number 10) ∷ put 0 (Number 5) (Number 11) ∷ del 0 (Number 5) ∷
    look 2 0 (Number 5) (Number 12) ∷ print (Reg 2) ∷
    look 2 0 (Number (2 ^ 32 + 5)) (Number 12) ∷ print (Reg 2) ∷
    look 2 0 (Reg 1) (Number 12) ∷ print (Reg 2) ∷
    look 2 0 (Number 4) (Reg 1) ∷ print (Reg 2) ∷ []

-- A map is shared, and the other one is written, snapped and written again.
abbrev pub shares : List Statement
shares =
    put 0 (Number 9) (Number 1) ∷ put 0 (Number 2) (Number 2) ∷ share 0 1 ∷
    put 1 (Number 5) (Number 3) ∷ snap 0 1 ∷ del 1 (Number 9) ∷
    look 0 1 (Number 9) (Number 76) ∷ print (Reg 0) ∷
    look 0 0 (Number 9) (Number 75) ∷ print (Reg 0) ∷
    look_slot 0 0 (Number 9) (Number 77) ∷ print (Reg 0) ∷
    look_slot 0 0 (Number 8) (Reg 0) ∷ print (Reg 0) ∷ []

-- a block of all that writes maps and slots, and that fails
abbrev pub undone_maps : List Statement
undone_maps =
    put 0 (Number 4) (Number 1) ∷
    inner 1 (put 0 (Number 4) (Number 2) ∷ del 0 (Number 4) ∷ snap 0 0 ∷ share 0 1 ∷ check (Number 0) (Number 1) 3 ∷ []) ∷
    look 2 0 (Number 4) (Number 0) ∷ print (Reg 2) ∷ put 0 (Number 4) (Number 3) ∷ []

-- ---- what is a write

abbrev pub same_value : List Statement
same_value = read 0 0 ∷ write 0 (Reg 0) ∷ []

abbrev pub undone_write : List Statement
undone_write = inner 1 (write 0 (Number 1) ∷ check (Number 0) (Number 1) 3 ∷ []) ∷ []

-- a key that isn't there is removed, and a map is shared with itself
abbrev pub no_writes : List Statement
no_writes = del 0 (Number 3) ∷ share 0 0 ∷ look 0 0 (Number 3) (Number 5) ∷ print (Reg 0) ∷ []
