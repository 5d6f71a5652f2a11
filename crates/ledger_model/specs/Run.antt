-- What a script does, run alone on plain contents.
use Rattle.std.specs.Prelude.{ℕ, zero, suc, ◌+◌, ◌-◌, ◌%◌, ◌^◌, Bool, true, false, nat_eq, nat_lt, if◌then◌else◌, List, [], ◌∷◌, ◌++◌, length, map, replicate, drop, slice_index, slice_index_or, slice_set, unwrap_or, is_some, sum, sum_by}
use Rattle.stm_model.specs.declared.cause.HookPhase.{HookPhase}
use Rattle.stm_model.specs.Handlers.{undoing}
use Rattle.ledger_model.specs.declared.job.Contents.{Contents}
use Rattle.ledger_model.specs.declared.script.Operand.{Operand}
use Rattle.ledger_model.specs.declared.script.Operand.TheVariants.{Reg, Number}
use Rattle.ledger_model.specs.declared.script.Statement.{Statement}
use Rattle.ledger_model.specs.declared.script.Statement.TheOpen.{Statement-F, Const, Read, Write, Add, Sub, Print, Check, Need, Move, Inner, Either, Late, Hook, Put, Del, Look, LookSlot, Snap, Share}
use Rattle.ledger_model.specs.declared.script.Statement.TheFolds.{fold-Statement, map-Statement}
use Rattle.ledger_model.specs.declared.script.Statement.TheViews.{roll-Statement}
use Rattle.ledger_model.specs.Maps.{put_pair, delete_pair, value_at, path_allowance}

-- how a run, or a part of one, ends
pub data End : Type 0 where
  Kept : End
  Failed : (code : ℕ) → End
  Retried : End

-- a moment of a run
pub record State : Type 0 where
  pub registers : List ℕ
  pub contents : Contents
  -- whether anything was written
  pub wrote : Bool
  -- what was printed, undone with the blocks around it
  pub prints : List ℕ
  -- all that was ever printed
  pub trail : List ℕ
  -- the handlers registered
  pub hooks : List (HookPhase × ℕ)
  -- the before-commit bodies that are still to run
  pub lates : List (List Statement)
  -- the handlers that ran at undone blocks
  pub runs : List (HookPhase × ℕ)
  -- how many blocks the operations on maps so far may have drawn, after each of them
  pub totals : List ℕ

-- how a part of a run ends, and the moment then
pub record Outcome : Type 0 where
  pub end : End
  pub after : State

-- what a part of a script does
abbrev pub Meaning : Type 0
Meaning = State → Outcome

abbrev pub kept : State → Outcome
kept s = record { end = Kept; after = s }

-- ---- values

abbrev pub value_of : Operand → State → ℕ
value_of (Reg r) s = slice_index s.registers r
value_of (Number n) s = n

abbrev pub ref_at : ℕ → State → ℕ
ref_at cell s = slice_index s.contents.refs cell

abbrev pub map_at : ℕ → State → List (ℕ × ℕ)
map_at m s = slice_index_or s.contents.maps m []

abbrev pub slot_at : ℕ → State → List (ℕ × ℕ)
slot_at k s = slice_index_or s.contents.slots k []

abbrev pub set_register : ℕ → ℕ → State → State
set_register r n s = record s { registers = slice_set s.registers r n }

abbrev pub set_ref : ℕ → ℕ → State → State
set_ref cell n s = record s { contents = record s.contents { refs = slice_set s.contents.refs cell n }; wrote = true }

abbrev pub set_map : ℕ → List (ℕ × ℕ) → State → State
set_map m pairs s = record s { contents = record s.contents { maps = slice_set s.contents.maps m pairs }; wrote = true }

abbrev pub set_slot : ℕ → List (ℕ × ℕ) → State → State
set_slot k pairs s = record s { contents = record s.contents { slots = slice_set s.contents.slots k pairs }; wrote = true }

abbrev pub printed : ℕ → State → State
printed n s = record s { prints = s.prints ++ n ∷ []; trail = s.trail ++ n ∷ [] }

abbrev pub registered : HookPhase → ℕ → State → State
registered phase token s = record s { hooks = s.hooks ++ (phase, token) ∷ [] }

abbrev pub registered_late : List Statement → State → State
registered_late body s = record s { lates = s.lates ++ body ∷ [] }

-- ---- allowances

-- how many blocks the operations so far may have drawn: the last total, or 0
abbrev pub allowance : State → ℕ
allowance s = slice_index s.totals (length s.totals - 1)

abbrev pub allowed : ℕ → State → State
allowed n s = record s { totals = s.totals ++ (allowance s + n) ∷ [] }

-- ---- handlers

-- The state `before` again, but for what is never undone: the trail, the totals and the handlers that ran. Those registered since run now.
abbrev pub undone : State → State → State
undone before s = record before { trail = s.trail; totals = s.totals; runs = s.runs ++ undoing (drop (length before.hooks) s.hooks) }

-- ---- parts of a script

-- a statement, with what it does
pub record Known : Type 0 where
  pub itself : Statement
  pub does : Meaning

-- what comes next, where this was kept
abbrev pub and_then : Outcome → Meaning → Outcome
and_then o next = elim o.end [ Kept ↦ next o.after | _ ↦ o ]

-- one part after another, up to the first that isn't kept
abbrev pub in_turn : List Known → Meaning
in_turn [] s = kept s
in_turn (part ∷ parts) s = and_then (part.does s) (in_turn parts)

abbrev pub undone_unless_kept : State → Outcome → Outcome
undone_unless_kept before o = elim o.end [ Kept ↦ o | _ ↦ record o { after = undone before o.after } ]

-- a nested block, undone where it isn't kept
abbrev pub nested : List Known → Meaning
nested block s = undone_unless_kept s (in_turn block s)

-- where a nested block failed, its code goes to a register, and 0 where it was kept
abbrev pub caught : ℕ → Outcome → Outcome
caught r o = elim o.end [ Kept ↦ kept (set_register r 0 o.after) | Failed code ↦ kept (set_register r code o.after) | Retried ↦ o ]

-- what comes next, where this retries
abbrev pub or_else : Outcome → Meaning → Outcome
or_else o next = elim o.end [ Retried ↦ next o.after | _ ↦ o ]

-- the first part that doesn't retry
abbrev pub either : List (List Known) → Meaning
either [] s = record { end = Retried; after = s }
either (part ∷ parts) s = or_else (nested part s) (either parts)

-- a sum that fits a word goes into the reference, and else the move fails with 2
abbrev pub moved_into : ℕ → ℕ → Meaning
moved_into into n s = if nat_lt (ref_at into s + n) (2 ^ 64) then kept (set_ref into (ref_at into s + n) s) else record { end = Failed 2; after = s }

abbrev pub move : ℕ → ℕ → ℕ → Meaning
move from into n s = if nat_lt (ref_at from s) n then record { end = Failed 1; after = s } else moved_into into n (set_ref from (ref_at from s - n) s)

-- ---- maps

abbrev pub put : ℕ → ℕ → ℕ → State → State
put m key value s = set_map m (put_pair key value (map_at m s)) (allowed (path_allowance key (map_at m s)) s)

-- a key that isn't there is no write
abbrev pub delete : ℕ → ℕ → State → State
delete m key s =
    if is_some (value_at key (map_at m s)) then set_map m (delete_pair key (map_at m s)) (allowed (path_allowance key (map_at m s)) s)
    else allowed (path_allowance key (map_at m s)) s

-- a map shared with itself is no write
abbrev pub share : ℕ → ℕ → State → State
share from into s = if nat_eq from into then allowed 2 s else set_map into (map_at from s) (allowed 2 s)

-- ---- statements

-- A statement, with what each statement inside it does in that statement's place.
abbrev pub step : Statement-F Known → Meaning
step (Const r n) s = kept (set_register r n s)
step (Read r cell) s = kept (set_register r (ref_at cell s) s)
step (Write cell x) s = kept (set_ref cell (value_of x s) s)
step (Add r x) s = kept (set_register r ((slice_index s.registers r + value_of x s) % 2 ^ 64) s)
step (Sub r x) s = kept (set_register r ((slice_index s.registers r + (2 ^ 64 - value_of x s)) % 2 ^ 64) s)
step (Print x) s = kept (printed (value_of x s) s)
step (Check x y code) s = if nat_lt (value_of x s) (value_of y s) then record { end = Failed code; after = s } else kept s
step (Need x y) s = if nat_lt (value_of x s) (value_of y s) then record { end = Retried; after = s } else kept s
step (Move from into x) s = move from into (value_of x s) s
step (Inner r block) s = caught r (nested block s)
step (Either parts) s = either parts s
step (Late block) s = kept (registered_late (map (λ part. part.itself) block) s)
step (Hook phase token) s = kept (registered phase token s)
step (Put m x y) s = kept (put m (value_of x s) (value_of y s) s)
step (Del m x) s = kept (delete m (value_of x s) s)
step (Look r m x y) s = kept (set_register r (unwrap_or (value_at (value_of x s) (map_at m s)) (value_of y s)) s)
step (LookSlot r k x y) s = kept (set_register r (unwrap_or (value_at (value_of x s) (slot_at k s)) (value_of y s)) s)
step (Snap k m) s = kept (set_slot k (map_at m s) (allowed 1 s))
step (Share from into) s = kept (share from into s)

abbrev pub known_by : Statement-F Known → Known
known_by layer = record { itself = roll-Statement (map-Statement Known Statement (λ part. part.itself) layer); does = step layer }

-- each statement, with what it does
abbrev pub known : Statement → Known
known = fold-Statement Known known_by

abbrev pub meaning : Statement → Meaning
meaning statement = (known statement).does

abbrev pub run_block : List Statement → Meaning
run_block block = in_turn (map known block)

-- ---- scripts

-- a statement and those inside it
abbrev pub count_step : Statement-F ℕ → ℕ
count_step (Inner r block) = 1 + sum block
count_step (Either parts) = 1 + sum_by sum parts
count_step (Late block) = 1 + sum block
count_step _ = 1

-- how many statements there are, nested ones counted
abbrev pub statement_count : List Statement → ℕ
statement_count block = sum_by (fold-Statement ℕ count_step) block

-- the before-commit body that was registered first, and then the rest of the run
abbrev pub next_late : Meaning → State → List (List Statement) → Outcome
next_late later s [] = kept s
next_late later s (body ∷ rest) = and_then (run_block body (record s { lates = rest })) later

-- The before-commit bodies in order of registration, at most `turns` of them. A body may register more.
unfoldable pub late_bodies : ℕ → Meaning
late_bodies zero s = kept s
late_bodies (suc turns) s = next_late (late_bodies turns) s s.lates

-- All registers are 0, and nothing is done.
abbrev pub start : Contents → State
start contents = record {
  registers = replicate 16 0;
  contents = contents;
  wrote = false;
  prints = [];
  trail = [];
  hooks = [];
  lates = [];
  runs = [];
  totals = [];
}

-- A script's block and then its before-commit bodies. With as many turns as there are statements none is left out, and more turns change nothing: a law says so.
abbrev pub run : List Statement → Contents → Outcome
run block contents = and_then (run_block block (start contents)) (late_bodies (statement_count block))
