-- What is still to come of a script from where a cursor stands in it.
use Rattle.std.specs.Prelude.{ℕ, ◌+◌, ◌-◌, ◌^◌, nat_lt, if◌then◌else◌, Bool, true, false, List, [], ◌∷◌, map, drop, sum, sum_by}
use Rattle.stm_model.specs.Accesses.{addr_of}
use Rattle.stm_model.specs.declared.access.Ask.TheVariants as ask
use Rattle.ledger_model.specs.Run.{End, Kept, Failed, Retried}
use Rattle.ledger_model.specs.Talk.{Talk, Over, Says, Asks, Ends, Own, Next, adding, block_part, catching, closed, first_of_them, if_kept, if_retried, late_talk, over, spoken, tells, with_register}
use Rattle.ledger_model.specs.declared.script.Statement.{Statement}
use Rattle.ledger_model.specs.declared.script.Statement.TheOpen.{Statement-F, Read, Write, Print, Move, Inner, Either, Late, Hook}
use Rattle.ledger_model.specs.declared.script.Statement.TheFolds.{fold-Statement}
use Rattle.script_cursor.specs.declared.coming.Coming.{Coming}
use Rattle.script_cursor.specs.declared.coming.Coming.TheVariants as coming
use Rattle.script_cursor.specs.declared.coming.End.{End as EndTold}
use Rattle.script_cursor.specs.declared.coming.End.TheVariants as told
use Rattle.script_cursor.specs.declared.cursor.Cursor.{Cursor}
use Rattle.script_cursor.specs.declared.place.Frame.{Frame}
use Rattle.script_cursor.specs.declared.place.Frame.TheVariants.{Rest, Close, Catch, Try}
use Rattle.script_cursor.specs.declared.place.Point.{Point}
use Rattle.script_cursor.specs.declared.place.Point.TheVariants as point
use Rattle.script_cursor.specs.declared.place.Section.{Section}
use Rattle.script_cursor.specs.declared.place.Section.TheVariants.{Block, Between, Body}

-- ---- talks

-- an end as it is told, and which end is told so
abbrev pub end_told : End → EndTold
end_told Kept = told.Kept
end_told (Failed code) = told.Failed code
end_told Retried = told.Retried

abbrev pub end_of : EndTold → End
end_of told.Kept = Kept
end_of (told.Failed code) = Failed code
end_of told.Retried = Retried

-- what comes next of a talk
abbrev pub coming_of : Talk → Coming
coming_of (Over end) = coming.Over (end_told end)
coming_of (Says number rest) = coming.Says number
coming_of (Asks ask rest) = coming.Asks ask
coming_of (Ends rest) = coming.Ends

-- what follows it, where it is answered with this value
abbrev pub after : Talk → ℕ → Talk
after (Over end) value = Over end
after (Says number rest) value = rest
after (Asks ask rest) value = rest value
after (Ends rest) value = rest

abbrev pub is_over : Talk → Bool
is_over (Over end) = true
is_over _ = false

-- ---- what comes next at a cursor

-- what a frame makes of what comes next behind it
abbrev pub next_by : Frame → Next → Next
next_by (Rest block index) next = if_kept (λ s. block_part (drop index block.now) s next) next
next_by (Close registers count) next = closed registers count next
next_by (Catch reg) next = catching reg next
next_by (Try parts index) next = if_retried (λ s. first_of_them (map (map spoken) (drop index parts.now)) s next) next

-- what comes next inside these frames, the innermost last
unfoldable pub next_in : List Frame → Next → Next
next_in [] next = next
next_in (frame ∷ frames) next = next_in frames (next_by frame next)

-- the before-commit bodies behind the first so many
unfoldable pub lates_from : ℕ → Own → Talk
lates_from begun = late_talk (2 ^ 32 - begun) begun

-- how a section ends that is kept
abbrev pub section_ends : Section → Talk → Talk
section_ends Block rest = tells ask.Finish rest
section_ends Between rest = rest
section_ends Body rest = Ends rest

-- what comes next outside all frames, where so many before-commit bodies have begun
abbrev pub next_outside : Section → ℕ → Next
next_outside section begun = if_kept (λ s. section_ends section (lates_from begun s)) over

abbrev pub next_of : Cursor → Next
next_of c = next_in c.frames.items (next_outside c.section c.begun)

abbrev pub talk_at : Point → Own → Next → Talk
talk_at (point.Says number) s next = Says number (next Kept s)
talk_at (point.Reads cell reg) s next = Asks (ask.Get (addr_of cell)) (λ value. next Kept (with_register reg value s))
talk_at (point.Tells this end) s next = tells this (next (end_of end) s)
talk_at (point.Takes from into n) s next =
    Asks (ask.Get (addr_of from)) (λ there. if nat_lt there n then next (Failed 1) s else tells (ask.Set (addr_of from) (there - n)) (adding into n s next))
talk_at (point.Leaves from rest into n) s next = tells (ask.Set (addr_of from) rest) (adding into n s next)
talk_at (point.Adds into n) s next = adding into n s next
talk_at point.Ends s next = Ends (next Kept s)
talk_at (point.GivesUp end) s next = over (end_of end) s
talk_at (point.Over end) s next = Over (end_of end)

-- What is still to come from where the cursor stands.
abbrev pub talk_of : Cursor → Talk
talk_of c = talk_at c.point c.own (next_of c)

-- ---- what is left to do
-- Counts that are large enough: each step of a cursor makes what is left less.

-- how much a statement may take, with what each statement inside it may take in that one's place
abbrev pub work_by : Statement-F ℕ → ℕ
work_by (Read r cell) = 2
work_by (Write cell x) = 2
work_by (Print x) = 2
work_by (Hook phase token) = 2
work_by (Move from into x) = 5
work_by (Inner r block) = 6 + sum block
work_by (Either parts) = 2 + sum_by (λ part. 5 + sum part) parts
work_by (Late block) = 6 + sum block
work_by _ = 1

abbrev pub work : Statement → ℕ
work = fold-Statement ℕ work_by

-- how much is left of statements, of parts and of before-commit bodies
unfoldable pub block_work : List Statement → ℕ
block_work = sum_by work

unfoldable pub parts_work : List (List Statement) → ℕ
parts_work = sum_by (λ part. 5 + block_work part)

unfoldable pub lates_work : List (List Statement) → ℕ
lates_work = sum_by (λ body. 4 + block_work body)

abbrev pub frame_work : Frame → ℕ
frame_work (Rest block index) = 1 + block_work (drop index block.now)
frame_work (Close registers count) = 2
frame_work (Catch reg) = 1
frame_work (Try parts index) = 1 + parts_work (drop index parts.now)

unfoldable pub frames_work : List Frame → ℕ
frames_work = sum_by frame_work

abbrev pub section_work : Section → ℕ
section_work Between = 0
section_work _ = 2

-- all but the work at the point
abbrev pub work_behind : Cursor → ℕ
work_behind c = frames_work c.frames.items + section_work c.section + lates_work (drop c.begun c.own.lates)

abbrev pub point_work : Point → ℕ
point_work (point.Over end) = 0
point_work (point.GivesUp end) = 1
point_work (point.Adds into n) = 4
point_work (point.Leaves from rest into n) = 5
point_work (point.Takes from into n) = 6
point_work _ = 3

-- At least as many answers as are still to come. Each answer makes it less.
abbrev pub left : Cursor → ℕ
left c = point_work c.point + work_behind c
