-- The release of a level, or the rollback of an attempt, or its end where it has written nothing.
use Rattle.std.specs.Prelude.{◌≡◌, ℕ, ◌+◌, ◌-◌, ◌<◌, ◌≤◌, Bool, true, false, if◌then◌else◌, List, [], ◌∷◌, ◌++◌, length, drop, Option, Some, None}
use Rattle.meta_word.specs.declared.status.Phase.TheVariants.{Idle}
use Rattle.meta_word.specs.declared.status.TheConstants.{MAX_SERIAL}
use Rattle.op_commit.specs.declared.back.BackEnd.{BackEnd}
use Rattle.op_commit.specs.declared.back.BackOp.{BackOp}
use Rattle.op_commit.specs.declared.back.BackPlace.{BackPlace}
use Rattle.op_commit.specs.declared.back.BackPlace.TheVariants as at_back
use Rattle.op_commit.specs.Buffered.{ring_for}
use Rattle.stm_model.specs.declared.cause.Addr.{Addr}
use Rattle.stm_model.specs.declared.note.Note.{Note}
use Rattle.stm_model.specs.After.{at, final_runs, release_level_on, roll_on, run_all}
use Rattle.stm_model.specs.Attempt.{Attempt, Due, Ended, Write}
use Rattle.stm_model.specs.CellsState.{Book}

-- the writes as they were where the innermost open level began
abbrev pub former_writes : List Book → List Write
former_writes [] = []
former_writes (former ∷ books) = former.writes

abbrev pub backing_at : BackPlace → (whole : Bool) → Attempt → Attempt
backing_at (at_back.Cell index) true t = roll_on t (drop index t.now.writes)
backing_at (at_back.Cell index) false t = release_level_on t (former_writes t.saved) (drop index t.now.writes)
backing_at (at_back.Ended end) true t = at (record t { phase = Idle }) Ended
backing_at (at_back.Ended end) false t = release_level_on t (former_writes t.saved) []

-- the attempt that this one is while it stands so
abbrev pub backing : BackOp → Attempt → Attempt
backing op = backing_at op.place op.whole

abbrev pub due_at : BackPlace → (whole : Bool) → Option Addr → Attempt → List Due
due_at (at_back.Ended end) true rung t = ring_for rung ++ run_all (final_runs t.ending t.now.hooks)
due_at place whole rung t = ring_for rung

-- what has come due by the last access: a ring where the pending bit was found, and at the end of the attempt its last handlers
abbrev pub due_by : BackOp → Attempt → List Due
due_by op t = due_at op.place op.whole op.rung t

-- It is made for this attempt.
pub record IsBacking (op : BackOp) (t : Attempt) : Type 0 where
  pub own : t.own ≡ op.own
  pub serial : t.serial ≡ op.serial

-- It stands at one of the cells, or behind the last one where the attempt ends.
abbrev pub IsInPlace : BackPlace → (whole : Bool) → List Note → Type 0
IsInPlace (at_back.Cell index) true notes = index ≤ length notes
IsInPlace (at_back.Cell index) false notes = index < length notes
IsInPlace (at_back.Ended end) whole notes = Unit {0}

-- It goes along these notes, and the attempt's number is within its bounds.
pub record IsAlong (op : BackOp) (notes : List Note) : Type 0 where
  pub serial : op.serial ≤ MAX_SERIAL
  pub place : IsInPlace op.place op.whole notes

abbrev pub end_at : BackPlace → Option BackEnd
end_at (at_back.Ended end) = Some end
end_at _ = None

abbrev pub end_of_back : BackOp → Option BackEnd
end_of_back op = end_at op.place

-- how many accesses follow, over so many buffered cells
abbrev pub left_at : BackPlace → (whole : Bool) → (writes : ℕ) → ℕ
left_at (at_back.Cell index) whole writes = writes - index + (if whole then 1 else 0)
left_at (at_back.Ended end) whole writes = 0

abbrev pub accesses_left : BackOp → (writes : ℕ) → ℕ
accesses_left op = left_at op.place op.whole
