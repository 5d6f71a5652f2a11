-- What cells tell of an attempt, and what each call makes of it.
use Rattle.std.specs.Prelude.{ℕ, List, [], ◌∷◌, ◌++◌, length, drop, Option, Some, None}
use Rattle.stm_model.specs.declared.cause.Cause.{Cause}
use Rattle.stm_model.specs.declared.cause.HookPhase.{HookPhase}
use Rattle.stm_model.specs.declared.note.Note.{Note}
use Rattle.stm_model.specs.Handlers.{Handlers, undoing}
use Rattle.stm_model.specs.Heap.{put}

-- what is written, which handlers and which before-commit bodies are registered, and which handlers have run where something was undone
pub record Book : Type 0 where
  pub writes : List (ℕ × ℕ)
  pub hooks : Handlers
  pub laters : List ℕ
  pub runs : Handlers

-- nothing is written or registered, and nothing has run
abbrev pub empty_book : Book
empty_book = record { writes = []; hooks = []; laters = []; runs = [] }

-- how many cells there are, the notes of the reads so far, the book as it is now and as it was where each open level began, the innermost first, and the cause that was answered
pub record CellsState : Type 0 where
  pub size : ℕ
  pub reads : List Note
  pub now : Book
  pub saved : List Book
  pub cause : Option Cause

-- ---- what the calls make of it

abbrev pub written : ℕ → ℕ → CellsState → CellsState
written address value state = record state { now = record state.now { writes = put state.now.writes address value } }

abbrev pub hooked : HookPhase → ℕ → CellsState → CellsState
hooked phase token state = record state { now = record state.now { hooks = state.now.hooks ++ (phase, token) ∷ [] } }

abbrev pub late_registered : ℕ → CellsState → CellsState
late_registered token state = record state { now = record state.now { laters = state.now.laters ++ token ∷ [] } }

-- one level more, which began with the book as it is
abbrev pub entered : CellsState → CellsState
entered state = record state { saved = state.now ∷ state.saved }

-- all levels but the innermost
abbrev pub outer : List Book → List Book
outer [] = []
outer (book ∷ books) = books

-- the innermost level joined to the one around it
abbrev pub kept : CellsState → CellsState
kept state = record state { saved = outer state.saved }

-- the handlers that were registered in the innermost level and run where it is undone
abbrev pub level_runs : List Book → Book → Handlers
level_runs [] now = []
level_runs (former ∷ books) now = undoing (drop (length former.hooks) now.hooks)

-- the book as it was where the innermost level began, but for the runs so far
abbrev pub returned : List Book → Book → Book
returned [] now = now
returned (former ∷ books) now = record former { runs = now.runs }

-- The same once the level's handlers have run.
abbrev pub restored : List Book → Book → Book
restored [] now = now
restored (former ∷ books) now = record former { runs = now.runs ++ level_runs (former ∷ books) now }

-- the same, where no cause was answered
abbrev pub restored_unless : Option Cause → List Book → Book → Book
restored_unless None saved now = restored saved now
restored_unless (Some cause) saved now = now

-- The innermost level undone. The reads stay. After a cause only the number of levels changes.
abbrev pub undone : CellsState → CellsState
undone state = record state { now = restored_unless state.cause state.saved state.now; saved = outer state.saved }
