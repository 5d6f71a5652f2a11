-- The runs of one stage, or of two, one behind the other.
use Rattle.std.specs.Prelude.{[], ◌++◌, Option, None, Some}
use Rattle.lifecycle.specs.StageRuns.{runs_left}
use Rattle.lifecycle.specs.declared.cursor.Cursor.{Cursor}
use Rattle.lifecycle.specs.declared.walk.Walk.{Walk}
use Rattle.stm_model.specs.Handlers.{Handlers}

-- the runs that a cursor has still to come to, where there is one
abbrev pub runs_behind : Option Cursor → Handlers → Handlers
runs_behind None hooks = []
runs_behind (Some cursor) hooks = runs_left cursor hooks

-- the runs that are due: those that the cursor has still to come to, and then those that the one behind it has
abbrev pub walk_runs : Walk → Handlers → Handlers
walk_runs walk hooks = runs_left walk.cursor hooks ++ runs_behind walk.behind hooks
