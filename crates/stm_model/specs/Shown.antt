-- What an optional value tells.
use Rattle.std.specs.Prelude.{Option, Some, None}
use Rattle.stm_model.specs.Attempt.{Attempt}

-- what the value tells, if there is one
abbrev pub shown_by : {V : Type 0} → (V → Option Attempt) → Option V → Option Attempt
shown_by shows None = None
shown_by shows (Some value) = shows value
