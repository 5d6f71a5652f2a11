-- Private: what an attempt was answered by, what its turn is and how it ended, by what it does next.
use Rattle.std.specs.Prelude.{ℕ, Option, Some, None, Result, Ok, Err}
use Rattle.stm_core.specs.declared.next.Next.{Next}
use Rattle.stm_core.specs.declared.next.Next.TheVariants as coming
use Rattle.stm_core.specs.declared.next.Reply.TheVariants as reply
use Rattle.stm_model.specs.Attempt.{Late, Stage}
use Rattle.stm_model.specs.declared.cause.Cause.{Cause}
use Rattle.stm_model.specs.declared.ending.Ending.{Ending}

-- a value, a cause, or nothing
abbrev pub told_by : Next → Result (Option ℕ) Cause
told_by (coming.Reply (reply.Value value)) = Ok (Some value)
told_by (coming.Reply (reply.Stopped cause)) = Err cause
told_by next = Ok None

-- the token of the before-commit body that it comes to
abbrev pub token_by : Next → Option ℕ
token_by (coming.Before token) = Some token
token_by next = None

-- how it ended, where it is over
abbrev pub ending_by : Next → Option Ending
ending_by (coming.Reply (reply.Ended ending)) = Some ending
ending_by next = None

-- the token of the before-commit body that has its turn where it stands
unfoldable pub token_at : Stage → Option ℕ
token_at (Late token) = Some token
token_at stage = None
