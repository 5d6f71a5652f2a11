-- The wait for a cell to be released.
use Rattle.std.specs.Prelude.{ℕ, Option, Some, None}
use Rattle.op_commit.specs.declared.free.FreeEnd.{FreeEnd}
use Rattle.op_commit.specs.declared.free.FreeEnd.TheVariants as found
use Rattle.op_commit.specs.declared.free.FreeOp.{FreeOp}
use Rattle.op_commit.specs.declared.free.FreePlace.{FreePlace}
use Rattle.op_commit.specs.declared.free.FreePlace.TheVariants as at_free
use Rattle.stm_model.specs.Waiting.{Await, Held, Released, Waiting}

abbrev pub freeing_at : FreePlace → (cell : ℕ) → Waiting
freeing_at at_free.Await cell = Await cell
freeing_at (at_free.Ended (found.Held meta)) cell = Held meta
freeing_at (at_free.Ended (found.Released meta)) cell = Released meta

-- where a caller stands that waits for a cell to be released
abbrev pub freeing : FreeOp → Waiting
freeing op = freeing_at op.place op.addr.0

abbrev pub end_at : FreePlace → Option FreeEnd
end_at at_free.Await = None
end_at (at_free.Ended end) = Some end

abbrev pub end_of_free : FreeOp → Option FreeEnd
end_of_free op = end_at op.place
