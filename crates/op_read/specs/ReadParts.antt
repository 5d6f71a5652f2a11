-- Private: what the parts of a read keep.
use Rattle.std.specs.Prelude.{◌≡◌}
use Rattle.op_read.specs.Read.{IsReading}
use Rattle.op_read.specs.declared.read.ReadOp.{ReadOp}
use Rattle.stm_model.specs.Attempt.{Attempt}

-- It is still the read of the same cell, for the same attempts.
pub record Keeps (before after : ReadOp) : Type 0 where
  pub addr : after.addr ≡ before.addr
  pub same : (t : Attempt) → IsReading before t → IsReading after t
