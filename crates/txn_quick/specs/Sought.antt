-- Private: a cell that an attempt is asked for.
use Rattle.stm_core.specs.declared.running.Running.{Running}
use Rattle.stm_model.specs.declared.cause.Addr.{Addr}
use Rattle.txn_quick.specs.Reads.{IsFirstRead, IsKnown}
use Rattle.txn_quick.specs.declared.reads.Sought.{Sought}
use Rattle.txn_quick.specs.declared.reads.Sought.TheVariants.{Known, Other, Unread}

-- what it says of the attempt
abbrev pub IsSought : Running → Addr → Sought → Type 0
IsSought r addr (Known value) = IsKnown r addr value
IsSought r addr Unread = IsFirstRead r addr
IsSought r addr Other = Unit {0}
