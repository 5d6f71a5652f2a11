-- After which causes an attempt is made again.
use Rattle.std.specs.Prelude.{Bool, true, false}
use Rattle.stm_model.specs.declared.cause.Cause.{Cause}
use Rattle.stm_model.specs.declared.cause.Cause.TheVariants.{ReadConflict, Moved, Stale, WriteConflict, Doomed, ClockMoved}

-- whether it is for what others did
abbrev pub is_conflict : Cause → Bool
is_conflict (ReadConflict addr meta) = true
is_conflict (Moved addr first second) = true
is_conflict (Stale addr version meta) = true
is_conflict (WriteConflict addr meta) = true
is_conflict (Doomed status) = true
is_conflict (ClockMoved first second) = true
is_conflict cause = false
