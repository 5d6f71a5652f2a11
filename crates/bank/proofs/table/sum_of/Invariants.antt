use Rattle.std.specs.Prelude.{take}
use Rattle.bank.specs.Sums.{IsSumOf}
use Rattle.bank.proofs.table.sum_of.Given as goal

abbrev pub invariant-loop-value : goal.invariant-loop-value
invariant-loop-value l = IsSumOf l.sum (take l.value-index l.values)
