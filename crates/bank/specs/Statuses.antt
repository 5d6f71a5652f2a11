-- The statuses of the program.
use Rattle.std.specs.Prelude.{ℕ, Bool, nat_eq, if◌then◌else◌}
use Rattle.bank_loads.specs.Sizes.{expected_sum}
use Rattle.bank.specs.declared.report.Fault.{Fault}
use Rattle.bank.specs.declared.report.Fault.TheVariants.{Usage}
use Rattle.bank.specs.declared.report.Report.{Report}

-- whether the cells have the sum that they are to have
abbrev pub is_right : Report → Bool
is_right report = nat_eq report.sum (expected_sum report.task.load report.task.scripts report.task.threads)

-- where they have, and where they haven't
abbrev pub report_status : Report → ℕ
report_status report = if is_right report then 0 else 1

-- where the words ask for nothing, and where a task came to no end
abbrev pub fault_status : Fault → ℕ
fault_status Usage = 2
fault_status fault = 1
