use Rattle.std.proofs.Common.{Some}
use Rattle.std.proofs.lemmas.Result.{on_ok_weaker}
use Rattle.ledger_model.specs.Traced.{ended_with, with_rolled}
use Rattle.host_trace.proofs.Workers.{lists_as, rolled_otherwise}
use Rattle.host_trace.proofs.worker.Worker.end.Goals as goal

pub returns-in_default : goal.returns-in_default
returns-in_default c =
    let p = c.args.caller in
    let cause = c.in-Rolled.cause in
    let prefix = c.in-Rolled.prefix in
    on_ok_weaker c.roll.result
    (λ lists. lists_as (with_rolled p prefix cause) (ended_with (Some c.args.ending) p) (lists c.args.rows.now)
    (λ s. rw c.in-Rolled.is (rolled_otherwise cause p prefix s c.in_default.not-User c.in_default.not-ClockEnd))) c.roll.ensures
