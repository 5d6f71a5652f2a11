use Rattle.std.proofs.Common.{◌≡◌, Some, rules}
use Rattle.std.proofs.lemmas.Result.{on_ok_weaker}
use Rattle.host_trace.proofs.Workers.{flies_on, lands}
use Rattle.host_trace.proofs.worker.Worker.access.Goals as goal

pub returns-in-None : goal.returns-in-None
returns-in-None c =
    let is : c.args.self.now.flight ≡ Some c.in-Some.flight = search rules in
    flies_on c.requires.caller c.in-Some.flight c.access.new.self c.in_ok-access.ensures.leads c.args.rows.now c.args.self.now is
    (rw c.in-None.is at c.in_ok-access.ensures.flown)

pub returns-in-Some-2 : goal.returns-in-Some-2
returns-in-Some-2 c =
    let is : c.args.self.now.flight ≡ Some c.in-Some.flight = search rules in
    on_ok_weaker c.end.result
    (λ lists. lands c.requires.caller c.in-Some.flight c.access.new.self c.in_ok-access.ensures.leads c.args.rows.now c.end.new.rows c.args.self.now c.end.new.self c.in-Some-2.ending is
    (rw c.in-Some-2.is at c.in_ok-access.ensures.flown) lists) (rw c.take.ensures.after at c.end.ensures)
