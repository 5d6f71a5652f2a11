use Rattle.host_trace.proofs.Workers.{begins_on}
use Rattle.host_trace.proofs.worker.Worker.begin.Goals as goal

pub returns : goal.returns
returns c =
    let begun = c.begin.ensures.told c.requires.may in
    let new = c.in_ok-flight.ensures in
    begins_on c.requires.caller c.args.script.now c.in_ok-flight.flight new.talk new.answered new.said.0 new.said.1 c.requires.allowed
    (c.begin.ensures.begins begun) (c.begin.ensures.begun begun) c.args.self.now
