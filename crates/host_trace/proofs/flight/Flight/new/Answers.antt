use Rattle.host_trace.proofs.flight.Flight.new.Goals as goal

pub returns-clause-said : goal.returns-clause-said
returns-clause-said c = (c.new-2.ensures.runs, c.new-2.ensures.told _)
