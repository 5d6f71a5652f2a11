use Rattle.txn_run.proofs.Lending.{begins_with, concluded_with, lists_twice}
use Rattle.txn_run.proofs.attempts.attempt_noting.Goals as goal

pub returns-clause-begins : goal.returns-clause-begins
returns-clause-begins g c =
    let stm = c.args.caller.now.stm.now in
    begins_with (g.L.Law.lawful stm.law) (g.L.Law.may stm.law) stm c.make-outcome.new.seat c.give_back.new.self
    (lists_twice c.make-outcome.new.seat c.take_reads-2.new.seat c.give_back.new.self c.take_reads-2.ensures.same c.give_back.ensures.same) c.give_back.ensures.room.empty c.make-outcome.ensures.begins

pub returns-clause-concludes : goal.returns-clause-concludes
returns-clause-concludes g c = concluded_with _ _ _ _ c.args.caller.now.stm.now _ c.make-outcome.new.seat c.give_back.new.self _ _ c.make-outcome.result.0
    (lists_twice c.make-outcome.new.seat c.take_reads-2.new.seat c.give_back.new.self c.take_reads-2.ensures.same c.give_back.ensures.same) c.make-outcome.ensures.made c.make-outcome.ensures.concludes
