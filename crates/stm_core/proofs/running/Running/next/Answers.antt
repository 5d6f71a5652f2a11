use Rattle.std.proofs.Common.{Some, ap, ◌∙◌}
use Rattle.stm_core.proofs.Goes.{due_comes, goes, goes_on, replies}
use Rattle.stm_core.proofs.running.Running.next.Goals as goal

pub returns-in-Some-clause-next : goal.returns-in-Some-clause-next
returns-in-Some-clause-next c = due_comes c.args.self.now c.in-Some.due c.requires c.in-Some.ensures.first

pub returns-in_default-state-clause-next : goal.returns-in_default-state-clause-next
returns-in_default-state-clause-next c =
    let arm = c.in_default-state in
    goes c.args.self.now c.access.result _ c.requires (goes_on c.args.self.now.state arm.not-Ready arm.not-Late arm.not-Stopped arm.not-Undone arm.not-Ended) c.in_default.ensures.first c.access.ensures c.made.ensures.access

pub returns-in-Ready-clause-next : goal.returns-in-Ready-clause-next
returns-in-Ready-clause-next c = replies c.args.self.now c.in-Ready.told c.answered.result c.in-Ready.is c.in_default.ensures.first c.answered.ensures.stands

pub returns-in-Some-clause-over : goal.returns-in-Some-clause-over
returns-in-Some-clause-over c = λ ending is. absurd (c.next_due.ensures.no_reply _ (c.in-Some.is ∙ ap Some is))
