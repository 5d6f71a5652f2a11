use Rattle.std.proofs.Common.{Some, sym, ◌∙◌}
use Rattle.world_run.proofs.Asks.{is_askable, takes_ask}
use Rattle.world_run.proofs.Nexts.{awaits, tells_waits}
use Rattle.world_run.proofs.simulation.may_take.Goals as goal

pub returns-then-waits-clause-may : goal.returns-then-waits-clause-may
returns-then-waits-clause-may c = λ yes.
    let t = c.args.attempt.now.attempt in
    is_askable c.args.cells t c.next-next.result (sym c.next-next.ensures.next) c.args.ask (awaits t c.next-next.result c.next-next.ensures.promises (sym c.waits.ensures ∙ c.if-waits.true)) (c.takes.ensures.may yes)

pub returns-then-waits-clause-told : goal.returns-then-waits-clause-told
returns-then-waits-clause-told c = λ askable. c.takes.ensures.told (takes_ask c.args.cells c.args.attempt.now.attempt c.next-next.result (sym c.next-next.ensures.next) c.args.ask askable)

pub returns-else-waits-clause-told : goal.returns-else-waits-clause-told
returns-else-waits-clause-told c = λ askable. c.waits.ensures ∙ tells_waits c.args.attempt.now.attempt (Some c.next-next.result) (sym c.next-next.ensures.next) askable.waits
