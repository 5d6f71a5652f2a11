use Rattle.std.proofs.Common.{◌≡◌, inl, inr, false, true, sym, ◌∙◌}
use Rattle.stm_model.specs.Moves.{MayAsk}
use Rattle.stm_model.specs.declared.access.Ask.TheVariants.{Finish}
use Rattle.world_run.specs.Simulation.{attempt_in}
use Rattle.world_run.proofs.Closings.{ended_closing}
use Rattle.world_run.proofs.Going.{asks_on, finishes, goes_none}
use Rattle.world_run.proofs.simulation.Simulation.ask_to_finish.Goals as goal

pub returns-then-not-waits-clause-goes : goal.returns-then-not-waits-clause-goes
returns-then-not-waits-clause-goes g c = inl (goes_none c.args.self.now)

pub returns-then-not-waits-clause-ending : goal.returns-then-not-waits-clause-ending
returns-then-not-waits-clause-ending g c =
    inl (ended_closing (attempt_in c.args.self.now c.args.caller) c.requires.pauses.replies (λ waits. let never : false ≡ true = sym c.if-not-waits.true ∙ c.waits.ensures.told waits in cc))

pub returns-then-not-waits-clause-driven : goal.returns-then-not-waits-clause-driven
returns-then-not-waits-clause-driven g c = c.requires.pauses.driven

pub returns-clause-goes : goal.returns-clause-goes
unfolding MayAsk
returns-clause-goes g c =
    let whole = c.waits.ensures.invariant in
    let waits = c.waits.ensures.waits c.if-not-waits.false in
    let own = c.requires.pauses.own waits in
    let asked = c.ask.ensures.asked (c.ask.ensures.told (record { waits = waits; able = own })) in
    inr (waits, asks_on c.args.caller whole.world whole.shows c.requires.caller c.ask.ensures.same Finish own waits asked)

pub returns-clause-ending : goal.returns-clause-ending
unfolding MayAsk
returns-clause-ending g c =
    let whole = c.waits.ensures.invariant in
    let waits = c.waits.ensures.waits c.if-not-waits.false in
    let asked = c.ask.ensures.asked (c.ask.ensures.told (record { waits = waits; able = c.requires.pauses.own waits })) in
    finishes c.args.caller whole.world whole.shows c.requires.caller c.ask.ensures.same asked

pub returns-clause-driven : goal.returns-clause-driven
unfolding MayAsk
returns-clause-driven g c =
    let whole = c.waits.ensures.invariant in
    let waits = c.waits.ensures.waits c.if-not-waits.false in
    let own = c.requires.pauses.own waits in
    let asked = c.ask.ensures.asked (c.ask.ensures.told (record { waits = waits; able = own })) in
    (asks_on c.args.caller whole.world whole.shows c.requires.caller c.ask.ensures.same Finish own waits asked).driven c.requires.pauses.driven
