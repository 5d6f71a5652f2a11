use Rattle.std.proofs.Common.{inl, inr, false, true, ◌≡◌, ◌+◌, [], ◌∷◌, ◌++◌, drop, sym, ◌∙◌}
use Rattle.stm_model.specs.declared.access.Ask.TheVariants.{Finish}
use Rattle.world_run.specs.Simulation.{attempt_in}
use Rattle.world_run.proofs.Bodies.{along_front, cut_here, goes_more, goes_settled, meets_behind}
use Rattle.world_run.proofs.Closings.{replies_so}
use Rattle.world_run.proofs.Going.{asks_on, goes_none}
use Rattle.world_run.proofs.Seats.{caller_then}
use Rattle.world_run.proofs.simulation.Simulation.ask_all.Goals as goal

pub loop-ask-init : goal.loop-ask-init
loop-ask-init g c = record { caller = c.requires.caller; pauses = c.requires.pauses; goes = goes_none c.args.self.now }

pub returns-then-not-waits-clause-along : goal.returns-then-not-waits-clause-along
returns-then-not-waits-clause-along g c = along_front c.loop-ask.ask-index c.loop-ask.invariant.goes

pub returns-then-not-waits-clause-through : goal.returns-then-not-waits-clause-through
returns-then-not-waits-clause-through g c = elim (replies_so (attempt_in c.loop-ask.self c.args.caller) c.loop-ask.invariant.pauses.replies) [
  | inl waits ↦ let never : false ≡ true = sym c.if-not-waits.true ∙ c.waits.ensures.told waits in cc
  | inr over ↦ inr (inl over.ended)
]

pub returns-then-not-ask-clause-along : goal.returns-then-not-ask-clause-along
returns-then-not-ask-clause-along g c = rw (c.ask.ensures.stays c.if-not-ask.true) (along_front c.loop-ask.ask-index c.loop-ask.invariant.goes)

pub returns-then-not-ask-clause-through : goal.returns-then-not-ask-clause-through
returns-then-not-ask-clause-through g c =
    let waits = c.waits.ensures.waits c.if-not-waits.false in
    let cut = cut_here c.args.asks.now c.loop-ask.ask-index c.loop-ask-test.true c.requires.asks c.loop-ask.invariant.goes (c.loop-ask.invariant.pauses.own waits) waits (Finish ∷ []) c.requires.owed
    (λ askable. let never : false ≡ true = sym c.if-not-ask.true ∙ c.ask.ensures.told askable in cc) in
    rw (c.ask.ensures.stays c.if-not-ask.true) (inr (inr cut))

pub returns-then-not-ask-clause-pauses : goal.returns-then-not-ask-clause-pauses
returns-then-not-ask-clause-pauses g c = rw (c.ask.ensures.stays c.if-not-ask.true) c.loop-ask.invariant.pauses

pub go_on-requires-clause-driven : goal.go_on-requires-clause-driven
go_on-requires-clause-driven g c =
    let waits = c.waits.ensures.waits c.if-not-waits.false in
    let whole = c.waits.ensures.invariant in
    (asks_on c.args.caller whole.world whole.shows c.loop-ask.invariant.caller c.ask.ensures.same _ (c.loop-ask.invariant.pauses.own waits) waits (c.ask.ensures.asked c.if-not-ask.false)).driven c.loop-ask.invariant.pauses.driven

pub go_on-requires-clause-owed : goal.go_on-requires-clause-owed
go_on-requires-clause-owed g c =
    let waits = c.waits.ensures.waits c.if-not-waits.false in
    let index = c.loop-ask.ask-index in
    let more = goes_more c.args.asks.now index c.loop-ask-test.true c.loop-ask.invariant.goes (c.loop-ask.invariant.pauses.own waits) waits c.waits.ensures.invariant c.loop-ask.invariant.caller c.ask.ensures.same (c.ask.ensures.asked c.if-not-ask.false) in
    (drop (index + 1) c.args.asks.now ++ Finish ∷ [], meets_behind c.args.asks.now (index + 1) (Finish ∷ []) more c.requires.owed)

pub returns-in_err-go_on-clause-along : goal.returns-in_err-go_on-clause-along
returns-in_err-go_on-clause-along g c =
    let waits = c.waits.ensures.waits c.if-not-waits.false in
    let index = c.loop-ask.ask-index in
    let more = goes_more c.args.asks.now index c.loop-ask-test.true c.loop-ask.invariant.goes (c.loop-ask.invariant.pauses.own waits) waits c.waits.ensures.invariant c.loop-ask.invariant.caller c.ask.ensures.same (c.ask.ensures.asked c.if-not-ask.false) in
    along_front (index + 1) (goes_settled more c.go_on.ensures.goes)

pub loop-ask-preserved : goal.loop-ask-preserved
loop-ask-preserved g c =
    let waits = c.waits.ensures.waits c.if-not-waits.false in
    let index = c.loop-ask.ask-index in
    let more = goes_more c.args.asks.now index c.loop-ask-test.true c.loop-ask.invariant.goes (c.loop-ask.invariant.pauses.own waits) waits c.waits.ensures.invariant c.loop-ask.invariant.caller c.ask.ensures.same (c.ask.ensures.asked c.if-not-ask.false) in
    let goes = goes_settled more c.go_on.ensures.goes in
    record { caller = caller_then c.args.caller goes.leads.terms c.requires.caller; pauses = c.in_ok-go_on.ensures.pauses; goes = goes }
