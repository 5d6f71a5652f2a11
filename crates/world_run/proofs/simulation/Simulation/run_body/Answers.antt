use Rattle.std.proofs.Common.{inl, inr, [], ◌∷◌, ◌++◌}
use Rattle.stm_model.specs.declared.access.Ask.TheVariants.{Finish}
use Rattle.world_run.specs.Going.{MeetsOwedAt}
use Rattle.world_run.proofs.Bodies.{along_from, along_none, body_along, body_whole, lost_meets}
use Rattle.world_run.proofs.simulation.Simulation.run_body.Goals as goal

pub go_on-requires-clause-owed : goal.go_on-requires-clause-owed
go_on-requires-clause-owed g c = (c.args.asks.now ++ Finish ∷ [], c.requires.owed)

pub finish-requires-clause-owed : goal.finish-requires-clause-owed
unfolding MeetsOwedAt
finish-requires-clause-owed g c = elim c.in_ok-ask_all.ensures.through [
  | inl goes ↦ goes.meets (Finish ∷ []) (c.go_on.ensures.goes.meets (c.args.asks.now ++ Finish ∷ []) c.requires.owed)
  | inr (inl over) ↦ rw over tt
  | inr (inr cut) ↦ lost_meets _ _ _ _ _ _ _ _ _ cut.lost
]

pub returns-in_err-go_on-clause-body : goal.returns-in_err-go_on-clause-body
returns-in_err-go_on-clause-body g c = body_along (along_none c.args.asks.now c.go_on.ensures.goes)

pub returns-in_err-ask_all-clause-body : goal.returns-in_err-ask_all-clause-body
returns-in_err-ask_all-clause-body g c = body_along (along_from c.go_on.ensures.goes c.ask_all.ensures.along)

pub returns-in_err-finish-clause-body : goal.returns-in_err-finish-clause-body
returns-in_err-finish-clause-body g c = body_whole c.go_on.ensures.goes c.ask_all.ensures.along c.in_ok-ask_all.ensures.through c.finish.ensures.goes c.finish.ensures.closing

pub returns-clause-body : goal.returns-clause-body
returns-clause-body g c = body_whole c.go_on.ensures.goes c.ask_all.ensures.along c.in_ok-ask_all.ensures.through c.finish.ensures.goes c.finish.ensures.closing
