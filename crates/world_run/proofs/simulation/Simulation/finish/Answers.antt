use Rattle.std.proofs.Common.{inl, inr, [], ◌∷◌}
use Rattle.std.proofs.lemmas.Result.{on_ok_weaker}
use Rattle.stm_model.specs.declared.access.Ask.TheVariants.{Finish}
use Rattle.world_run.specs.Going.{Pauses}
use Rattle.world_run.specs.Simulation.{attempt_in}
use Rattle.world_run.proofs.Bodies.{goes_settled, still_ending}
use Rattle.world_run.proofs.Closings.{ends_settled}
use Rattle.world_run.proofs.Driven.{ends_closing}
use Rattle.world_run.proofs.Seats.{caller_then}
use Rattle.world_run.proofs.simulation.Simulation.finish.Goals as goal

pub go_on-requires-clause-caller : goal.go_on-requires-clause-caller
go_on-requires-clause-caller g c = caller_then c.args.caller c.ask_to_finish.ensures.terms c.requires.caller

pub go_on-requires-clause-owed : goal.go_on-requires-clause-owed
go_on-requires-clause-owed g c = elim c.ask_to_finish.ensures.goes [
  | inl goes ↦ (Finish ∷ [], goes.meets (Finish ∷ []) c.requires.owed)
  | inr asked ↦ ([], asked.1.meets [] c.requires.owed)
]

pub returns-clause-goes : goal.returns-clause-goes
returns-clause-goes g c = elim c.ask_to_finish.ensures.goes [
  | inl goes ↦ inl (goes_settled goes c.go_on.ensures.goes)
  | inr asked ↦ inr (asked.0, goes_settled asked.1 c.go_on.ensures.goes)
]

pub returns-clause-closing : goal.returns-clause-closing
returns-clause-closing g c =
    ends_closing c.go_on.result (attempt_in c.go_on.new.self c.args.caller) (still_ending c.go_on.ensures.goes c.ask_to_finish.ensures.ending) c.go_on.ensures.pauses c.go_on.ensures.wants

pub returns-clause-over : goal.returns-clause-over
returns-clause-over g c =
    let closing = ends_closing c.go_on.result (attempt_in c.go_on.new.self c.args.caller) (still_ending c.go_on.ensures.goes c.ask_to_finish.ensures.ending) c.go_on.ensures.pauses c.go_on.ensures.wants in
    on_ok_weaker c.go_on.result (λ (pauses : Pauses (attempt_in c.go_on.new.self c.args.caller)). ends_settled (attempt_in c.go_on.new.self c.args.caller) closing pauses.replies) c.go_on.ensures.pauses
