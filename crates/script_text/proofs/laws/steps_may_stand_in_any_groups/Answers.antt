use Rattle.script_text.proofs.JobsAgain.{grouped_again}
use Rattle.script_text.proofs.laws.steps_may_stand_in_any_groups.Goals as goal

pub returns : goal.returns
returns c = grouped_again
