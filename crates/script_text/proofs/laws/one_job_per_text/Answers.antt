use Rattle.script_text.proofs.JobsAgain.{one_job}
use Rattle.script_text.proofs.laws.one_job_per_text.Goals as goal

pub returns : goal.returns
returns c = one_job
