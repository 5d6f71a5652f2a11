use Rattle.script_text.proofs.JobsAgain.{canonical_again}
use Rattle.script_text.proofs.laws.a_canonical_text_is_its_job.Goals as goal

pub returns : goal.returns
returns c = canonical_again
