use Rattle.script_text.proofs.WholeForm.{text_of_job}
use Rattle.script_text.proofs.laws.a_text_has_the_lines_of_its_job.Goals as goal

pub returns : goal.returns
returns c = text_of_job
