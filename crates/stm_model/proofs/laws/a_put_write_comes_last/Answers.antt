use Rattle.stm_model.proofs.HeapLemmas.{AreWords-put, IsDistinct-put, over-put}
use Rattle.stm_model.proofs.laws.a_put_write_comes_last.Goals as goal

pub returns-clause-over : goal.returns-clause-over
returns-clause-over c = over-put

pub returns-clause-apart : goal.returns-clause-apart
returns-clause-apart c = IsDistinct-put

pub returns-clause-words : goal.returns-clause-words
returns-clause-words c = AreWords-put
