use Rattle.stm_model.proofs.OwesLemmas.{Owes-append, Owes-nil}
use Rattle.stm_model.proofs.laws.reads_owe_nothing.Goals as goal

pub returns-clause-nothing_written : goal.returns-clause-nothing_written
returns-clause-nothing_written g c = λ law size reads. Owes-nil (g.L.Law.lawful law) (g.L.Law.may law) size reads (g.L.Law.may_refl law)

pub returns-clause-more_reads : goal.returns-clause-more_reads
returns-clause-more_reads g c = λ law size reads more writes. Owes-append (g.L.Law.lawful law) (g.L.Law.may law) size reads more writes
