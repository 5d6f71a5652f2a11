use Rattle.txn_quick.proofs.commits.resume.Goals as goal

pub returns-in-Ended-Prepared-clause-commits : goal.returns-in-Ended-Prepared-clause-commits
returns-in-Ended-Prepared-clause-commits c = record { made_for = c.resume.ensures.same _ c.requires.commits.made_for; along = c.resume.ensures.along _ c.requires.commits.along }
