use Rattle.opacity.specs.Words.{IsOfTable, effect}
use Rattle.stm_model.specs.Accesses.{word_of}
use Rattle.stm_model.specs.World.{place_of}
use Rattle.ref_table.specs.Performs.{announced}
use Rattle.ref_table.specs.Seats.{terms_in}
use Rattle.ref_table.proofs.Confirms.{confirms_all}
use Rattle.ref_table.proofs.stm.Stm.confirm.Goals as goal

pub step-requires-clause-word : goal.step-requires-clause-word
unfolding IsOfTable word_of
step-requires-clause-word g c = tt

pub step-requires-clause-allows : goal.step-requires-clause-allows
unfolding effect announced word_of place_of
step-requires-clause-allows g c =
    let stm = c.args.self.now in
    confirms_all (g.L.Law.lawful stm.law) (g.L.Law.may stm.law) (terms_in stm) stm.settings 0 _ c.args.seat.now.me stm.table

pub returns-clause-same : goal.returns-clause-same
returns-clause-same g c = (c.step.ensures.same.0, λ i. (c.step.ensures.told.0 i, c.step.ensures.same.1 i))
