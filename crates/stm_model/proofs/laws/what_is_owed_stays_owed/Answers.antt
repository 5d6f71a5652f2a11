use Rattle.stm_model.proofs.TellingLemmas.{moments, owing_lawful, owing_read, owing_same, owing_stopped, owing_wrote}
use Rattle.stm_model.proofs.laws.what_is_owed_stays_owed.Goals as goal

pub returns : goal.returns
returns g c =
    let m = moments g.L.Law.lawful g.C.Cells.law g.C.Cells.follows g.C.Cells.state g.met.C.Cells.follows_refl g.met.C.Cells.follows_trans in
    record {
      read = λ before after. owing_read m g.L.Law.may before after (λ heap. Unit {0});
      written = λ before after. owing_wrote m g.L.Law.may g.L.Law.may_trans before after _ (λ first second lawful so. so lawful);
      same_writes = owing_same m g.L.Law.may;
      stopped = owing_stopped m g.L.Law.may;
      lawful = λ cells. owing_lawful (g.L.Law.lawful (g.C.Cells.law cells)) (g.L.Law.may (g.C.Cells.law cells)) (g.C.Cells.state cells);
    }
