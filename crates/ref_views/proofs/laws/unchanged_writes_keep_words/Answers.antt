use Rattle.stm_model.proofs.TellingLemmas.{moments}
use Rattle.ref_views.proofs.Holding.{keeps_unchanged}
use Rattle.ref_views.proofs.laws.unchanged_writes_keep_words.Goals as goal

pub returns : goal.returns
returns g c = keeps_unchanged (moments g.L.Law.lawful g.C.Cells.law g.C.Cells.follows g.C.Cells.state g.met.C.Cells.follows_refl g.met.C.Cells.follows_trans)
