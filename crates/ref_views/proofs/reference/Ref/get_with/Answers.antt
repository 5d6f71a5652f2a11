use Rattle.stm_model.proofs.TellingLemmas.{moments}
use Rattle.ref_views.proofs.Holding.{read_may_hold}
use Rattle.ref_views.proofs.reference.Ref.get_with.Goals as goal

pub f-requires : goal.f-requires
f-requires g c =
    let m = moments g.L.Law.lawful g.C.Cells.law g.C.Cells.follows g.C.Cells.state g.met.C.Cells.follows_refl g.met.C.Cells.follows_trans in
    c.requires.callable c.in_ok-value.value (read_may_hold m g.T.WordValue.value_of _ _ c.args.self.now.addr.0 c.in_ok-value.value (g.met.C.Cells.witness _) c.in_ok-value.ensures.told)
