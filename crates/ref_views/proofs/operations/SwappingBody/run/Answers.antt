use Rattle.std.proofs.Common.{refl, true}
use Rattle.stm_model.proofs.TellingLemmas.{moments, owing_lawful}
use Rattle.ref_views.specs.Operating.{swaps}
use Rattle.ref_views.proofs.LawfulCells.{holds_lawful}
use Rattle.ref_views.proofs.OneOperation.{ran_put}
use Rattle.ref_views.proofs.operations.SwappingBody.run.Goals as goal

pub swap-requires : goal.swap-requires
swap-requires g c =
    holds_lawful g.T.WordValue.value_of _ _ (g.C.Cells.state c.args.cells.now) c.requires.fits.0 (g.met.C.Cells.words c.args.cells.now) (owing_lawful _ (g.L.Law.may (g.C.Cells.law c.args.cells.now)) (g.C.Cells.state c.args.cells.now) c.requires.owes)

pub returns-clause-ran : goal.returns-clause-ran
returns-clause-ran g c =
    let m = moments g.L.Law.lawful g.C.Cells.law g.C.Cells.follows g.C.Cells.state g.met.C.Cells.follows_refl g.met.C.Cells.follows_trans in
    ran_put m g.L.Law.may g.L.Law.may_trans g.T.WordValue.word_of g.T.WordValue.value_of c.args.self.now.cell.addr.0 (swaps c.args.self.now.value) c.args.cells.now c.swap.new.cells c.in_ok-former.former true c.args.self.now.value
    _ _ _ c.requires.fits.0.within (λ heap possible replaced. (c.in_ok-former.former, replaced.0, (refl, refl), replaced.1))
    (λ heap operated. (refl, operated)) (λ heap possible. refl) c.requires.fits.1 c.requires.owes c.in_ok-former.ensures.own c.in_ok-former.ensures.told
