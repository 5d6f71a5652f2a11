use Rattle.std.proofs.Common.{false, refl}
use Rattle.std.proofs.lemmas.Result.{err_from_is_err_and}
use Rattle.stm_model.proofs.TellingLemmas.{moments, owing_lawful}
use Rattle.ref_views.specs.Operating.{sets}
use Rattle.ref_views.proofs.Bodies.{run_stopped}
use Rattle.ref_views.proofs.LawfulCells.{holds_lawful}
use Rattle.ref_views.proofs.OneOperation.{held_some, ran_put}
use Rattle.ref_views.proofs.operations.SettingBody.run.Goals as goal

pub returns-clause-ran : goal.returns-clause-ran
returns-clause-ran g c =
    let m = moments g.L.Law.lawful g.C.Cells.law g.C.Cells.follows g.C.Cells.state g.met.C.Cells.follows_refl g.met.C.Cells.follows_trans in
    let now = c.args.cells.now in
    let holds = holds_lawful g.T.WordValue.value_of _ _ (g.C.Cells.state now) c.requires.fits.0 (g.met.C.Cells.words now) (owing_lawful _ (g.L.Law.may (g.C.Cells.law now)) (g.C.Cells.state now) c.requires.owes) in
    ran_put m g.L.Law.may g.L.Law.may_trans g.T.WordValue.word_of g.T.WordValue.value_of c.args.self.now.cell.addr.0 (sets c.args.self.now.value) now c.set.new.cells tt false c.args.self.now.value
    _ _ _ c.requires.fits.0.within
    (λ heap possible puts.
    let held = held_some g.T.WordValue.value_of c.args.self.now.cell.addr.0 (g.C.Cells.state now) (g.C.Cells.state c.set.new.cells) _ _ heap c.in_ok-set.ensures.causes holds c.in_ok-set.ensures.told.states possible in
    (held.0, held.1, refl, puts))
    (λ heap operated. (refl, operated)) (λ heap possible. refl) c.requires.fits.1 c.requires.owes c.in_ok-set.ensures.own c.in_ok-set.ensures.told

pub returns-in_err-set-clause-ran : goal.returns-in_err-set-clause-ran
returns-in_err-set-clause-ran g c =
    let p = err_from_is_err_and c.from_residual.result c.from_residual.ensures.1 in
    rw (p.1, p.2) (run_stopped _ _ g.C.Cells.law g.C.Cells.follows g.C.Cells.state _ _ _ _ _ (λ heap possible. refl) c.in_err-set.ensures.told)
