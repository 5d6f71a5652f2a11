use Rattle.std.proofs.Common.{inr, refl, subst}
use Rattle.std.proofs.lemmas.Result.{err_from_is_err_and}
use Rattle.std.specs.Fn.{Called}
use Rattle.stm_model.specs.Telling.{Owing}
use Rattle.stm_model.proofs.TellingLemmas.{moments, owing_lawful, owing_wrote}
use Rattle.ref_views.specs.Typed.{Replaces}
use Rattle.ref_views.proofs.LawfulCells.{holds_lawful}
use Rattle.ref_views.proofs.Bodies.{calls_there, run_ended, run_stopped}
use Rattle.ref_views.proofs.tests.replacing.ReplacingBody.run.Goals as goal

pub transform-requires-clause-typed : goal.transform-requires-clause-typed
transform-requires-clause-typed g c =
    holds_lawful g.T.WordValue.value_of _ _ (g.C.Cells.state c.args.cells.now) c.requires.fits.0 (g.met.C.Cells.words c.args.cells.now) (owing_lawful _ (g.L.Law.may (g.C.Cells.law c.args.cells.now)) (g.C.Cells.state c.args.cells.now) c.requires.owes)

pub returns-clause-ran : goal.returns-clause-ran
returns-clause-ran g c =
    let m = moments g.L.Law.lawful g.C.Cells.law g.C.Cells.follows g.C.Cells.state g.met.C.Cells.follows_refl g.met.C.Cells.follows_trans in
    let told = c.in_ok-transform.ensures.told in
    let now = c.args.cells.now in
    let end = c.transform.new.cells in
    run_ended g.L.Law.lawful g.L.Law.may g.C.Cells.law g.C.Cells.follows g.C.Cells.state _ _
    (Replaces g.T.WordValue.word_of g.T.WordValue.value_of c.args.self.now.cell.addr.0 told.0 told.1) tt now end
    (λ heap writes replaced. (refl, (told.0, told.1, told.2, replaced, refl)))
    (λ heap possible. (refl, inr (told.0, told.1, told.2, (told.3.states.each heap possible).0)))
    (subst (λ law. Owing (g.L.Law.lawful law) (g.L.Law.may law) (g.C.Cells.state end)) told.3.same_law
    (owing_wrote m g.L.Law.may g.L.Law.may_trans now end _ (λ before after lawful replaced. c.requires.fits.2 told.1 before after lawful replaced.1) told.3 c.requires.owes))
    told.3

pub returns-in_err-transform-clause-ran : goal.returns-in_err-transform-clause-ran
returns-in_err-transform-clause-ran g c =
    let p = err_from_is_err_and c.from_residual.result c.from_residual.ensures.1 in
    rw (p.1, p.2) (run_stopped _ _ g.C.Cells.law g.C.Cells.follows g.C.Cells.state _ _ _ _ _ (λ heap possible. (
      refl,
      calls_there (λ former value. Called g.F.FnMut c.args.self.now.f (former, tt) value c.transform.new.f)
          g.T.WordValue.value_of _ c.args.self.now.cell.addr.0 (g.C.Cells.state c.args.cells.now) (g.C.Cells.state c.transform.new.cells) c.args.self.now.f c.transform.new.f
          heap possible c.in_err-transform.ensures.called,
    )) c.in_err-transform.ensures.told)
