use Rattle.std.proofs.Common.{refl, subst}
use Rattle.stm_model.specs.Telling.{Owing}
use Rattle.stm_model.proofs.TellingLemmas.{moments, owing_lawful, owing_read}
use Rattle.ref_views.specs.Operating.{gets}
use Rattle.ref_views.specs.Typed.{Holds}
use Rattle.ref_views.proofs.LawfulCells.{holds_lawful}
use Rattle.ref_views.proofs.OneOperation.{ran_read}
use Rattle.ref_views.proofs.operations.GettingBody.run.Goals as goal

pub get-requires : goal.get-requires
get-requires g c =
    holds_lawful g.T.WordValue.value_of _ _ (g.C.Cells.state c.args.cells.now) c.requires.fits (g.met.C.Cells.words c.args.cells.now) (owing_lawful _ (g.L.Law.may (g.C.Cells.law c.args.cells.now)) (g.C.Cells.state c.args.cells.now) c.requires.owes)

pub returns-clause-ran : goal.returns-clause-ran
returns-clause-ran g c =
    let m = moments g.L.Law.lawful g.C.Cells.law g.C.Cells.follows g.C.Cells.state g.met.C.Cells.follows_refl g.met.C.Cells.follows_trans in
    let now = c.args.cells.now in
    let end = c.get.new.cells in
    ran_read m g.T.WordValue.word_of g.T.WordValue.value_of g.L.Law.may c.args.self.now.cell.addr.0 gets _ _ now end c.in_ok-value.value c.in_ok-value.value
    (λ heap operated. (refl, operated)) (λ heap possible. refl) (refl, refl)
    (subst (λ l. Owing (g.L.Law.lawful l) (g.L.Law.may l) (g.C.Cells.state end)) c.in_ok-value.ensures.told.same_law (owing_read m g.L.Law.may now end (Holds g.T.WordValue.value_of c.args.self.now.cell.addr.0 c.in_ok-value.value) c.in_ok-value.ensures.told c.requires.owes))
    c.in_ok-value.ensures.told
