use Rattle.std.proofs.Common.{refl, inr, subst}
use Rattle.stm_model.specs.Telling.{Owing}
use Rattle.stm_model.proofs.TellingLemmas.{moments, owing_lawful, owing_read}
use Rattle.ref_views.specs.Operating.{gets_with}
use Rattle.ref_views.specs.Typed.{Holds}
use Rattle.ref_views.proofs.LawfulCells.{holds_lawful, read_can_hold}
use Rattle.ref_views.proofs.OneOperation.{ran_read}
use Rattle.ref_views.proofs.closures.GettingWithBody.run.Goals as goal

pub get-requires : goal.get-requires
get-requires g c =
    holds_lawful g.T.WordValue.value_of _ _ (g.C.Cells.state c.args.cells.now) c.requires.fits.0 (g.met.C.Cells.words c.args.cells.now) (owing_lawful _ (g.L.Law.may (g.C.Cells.law c.args.cells.now)) (g.C.Cells.state c.args.cells.now) c.requires.owes)

pub f-requires : goal.f-requires
f-requires g c =
    let m = moments g.L.Law.lawful g.C.Cells.law g.C.Cells.follows g.C.Cells.state g.met.C.Cells.follows_refl g.met.C.Cells.follows_trans in
    let now = c.args.cells.now in
    c.requires.fits.1 c.args.self.now.f.now c.in_ok-value.value (read_can_hold m g.T.WordValue.value_of now c.get.new.cells c.args.self.now.cell.addr.0 c.in_ok-value.value
    (g.met.C.Cells.witness _) (g.met.C.Cells.words now) c.in_ok-value.ensures.causes (owing_lawful _ (g.L.Law.may (g.C.Cells.law now)) (g.C.Cells.state now) c.requires.owes) c.in_ok-value.ensures.told)

pub returns-clause-ran : goal.returns-clause-ran
returns-clause-ran g c =
    let m = moments g.L.Law.lawful g.C.Cells.law g.C.Cells.follows g.C.Cells.state g.met.C.Cells.follows_refl g.met.C.Cells.follows_trans in
    let now = c.args.cells.now in
    let end = c.get.new.cells in
    let value = c.in_ok-value.value in
    let told = c.in_ok-value.ensures.told in
    ran_read m g.T.WordValue.word_of g.T.WordValue.value_of g.L.Law.may c.args.self.now.cell.addr.0
    (gets_with (λ f value made left. goal.F-step g f value made left) c.args.self.now.f.now c.f.new.self) _ _ now end c.f.result value
    (λ heap operated. (refl, refl, operated))
    (λ heap possible. (refl, refl, inr (value, (c.f.result, c.f.ensures), told.states.each heap possible)))
    (c.f.ensures, refl)
    (subst (λ l. Owing (g.L.Law.lawful l) (g.L.Law.may l) (g.C.Cells.state end)) told.same_law (owing_read m g.L.Law.may now end (Holds g.T.WordValue.value_of c.args.self.now.cell.addr.0 value) told c.requires.owes))
    told
