use Rattle.std.proofs.Common.{refl, inr, true, false, None, Some, subst}
use Rattle.std.proofs.lemmas.Result.{err_from_is_err_and}
use Rattle.stm_model.specs.Telling.{Owing}
use Rattle.stm_model.proofs.TellingLemmas.{moments, owing_lawful, owing_read, stop_then}
use Rattle.ref_views.specs.Operating.{transforms_if_defined}
use Rattle.ref_views.specs.Typed.{Holds}
use Rattle.ref_views.proofs.Bodies.{learned_there, run_stopped}
use Rattle.ref_views.proofs.Calling.{own_then}
use Rattle.ref_views.proofs.Holding.{wrote_replaces}
use Rattle.ref_views.proofs.LawfulCells.{holds_lawful, read_can_hold}
use Rattle.ref_views.proofs.OneOperation.{ran_put, ran_read}
use Rattle.ref_views.proofs.closures.TransformingIfDefinedBody.run.Goals as goal

pub get-requires : goal.get-requires
get-requires g c =
    holds_lawful g.T.WordValue.value_of _ _ (g.C.Cells.state c.args.cells.now) c.requires.fits.0 (g.met.C.Cells.words c.args.cells.now) (owing_lawful _ (g.L.Law.may (g.C.Cells.law c.args.cells.now)) (g.C.Cells.state c.args.cells.now) c.requires.owes)

pub f-requires : goal.f-requires
f-requires g c =
    let m = moments g.L.Law.lawful g.C.Cells.law g.C.Cells.follows g.C.Cells.state g.met.C.Cells.follows_refl g.met.C.Cells.follows_trans in
    let now = c.args.cells.now in
    c.requires.fits.1 c.args.self.now.f.now c.in_ok-former.former (read_can_hold m g.T.WordValue.value_of now c.get.new.cells c.args.self.now.cell.addr.0 c.in_ok-former.former
    (g.met.C.Cells.witness _) (g.met.C.Cells.words now) c.in_ok-former.ensures.causes (owing_lawful _ (g.L.Law.may (g.C.Cells.law now)) (g.C.Cells.state now) c.requires.owes) c.in_ok-former.ensures.told)

pub returns-in_err-set-clause-ran : goal.returns-in_err-set-clause-ran
returns-in_err-set-clause-ran g c =
    let m = moments g.L.Law.lawful g.C.Cells.law g.C.Cells.follows g.C.Cells.state g.met.C.Cells.follows_refl g.met.C.Cells.follows_trans in
    let now = c.args.cells.now in
    let p = err_from_is_err_and c.from_residual-in_err-set.result c.from_residual-in_err-set.ensures.1 in
    rw (p.1, p.2) (run_stopped _ _ g.C.Cells.law g.C.Cells.follows g.C.Cells.state _ _ _ _ _
    (λ heap possible. (
      refl,
      refl,
      inr (
        c.in_ok-former.former,
        (Some c.in-Some.value, c.in-Some.ensures),
        learned_there _ _ (g.C.Cells.state now) (g.C.Cells.state c.get.new.cells) (g.C.Cells.state c.set.new.cells) heap c.in_ok-former.ensures.told.states c.in_err-set.ensures.told.states.reads possible,
      ),
    ))
    (stop_then m _ _ _ _ _ c.in_ok-former.ensures.told c.in_err-set.ensures.told))

pub returns-clause-ran : goal.returns-clause-ran
returns-clause-ran g c =
    let m = moments g.L.Law.lawful g.C.Cells.law g.C.Cells.follows g.C.Cells.state g.met.C.Cells.follows_refl g.met.C.Cells.follows_trans in
    let now = c.args.cells.now in
    let former = c.in_ok-former.former in
    let value = c.in-Some.value in
    let left = c.f.new.self in
    ran_put m g.L.Law.may g.L.Law.may_trans g.T.WordValue.word_of g.T.WordValue.value_of c.args.self.now.cell.addr.0
    (transforms_if_defined (λ f former value left. goal.F-step g f former value left) c.args.self.now.f.now left) now c.set.new.cells true true value
    _ _ _ c.requires.fits.0.within (λ heap possible replaced. (former, replaced.0, (value, c.in-Some.ensures, refl), replaced.1))
    (λ heap operated. (refl, refl, operated))
    (λ heap possible. (
      refl,
      refl,
      inr (
        former,
        (Some value, c.in-Some.ensures),
        learned_there _ _ (g.C.Cells.state now) (g.C.Cells.state c.get.new.cells) (g.C.Cells.state c.set.new.cells) heap c.in_ok-former.ensures.told.states c.in_ok-set.ensures.told.states.reads possible,
      ),
    ))
    (c.requires.fits.2 c.args.self.now.f.now left) c.requires.owes
    (own_then m _ _ _ c.args.self.now.cell.addr.0 true c.in_ok-former.ensures.own c.in_ok-set.ensures.own)
    (wrote_replaces m g.T.WordValue.value_of g.T.WordValue.word_of _ _ _ c.args.self.now.cell.addr.0 former value c.in_ok-former.ensures.told c.in_ok-set.ensures.told)

pub returns-in_default-clause-ran : goal.returns-in_default-clause-ran
returns-in_default-clause-ran g c =
    let m = moments g.L.Law.lawful g.C.Cells.law g.C.Cells.follows g.C.Cells.state g.met.C.Cells.follows_refl g.met.C.Cells.follows_trans in
    let now = c.args.cells.now in
    let end = c.get.new.cells in
    let former = c.in_ok-former.former in
    let told = c.in_ok-former.ensures.told in
    let left = c.f.new.self in
    ran_read m g.T.WordValue.word_of g.T.WordValue.value_of g.L.Law.may c.args.self.now.cell.addr.0
    (transforms_if_defined (λ f former value left. goal.F-step g f former value left) c.args.self.now.f.now left) _ _ now end false former
    (λ heap operated. (refl, refl, operated))
    (λ heap possible. (refl, refl, inr (former, (None, c.in_default.ensures), told.states.each heap possible)))
    (c.in_default.ensures, refl)
    (subst (λ l. Owing (g.L.Law.lawful l) (g.L.Law.may l) (g.C.Cells.state end)) told.same_law (owing_read m g.L.Law.may now end (Holds g.T.WordValue.value_of c.args.self.now.cell.addr.0 former) told c.requires.owes))
    told
