use Rattle.std.proofs.Common.{false, true}
use Rattle.std.proofs.lemmas.Result.{err_from_is_err_and}
use Rattle.stm_model.proofs.TellingLemmas.{moments, stop_then}
use Rattle.ref_views.proofs.Calling.{own_then}
use Rattle.ref_views.proofs.Holding.{keeps_then, wrote_replaces}
use Rattle.ref_views.proofs.reference.Ref.swap.Goals as goal

pub returns-in_err-set-clause-told : goal.returns-in_err-set-clause-told
returns-in_err-set-clause-told g c =
    let m = moments g.L.Law.lawful g.C.Cells.law g.C.Cells.follows g.C.Cells.state g.met.C.Cells.follows_refl g.met.C.Cells.follows_trans in
    let p = err_from_is_err_and c.from_residual-in_err-set.result c.from_residual-in_err-set.ensures.1 in
    rw (p.1, p.2) (stop_then m _ _ _ _ _ c.in_ok-former.ensures.told c.in_err-set.ensures.told)

pub returns-in_err-set-clause-own : goal.returns-in_err-set-clause-own
returns-in_err-set-clause-own g c =
    let m = moments g.L.Law.lawful g.C.Cells.law g.C.Cells.follows g.C.Cells.state g.met.C.Cells.follows_refl g.met.C.Cells.follows_trans in
    let p = err_from_is_err_and c.from_residual-in_err-set.result c.from_residual-in_err-set.ensures.1 in
    rw p.1 (own_then m _ _ _ c.args.self.now.addr.0 false c.in_ok-former.ensures.own c.in_err-set.ensures.own)

pub returns-clause-told : goal.returns-clause-told
returns-clause-told g c =
    let m = moments g.L.Law.lawful g.C.Cells.law g.C.Cells.follows g.C.Cells.state g.met.C.Cells.follows_refl g.met.C.Cells.follows_trans in
    wrote_replaces m g.T.WordValue.value_of g.T.WordValue.word_of _ _ _ c.args.self.now.addr.0 c.in_ok-former.former c.args.value
    c.in_ok-former.ensures.told c.in_ok-set.ensures.told

pub returns-clause-own : goal.returns-clause-own
returns-clause-own g c =
    let m = moments g.L.Law.lawful g.C.Cells.law g.C.Cells.follows g.C.Cells.state g.met.C.Cells.follows_refl g.met.C.Cells.follows_trans in
    own_then m _ _ _ c.args.self.now.addr.0 true c.in_ok-former.ensures.own c.in_ok-set.ensures.own

pub returns-clause-kept : goal.returns-clause-kept
returns-clause-kept g c =
    let m = moments g.L.Law.lawful g.C.Cells.law g.C.Cells.follows g.C.Cells.state g.met.C.Cells.follows_refl g.met.C.Cells.follows_trans in
    keeps_then m g.T.WordValue.value_of _ _ _ c.args.self.now.addr.0 c.in_ok-former.ensures.kept c.in_ok-set.ensures.kept
