use Rattle.stm_model.proofs.TellingLemmas.{moments}
use Rattle.ref_views.proofs.Calling.{own_written}
use Rattle.ref_views.proofs.Holding.{holds_there, keeps_written, wrote_puts}
use Rattle.ref_views.proofs.reference.Ref.set.Goals as goal

pub returns-clause-told : goal.returns-clause-told
returns-clause-told g c =
    let m = moments g.L.Law.lawful g.C.Cells.law g.C.Cells.follows g.C.Cells.state g.met.C.Cells.follows_refl g.met.C.Cells.follows_trans in
    wrote_puts m g.T.WordValue.value_of g.T.WordValue.word_of _ _ c.args.self.now.addr.0 c.to_word.result c.args.value c.requires
    c.to_word.ensures.word c.to_word.ensures.comes_back c.in_ok-set.ensures

pub returns-clause-own : goal.returns-clause-own
returns-clause-own g c =
    let m = moments g.L.Law.lawful g.C.Cells.law g.C.Cells.follows g.C.Cells.state g.met.C.Cells.follows_refl g.met.C.Cells.follows_trans in
    own_written m _ _ c.args.self.now.addr.0 c.to_word.result c.in_ok-set.ensures

pub returns-clause-typed : goal.returns-clause-typed
returns-clause-typed g c =
    let m = moments g.L.Law.lawful g.C.Cells.law g.C.Cells.follows g.C.Cells.state g.met.C.Cells.follows_refl g.met.C.Cells.follows_trans in
    holds_there m g.T.WordValue.value_of _ _ c.args.self.now.addr.0 c.to_word.result c.args.value c.requires c.to_word.ensures.comes_back c.in_ok-set.ensures

pub returns-clause-kept : goal.returns-clause-kept
returns-clause-kept g c =
    let m = moments g.L.Law.lawful g.C.Cells.law g.C.Cells.follows g.C.Cells.state g.met.C.Cells.follows_refl g.met.C.Cells.follows_trans in
    keeps_written m g.T.WordValue.value_of _ _ c.args.self.now.addr.0 c.to_word.result c.args.value c.to_word.ensures.comes_back c.in_ok-set.ensures
    (returns-clause-own g c)
