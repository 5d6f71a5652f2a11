use Rattle.std.proofs.Common.{◌≡◌, ◌≢◌, false, refl, rules, subst, true}
use Rattle.stm_model.specs.Telling.{Owing}
use Rattle.stm_model.proofs.TellingLemmas.{moments, owing_lawful, owing_read}
use Rattle.ref_views.specs.Operating.{compares}
use Rattle.ref_views.specs.Typed.{Holds}
use Rattle.ref_views.proofs.Calling.{own_then}
use Rattle.ref_views.proofs.Holding.{wrote_replaces}
use Rattle.ref_views.proofs.LawfulCells.{holds_lawful}
use Rattle.ref_views.proofs.OneOperation.{other_value, ran_put, ran_read, same_value}
use Rattle.ref_views.proofs.operations.ComparingBody.run.Goals as goal

pub get-requires : goal.get-requires
get-requires g c =
    holds_lawful g.T.WordValue.value_of _ _ (g.C.Cells.state c.args.cells.now) c.requires.fits.0 (g.met.C.Cells.words c.args.cells.now) (owing_lawful _ (g.L.Law.may (g.C.Cells.law c.args.cells.now)) (g.C.Cells.state c.args.cells.now) c.requires.owes)

pub returns-then-to_word-clause-ran : goal.returns-then-to_word-clause-ran
returns-then-to_word-clause-ran g c =
    let m = moments g.L.Law.lawful g.C.Cells.law g.C.Cells.follows g.C.Cells.state g.met.C.Cells.follows_refl g.met.C.Cells.follows_trans in
    let now = c.args.cells.now in
    let end = c.get.new.cells in
    let apart : c.to_word.result ≢ c.to_word-2.result = search rules in
    ran_read m g.T.WordValue.word_of g.T.WordValue.value_of g.L.Law.may c.args.self.now.cell.addr.0 (compares c.args.self.now.old c.args.self.now.new) _ _ now end false c.in_ok-former.former
    (λ heap operated. (refl, operated)) (λ heap possible. refl)
    (other_value g.T.WordValue.word_of c.to_word.result c.to_word-2.result _ _ c.to_word.ensures.word c.to_word-2.ensures.word apart, refl)
    (subst (λ l. Owing (g.L.Law.lawful l) (g.L.Law.may l) (g.C.Cells.state end)) c.in_ok-former.ensures.told.same_law (owing_read m g.L.Law.may now end (Holds g.T.WordValue.value_of c.args.self.now.cell.addr.0 c.in_ok-former.former) c.in_ok-former.ensures.told c.requires.owes))
    c.in_ok-former.ensures.told

pub returns-clause-ran : goal.returns-clause-ran
returns-clause-ran g c =
    let m = moments g.L.Law.lawful g.C.Cells.law g.C.Cells.follows g.C.Cells.state g.met.C.Cells.follows_refl g.met.C.Cells.follows_trans in
    let is : c.to_word.result ≡ c.to_word-2.result = search rules in
    let same = same_value g.T.WordValue.value_of c.to_word.result c.to_word-2.result c.in_ok-former.former c.args.self.now.old c.to_word.ensures.comes_back c.to_word-2.ensures.comes_back is in
    ran_put m g.L.Law.may g.L.Law.may_trans g.T.WordValue.word_of g.T.WordValue.value_of c.args.self.now.cell.addr.0 (compares c.args.self.now.old c.args.self.now.new) c.args.cells.now c.set.new.cells true true c.args.self.now.new
    _ _ _ c.requires.fits.0.within (λ heap possible replaced. (c.in_ok-former.former, replaced.0, (same, refl), replaced.1))
    (λ heap operated. (refl, operated)) (λ heap possible. refl) c.requires.fits.1 c.requires.owes
    (own_then m _ _ _ c.args.self.now.cell.addr.0 true c.in_ok-former.ensures.own c.in_ok-set.ensures.own)
    (wrote_replaces m g.T.WordValue.value_of g.T.WordValue.word_of _ _ _ c.args.self.now.cell.addr.0 c.in_ok-former.former c.args.self.now.new c.in_ok-former.ensures.told c.in_ok-set.ensures.told)
