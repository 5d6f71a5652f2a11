use Rattle.std.proofs.Common.{subst, sym, true, ◌∙◌}
use Rattle.stm_model.specs.Telling.{Witness}
use Rattle.stm_model.proofs.TellingLemmas.{moments}
use Rattle.ref_views.proofs.Calling.{own_got}
use Rattle.ref_views.proofs.Holding.{keeps_read, some_told}
use Rattle.ref_views.proofs.reference.Ref.get.Goals as goal

pub unreachable-requires : goal.unreachable-requires
unreachable-requires g c =
    let told = c.in_ok-word.ensures in
    some_told g.T.WordValue.value_of _ _ c.in_ok-word.word _ _ c.requires (subst (λ l. ∥ Witness (g.L.Law.lawful l) (g.C.Cells.state c.get.new.self).size (g.C.Cells.state c.get.new.self).reads ∥₁) told.same_law (g.met.C.Cells.witness c.get.new.self)) told.states
    (sym c.from_word.ensures ∙ c.in-None.is)

pub returns-clause-kept : goal.returns-clause-kept
returns-clause-kept g c =
    let m = moments g.L.Law.lawful g.C.Cells.law g.C.Cells.follows g.C.Cells.state g.met.C.Cells.follows_refl g.met.C.Cells.follows_trans in
    keeps_read m _ _ c.args.self.now.addr.0 true (own_got m _ _ _ c.in_ok-word.word c.in_ok-word.ensures)
