use Rattle.std.proofs.Common.{◌≡◌, get_or, set, ap, ◌∙◌}
use Rattle.stm_model.proofs.TellingLemmas.{moments, read_got, wrote_nothing, wrote_set, wrote_then}
use Rattle.plain_cells.proofs.tests.guarded_copy.copy.Goals as goal

pub returns : goal.returns
returns g c =
    let value = c.in_ok-value.value in
    let m = moments g.L.Law.lawful g.C.Cells.law g.C.Cells.follows g.C.Cells.state g.met.C.Cells.follows_refl g.met.C.Cells.follows_trans in
    wrote_then m _ _ _
    (λ before after. (after ≡ before) × (get_or before c.args.from.0 0 ≡ value)) (λ before after. after ≡ set before c.args.into.0 value) _
    (λ first second third same wrote. (wrote ∙ ap (λ words. set words c.args.into.0 value) same.0, same.1))
    (wrote_nothing m _ _ _ (read_got m _ _ c.args.from.0 value c.in_ok-value.ensures))
    (wrote_set m _ _ c.args.into.0 value c.in_ok-set.ensures)
