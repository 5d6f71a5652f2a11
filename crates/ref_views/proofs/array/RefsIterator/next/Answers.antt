use Rattle.std.proofs.Common.{rules, ◌≡◌, suc, ◌+◌, ◌-◌, ◌∷◌, length, sym, ap, ◌∙◌}
use Rattle.std.specs.List.{range_with_len}
use Rattle.ref_views.proofs.Addresses.{addresses-next}
use Rattle.ref_views.proofs.array.RefsIterator.next.Goals as goal

pub returns-clause-steps : goal.returns-clause-steps
returns-clause-steps g c =
    let array = c.self.inside.array in
    let next = c.self.inside.next in
    sym c.self.view_is ∙ (addresses-next array.first.0 next array.len c.in-Ok.ensures.0
    ∙ ap (λ address. address ∷ range_with_len (array.first.0 + (next + 1)) (array.len - (next + 1))) (sym c.in-Ok.ensures.1))

pub returns-clause-goes : goal.returns-clause-goes
returns-clause-goes g c =
    let array = c.self.inside.array in
    let next = c.self.inside.next in
    let left : length c.args.self.now ≡ suc (length (range_with_len (array.first.0 + (next + 1)) (array.len - (next + 1)))) = ap length (returns-clause-steps g c) in
    search rules
