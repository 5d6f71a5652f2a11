use Rattle.std.proofs.Common.{◌≡◌, ◌<◌, ◌++◌, ◌∷◌, [], ℕ, List, length, map, ap, sym, ◌∙◌, arith}
use Rattle.std.specs.List.{range_with_len}
use Rattle.std.proofs.lemmas.List.FromFn.{map-range_with_len_more}
use Rattle.host_trace.proofs.References.{of_table, value_there}
use Rattle.host_trace.proofs.listing.refs_in.Goals as goal

pub loop-cell-preserved : goal.loop-cell-preserved
loop-cell-preserved c = λ w shows.
    let cell = c.loop-cell.cell in
    let simulation = c.args.simulation.now in
    let less : cell < length simulation.opening = omega (arith, c.requires, c.loop-cell-test.true) in
    let value : c.in-Some.value ≡ w.value cell =
    let found = c.in-Some.ensures.stands (of_table simulation cell less) in
    let there = value_there simulation w shows cell in
    cc in
    c.in_ok-push-in-Some.ensures.ok ∙ ap (λ (list : List ℕ). list ++ c.in-Some.value ∷ []) (c.loop-cell.invariant w shows) ∙ ap (λ (n : ℕ). map (λ cell. w.value cell) (range_with_len 0 cell) ++ n ∷ []) value
    ∙ sym (map-range_with_len_more (λ cell. w.value cell) 0 cell cell (omega arith))
