use Rattle.std.proofs.Common.{◌≡◌, ◌≤◌, ℕ, List, length, take, ap, sym, ◌∙◌, arith}
use Rattle.std.specs.Map.{keys_of}
use Rattle.std.proofs.lemmas.List.{take_all}
use Rattle.cell_index.specs.Cells.{Cells}
use Rattle.cell_index.proofs.Room.{keys_take}
use Rattle.cell_index.proofs.index.CellIndex.truncate.Goals as goal

pub returns-clause-addresses : goal.returns-clause-addresses
returns-clause-addresses c =
    let all : length c.loop-self.self-inside.entries.items ≤ c.args.count = omega arith in
    let kept : c.loop-self.self-inside.entries.items ≡ take c.args.count c.self.inside.entries.items =
    sym (take_all c.args.count c.loop-self.self-inside.entries.items all) ∙ c.loop-self.invariant.kept in
    ap (λ (entries : List (ℕ × ℕ)). keys_of entries) kept
    ∙ keys_take c.args.count c.self.inside.entries.items
    ∙ ap (λ (i : Cells). take c.args.count i.addresses) c.self.view_is
