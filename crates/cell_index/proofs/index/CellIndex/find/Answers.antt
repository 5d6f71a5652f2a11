use Rattle.std.proofs.Common.{ap}
use Rattle.cell_index.specs.Cells.{Cells}
use Rattle.cell_index.proofs.Room.{found_key}
use Rattle.cell_index.proofs.index.CellIndex.find.Goals as goal

pub returns : goal.returns
returns c = found_key _ _ _ c.args.address c.find_along.result c.as_slice-2.ensures.value (ap (λ (i : Cells). i.addresses) c.self.view_is) c.find_along.ensures
