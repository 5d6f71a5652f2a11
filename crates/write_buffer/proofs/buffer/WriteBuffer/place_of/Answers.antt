use Rattle.std.proofs.Common.{◌<◌, length, arith}
use Rattle.std.specs.Map.{keys_of}
use Rattle.std.proofs.lemmas.Map.Entries.{length-keys_of}
use Rattle.cell_index.proofs.Beside.{has_all}
use Rattle.write_buffer.specs.Indexed.{IsPlace}
use Rattle.write_buffer.proofs.Places.{again_in_place, place_by_cells, written_by_place}
use Rattle.write_buffer.proofs.buffer.WriteBuffer.place_of.Goals as goal

among_many : (c : goal.After-find) → IsPlace c.self.inside.writes.items c.args.addr.0 c.find.result
among_many c =
    let many : 32 < length (keys_of c.self.inside.writes.items) = rw (length-keys_of c.self.inside.writes.items) (omega arith) in
    let all = has_all _ _ c.self.invariant.cells many in
    place_by_cells _ c.args.addr.0 c.find.result (rw all at c.find.ensures)

pub returns-then-len-gt-SMALL-clause-place : goal.returns-then-len-gt-SMALL-clause-place
returns-then-len-gt-SMALL-clause-place c = rw (← c.self.view_is) (among_many c)

pub returns-then-len-gt-SMALL-clause-written : goal.returns-then-len-gt-SMALL-clause-written
returns-then-len-gt-SMALL-clause-written c = rw (← c.self.view_is) (written_by_place _ c.args.addr.0 c.find.result (among_many c))

pub returns-then-len-gt-SMALL-clause-again : goal.returns-then-len-gt-SMALL-clause-again
returns-then-len-gt-SMALL-clause-again c = rw (← c.self.view_is) (again_in_place _ c.args.addr.0 c.find.result c.self.invariant.apart (among_many c))

pub returns-else-len-gt-SMALL-clause-written : goal.returns-else-len-gt-SMALL-clause-written
returns-else-len-gt-SMALL-clause-written c = rw (← c.self.view_is) (written_by_place _ c.args.addr.0 c.place_along.result (rw c.as_slice.ensures.value at c.place_along.ensures))

pub returns-else-len-gt-SMALL-clause-again : goal.returns-else-len-gt-SMALL-clause-again
returns-else-len-gt-SMALL-clause-again c = rw (← c.self.view_is) (again_in_place _ c.args.addr.0 c.place_along.result c.self.invariant.apart (rw c.as_slice.ensures.value at c.place_along.ensures))
