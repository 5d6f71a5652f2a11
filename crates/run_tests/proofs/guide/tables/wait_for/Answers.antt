use Rattle.ref_table.specs.Seats.{terms_in}
use Rattle.run_tests.proofs.Pending.{of_cell, sets_cell}
use Rattle.run_tests.proofs.guide.tables.wait_for.Goals as goal

pub perform-requires-clause-word : goal.perform-requires-clause-word
perform-requires-clause-word c = of_cell (terms_in c.args.stm.now) c.args.addr c.requires.cells

pub perform-requires-clause-may : goal.perform-requires-clause-may
perform-requires-clause-may c = record {
  cell = c.args.addr.0;
  in_range = c.requires.cells;
  at_rest = c.requires.begins.over;
  sets = sets_cell c.args.addr;
}
