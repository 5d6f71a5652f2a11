use Rattle.ref_table.specs.Keyed.{Tells}
use Rattle.ref_table.specs.Parts.{number_of}
use Rattle.ref_table.specs.Seats.{terms_in}
use Rattle.ref_table.proofs.seat.Seat.perform.Given as goal

abbrev pub ghosts-step : goal.ghosts-step
ghosts-step g a = record {
  told = Tells (g.L.Law.lawful a.self.now.law) (g.L.Law.may a.self.now.law) (terms_in a.self.now) a.seat.now.table_id (number_of a.seat.now.me.0.whose) a.access (g.V.Shown.shows a.shown.now);
}
