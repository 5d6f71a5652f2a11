use Rattle.ref_table.specs.Keyed.{LearnsIn}
use Rattle.ref_table.specs.Parts.{number_of}
use Rattle.ref_table.proofs.stm.Stm.learn.Given as goal

abbrev pub ghosts-step : goal.ghosts-step
ghosts-step g a = record { told = λ found before after. LearnsIn g.L.Law.lawful g.L.Law.may a.self.now (number_of a.seat.now.me.0.whose) before after }
