use Rattle.std.proofs.Common.{◌≡◌}
use Rattle.ref_table.specs.Keyed.{ConfirmsIn}
use Rattle.ref_table.proofs.stm.Stm.confirm.Given as goal

abbrev pub ghosts-step : goal.ghosts-step
ghosts-step g a = record { told = λ found before after. (after ≡ before) × ConfirmsIn g.L.Law.lawful g.L.Law.may a.self.now a.self.now.table after }
