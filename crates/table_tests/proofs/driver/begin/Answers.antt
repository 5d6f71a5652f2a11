use Rattle.std.proofs.Common.{ℕ, ◌+◌, ◌<◌, ◌≤◌, ap, arith}
use Rattle.meta_word.specs.declared.status.TheConstants.{MAX_SERIAL}
use Rattle.ref_table.specs.Seats.{terms_in}
use Rattle.stm_model.specs.declared.settings.Settings.{Settings}
use Rattle.table_tests.proofs.Driven.{on_begun}
use Rattle.table_tests.proofs.driver.begin.Goals as goal

pub settle-requires-clause-is_on : goal.settle-requires-clause-is_on
settle-requires-clause-is_on g c =
    let below : c.serial-serial.result < c.settings-settings.result.attempts = search in
    let room : c.serial-serial.result + 1 ≤ c.settings-settings.result.attempts = omega (arith, below) in
    let most : c.settings-settings.result.attempts ≤ MAX_SERIAL = search in
    on_begun (terms_in c.args.stm.now) c.args.seat.now c.begin-attempt.result.attempt _ (c.serial-serial.result + 1) c.settings-settings.result c.requires.rests c.number-number.ensures (ap (λ (n : ℕ). n + 1) c.serial-serial.ensures)
    c.begin-attempt.ensures.begins (ap (λ (s : Settings). s.clock) c.settings-settings.ensures.settings) room most
