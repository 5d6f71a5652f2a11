use Rattle.std.proofs.Common.{length, refl, sym, ap, subst, ◌∙◌, ◌+◌}
use Rattle.ref_table.specs.Limits.{TableFits}
use Rattle.ref_table.specs.Seats.{terms_in}
use Rattle.stm_model.specs.Attempt.{Attempt}
use Rattle.txn_drive.proofs.Beginning.{has_begun, may_announce, unbegun_so}
use Rattle.txn_drive.specs.Begun.{IsBegun, unbegun}
use Rattle.txn_drive.specs.Opening.{Opens, opened}
use Rattle.txn_drive.proofs.opening.begin.Goals as goal

pub make_accesses-prefix-requires-clause-able : goal.make_accesses-prefix-requires-clause-able
make_accesses-prefix-requires-clause-able g c =
    let stm = c.args.stm.now in
    let seat = c.args.seat.now in
    may_announce (g.L.Law.lawful stm.law) (g.L.Law.may stm.law) (terms_in stm) stm.settings refl seat c.requires.safe (length stm.opening)
    (unbegun c.number-own.result (c.serial-serial.result + 1) c.settings-settings.result) (subst (TableFits (length stm.opening)) c.settings-settings.ensures.settings c.settings-settings.ensures.fits)
    c.requires.over c.requires.attempts
    (unbegun_so seat.number c.number-own.result c.serial-serial.result seat.view.attempt.serial stm.settings c.settings-settings.result c.number-own.ensures c.serial-serial.ensures c.settings-settings.ensures.settings)

pub returns-clause-begun : goal.returns-clause-begun
returns-clause-begun g c =
    let stm = c.args.stm.now in
    let seat = c.args.seat.now in
    let lawful = g.L.Law.lawful stm.law in
    let may = g.L.Law.may stm.law in
    let made = c.make_accesses-prefix in
    let is = unbegun_so seat.number c.number-own.result c.serial-serial.result seat.view.attempt.serial stm.settings c.settings-settings.result c.number-own.ensures c.serial-serial.ensures c.settings-settings.ensures.settings in
    subst (IsBegun lawful may (terms_in stm) stm.settings seat made.new.seat) (sym (c.begun.ensures.shown ∙ ap (λ (t : Attempt). opened t made.result) is))
    (has_begun lawful may (terms_in stm) stm.settings refl seat c.requires.safe made.new.seat made.result
    (subst (λ (t : Attempt). Opens lawful may (terms_in stm) seat t made.new.seat made.result) is made.ensures.opens))
