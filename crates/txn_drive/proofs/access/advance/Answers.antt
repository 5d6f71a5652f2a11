use Rattle.std.proofs.Common.{refl}
use Rattle.ref_table.specs.Seats.{terms_in}
use Rattle.stm_core.proofs.Shown.{same_attempt}
use Rattle.stm_core.specs.Running.{machine_of, shown}
use Rattle.txn_drive.proofs.Stepped.{accessed}
use Rattle.txn_drive.proofs.Taking.{may_take}
use Rattle.txn_drive.proofs.access.advance.Goals as goal

pub take-requires-clause-may : goal.take-requires-clause-may
take-requires-clause-may g c =
    may_take (terms_in c.args.stm.now) (shown c.args.running.now) c.args.access c.perform-found.result c.requires.may.is_next c.requires.may.limit c.perform-found.ensures.fits

pub returns-clause-accesses : goal.returns-clause-accesses
returns-clause-accesses g c =
    let stm = c.args.stm.now in
    let running = c.args.running.now in
    accessed (g.L.Law.lawful stm.law) (g.L.Law.may stm.law) (terms_in stm) c.args.seat.now c.perform-found.new.self (shown running) (shown c.take.new.self) c.args.access c.perform-found.result
    c.requires.may c.perform-found.ensures.same c.perform-found.ensures.steps c.perform-found.ensures.performs c.perform-found.ensures.safe c.take.ensures.shows
    (same_attempt running c.take.new.self (machine_of running) c.requires.sound c.take.ensures.sound refl c.take.ensures.numbers)
