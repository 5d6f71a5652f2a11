use Rattle.ref_table.specs.Seats.{terms_in}
use Rattle.stm_core.specs.Running.{base, shown}
use Rattle.stm_model.specs.World.{cells_in}
use Rattle.txn_quick.proofs.Writing.{acquiring_pays}
use Rattle.txn_quick.proofs.writes.hand_on.Goals as goal

pub go_on-requires-clause-pays : goal.go_on-requires-clause-pays
go_on-requires-clause-pays g c =
    let stm = c.args.stm.now in
    acquiring_pays (g.L.Law.lawful stm.law) (g.L.Law.may stm.law) (cells_in (terms_in stm)) c.args.op c.args.value (base c.args.running.now) (shown c.put_acquire.new.self) c.put_acquire.ensures.becomes.shows
