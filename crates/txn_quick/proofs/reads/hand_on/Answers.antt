use Rattle.ref_table.specs.Seats.{terms_in}
use Rattle.stm_core.specs.Running.{base, shown}
use Rattle.stm_model.specs.World.{cells_in}
use Rattle.txn_quick.proofs.Reading.{reading_pays}
use Rattle.txn_quick.proofs.reads.hand_on.Goals as goal

pub go_on-requires-clause-pays : goal.go_on-requires-clause-pays
go_on-requires-clause-pays g c =
    let stm = c.args.stm.now in
    reading_pays (g.L.Law.lawful stm.law) (g.L.Law.may stm.law) (cells_in (terms_in stm)) c.args.op (base c.args.running.now) (shown c.put_read.new.self) c.put_read.ensures.becomes.shows
