use Rattle.ref_table.specs.Seats.{terms_in}
use Rattle.stm_core.specs.Running.{shown}
use Rattle.stm_model.specs.World.{cells_in}
use Rattle.txn_drive.specs.Moment.{moment}
use Rattle.txn_drive.proofs.Asking.{asked_so, has_open, put_so, refused_rests}
use Rattle.txn_drive.proofs.Onward.{continues_on}
use Rattle.txn_drive.proofs.going.ask.Goals as goal

pub ask-requires-clause-open : goal.ask-requires-clause-open
ask-requires-clause-open g c = has_open (cells_in (terms_in c.args.stm.now)) c.args.running.now c.args.ask c.requires.sound c.requires.may

pub go_on-requires-clause-on : goal.go_on-requires-clause-on
go_on-requires-clause-on g c =
    let stm = c.args.stm.now in
    (put_so (g.L.Law.lawful stm.law) (g.L.Law.may stm.law) (terms_in stm) c.args.seat.now (g.H.Hooks.runs c.args.hooks.now) (g.R.Bell.rings c.args.bell.now) (shown c.args.running.now) (shown c.ask.new.self)
    c.requires.on c.requires.waits c.args.ask c.requires.may c.requires.owes c.ask.ensures.moves).on

pub go_on-requires-clause-pays : goal.go_on-requires-clause-pays
go_on-requires-clause-pays g c =
    let stm = c.args.stm.now in
    (put_so (g.L.Law.lawful stm.law) (g.L.Law.may stm.law) (terms_in stm) c.args.seat.now (g.H.Hooks.runs c.args.hooks.now) (g.R.Bell.rings c.args.bell.now) (shown c.args.running.now) (shown c.ask.new.self)
    c.requires.on c.requires.waits c.args.ask c.requires.may c.requires.owes c.ask.ensures.moves).pays

pub returns-clause-asked : goal.returns-clause-asked
returns-clause-asked g c =
    asked_so (shown c.args.running.now) (shown c.ask.new.self) (shown c.go_on.new.running) c.args.ask c.ask.ensures.moves c.go_on.ensures.goes.led
    (λ refused. refused_rests (shown c.args.running.now) (shown c.ask.new.self) (shown c.go_on.new.running) c.args.ask c.requires.waits refused c.go_on.ensures.goes.led)

pub returns-clause-continues : goal.returns-clause-continues
returns-clause-continues g c =
    let first = moment c.args.seat.now (shown c.args.running.now) (g.H.Hooks.runs c.args.hooks.now) (g.R.Bell.rings c.args.bell.now) in
    let put = moment c.args.seat.now (shown c.ask.new.self) (g.H.Hooks.runs c.args.hooks.now) (g.R.Bell.rings c.args.bell.now) in
    let last = moment c.go_on.new.seat (shown c.go_on.new.running) (g.H.Hooks.runs c.go_on.new.hooks) (g.R.Bell.rings c.go_on.new.bell) in
    let stm = c.args.stm.now in
    continues_on first put last
    (put_so (g.L.Law.lawful stm.law) (g.L.Law.may stm.law) (terms_in stm) c.args.seat.now (g.H.Hooks.runs c.args.hooks.now) (g.R.Bell.rings c.args.bell.now) (shown c.args.running.now) (shown c.ask.new.self)
    c.requires.on c.requires.waits c.args.ask c.requires.may c.requires.owes c.ask.ensures.moves).continues
    c.go_on.ensures.goes.continues
