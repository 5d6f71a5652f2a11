use Rattle.ref_table.specs.Seats.{terms_in}
use Rattle.stm_core.specs.Running.{shown}
use Rattle.txn_drive.specs.Moment.{moment}
use Rattle.txn_drive.proofs.Asking.{put_late}
use Rattle.txn_drive.proofs.Onward.{continues_on}
use Rattle.txn_drive.proofs.late.end_late.Goals as goal

pub go_on-requires-clause-on : goal.go_on-requires-clause-on
go_on-requires-clause-on g c =
    let stm = c.args.stm.now in
    (put_late (g.L.Law.lawful stm.law) (g.L.Law.may stm.law) (terms_in stm) c.args.seat.now (g.H.Hooks.runs c.args.hooks.now) (g.R.Bell.rings c.args.bell.now) (shown c.args.running.now) (shown c.end_late.new.self)
    c.requires.on c.requires.waits c.requires.late c.requires.owes c.end_late.ensures.moves).on

pub go_on-requires-clause-pays : goal.go_on-requires-clause-pays
go_on-requires-clause-pays g c =
    let stm = c.args.stm.now in
    (put_late (g.L.Law.lawful stm.law) (g.L.Law.may stm.law) (terms_in stm) c.args.seat.now (g.H.Hooks.runs c.args.hooks.now) (g.R.Bell.rings c.args.bell.now) (shown c.args.running.now) (shown c.end_late.new.self)
    c.requires.on c.requires.waits c.requires.late c.requires.owes c.end_late.ensures.moves).pays

pub returns-clause-continues : goal.returns-clause-continues
returns-clause-continues g c =
    let stm = c.args.stm.now in
    let first = moment c.args.seat.now (shown c.args.running.now) (g.H.Hooks.runs c.args.hooks.now) (g.R.Bell.rings c.args.bell.now) in
    let put = moment c.args.seat.now (shown c.end_late.new.self) (g.H.Hooks.runs c.args.hooks.now) (g.R.Bell.rings c.args.bell.now) in
    let last = moment c.go_on.new.seat (shown c.go_on.new.running) (g.H.Hooks.runs c.go_on.new.hooks) (g.R.Bell.rings c.go_on.new.bell) in
    continues_on first put last
    (put_late (g.L.Law.lawful stm.law) (g.L.Law.may stm.law) (terms_in stm) c.args.seat.now (g.H.Hooks.runs c.args.hooks.now) (g.R.Bell.rings c.args.bell.now) (shown c.args.running.now) (shown c.end_late.new.self)
    c.requires.on c.requires.waits c.requires.late c.requires.owes c.end_late.ensures.moves).continues
    c.go_on.ensures.goes.continues
