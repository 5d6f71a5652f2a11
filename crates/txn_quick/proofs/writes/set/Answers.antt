use Rattle.std.proofs.Common.{subst, inl}
use Rattle.ref_table.specs.Seats.{terms_in}
use Rattle.stm_core.proofs.Shown.{nothing_due_so}
use Rattle.stm_core.specs.Running.{shown}
use Rattle.stm_model.specs.Attempt.{Attempt}
use Rattle.stm_model.specs.declared.access.Ask.TheVariants.{Set}
use Rattle.txn_drive.proofs.Asking.{put_so}
use Rattle.txn_drive.proofs.Onward.{continues_on}
use Rattle.txn_drive.specs.Moment.{moment}
use Rattle.txn_drive.specs.Paying.{IsLed}
use Rattle.txn_quick.proofs.Writing.{write_asked}
use Rattle.txn_quick.specs.Writing.{to_write}
use Rattle.txn_quick.proofs.writes.set.Goals as goal

pub first_write-requires-clause-free : goal.first_write-requires-clause-free
first_write-requires-clause-free g c = record { fits = c.requires.sound.fits; nothing_due = nothing_due_so c.args.running.now c.requires.sound c.requires.waits.nothing_due }

pub first_write-requires-clause-on : goal.first_write-requires-clause-on
first_write-requires-clause-on g c =
    let stm = c.args.stm.now in
    let r = c.args.running.now in
    (put_so (g.L.Law.lawful stm.law) (g.L.Law.may stm.law) (terms_in stm) c.args.seat.now (g.H.Hooks.runs c.args.hooks.now) (g.R.Bell.rings c.args.bell.now) (shown r) (to_write r c.args.addr c.args.value)
    c.requires.on c.requires.waits (Set c.args.addr c.args.value) c.requires.may (λ is. absurd (cc is)) (inl (write_asked r c.args.addr c.args.value (c.is_first_write.ensures c.if-is_first_write.true)))).on

pub returns-then-is_first_write-clause-asked : goal.returns-then-is_first_write-clause-asked
returns-then-is_first_write-clause-asked g c =
    inl (subst (λ (t : Attempt). IsLed t (shown c.first_write.new.running)) (write_asked c.args.running.now c.args.addr c.args.value (c.is_first_write.ensures c.if-is_first_write.true)) c.first_write.ensures.gone.goes.led)

pub returns-then-is_first_write-clause-continues : goal.returns-then-is_first_write-clause-continues
returns-then-is_first_write-clause-continues g c =
    let stm = c.args.stm.now in
    let r = c.args.running.now in
    let runs = g.H.Hooks.runs c.args.hooks.now in
    let rings = g.R.Bell.rings c.args.bell.now in
    let here = to_write r c.args.addr c.args.value in
    let put = put_so (g.L.Law.lawful stm.law) (g.L.Law.may stm.law) (terms_in stm) c.args.seat.now runs rings (shown r) here
    c.requires.on c.requires.waits (Set c.args.addr c.args.value) c.requires.may (λ is. absurd (cc is)) (inl (write_asked r c.args.addr c.args.value (c.is_first_write.ensures c.if-is_first_write.true))) in
    continues_on (moment c.args.seat.now (shown r) runs rings) (moment c.args.seat.now here runs rings)
    (moment c.first_write.new.seat (shown c.first_write.new.running) (g.H.Hooks.runs c.first_write.new.hooks) (g.R.Bell.rings c.first_write.new.bell))
    put.continues c.first_write.ensures.gone.goes.continues
