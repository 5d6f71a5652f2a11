use Rattle.std.proofs.Common.{subst, inl}
use Rattle.ref_table.specs.Seats.{terms_in}
use Rattle.stm_core.proofs.Shown.{nothing_due_so}
use Rattle.stm_core.specs.Running.{shown}
use Rattle.stm_model.specs.Attempt.{Attempt}
use Rattle.stm_model.specs.declared.access.Ask.TheVariants.{Get}
use Rattle.txn_drive.proofs.Asking.{put_so}
use Rattle.txn_drive.proofs.Onward.{continues_on}
use Rattle.txn_drive.specs.Moment.{moment}
use Rattle.txn_drive.specs.Paying.{IsLed}
use Rattle.txn_quick.proofs.Asked.{first_asked}
use Rattle.txn_quick.specs.Reads.{to_read}
use Rattle.txn_quick.proofs.reads.get.Goals as goal

pub tell_known-requires-clause-free : goal.tell_known-requires-clause-free
tell_known-requires-clause-free g c = record { fits = c.requires.sound.fits; nothing_due = nothing_due_so c.args.running.now c.requires.sound c.requires.waits.nothing_due }

pub first_read-requires-clause-free : goal.first_read-requires-clause-free
first_read-requires-clause-free g c = record { fits = c.requires.sound.fits; nothing_due = nothing_due_so c.args.running.now c.requires.sound c.requires.waits.nothing_due }

pub first_read-requires-clause-on : goal.first_read-requires-clause-on
first_read-requires-clause-on g c =
    let stm = c.args.stm.now in
    let r = c.args.running.now in
    (put_so (g.L.Law.lawful stm.law) (g.L.Law.may stm.law) (terms_in stm) c.args.seat.now (g.H.Hooks.runs c.args.hooks.now) (g.R.Bell.rings c.args.bell.now) (shown r) (to_read r c.args.addr)
    c.requires.on c.requires.waits (Get c.args.addr) c.requires.may (λ is. absurd (cc is)) (inl (first_asked r c.args.addr c.in-Unread.ensures))).on

pub returns-in-Known-clause-continues : goal.returns-in-Known-clause-continues
returns-in-Known-clause-continues g c =
    let stm = c.args.stm.now in
    (put_so (g.L.Law.lawful stm.law) (g.L.Law.may stm.law) (terms_in stm) c.args.seat.now (g.H.Hooks.runs c.args.hooks.now) (g.R.Bell.rings c.args.bell.now) (shown c.args.running.now) (shown c.tell_known.new.running)
    c.requires.on c.requires.waits (Get c.args.addr) c.requires.may (λ is. absurd (cc is)) (inl c.tell_known.ensures.takes)).continues

pub returns-in-Known-clause-on : goal.returns-in-Known-clause-on
returns-in-Known-clause-on g c =
    let stm = c.args.stm.now in
    (put_so (g.L.Law.lawful stm.law) (g.L.Law.may stm.law) (terms_in stm) c.args.seat.now (g.H.Hooks.runs c.args.hooks.now) (g.R.Bell.rings c.args.bell.now) (shown c.args.running.now) (shown c.tell_known.new.running)
    c.requires.on c.requires.waits (Get c.args.addr) c.requires.may (λ is. absurd (cc is)) (inl c.tell_known.ensures.takes)).on

pub returns-in-Unread-clause-asked : goal.returns-in-Unread-clause-asked
returns-in-Unread-clause-asked g c =
    inl (subst (λ (t : Attempt). IsLed t (shown c.first_read.new.running)) (first_asked c.args.running.now c.args.addr c.in-Unread.ensures) c.first_read.ensures.gone.goes.led)

pub returns-in-Unread-clause-continues : goal.returns-in-Unread-clause-continues
returns-in-Unread-clause-continues g c =
    let stm = c.args.stm.now in
    let r = c.args.running.now in
    let runs = g.H.Hooks.runs c.args.hooks.now in
    let rings = g.R.Bell.rings c.args.bell.now in
    let put = put_so (g.L.Law.lawful stm.law) (g.L.Law.may stm.law) (terms_in stm) c.args.seat.now runs rings (shown r) (to_read r c.args.addr)
    c.requires.on c.requires.waits (Get c.args.addr) c.requires.may (λ is. absurd (cc is)) (inl (first_asked r c.args.addr c.in-Unread.ensures)) in
    continues_on (moment c.args.seat.now (shown r) runs rings) (moment c.args.seat.now (to_read r c.args.addr) runs rings)
    (moment c.first_read.new.seat (shown c.first_read.new.running) (g.H.Hooks.runs c.first_read.new.hooks) (g.R.Bell.rings c.first_read.new.bell))
    put.continues c.first_read.ensures.gone.goes.continues
