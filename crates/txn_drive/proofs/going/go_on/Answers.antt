use Rattle.std.proofs.Common.{sym, ◌∙◌}
use Rattle.ref_table.specs.Seats.{terms_in}
use Rattle.stm_core.specs.Running.{shown}
use Rattle.stm_model.specs.World.{cells_in}
use Rattle.txn_drive.specs.Moment.{moment}
use Rattle.txn_drive.proofs.Here.{may_access}
use Rattle.txn_drive.proofs.Onward.{accessed_goes, goes_on, settles_go, settles_stands}
use Rattle.txn_drive.proofs.Resting.{pays_now, pays_on, rests_so}
use Rattle.txn_drive.proofs.going.go_on.Goals as goal

pub loop-access-init : goal.loop-access-init
loop-access-init g c =
    let stm = c.args.stm.now in
    let lawful = g.L.Law.lawful stm.law in
    let may = g.L.Law.may stm.law in
    let done = c.settle.ensures.settles in
    let t = shown c.args.running.now in
    let u = shown c.settle.new.running in record {
      own = c.requires.own;
      sound = c.settle.ensures.sound;
      on = settles_stands t u _ _ _ _ done lawful may (terms_in stm) c.args.seat.now c.requires.on;
      goes = settles_go t u _ _ _ _ done c.args.seat.now;
      nothing_due = c.settle.ensures.nothing_due;
      pays = pays_on lawful may (cells_in (terms_in stm)) t u done.led c.requires.pays;
    }

pub advance-requires-clause-may : goal.advance-requires-clause-may
advance-requires-clause-may g c =
    let stm = c.args.stm.now in
    let lawful = g.L.Law.lawful stm.law in
    let may = g.L.Law.may stm.law in
    let t = shown c.loop-access.running in
    may_access lawful may (terms_in stm) c.loop-access.seat t c.loop-access.invariant.on c.in-Some.access (sym c.in-Some.ensures)
    (pays_now lawful may (cells_in (terms_in stm)) t c.loop-access.invariant.pays)

pub loop-access-preserved : goal.loop-access-preserved
loop-access-preserved g c =
    let stm = c.args.stm.now in
    let lawful = g.L.Law.lawful stm.law in
    let may = g.L.Law.may stm.law in
    let inv = c.loop-access.invariant in
    let t = shown c.loop-access.running in
    let u = shown c.advance.new.running in
    let v = shown c.settle-in-Some.new.running in
    let made = c.advance.ensures.accesses in
    let done = c.settle-in-Some.ensures.settles in
    let here = accessed_goes lawful may (terms_in stm) c.loop-access.seat c.advance.new.seat t u (g.H.Hooks.runs c.loop-access.hooks) (g.R.Bell.rings c.loop-access.bell) c.in-Some.access made (sym c.in-Some.ensures) in
    let onward = settles_go u v _ _ _ _ done c.advance.new.seat in record {
      own = made.seat.same.table ∙ inv.own;
      sound = c.settle-in-Some.ensures.sound;
      on = settles_stands u v _ _ _ _ done lawful may (terms_in stm) c.advance.new.seat made.on;
      goes = goes_on (moment c.args.seat.now (shown c.args.running.now) (g.H.Hooks.runs c.args.hooks.now) (g.R.Bell.rings c.args.bell.now))
          (moment c.advance.new.seat u (g.H.Hooks.runs c.loop-access.hooks) (g.R.Bell.rings c.loop-access.bell))
          (moment c.advance.new.seat v (g.H.Hooks.runs c.settle-in-Some.new.hooks) (g.R.Bell.rings c.settle-in-Some.new.bell))
          (goes_on (moment c.args.seat.now (shown c.args.running.now) (g.H.Hooks.runs c.args.hooks.now) (g.R.Bell.rings c.args.bell.now))
          (moment c.loop-access.seat t (g.H.Hooks.runs c.loop-access.hooks) (g.R.Bell.rings c.loop-access.bell))
          (moment c.advance.new.seat u (g.H.Hooks.runs c.loop-access.hooks) (g.R.Bell.rings c.loop-access.bell)) inv.goes here) onward;
      nothing_due = c.settle-in-Some.ensures.nothing_due;
      pays = pays_on lawful may (cells_in (terms_in stm)) u v done.led (pays_on lawful may (cells_in (terms_in stm)) t u here.led inv.pays);
    }

pub returns-clause-rests : goal.returns-clause-rests
returns-clause-rests g c = rests_so (shown c.loop-access.running) c.loop-access.invariant.nothing_due (sym c.in_default.ensures)
