use Rattle.std.proofs.Common.{sym}
use Rattle.op_commit.specs.Acquire.{acquiring}
use Rattle.ref_table.specs.Seats.{terms_in}
use Rattle.stm_core.specs.Running.{base}
use Rattle.txn_drive.proofs.Stepped.{accessed}
use Rattle.txn_quick.proofs.Steps.{none_due_so}
use Rattle.txn_quick.proofs.Writing.{acquiring_same, may_write}
use Rattle.txn_quick.proofs.writes.step.Goals as goal

pub perform-found-requires : goal.perform-found-requires
perform-found-requires g c =
    let stm = c.args.stm.now in
    let able = may_write (g.L.Law.lawful stm.law) (g.L.Law.may stm.law) (terms_in stm) c.args.seat.now (base c.args.running.now) c.args.op.now c.args.value c.args.access c.requires.on c.requires.comes in
    record { own = c.requires.own; word = able.word; may = record { comes = able.comes; is_next = able.is_next; owes = able.owes } }

pub returns : goal.returns
returns g c =
    let stm = c.args.stm.now in
    let lawful = g.L.Law.lawful stm.law in
    let may = g.L.Law.may stm.law in
    let t = base c.args.running.now in
    let value = c.args.value in
    let op = c.args.op.now in
    let here = c.requires.writes in
    let able = may_write lawful may (terms_in stm) c.args.seat.now t op value c.args.access c.requires.on c.requires.comes in
    let finds = sym (c.take.ensures.after t value (none_due_so c.args.running.now here.nothing_due) here.acquires.made_for) in
    let made = c.perform-found.ensures in
    record {
      access = c.args.access;
      comes = c.requires.comes;
      accesses = accessed lawful may (terms_in stm) c.args.seat.now c.perform-found.new.self (acquiring op value t) (acquiring c.take.new.self value t) c.args.access c.perform-found.result
          able made.same made.steps made.performs made.safe finds (acquiring_same op c.take.new.self value t);
      finds = finds;
      acquires = record {
        made_for = c.take.ensures.same t here.acquires.made_for;
        within = c.take.ensures.within;
        unwritten = rw c.take.ensures.cell here.acquires.unwritten;
        room = here.acquires.room;
      };
      cell = c.take.ensures.cell;
    }
