use Rattle.std.proofs.Common.{refl, sym, ◌∙◌}
use Rattle.op_read.specs.Read.{reading}
use Rattle.ref_table.specs.Seats.{terms_in}
use Rattle.stm_core.specs.Running.{base}
use Rattle.txn_drive.proofs.Stepped.{accessed}
use Rattle.txn_quick.proofs.Reading.{makes_access, may_read, reading_same}
use Rattle.txn_quick.proofs.Steps.{none_due_so}
use Rattle.txn_quick.proofs.reads.step.Goals as goal

pub unreachable-requires : goal.unreachable-requires
unreachable-requires g c =
    let r = c.args.running.now in
    let here = c.requires.under_way in
    makes_access r c.args.op.now here (sym (c.next.ensures.access (rw here.going refl) (base r) (none_due_so r here.nothing_due)) ∙ c.in_default.is)

pub perform-found-requires : goal.perform-found-requires
perform-found-requires g c =
    let stm = c.args.stm.now in
    let r = c.args.running.now in
    let here = c.requires.under_way in
    let comes = sym (c.next.ensures.access (rw here.going refl) (base r) (none_due_so r here.nothing_due)) ∙ c.in-Some.is in
    let able = may_read (g.L.Law.lawful stm.law) (g.L.Law.may stm.law) (terms_in stm) c.args.seat.now (base r) c.args.op.now c.in-Some.access c.requires.on comes in
    record { own = c.requires.own; word = able.word; may = record { comes = able.comes; is_next = able.is_next; owes = able.owes } }

pub returns : goal.returns
returns g c =
    let stm = c.args.stm.now in
    let lawful = g.L.Law.lawful stm.law in
    let may = g.L.Law.may stm.law in
    let r = c.args.running.now in
    let here = c.requires.under_way in
    let due = none_due_so r here.nothing_due in
    let comes = sym (c.next.ensures.access (rw here.going refl) (base r) due) ∙ c.in-Some.is in
    let able = may_read lawful may (terms_in stm) c.args.seat.now (base r) c.args.op.now c.in-Some.access c.requires.on comes in
    let finds = sym (c.take.ensures.after (base r) due here.reads.made_for) in
    let made = c.perform-found.ensures in
    record {
      accesses = accessed lawful may (terms_in stm) c.args.seat.now c.perform-found.new.self (reading c.args.op.now (base r)) (reading c.take.new.self (base r)) c.in-Some.access c.perform-found.result
          able made.same made.steps made.performs made.safe finds (reading_same c.args.op.now c.take.new.self (base r));
      finds = finds;
      reads = record { made_for = c.take.ensures.same (base r) here.reads.made_for; room = rw c.take.ensures.cell here.reads.room };
      cell = c.take.ensures.cell;
    }
