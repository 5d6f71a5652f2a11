use Rattle.stm_core.specs.Running.{base}
use Rattle.stm_model.specs.After.{after_word}
use Rattle.txn_quick.proofs.Reading.{taken_so, value_taken}
use Rattle.txn_quick.proofs.Steps.{none_due_so}
use Rattle.txn_quick.specs.Reads.{meta_loaded}
use Rattle.txn_quick.proofs.reads.cell_found.Goals as goal

pub take-requires-2 : goal.take-requires-2
take-requires-2 c =
    let r = c.args.running.now in
    let due = none_due_so r c.requires.free.nothing_due in
    let made = c.meta_found-op.ensures in
    value_taken r c.args.addr c.args.found.0 c.args.found.1 c.take.new.self c.requires.loads due
    (taken_so c.meta_found-op.result c.take.new.self (base r) (meta_loaded r c.args.addr c.args.found.0) c.args.found.1 made.loaded (c.take.ensures.after (base r) due made.reads.made_for))

pub returns : goal.returns
returns c =
    let r = c.args.running.now in
    let due = none_due_so r c.requires.free.nothing_due in
    let made = c.meta_found-op.ensures in
    let here = meta_loaded r c.args.addr c.args.found.0 in
    let then = c.take.ensures.same (base r) made.reads.made_for in
    let value = taken_so c.meta_found-op.result c.take.new.self (base r) here c.args.found.1 made.loaded (c.take.ensures.after (base r) due made.reads.made_for) in
    record {
      loaded = taken_so c.take.new.self c.take-2.new.self (base r) (after_word here c.args.found.1) c.args.found.2 value (c.take-2.ensures.after (base r) due then);
      reads = record { made_for = c.take-2.ensures.same (base r) then; room = rw (c.take-2.ensures.cell, c.take.ensures.cell) made.reads.room };
    }
