use Rattle.stm_core.specs.Running.{base}
use Rattle.txn_quick.proofs.Reading.{taken_so}
use Rattle.txn_quick.proofs.Steps.{none_due_so}
use Rattle.txn_quick.proofs.reads.meta_found.Goals as goal

pub returns : goal.returns
returns c =
    let r = c.args.running.now in
    let begun = c.read_of-op.ensures in
    let made = begun.under_way.reads in
    let due = none_due_so r c.requires.free.nothing_due in
    record {
      loaded = taken_so c.read_of-op.result c.take.new.self (base r) _ c.args.first begun.begins (c.take.ensures.after (base r) due made.made_for);
      reads = record { made_for = c.take.ensures.same (base r) made.made_for; room = rw c.take.ensures.cell made.room };
    }
