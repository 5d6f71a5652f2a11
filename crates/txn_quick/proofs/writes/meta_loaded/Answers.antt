use Rattle.stm_core.specs.Running.{base}
use Rattle.txn_quick.proofs.Steps.{none_due_so}
use Rattle.txn_quick.proofs.Writing.{taken_so}
use Rattle.txn_quick.proofs.writes.meta_loaded.Goals as goal

pub returns : goal.returns
returns c =
    let r = c.args.running.now in
    let begun = c.write_of-op.ensures in
    let made = begun.writes.acquires in
    let due = none_due_so r c.requires.free.nothing_due in
    record {
      loaded = λ value. taken_so c.write_of-op.result c.take.new.self value (base r) _ c.args.first (begun.begins value) (c.take.ensures.after (base r) value due made.made_for);
      acquires = record {
        made_for = c.take.ensures.same (base r) made.made_for;
        within = c.take.ensures.within;
        unwritten = rw c.take.ensures.cell made.unwritten;
        room = made.room;
      };
    }
