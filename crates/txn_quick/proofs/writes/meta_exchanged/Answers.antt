use Rattle.stm_core.specs.Running.{base}
use Rattle.txn_quick.proofs.Steps.{none_due_so}
use Rattle.txn_quick.proofs.Writing.{exchange_goes_on, taken_so}
use Rattle.txn_quick.specs.Writing.{owner_loaded}
use Rattle.txn_quick.proofs.writes.meta_exchanged.Goals as goal

pub take-requires-clause-going : goal.take-requires-clause-going
take-requires-clause-going c =
    let write = c.args.write in
    exchange_goes_on c.args.running.now write.addr write.value c.args.found.0 c.meta_loaded-op.result c.requires.exchanges (c.meta_loaded-op.ensures.loaded write.value)

pub returns : goal.returns
returns c =
    let r = c.args.running.now in
    let write = c.args.write in
    let due = none_due_so r c.requires.free.nothing_due in
    let made = c.meta_loaded-op.ensures.acquires in
    record {
      exchanged = taken_so c.meta_loaded-op.result c.take.new.self write.value (base r) (owner_loaded r write.addr write.value c.args.found.0) c.args.found.1
          (c.meta_loaded-op.ensures.loaded write.value) (c.take.ensures.after (base r) write.value due made.made_for);
      acquires = record {
        made_for = c.take.ensures.same (base r) made.made_for;
        within = c.take.ensures.within;
        unwritten = rw c.take.ensures.cell made.unwritten;
        room = made.room;
      };
    }
