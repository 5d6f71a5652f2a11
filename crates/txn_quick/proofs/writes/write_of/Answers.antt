use Rattle.std.proofs.Common.{refl, sym}
use Rattle.stm_core.specs.Running.{base}
use Rattle.txn_quick.proofs.writes.write_of.Goals as goal

pub returns-clause-writes : goal.returns-clause-writes
returns-clause-writes c = record {
  acquires = record {
    made_for = c.new.ensures.for_attempt (base c.args.running.now) refl refl (sym c.noted_version-noted.ensures);
    within = c.new.ensures.within;
    unwritten = rw c.new.ensures.cell c.requires.room.unwritten;
    room = c.requires.room.room;
  };
  going = c.new.ensures.going;
  nothing_due = c.requires.free.nothing_due;
}
