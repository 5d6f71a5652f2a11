use Rattle.std.proofs.Common.{refl}
use Rattle.stm_core.specs.Running.{base}
use Rattle.txn_quick.proofs.reads.read_of.Goals as goal

pub returns-clause-under_way : goal.returns-clause-under_way
returns-clause-under_way c = record {
  reads = record { made_for = c.new.ensures.for_attempt (base c.args.running.now) refl refl; room = rw c.new.ensures.cell c.requires.room };
  going = c.new.ensures.going;
  nothing_due = c.requires.free.nothing_due;
}
