use Rattle.std.proofs.Common.{length}
use Rattle.op_commit.specs.Commit.{accesses_left}
use Rattle.ref_table.specs.Seats.{terms_in}
use Rattle.txn_quick.specs.Committing.{CommitsOn}
use Rattle.txn_quick.proofs.commits.go_through.Given as goal

abbrev pub invariant-loop-op : goal.invariant-loop-op
invariant-loop-op g l =
    let stm = l.fn.stm in
    CommitsOn (g.L.Law.lawful stm.law) (g.L.Law.may stm.law) (terms_in stm) l.running l.fn.seat l.fn.op l.seat l.op

abbrev pub decreases-loop-op : goal.decreases-loop-op
decreases-loop-op g l = accesses_left l.op (length l.running.footprint.reads.notes)
