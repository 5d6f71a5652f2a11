use Rattle.std.proofs.Common.{sym}
use Rattle.op_commit.proofs.Backs.{clears}
use Rattle.op_commit.proofs.back.BackOp.next.Goals as goal

pub returns-in-Cell-clause-access : goal.returns-in-Cell-clause-access
returns-in-Cell-clause-access g c = λ going t nothing backs same.
    rw c.in-Cell.is (sym (clears t c.in-Cell.index c.at.result (rw same at c.at.ensures) c.args.self.now.whole nothing))
