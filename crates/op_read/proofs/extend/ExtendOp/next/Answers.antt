use Rattle.std.proofs.Common.{sym}
use Rattle.op_read.proofs.Along.{loads-note}
use Rattle.op_read.proofs.extend.ExtendOp.next.Goals as goal

pub returns-in-ExtendNote-clause-access : goal.returns-in-ExtendNote-clause-access
returns-in-ExtendNote-clause-access g c = λ going t cell left first nothing same.
    rw c.in-ExtendNote.is (sym (loads-note t cell left first c.in-ExtendNote.clock c.in-ExtendNote.index c.at.result (rw same c.at.ensures) nothing))
