use Rattle.std.proofs.Common.{sym}
use Rattle.op_commit.proofs.Buffered.{drop-note}
use Rattle.op_commit.proofs.Registers.{sets}
use Rattle.op_commit.proofs.register.RegisterOp.next.Goals as goal

pub returns-in-Note : goal.returns-in-Note
returns-in-Note g c =
    let notes = g.N.Notes.notes c.args.notes.now in
    rw c.in-Note.is (sym (sets notes c.in-Note.index c.at.result (drop-note notes c.in-Note.index c.at.result c.at.ensures)))
