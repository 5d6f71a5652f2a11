use Rattle.std.proofs.Common.{◌≡◌, true, false, sym, ◌∙◌}
use Rattle.meta_word.specs.Meta.{meta_of, still_has}
use Rattle.op_commit.proofs.Buffered.{drop-note}
use Rattle.op_commit.proofs.Registers.{goes-watching, sees-change}
use Rattle.op_commit.proofs.register.RegisterOp.take.Goals as goal

pub returns-then-still_has-clause-after : goal.returns-then-still_has-clause-after
returns-then-still_has-clause-after g c =
    let notes = g.N.Notes.notes c.args.notes.now in
    let index = c.in-Note.index in
    let note = c.at-note.result in
    let own = c.args.self.now.own in
    let still : still_has own note.version (meta_of c.args.answer) ≡ true = rw (sym c.unpack_meta-found.ensures.fields) (sym c.still_has.ensures ∙ c.if-still_has.true) in
    rw c.in-Note.is (goes-watching notes index note (drop-note notes index note c.at-note.ensures) own c.args.answer still ∙ c.watch_from.ensures.after notes (sym c.len-count.ensures))

pub returns-else-still_has-clause-after : goal.returns-else-still_has-clause-after
returns-else-still_has-clause-after g c =
    let notes = g.N.Notes.notes c.args.notes.now in
    let index = c.in-Note.index in
    let note = c.at-note.result in
    let own = c.args.self.now.own in
    let changed : still_has own note.version (meta_of c.args.answer) ≡ false = rw (sym c.unpack_meta-found.ensures.fields) (sym c.still_has.ensures ∙ c.if-still_has.false) in
    rw (c.in-Note.is, c.unpack_meta-found.ensures.fields) (sees-change notes index note (drop-note notes index note c.at-note.ensures) own c.args.answer changed)
