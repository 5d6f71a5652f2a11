use Rattle.write_buffer.proofs.tests.levels_are_undone_one_by_one.Goals as goal

pub undo-requires-3 : goal.undo-requires-3
undo-requires-3 g c =
    let before_inner = (c.put-2.ensures.marks _ (c.put.ensures.marks _ c.mark-outer.ensures.mark).still).still in
    (c.undo-2.ensures.marks _ (c.mark-inner.ensures.last _ before_inner)).still
