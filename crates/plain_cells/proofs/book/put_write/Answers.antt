use Rattle.std.proofs.Common.{ap, arith}
use Rattle.plain_cells.proofs.Writes.{put-here}
use Rattle.plain_cells.proofs.book.put_write.Goals as goal

pub returns-then-address-index-clause-ok : goal.returns-then-address-index-clause-ok
returns-then-address-index-clause-ok c =
    let i = c.loop-i.invariant in
    rw (← ap (λ (w : _). w.items) i.0) (put-here _ _ _ _ c.index.result.now (omega arith) c.index.ensures c.if-address-index.true i.1)
