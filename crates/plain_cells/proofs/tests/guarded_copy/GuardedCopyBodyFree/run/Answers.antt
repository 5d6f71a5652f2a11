use Rattle.std.proofs.Common.{refl, arith}
use Rattle.plain_cells.proofs.GuardedCopying.{copied_kept, copied_undone}
use Rattle.plain_cells.proofs.tests.guarded_copy.GuardedCopyBodyFree.run.Goals as goal
use Rattle.plain_cells.proofs.tests.guarded_copy.GuardedCopyBodyFree.run.Goals.{then-value-self, else-value-self}

pub returns-clause-ran : goal.returns-clause-ran
returns-clause-ran g c =
    let body = c.args.self.now in
    let value = c.in_ok-value.value in
    elim c.if-value-self.branch [
      | then-value-self w ↦ copied_undone _ _ g.C.Cells.law g.C.Cells.follows g.C.Cells.state g.met.C.Cells.follows_trans (λ law heap. tt) (λ law before after. tt) _ _
          body.from.0 body.into.0 body.seen.0 value body.token _ _ _ _ _ _
          (λ heap before after told wrote is. rw told (refl, refl, (λ low. absurd (omega (arith, w.if-value-self))), (λ high. (wrote, is))))
          (λ heap before. refl) c.in_ok-enter.ensures c.in_ok-hook.ensures c.in_ok-value.ensures w.undo.ensures (rw w.cells-is at c.in_ok-set.ensures)
      | else-value-self w ↦ copied_kept _ _ g.C.Cells.law g.C.Cells.follows g.C.Cells.state g.met.C.Cells.follows_trans (λ law heap. tt) (λ law before after. tt) _ _
          body.from.0 body.into.0 body.seen.0 value body.token _ _ _ _ _ _
          (λ heap before after told wrote is. rw told (refl, refl, (λ low. (wrote, is)), (λ high. absurd (omega (arith, w.if-value-self)))))
          (λ heap before. refl) c.in_ok-enter.ensures c.in_ok-hook.ensures c.in_ok-value.ensures w.keep.ensures (rw w.cells-is at c.in_ok-set.ensures)
    ]
