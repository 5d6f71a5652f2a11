use Rattle.std.proofs.Common.{◌∙◌, refl, arith}
use Rattle.plain_cells.proofs.Counting.{Ran-counted}
use Rattle.plain_cells.proofs.tests.count.CountBodyFree.run.Goals as goal

pub returns-clause-ran : goal.returns-clause-ran
returns-clause-ran g c =
    let got = c.in_ok-value.ensures in
    let wrote = c.in_ok-set.ensures in
    let put_off = c.in_ok-later.ensures in
    let trans = g.met.C.Cells.follows_trans in
    record {
      same_law = put_off.same_law ∙ (wrote.same_law ∙ got.same_law);
      goes = trans _ _ _ (trans _ _ _ got.goes wrote.goes) put_off.goes;
      states = Ran-counted _ _ _ _ c.args.self.now.addr.0 c.in_ok-value.value _ _ _ _ (λ heap. tt) (λ before after. tt)
          (λ heap book is. rw is (refl, (λ below. (refl, refl)), (λ most. absurd (omega (arith, c.if-value-self.false)))))
          (λ heap book. refl) got.states wrote.states put_off.states;
    }
