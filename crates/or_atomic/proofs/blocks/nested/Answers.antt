use Rattle.std.proofs.Common.{rules}
use Rattle.or_atomic.proofs.BlockLemmas.{nested_failed, nested_ended}
use Rattle.or_atomic.proofs.blocks.nested.Goals as goal

pub returns-in-Err-User-clause-ran : goal.returns-in-Err-User-clause-ran
returns-in-Err-User-clause-ran g c =
    nested_failed g.L.Law.lawful g.L.Law.may g.C.Cells.law g.C.Cells.follows g.C.Cells.state g.met.C.Cells.follows_trans g.B.Body.means g.B.Body.leaves _ _
    c.in-Err-User.code c.in-Err-User.field-0 _ _ _ _ c.in-Err-User.field-0-is c.requires.owes c.in_ok-enter.ensures c.in-Err-User.ensures.ran (search rules)

pub returns-in-Err : goal.returns-in-Err
returns-in-Err g c = record {
  fits = search rules;
  ran = nested_ended g.L.Law.lawful g.L.Law.may g.C.Cells.law g.C.Cells.follows g.C.Cells.state g.met.C.Cells.follows_trans g.B.Body.means g.B.Body.leaves _ _
      c.in-Err.cause _ _ _ _ (search rules) c.requires.owes c.in_ok-enter.ensures c.in-Err.ensures.ran (search rules);
  undone = search rules;
  refused = search rules;
  codes = search rules;
}
