use Rattle.std.proofs.Common.{rules, arith, inr, ◌∙◌}
use Rattle.or_atomic.proofs.AlternativeLemmas.{can_enter, either_ended, either_kept, level-open, level-open-after, level-refused-after, only_runs_more, retried_one_more}
use Rattle.or_atomic.proofs.alternatives.either.Goals as goal

pub loop-index-preserved : goal.loop-index-preserved
loop-index-preserved g c =
    let i = c.loop-index.invariant in
    record {
      number = c.in-Err-Retry.ensures.number ∙ i.number;
      fits = search rules;
      retried = retried_one_more g.L.Law.lawful g.L.Law.may g.C.Cells.law g.C.Cells.follows g.C.Cells.state g.met.C.Cells.follows_trans
          g.E.Choices.means g.E.Choices.leaves _ _ _ _ _ c.in-Err-Retry.field-0 _ _ _ _ _ (omega arith) c.in-Err-Retry.field-0-is
          i.retried c.in_ok-enter.ensures c.in-Err-Retry.ensures.ran (search rules);
      same = only_runs_more g.C.Cells.law g.C.Cells.follows g.C.Cells.state _ _ _ _ _ i.same c.in_ok-enter.ensures c.in-Err-Retry.ensures.ran.states.saved (search rules);
      begun = inr (can_enter _ _ _ _ i.begun c.in_ok-enter.ensures.states);
    }

pub returns-in_err-enter-clause-refused : goal.returns-in_err-enter-clause-refused
returns-in_err-enter-clause-refused g c =
    level-refused-after _ _ _ _ _ _ (search rules) c.loop-index.invariant.begun c.in_err-enter.ensures.states

pub returns-in-Ok-clause-ran : goal.returns-in-Ok-clause-ran
returns-in-Ok-clause-ran g c =
    let i = c.loop-index.invariant in
    either_kept g.L.Law.lawful g.L.Law.may g.C.Cells.law g.C.Cells.follows g.C.Cells.state g.met.C.Cells.follows_trans
    g.E.Choices.means g.E.Choices.leaves _ _ _ _ _ c.in-Ok.out _ _ _ _ _ (omega arith)
    i.retried c.in_ok-enter.ensures c.in-Ok.ensures.ran (search rules)

pub returns-in-Ok-clause-refused : goal.returns-in-Ok-clause-refused
returns-in-Ok-clause-refused g c = level-open _ _ _ (can_enter _ _ _ _ c.loop-index.invariant.begun c.in_ok-enter.ensures.states)

pub returns-in-Err : goal.returns-in-Err
returns-in-Err g c =
    let i = c.loop-index.invariant in
    record {
      number = c.in-Err.ensures.number ∙ i.number;
      fits = search rules;
      ran = either_ended g.L.Law.lawful g.L.Law.may g.C.Cells.law g.C.Cells.follows g.C.Cells.state g.met.C.Cells.follows_trans
          g.E.Choices.means g.E.Choices.leaves _ _ _ _ _ c.in-Err.cause _ _ _ _ _ (omega arith) (search rules)
          i.retried c.in_ok-enter.ensures c.in-Err.ensures.ran (search rules);
      undone = only_runs_more g.C.Cells.law g.C.Cells.follows g.C.Cells.state _ _ _ _ _ i.same c.in_ok-enter.ensures c.in-Err.ensures.ran.states.saved (search rules);
      refused = level-open _ _ _ (can_enter _ _ _ _ i.begun c.in_ok-enter.ensures.states);
    }

pub returns-clause-refused : goal.returns-clause-refused
returns-clause-refused g c = level-open-after _ _ _ _ _ c.requires.some (omega arith) c.loop-index.invariant.begun
