use Rattle.std.proofs.Common.{sym, ◌∙◌}
use Rattle.lifecycle.proofs.Walking.{none_left, passes_here, runs_here}
use Rattle.lifecycle.proofs.handlers.first_run.Goals as goal

pub returns-then-runs : goal.returns-then-runs
returns-then-runs c =
    c.loop-index.invariant ∙ runs_here c.args.stage c.args.hooks.now c.loop-index.index _ c.requires c.loop-index-test.true (sym c.runs.ensures ∙ c.if-runs.true)

pub loop-index-preserved : goal.loop-index-preserved
loop-index-preserved c =
    c.loop-index.invariant ∙ passes_here c.args.stage c.args.hooks.now c.loop-index.index _ c.requires c.loop-index-test.true (sym c.runs.ensures ∙ c.if-runs.false)

pub returns : goal.returns
returns c = c.loop-index.invariant ∙ none_left c.args.stage c.args.hooks.now c.loop-index.index c.requires c.loop-index-test.false
