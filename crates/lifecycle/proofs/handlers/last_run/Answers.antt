use Rattle.std.proofs.Common.{ℕ, take, arith, sym, ◌∙◌, ap}
use Rattle.stm_model.specs.Handlers.{undoing}
use Rattle.lifecycle.proofs.Walking.{undoes_next, undoing_starts}
use Rattle.lifecycle.proofs.handlers.last_run.Goals as goal

pub loop-left-init : goal.loop-left-init
loop-left-init c = record {
  within = omega (arith, c.saturating_sub-left.ensures);
  same =
      undoing_starts c.args.hooks.now c.args.passed
      ∙ ap (λ (n : ℕ). undoing (take n c.args.hooks.now)) (sym c.saturating_sub-left.ensures);
}

pub returns-then-runs : goal.returns-then-runs
returns-then-runs c =
    c.loop-left.invariant.same
    ∙ undoes_next c.args.hooks.now c.loop-left.left _ c.loop-left-test.true c.loop-left.invariant.within (sym c.runs.ensures ∙ c.if-runs.true)
