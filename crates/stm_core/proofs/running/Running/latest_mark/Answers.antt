use Rattle.std.proofs.Common.{sym, ◌∙◌}
use Rattle.stm_core.proofs.Marked.{first_and_others, former_innermost, former_none, innermost}
use Rattle.stm_core.proofs.running.Running.latest_mark.Goals as goal

pub returns-else-depth-eq0-clause-mark : goal.returns-else-depth-eq0-clause-mark
returns-else-depth-eq0-clause-mark c = (innermost _ _ c.innermost.result _ c.args.self.now.levels _ (first_and_others c.args.self.now.levels c.innermost.result c.innermost.ensures) c.requires).marked.mark

pub returns-else-depth-eq0-clause-former : goal.returns-else-depth-eq0-clause-former
returns-else-depth-eq0-clause-former c =
    former_innermost _ _ c.innermost.result _ _ (innermost _ _ c.innermost.result _ c.args.self.now.levels _ (first_and_others c.args.self.now.levels c.innermost.result c.innermost.ensures) c.requires)

pub returns-then-depth-eq0-clause-former : goal.returns-then-depth-eq0-clause-former
returns-then-depth-eq0-clause-former c = former_none _ _ c.args.self.now.levels _ (sym c.depth.ensures.count ∙ c.if-depth-eq0.true) c.requires
