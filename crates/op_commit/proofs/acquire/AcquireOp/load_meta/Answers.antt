use Rattle.std.proofs.Common.{◌∙◌}
use Rattle.op_commit.proofs.Noted.{stale}
use Rattle.op_commit.specs.Acquire.{rounds_left}
use Rattle.op_commit.proofs.acquire.AcquireOp.load_meta.Goals as goal

pub returns-in-Some-clause-after : goal.returns-in-Some-clause-after
returns-in-Some-clause-after c = λ t value acquires.
    stale t c.args.self.now.addr.0 value (rounds_left c.args.self.now) c.args.self.now.doom_tried c.in-Some.version c.args.first (acquires.noted ∙ c.in-Some.is) c.if-version-first.true
