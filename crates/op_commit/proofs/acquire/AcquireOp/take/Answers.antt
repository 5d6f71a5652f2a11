use Rattle.op_commit.proofs.Owned.{wins}
use Rattle.op_commit.specs.Acquire.{rounds_left}
use Rattle.op_commit.proofs.acquire.AcquireOp.take.Goals as goal

pub returns-in-Acquire-clause-owned : goal.returns-in-Acquire-clause-owned
returns-in-Acquire-clause-owned g c = λ meta ended t value nothing acquires.
    let op = c.args.self.now in
    rw c.in-Acquire.is (wins t op.own op.addr.0 value (rounds_left op) op.doom_tried c.in-Acquire.first c.in-Acquire.expected c.unpack_meta-in-Acquire.result meta c.in-Acquire.again c.args.answer
    nothing acquires.own c.unpack_meta-in-Acquire.ensures.comes_back (c.exchange.ensures.owned meta ended).1 (c.exchange.ensures.owned meta ended).0)
