use Rattle.std.specs.Prelude.{◌≡◌, ◌+◌, All, length}
use Rattle.std.specs.Vec.Iter.{into_iter_items}
use Rattle.bank.specs.Ready.{IsReady}
use Rattle.bank.proofs.table.dismiss.Given as goal

abbrev pub invariant-loop-worker : goal.invariant-loop-worker
invariant-loop-worker l =
    let rest = into_iter_items l.worker-iterator in
    record {
      next : (goal.iterator-loop-worker).can_next l.worker-iterator;
      finite : (goal.iterator-loop-worker).is_finite l.worker-iterator;
      own : l.maker.table ≡ l.stm.table;
      given : length l.maker.gathered + length rest ≡ l.maker.given;
      ready : All (IsReady l.stm) rest;
    }
