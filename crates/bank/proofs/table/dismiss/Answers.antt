use Rattle.std.proofs.Common.{◌≡◌, ◌∷◌, ap, arith, length, sym, ◌∙◌, All}
use Rattle.std.specs.Vec.Iter.{into_iter_items}
use Rattle.std.proofs.lemmas.List.Elements.{All-tail, All-same}
use Rattle.bank.specs.Ready.{IsReady}
use Rattle.bank.proofs.table.dismiss.Goals as goal

pub loop-worker-preserved : goal.loop-worker-preserved
loop-worker-preserved c =
    let i = c.loop-worker.invariant in
    let worker = c.in-Some.worker in
    let rest = into_iter_items c.next.new.self in
    let step : into_iter_items c.loop-worker.worker-iterator ≡ worker ∷ rest = c.in-Some.ensures.steps.0 in
    let all : All (IsReady c.args.stm.now) (worker ∷ rest) = All-same (IsReady c.args.stm.now) _ _ (sym step) i.ready in
    let gathered = c.gather.ensures.gathered in
    let more = ap length gathered.gathered in
    let long = ap length step in
    record {
      next = tt;
      finite = tt;
      own = gathered.table ∙ i.own;
      given = omega (arith, more, long, gathered.given, i.given);
      ready = All-tail (IsReady c.args.stm.now) worker rest all;
    }
