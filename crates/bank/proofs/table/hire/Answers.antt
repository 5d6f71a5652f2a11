use Rattle.std.proofs.Common.{◌∙◌, ap, rules, sym}
use Rattle.std.proofs.lemmas.List.Elements.{All-push, All-same}
use Rattle.bank_loads.specs.Sizes.{cells_of}
use Rattle.bank.specs.Ready.{IsReady}
use Rattle.bank.proofs.Readiness.{ready_at_first}
use Rattle.bank.proofs.table.hire.Goals as goal

pub loop-number-preserved : goal.loop-number-preserved
loop-number-preserved c =
    let i = c.loop-number.invariant in
    let made = c.new-in-loop-number.ensures in
    let new : IsReady c.args.stm.now c.new-in-loop-number.result =
    ready_at_first c.args.stm.now _ _ c.in-Ok.seat _ i.own c.in-Ok.ensures.dealt c.in-Ok.ensures.safe made.0
    (c.requires.cells ∙ sym (ap (λ scripts. cells_of scripts.task.load scripts.task.threads) made.1 ∙ ap (λ task. cells_of task.load task.threads) c.new.ensures.0)) in
    record {
      own = search rules;
      given = search rules;
      gathered = search rules;
      workers = search rules;
      ready = All-same (IsReady c.args.stm.now) _ _ c.in_ok-push.ensures.items (All-push (IsReady c.args.stm.now) _ _ i.ready new);
    }
