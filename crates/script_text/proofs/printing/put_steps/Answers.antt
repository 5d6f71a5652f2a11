use Rattle.std.proofs.Common.{◌<◌, length, rules}
use Rattle.script_text.proofs.PrintLemmas.{steps_put}
use Rattle.script_text.proofs.printing.put_steps.Goals as goal

pub loop-rest-preserved : goal.loop-rest-preserved
loop-rest-preserved c =
    let some : 0 < length c.loop-rest.rest.now = search rules in
    steps_put c.loop-rest.text.items _ _ c.loop-rest.rest.now _ _ c.min.result some c.min.ensures c.split_at.ensures.front c.split_at.ensures.back c.in_ok-put_steps_line.ensures c.loop-rest.invariant
