use Rattle.std.proofs.Common.{◌++◌, codes, decimal, map, refl}
use Rattle.std.proofs.lemmas.List.{drop_all}
use Rattle.std.proofs.lemmas.Result.{on_ok_weaker}
use Rattle.text_lines.proofs.PutLemmas.{row_put}
use Rattle.script_text.proofs.PrintLemmas.{numbers_put}
use Rattle.script_text.proofs.printing.put_steps_line.Goals as goal

pub returns : goal.returns
returns c =
    let all = numbers_put _ _ _ (drop_all c.loop-worker.worker-index c.args.steps.now c.loop-worker-test.false) c.loop-worker.invariant in
    on_ok_weaker c.end_line.result (row_put c.args.text.now.items (c.args.text.now.items ++ codes "steps") _ _ (codes "steps") (map decimal c.args.steps.now) refl all) c.end_line.ensures.ok
