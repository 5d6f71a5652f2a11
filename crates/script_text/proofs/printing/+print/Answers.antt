use Rattle.std.proofs.lemmas.List.{drop_all}
use Rattle.std.proofs.lemmas.Result.{on_ok_weaker}
use Rattle.script_text.proofs.PrintLemmas.{parts_put}
use Rattle.script_text.proofs.printing.+print.Goals as goal

pub put_parts-returns : goal.put_parts-returns
put_parts-returns g c = on_ok_weaker c.put_row-2.result (parts_put c.args.text.now.items c.loop-part.text.items _ c.loop-part.first _ c.args.parts.now (drop_all c.loop-part.part-index c.args.parts.now c.loop-part-test.false) c.loop-part.invariant) c.put_row-2.ensures
