use Rattle.std.proofs.Common.{drop}
use Rattle.lifecycle.proofs.Walking.{all_left}
use Rattle.lifecycle.proofs.cursor.Cursor.new.Goals as goal

pub returns : goal.returns
returns c = λ hooks. all_left c.args.stage (drop c.args.from hooks)
