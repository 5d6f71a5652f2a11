use Rattle.std.proofs.Common.{List, ap}
use Rattle.ledger_model.specs.declared.script.Statement.{Statement}
use Rattle.script_text.proofs.Taking.{took_inner, took_either, took_late, took_plain}
use Rattle.script_text.proofs.reader.Reader.take.Goals as goal

pub returns-in_ok-begin-in-Inner : goal.returns-in_ok-begin-in-Inner
returns-in_ok-begin-in-Inner c = rw c.in-Inner.is (took_inner c.args.self.now c.begin.new.self c.in-Inner.reg c.in_ok-begin-in-Inner.ensures)

pub returns-in_ok-begin-in-Either : goal.returns-in_ok-begin-in-Either
returns-in_ok-begin-in-Either c = rw c.in-Either.is (took_either c.args.self.now c.begin-in-Either.new.self (rw c.new.ensures at c.in_ok-begin-in-Either.ensures))

pub returns-in_ok-begin-in-Late : goal.returns-in_ok-begin-in-Late
returns-in_ok-begin-in-Late c = rw c.in-Late.is (took_late c.args.self.now c.begin-in-Late.new.self c.in_ok-begin-in-Late.ensures)

pub returns-in_ok-push-in-Plain : goal.returns-in_ok-push-in-Plain
returns-in_ok-push-in-Plain c = rw c.in-Plain.is (took_plain c.args.self.now _ c.in-Plain.statement (ap (λ (b : List Statement). record c.args.self.now { block = b }) c.in_ok-push-in-Plain.ensures.ok))
