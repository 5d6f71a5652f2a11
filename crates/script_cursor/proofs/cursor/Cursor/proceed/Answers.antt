use Rattle.std.proofs.Common.{◌∙◌, arith}
use Rattle.script_cursor.specs.Cursors.{end_of}
use Rattle.script_cursor.proofs.ComesLemmas.{comes_too}
use Rattle.script_cursor.proofs.NextLemmas.{next_popped}
use Rattle.script_cursor.proofs.WorkLemmas.{frames_popped}
use Rattle.script_cursor.proofs.cursor.Cursor.proceed.Goals as goal

pub returns-in-Some-Rest : goal.returns-in-Some-Rest
returns-in-Some-Rest c =
    let a = c.in-Some-Rest in
    let w = frames_popped _ _ _ _ _ c.pop.ensures.items a.is a.field-0-is in
    comes_too c.go_on.result _ _ _ _ c.go_on.new.self c.go_on.ensures (next_popped _ _ _ _ _ _ (end_of c.args.end) c.args.self.now.own c.pop.ensures.items a.is a.field-0-is)
    (omega (arith, w))

pub returns-in-Some-Close : goal.returns-in-Some-Close
returns-in-Some-Close c =
    let a = c.in-Some-Close in
    let w = frames_popped _ _ _ _ _ c.pop.ensures.items a.is a.field-0-is in
    record {
      comes = c.close.ensures.comes ∙ next_popped _ _ _ _ _ _ (end_of c.args.end) c.args.self.now.own c.pop.ensures.items a.is a.field-0-is;
      less = let less = c.close.ensures.less in omega (arith, w, less);
    }

pub returns-in-Some-Catch : goal.returns-in-Some-Catch
returns-in-Some-Catch c =
    let a = c.in-Some-Catch in
    let w = frames_popped _ _ _ _ _ c.pop.ensures.items a.is a.field-0-is in
    record {
      comes = c.catch.ensures.comes ∙ next_popped _ _ _ _ _ _ (end_of c.args.end) c.args.self.now.own c.pop.ensures.items a.is a.field-0-is;
      less = let less = c.catch.ensures.less in omega (arith, w, less);
    }

pub returns-in-Some-Try : goal.returns-in-Some-Try
returns-in-Some-Try c =
    let a = c.in-Some-Try in
    let w = frames_popped _ _ _ _ _ c.pop.ensures.items a.is a.field-0-is in
    comes_too c.try_next.result _ _ _ _ c.try_next.new.self c.try_next.ensures (next_popped _ _ _ _ _ _ (end_of c.args.end) c.args.self.now.own c.pop.ensures.items a.is a.field-0-is)
    (omega (arith, w))
