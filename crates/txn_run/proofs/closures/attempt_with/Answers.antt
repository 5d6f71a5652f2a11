use Rattle.std.proofs.Common.{subst, sym}
use Rattle.txn_run.specs.Flights.{cells_in_stm}
use Rattle.txn_run.specs.Runners.{JustBegun}
use Rattle.txn_run.proofs.Called.{concluded, owes_then}
use Rattle.txn_run.proofs.closures.attempt_with.Goals as goal

pub call-answer-requires : goal.call-answer-requires
call-answer-requires g c start is =
    let runner = c.args.runner.now in
    let begun = c.in_default.ensures.begins in
    c.requires.callable start (subst (JustBegun (g.D.Runs.begun runner) g.D.Cells.law g.D.Cells.state (g.D.Runs.stm runner).law (cells_in_stm (g.D.Runs.stm runner))) (sym is)
    (record { begun = begun.0; same_law = g.met.D.Runs.same_table runner c.begin.new.self begun.0; fresh = begun.1 }))

pub finish-requires-clause-begun : goal.finish-requires-clause-begun
finish-requires-clause-begun g c =
    let start = c.begin.new.self in
    let begun = c.in_default.ensures.begins in
    let runs = c.requires.runs start c.call-answer.new.cells c.call-answer.result c.call-answer.new.f
    (record { begun = begun.0; same_law = g.met.D.Runs.same_table c.args.runner.now start begun.0; fresh = begun.1 }) c.call-answer.ensures in
    (c.args.runner.now, g.met.D.Runs.begun_on c.args.runner.now start c.call-answer.new.cells begun.0 runs.goes)

pub finish-requires-clause-owes : goal.finish-requires-clause-owes
finish-requires-clause-owes g c =
    let start = c.begin.new.self in
    let begun = c.in_default.ensures.begins in
    let runs = c.requires.runs start c.call-answer.new.cells c.call-answer.result c.call-answer.new.f
    (record { begun = begun.0; same_law = g.met.D.Runs.same_table c.args.runner.now start begun.0; fresh = begun.1 }) c.call-answer.ensures in
    owes_then g.D.Cells.law g.D.Cells.follows g.D.Cells.state g.L.Law.lawful g.L.Law.may start c.call-answer.new.cells c.call-answer.result runs

pub finish-requires-clause-answers : goal.finish-requires-clause-answers
finish-requires-clause-answers g c =
    let start = c.begin.new.self in
    let begun = c.in_default.ensures.begins in
    let runs = c.requires.runs start c.call-answer.new.cells c.call-answer.result c.call-answer.new.f
    (record { begun = begun.0; same_law = g.met.D.Runs.same_table c.args.runner.now start begun.0; fresh = begun.1 }) c.call-answer.ensures in
    runs.states.causes

pub returns-clause-same : goal.returns-clause-same
returns-clause-same g c =
    let start = c.begin.new.self in
    let begun = c.in_default.ensures.begins in
    let runs = c.requires.runs start c.call-answer.new.cells c.call-answer.result c.call-answer.new.f
    (record { begun = begun.0; same_law = g.met.D.Runs.same_table c.args.runner.now start begun.0; fresh = begun.1 }) c.call-answer.ensures in
    c.finish.ensures.same c.args.runner.now (g.met.D.Runs.begun_on c.args.runner.now start c.call-answer.new.cells begun.0 runs.goes)

pub returns-clause-concludes : goal.returns-clause-concludes
returns-clause-concludes g c =
    let runner = c.args.runner.now in
    let start = c.begin.new.self in
    let end = c.call-answer.new.cells in
    let begun = c.in_default.ensures.begins in
    let home = (g.D.Runs.stm runner).law in
    let fresh : JustBegun (g.D.Runs.begun runner) g.D.Cells.law g.D.Cells.state home (cells_in_stm (g.D.Runs.stm runner)) start =
    record { begun = begun.0; same_law = g.met.D.Runs.same_table runner start begun.0; fresh = begun.1 } in
    let runs = c.requires.runs start end c.call-answer.result c.call-answer.new.f fresh c.call-answer.ensures in
    let under_way = g.met.D.Runs.begun_on runner start end begun.0 runs.goes in
    concluded g.D.Cells.law g.D.Cells.state g.L.Law.lawful (JustBegun (g.D.Runs.begun runner) g.D.Cells.law g.D.Cells.state home (cells_in_stm (g.D.Runs.stm runner))) _ start end c.call-answer.result
    home fresh c.call-answer.ensures (g.met.D.Runs.same_table runner end under_way)
    (g.D.Runs.stm runner) _ _ _ _ (c.finish.ensures.made runner under_way) (c.finish.ensures.concludes runner under_way)
