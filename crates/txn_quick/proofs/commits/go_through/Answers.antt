use Rattle.std.proofs.Common.{None, ◌∙◌}
use Rattle.ref_table.specs.Seats.{terms_in}
use Rattle.txn_quick.proofs.Committing.{commits_on, commits_same, commits_self}
use Rattle.txn_quick.proofs.commits.go_through.Goals as goal

pub loop-op-init : goal.loop-op-init
loop-op-init g c = commits_self _ _ _ _ _ _ c.requires.here

pub step-requires-clause-own : goal.step-requires-clause-own
step-requires-clause-own g c = (c.loop-op.invariant.goes None None).continues.seat.same.table ∙ c.requires.own

pub loop-op-preserved : goal.loop-op-preserved
loop-op-preserved g c =
    let stm = c.args.stm.now in
    let lawful = g.L.Law.lawful stm.law in
    let may = g.L.Law.may stm.law in
    let r = c.args.running.now in
    commits_same lawful may (terms_in stm) r c.args.seat.now c.step.new.seat c.args.op.now c.step.new.op c.resume.new.op
    (commits_on lawful may (terms_in stm) r c.args.seat.now c.loop-op.seat c.step.new.seat c.args.op.now c.loop-op.op c.step.new.op c.loop-op.invariant c.step.ensures.commits)
    c.resume.ensures.same c.resume.ensures.commits
