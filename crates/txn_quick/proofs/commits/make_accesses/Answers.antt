use Rattle.std.proofs.Common.{None, ◌∙◌}
use Rattle.ref_table.specs.Seats.{terms_in}
use Rattle.txn_quick.proofs.Committing.{commits_on}
use Rattle.txn_quick.proofs.commits.make_accesses.Goals as goal

pub go_through-requires-2-clause-own : goal.go_through-requires-2-clause-own
go_through-requires-2-clause-own g c = (c.go_through.ensures.goes None None).continues.seat.same.table ∙ c.requires.own

pub go_through-requires-3-clause-own : goal.go_through-requires-3-clause-own
go_through-requires-3-clause-own g c = (c.go_through-2.ensures.goes None None).continues.seat.same.table ∙ ((c.go_through.ensures.goes None None).continues.seat.same.table ∙ c.requires.own)

pub go_through-requires-4-clause-own : goal.go_through-requires-4-clause-own
go_through-requires-4-clause-own g c = (c.go_through-3.ensures.goes None None).continues.seat.same.table ∙ ((c.go_through-2.ensures.goes None None).continues.seat.same.table ∙ ((c.go_through.ensures.goes None None).continues.seat.same.table ∙ c.requires.own))

pub go_through-requires-5-clause-own : goal.go_through-requires-5-clause-own
go_through-requires-5-clause-own g c = (c.go_through-4.ensures.goes None None).continues.seat.same.table ∙ ((c.go_through-3.ensures.goes None None).continues.seat.same.table ∙ ((c.go_through-2.ensures.goes None None).continues.seat.same.table ∙ ((c.go_through.ensures.goes None None).continues.seat.same.table ∙ c.requires.own)))

pub go_through-requires-6-clause-own : goal.go_through-requires-6-clause-own
go_through-requires-6-clause-own g c = (c.go_through-5.ensures.goes None None).continues.seat.same.table ∙ ((c.go_through-4.ensures.goes None None).continues.seat.same.table ∙ ((c.go_through-3.ensures.goes None None).continues.seat.same.table ∙ ((c.go_through-2.ensures.goes None None).continues.seat.same.table ∙ ((c.go_through.ensures.goes None None).continues.seat.same.table ∙ c.requires.own))))

pub go_through-requires-7-clause-own : goal.go_through-requires-7-clause-own
go_through-requires-7-clause-own g c = (c.go_through-6.ensures.goes None None).continues.seat.same.table ∙ ((c.go_through-5.ensures.goes None None).continues.seat.same.table ∙ ((c.go_through-4.ensures.goes None None).continues.seat.same.table ∙ ((c.go_through-3.ensures.goes None None).continues.seat.same.table ∙ ((c.go_through-2.ensures.goes None None).continues.seat.same.table ∙ ((c.go_through.ensures.goes None None).continues.seat.same.table ∙ c.requires.own)))))

pub go_through-requires-8-clause-own : goal.go_through-requires-8-clause-own
go_through-requires-8-clause-own g c = (c.go_through-7.ensures.goes None None).continues.seat.same.table ∙ ((c.go_through-6.ensures.goes None None).continues.seat.same.table ∙ ((c.go_through-5.ensures.goes None None).continues.seat.same.table ∙ ((c.go_through-4.ensures.goes None None).continues.seat.same.table ∙ ((c.go_through-3.ensures.goes None None).continues.seat.same.table ∙ ((c.go_through-2.ensures.goes None None).continues.seat.same.table ∙ ((c.go_through.ensures.goes None None).continues.seat.same.table ∙ c.requires.own))))))

pub returns : goal.returns
returns g c =
    let lawful = g.L.Law.lawful c.args.stm.now.law in
    let may = g.L.Law.may c.args.stm.now.law in
    let terms = terms_in c.args.stm.now in
    let r = c.args.running.now in
    let a = c.args.seat.now in
    let op = c.args.op.now in
    commits_on lawful may terms r a c.go_through-7.new.seat c.go_through-8.new.seat op c.go_through-7.new.op c.go_through-8.new.op
    (commits_on lawful may terms r a c.go_through-6.new.seat c.go_through-7.new.seat op c.go_through-6.new.op c.go_through-7.new.op
    (commits_on lawful may terms r a c.go_through-5.new.seat c.go_through-6.new.seat op c.go_through-5.new.op c.go_through-6.new.op
    (commits_on lawful may terms r a c.go_through-4.new.seat c.go_through-5.new.seat op c.go_through-4.new.op c.go_through-5.new.op
    (commits_on lawful may terms r a c.go_through-3.new.seat c.go_through-4.new.seat op c.go_through-3.new.op c.go_through-4.new.op
    (commits_on lawful may terms r a c.go_through-2.new.seat c.go_through-3.new.seat op c.go_through-2.new.op c.go_through-3.new.op
    (commits_on lawful may terms r a c.go_through.new.seat c.go_through-2.new.seat op c.go_through.new.op c.go_through-2.new.op
    (c.go_through.ensures) c.go_through-2.ensures) c.go_through-3.ensures) c.go_through-4.ensures) c.go_through-5.ensures) c.go_through-6.ensures) c.go_through-7.ensures) c.go_through-8.ensures
