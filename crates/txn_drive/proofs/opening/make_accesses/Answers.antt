use Rattle.std.proofs.Common.{Some, subst, ◌∙◌}
use Rattle.ref_table.specs.Performs.{IsStepOfWorld}
use Rattle.ref_table.specs.Seats.{terms_in}
use Rattle.stm_model.specs.declared.access.Access.{Access}
use Rattle.txn_drive.proofs.Beginning.{may_load, opens_so}
use Rattle.txn_drive.specs.Begun.{unbegun}
use Rattle.txn_drive.proofs.opening.make_accesses.Goals as goal

pub perform-requires-2 : goal.perform-requires-2
perform-requires-2 g c =
    let stm = c.args.stm.now in
    let lawful = g.L.Law.lawful stm.law in
    let may = g.L.Law.may stm.law in
    let made = c.perform.ensures in
    let steps = subst (λ (a : Access). IsStepOfWorld lawful may (terms_in stm) a c.perform.result c.args.seat.now c.perform.new.self (Some (unbegun c.args.own c.args.serial c.args.settings))) c.announcement.ensures made.steps in
    let able = may_load lawful may (terms_in stm) c.args.own c.args.serial c.args.settings c.args.seat.now c.perform.new.self c.perform.result c.requires.able made.same steps made.performs made.safe in
    record { own = made.same.table ∙ c.requires.table; word = able.word; may = record { comes = able.comes; is_next = able.is_next; owes = able.owes } }

pub returns : goal.returns
returns g c =
    let stm = c.args.stm.now in
    let lawful = g.L.Law.lawful stm.law in
    let may = g.L.Law.may stm.law in
    let made = c.perform.ensures in
    let then = c.perform-2.ensures in
    let steps = subst (λ (a : Access). IsStepOfWorld lawful may (terms_in stm) a c.perform.result c.args.seat.now c.perform.new.self (Some (unbegun c.args.own c.args.serial c.args.settings))) c.announcement.ensures made.steps in
    record {
      opens = opens_so lawful may (terms_in stm) c.args.own c.args.serial c.args.settings c.args.seat.now c.perform.new.self c.perform.result c.requires.able made.same steps made.performs made.safe
          c.perform-2.new.self c.perform-2.result then.same then.steps then.performs then.safe;
    }
