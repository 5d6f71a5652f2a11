use Rattle.std.proofs.Common.{◌≡◌, None, Some, sym, ap, subst, ◌∙◌}
use Rattle.op_commit.specs.Acquire.{end_of_acquire}
use Rattle.op_commit.specs.declared.acquire.AcquireEnd.TheVariants.{Owned}
use Rattle.ref_table.specs.Seats.{terms_in}
use Rattle.stm_core.proofs.Ends.{acquire_over}
use Rattle.stm_core.specs.Running.{base, shown}
use Rattle.stm_model.specs.Attempt.{Attempt}
use Rattle.stm_model.specs.declared.access.Access.{Access}
use Rattle.txn_drive.specs.Moment.{moment}
use Rattle.txn_drive.specs.Standing.{IsOn}
use Rattle.txn_quick.proofs.Steps.{answered_rests, gone_from, none_due_so}
use Rattle.txn_quick.proofs.Writing.{both_go, exchange_comes, exchanged_so, load_comes, load_goes, to_exchange, wrote_so}
use Rattle.txn_quick.specs.Writing.{owner_exchanged, owner_loaded, to_write}
use Rattle.txn_quick.proofs.writes.first_write.Goals as goal

pub step-first-requires-clause-comes : goal.step-first-requires-clause-comes
step-first-requires-clause-comes g c =
    let r = c.args.running.now in
    let write = c.args.write in
    load_comes r write.addr write.value c.write_of-op.result (c.write_of-op.ensures.begins write.value) (none_due_so r c.requires.free.nothing_due)

pub step-found-requires-clause-comes : goal.step-found-requires-clause-comes
step-found-requires-clause-comes g c =
    let r = c.args.running.now in
    let write = c.args.write in
    exchange_comes r write.addr write.value c.step-first.new.op _ _ _ c.in-Acquire.is (c.step-first.ensures.cell ∙ c.write_of-op.ensures.cell) (none_due_so r c.requires.free.nothing_due)
    ∙ ap (λ (access : Access). Some access) (sym c.exchange_of-exchange.ensures)

pub returns-in_default-clause-gone : goal.returns-in_default-clause-gone
returns-in_default-clause-gone g c =
    let stm = c.args.stm.now in
    let lawful = g.L.Law.lawful stm.law in
    let may = g.L.Law.may stm.law in
    let r = c.args.running.now in
    let addr = c.args.write.addr in
    let value = c.args.write.value in
    let runs = g.H.Hooks.runs c.args.hooks.now in
    let rings = g.R.Bell.rings c.args.bell.now in
    gone_from lawful may (terms_in stm) (moment c.args.seat.now (to_write r addr value) runs rings) (moment c.step-first.new.seat (owner_loaded r addr value c.step-first.result) runs rings)
    (moment c.load_on.new.seat (shown c.load_on.new.running) (g.H.Hooks.runs c.load_on.new.hooks) (g.R.Bell.rings c.load_on.new.bell))
    (load_goes lawful may (terms_in stm) r value addr c.args.seat.now c.step-first.new.seat c.write_of-op.result c.step-first.new.op c.step-first.result
    (c.write_of-op.ensures.begins value) c.write_of-op.ensures.cell c.step-first.ensures runs rings)
    c.load_on.ensures.gone

pub exchange_on-requires-clause-exchanges : goal.exchange_on-requires-clause-exchanges
exchange_on-requires-clause-exchanges g c =
    let begun = c.write_of-op.ensures in
    to_exchange _ _ _ _ c.args.write.value c.args.write.addr _ _ _ _ _ (begun.begins c.args.write.value) begun.cell c.step-first.ensures _ _ _ c.in-Acquire.is

pub returns-in_default-end-clause-gone : goal.returns-in_default-end-clause-gone
returns-in_default-end-clause-gone g c =
    let stm = c.args.stm.now in
    let lawful = g.L.Law.lawful stm.law in
    let may = g.L.Law.may stm.law in
    let r = c.args.running.now in
    let addr = c.args.write.addr in
    let value = c.args.write.value in
    let runs = g.H.Hooks.runs c.args.hooks.now in
    let rings = g.R.Bell.rings c.args.bell.now in
    let begun = c.write_of-op.ensures in
    let here = owner_exchanged r addr value c.step-first.result c.step-found.result in
    let done = exchanged_so _ _ _ _ value addr _ _ _ _ _ (begun.begins value) begun.cell c.step-first.ensures _ _ _ c.step-found.ensures in
    gone_from lawful may (terms_in stm) (moment c.args.seat.now (to_write r addr value) runs rings) (moment c.step-found.new.seat here runs rings)
    (moment c.exchange_on.new.seat (shown c.exchange_on.new.running) (g.H.Hooks.runs c.exchange_on.new.hooks) (g.R.Bell.rings c.exchange_on.new.bell))
    (both_go _ _ _ _ value addr _ _ _ _ _ (begun.begins value) begun.cell c.step-first.ensures _ _ _ c.step-found.ensures here done runs rings)
    c.exchange_on.ensures.gone

pub returns-in-Some-Owned-clause-gone : goal.returns-in-Some-Owned-clause-gone
returns-in-Some-Owned-clause-gone g c =
    let stm = c.args.stm.now in
    let r = c.args.running.now in
    let addr = c.args.write.addr in
    let value = c.args.write.value in
    let runs = g.H.Hooks.runs c.args.hooks.now in
    let rings = g.R.Bell.rings c.args.bell.now in
    let begun = c.write_of-op.ensures in
    let end = c.step-found.new.op in
    let over : end_of_acquire end ≡ Some (Owned c.in-Some-Owned.field-0-0) = sym c.end.ensures ∙ (c.in-Some-Owned.is ∙ ap Some c.in-Some-Owned.field-0-is) in
    let cell = c.step-found.ensures.cell ∙ (c.step-first.ensures.cell ∙ begun.cell) in
    let owns = wrote_so end value (base r) addr c.in-Some-Owned.field-0-0 (acquire_over end.place _ over) cell ∙ sym c.buffer.ensures.wrote in
    record {
      goes = both_go _ _ _ _ value addr _ _ _ _ _ (begun.begins value) begun.cell c.step-first.ensures _ _ _ c.step-found.ensures (shown c.buffer.new.running) owns runs rings;
      on = subst (IsOn (g.L.Law.lawful stm.law) (g.L.Law.may stm.law) (terms_in stm) c.step-found.new.seat) owns c.step-found.ensures.accesses.on;
      rests = answered_rests (shown c.buffer.new.running) None (ap (λ (t : Attempt). t.stage) c.buffer.ensures.wrote) (ap (λ (t : Attempt). t.due) c.buffer.ensures.wrote ∙ none_due_so r c.requires.free.nothing_due);
    }
