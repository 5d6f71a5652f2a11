use Rattle.std.proofs.Common.{◌≡◌, Some, sym, ap, subst, ◌∙◌}
use Rattle.op_read.specs.Read.{end_of_read}
use Rattle.op_read.specs.declared.read.ReadEnd.TheVariants.{Got}
use Rattle.op_read.specs.declared.read.ReadPlace.TheVariants.{Ended}
use Rattle.ref_table.specs.Seats.{terms_in}
use Rattle.stm_core.proofs.Ends.{read_over}
use Rattle.stm_core.specs.Running.{base, shown}
use Rattle.stm_model.specs.Attempt.{Attempt}
use Rattle.txn_drive.specs.Moment.{moment}
use Rattle.txn_drive.specs.Standing.{IsOn}
use Rattle.txn_quick.proofs.Reading.{all_go, first_goes, loaded_so, loads_value, place_so, then_under_way}
use Rattle.txn_quick.proofs.Steps.{answered_rests, gone_from, none_due_so}
use Rattle.txn_quick.specs.Reads.{cell_loaded, meta_loaded, to_read}
use Rattle.txn_quick.proofs.reads.first_read.Goals as goal

pub returns-in_default-clause-gone : goal.returns-in_default-clause-gone
returns-in_default-clause-gone g c =
    let stm = c.args.stm.now in
    let lawful = g.L.Law.lawful stm.law in
    let may = g.L.Law.may stm.law in
    let r = c.args.running.now in
    let addr = c.args.addr in
    let runs = g.H.Hooks.runs c.args.hooks.now in
    let rings = g.R.Bell.rings c.args.bell.now in
    gone_from lawful may (terms_in stm) (moment c.args.seat.now (to_read r addr) runs rings) (moment c.step-first.new.seat (meta_loaded r addr c.step-first.result) runs rings)
    (moment c.read_on.new.seat (shown c.read_on.new.running) (g.H.Hooks.runs c.read_on.new.hooks) (g.R.Bell.rings c.read_on.new.bell))
    (first_goes lawful may (terms_in stm) r addr c.args.seat.now c.step-first.new.seat c.read_of-op.result c.step-first.new.op c.step-first.result
    c.read_of-op.ensures.begins c.read_of-op.ensures.cell c.read_of-op.ensures.under_way c.step-first.ensures runs rings)
    c.read_on.ensures.gone

pub step-second-requires-clause-under_way : goal.step-second-requires-clause-under_way
step-second-requires-clause-under_way g c =
    let begun = c.read_of-op.ensures in
    then_under_way _ _ _ _ c.args.addr _ _ _ _ _ begun.begins begun.cell begun.under_way c.step-first.ensures _ c.in-ReadValue.is _ _ _ c.step-value.ensures

pub validate_on-requires-clause-loads : goal.validate_on-requires-clause-loads
validate_on-requires-clause-loads g c =
    let begun = c.read_of-op.ensures in
    loads_value _ _ _ _ c.args.addr _ _ _ _ _ begun.begins begun.cell begun.under_way c.step-first.ensures _ c.in-ReadValue.is

pub returns-in_default-end-clause-gone : goal.returns-in_default-end-clause-gone
returns-in_default-end-clause-gone g c =
    let stm = c.args.stm.now in
    let lawful = g.L.Law.lawful stm.law in
    let may = g.L.Law.may stm.law in
    let r = c.args.running.now in
    let addr = c.args.addr in
    let runs = g.H.Hooks.runs c.args.hooks.now in
    let rings = g.R.Bell.rings c.args.bell.now in
    let begun = c.read_of-op.ensures in
    let loaded = loaded_so _ _ _ _ addr _ _ _ _ _ begun.begins begun.cell begun.under_way c.step-first.ensures _ c.in-ReadValue.is _ _ _ c.step-value.ensures _ _ _ c.step-second.ensures in
    let here = cell_loaded r addr c.step-first.result c.step-value.result c.step-second.result in
    gone_from lawful may (terms_in stm) (moment c.args.seat.now (to_read r addr) runs rings) (moment c.step-second.new.seat here runs rings)
    (moment c.validate_on.new.seat (shown c.validate_on.new.running) (g.H.Hooks.runs c.validate_on.new.hooks) (g.R.Bell.rings c.validate_on.new.bell))
    (all_go _ _ _ _ addr _ _ _ _ _ begun.begins begun.cell begun.under_way c.step-first.ensures _ c.in-ReadValue.is _ _ _ c.step-value.ensures _ _ _ c.step-second.ensures here loaded runs rings)
    c.validate_on.ensures.gone

pub returns-in-Some-Got-clause-gone : goal.returns-in-Some-Got-clause-gone
returns-in-Some-Got-clause-gone g c =
    let stm = c.args.stm.now in
    let r = c.args.running.now in
    let runs = g.H.Hooks.runs c.args.hooks.now in
    let rings = g.R.Bell.rings c.args.bell.now in
    let begun = c.read_of-op.ensures in
    let end = c.step-second.new.op in
    let over : end_of_read end ≡ Some (Got c.in-Some-Got.value c.in-Some-Got.version) = sym c.end.ensures ∙ (c.in-Some-Got.is ∙ ap Some c.in-Some-Got.field-0-is) in
    let cell = c.step-second.ensures.cell ∙ (c.step-value.ensures.cell ∙ (c.step-first.ensures.cell ∙ begun.cell)) in
    let noted = place_so end (base r) (Ended (Got c.in-Some-Got.value c.in-Some-Got.version)) c.args.addr (read_over end.place _ over) cell ∙ sym c.note.ensures.got in
    record {
      goes = all_go _ _ _ _ c.args.addr _ _ _ _ _ begun.begins begun.cell begun.under_way c.step-first.ensures _ c.in-ReadValue.is _ _ _ c.step-value.ensures _ _ _ c.step-second.ensures (shown c.note.new.running) noted runs rings;
      on = subst (IsOn (g.L.Law.lawful stm.law) (g.L.Law.may stm.law) (terms_in stm) c.step-second.new.seat) noted c.step-second.ensures.accesses.on;
      rests = answered_rests (shown c.note.new.running) (Some c.in-Some-Got.value) (ap (λ (t : Attempt). t.stage) c.note.ensures.got) (ap (λ (t : Attempt). t.due) c.note.ensures.got ∙ none_due_so r c.requires.free.nothing_due);
    }
