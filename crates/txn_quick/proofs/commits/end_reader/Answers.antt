use Rattle.std.proofs.Common.{sym, subst, ◌∙◌}
use Rattle.ref_table.specs.Seats.{terms_in}
use Rattle.stm_core.specs.Running.{shown}
use Rattle.stm_core.specs.declared.running.State.TheVariants.{Ended}
use Rattle.stm_model.specs.declared.access.Access.TheVariants.{Store}
use Rattle.stm_model.specs.declared.access.Word.TheVariants.{Status}
use Rattle.stm_model.specs.declared.ending.Ending.TheVariants.{Read}
use Rattle.txn_drive.proofs.Onward.{accessed_goes}
use Rattle.txn_drive.proofs.Stepped.{accessed}
use Rattle.txn_drive.specs.Standing.{Rests}
use Rattle.txn_quick.proofs.Closing.{may_close, over_rests, over_shown, over_sound, reader_over, reader_stores}
use Rattle.txn_quick.proofs.Committing.{same_word}
use Rattle.txn_quick.specs.Committing.{to_close}
use Rattle.txn_quick.proofs.commits.end_reader.Goals as goal

pub perform-requires : goal.perform-requires
perform-requires g c =
    let stm = c.args.stm.now in
    let r = c.args.running.now in
    let comes = reader_stores r c.pack_status.result c.requires.quiet c.pack_status.ensures.word in
    let able = may_close (g.L.Law.lawful stm.law) (g.L.Law.may stm.law) (terms_in stm) c.args.seat.now r (Store (Status r.own) c.pack_status.result) c.requires.on comes in
    record { own = c.requires.own; word = able.word; may = record { comes = able.comes; is_next = able.is_next; owes = able.owes } }

pub returns-clause-gone : goal.returns-clause-gone
returns-clause-gone g c runs rings =
    let stm = c.args.stm.now in
    let lawful = g.L.Law.lawful stm.law in
    let may = g.L.Law.may stm.law in
    let r = c.args.running.now in
    let t = to_close r in
    let u = shown (record r { state = Ended (Read r.prefix) }) in
    let access = Store (Status r.own) c.pack_status.result in
    let comes = reader_stores r c.pack_status.result c.requires.quiet c.pack_status.ensures.word in
    let able = may_close lawful may (terms_in stm) c.args.seat.now r access c.requires.on comes in
    let finds = over_shown r (Read r.prefix) ∙ reader_over r c.perform.result c.requires.quiet in
    let made = c.perform.ensures in
    let done = accessed lawful may (terms_in stm) c.args.seat.now c.perform.new.self t u access c.perform.result able made.same made.steps made.performs made.safe finds (same_word t u c.perform.result finds) in
    record {
      goes = accessed_goes lawful may (terms_in stm) c.args.seat.now c.perform.new.self t u runs rings access done comes;
      on = done.on;
      rests = subst Rests (sym (over_shown r (Read r.prefix))) (over_rests r (Read r.prefix) c.requires.quiet);
    }

pub returns-clause-sound : goal.returns-clause-sound
returns-clause-sound g c = over_sound c.args.running.now (Read c.args.running.now.prefix) c.requires.quiet
