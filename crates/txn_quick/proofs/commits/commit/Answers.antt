use Rattle.std.proofs.Common.{◌≡◌, None, sym, ap, subst, ◌∙◌}
use Rattle.op_commit.specs.Buffered.{ring_for}
use Rattle.ref_table.specs.Seats.{terms_in}
use Rattle.stm_core.specs.Running.{shown}
use Rattle.stm_core.specs.declared.running.State.TheVariants.{Ended}
use Rattle.stm_model.specs.Attempt.{Attempt}
use Rattle.stm_model.specs.declared.ending.Ending.TheVariants.{Committed}
use Rattle.txn_drive.specs.Going.{Goes}
use Rattle.txn_drive.specs.Moment.{moment}
use Rattle.txn_drive.specs.Standing.{IsOn, Rests}
use Rattle.txn_quick.proofs.Closing.{over_rests, over_shown, over_sound, stamped_over}
use Rattle.txn_quick.proofs.Steps.{gone_from}
use Rattle.txn_quick.specs.Committing.{commits_at, to_commit}
use Rattle.txn_quick.proofs.commits.commit.Goals as goal

pub hand_on-requires-clause-own : goal.hand_on-requires-clause-own
hand_on-requires-clause-own g c = (c.make_accesses.ensures.goes None None).continues.seat.same.table ∙ c.requires.own

pub returns-in-Some-clause-gone : goal.returns-in-Some-clause-gone
returns-in-Some-clause-gone g c =
    let stm = c.args.stm.now in
    let r = c.args.running.now in
    let runs = g.H.Hooks.runs c.args.hooks.now in
    let rings = g.R.Bell.rings c.args.bell.now in
    let op = c.make_accesses.new.op in
    let stamp = c.in-Some.stamp in
    let after = c.make_accesses.new.seat in
    let is : commits_at r op ≡ shown (record r { state = Ended (Committed stamp) }) = stamped_over r op stamp c.requires.quiet c.in-Some.ensures.0 (ap ring_for c.in-Some.ensures.1) ∙ sym (over_shown r (Committed stamp)) in
    let done = c.make_accesses.ensures in
    record {
      goes = subst (λ (t : Attempt). Goes (moment c.args.seat.now (to_commit r) runs rings) (moment after t runs rings)) is
          (subst (λ (t : Attempt). Goes (moment c.args.seat.now t runs rings) (moment after (commits_at r op) runs rings)) c.commit_of-op.ensures.begins (done.goes runs rings));
      on = subst (IsOn (g.L.Law.lawful stm.law) (g.L.Law.may stm.law) (terms_in stm) after) is done.here.on;
      rests = subst Rests (sym (over_shown r (Committed stamp))) (over_rests r (Committed stamp) c.requires.quiet);
    }

pub returns-in-Some-clause-sound : goal.returns-in-Some-clause-sound
returns-in-Some-clause-sound g c = over_sound c.args.running.now (Committed c.in-Some.stamp) c.requires.quiet

pub returns-in-None-clause-gone : goal.returns-in-None-clause-gone
returns-in-None-clause-gone g c =
    let stm = c.args.stm.now in
    let r = c.args.running.now in
    let runs = g.H.Hooks.runs c.args.hooks.now in
    let rings = g.R.Bell.rings c.args.bell.now in
    let op = c.make_accesses.new.op in
    let before = moment c.args.seat.now (to_commit r) runs rings in
    let here = moment c.make_accesses.new.seat (commits_at r op) runs rings in
    let after = moment c.hand_on.new.seat (shown c.hand_on.new.running) (g.H.Hooks.runs c.hand_on.new.hooks) (g.R.Bell.rings c.hand_on.new.bell) in
    gone_from (g.L.Law.lawful stm.law) (g.L.Law.may stm.law) (terms_in stm) before here after
    (subst (λ (t : Attempt). Goes (moment c.args.seat.now t runs rings) here) c.commit_of-op.ensures.begins (c.make_accesses.ensures.goes runs rings)) c.hand_on.ensures.gone
