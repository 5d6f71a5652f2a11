use Rattle.std.proofs.Common.{Some, refl, ap, ◌∙◌}
use Rattle.stm_core.specs.Running.{InvariantAt, attempt_at, base}
use Rattle.stm_core.specs.declared.running.State.{State}
use Rattle.stm_model.specs.After.{answer_with}
use Rattle.txn_quick.proofs.Asked.{known_asked}
use Rattle.txn_quick.proofs.Steps.{answered_rests, none_due_so}
use Rattle.txn_quick.proofs.reads.tell_known.Goals as goal

pub returns-clause-takes : goal.returns-clause-takes
unfolding attempt_at
returns-clause-takes c =
    let r = c.args.running.now in
    ap (λ (state : State). attempt_at (base r) state) c.tell.ensures ∙ known_asked r c.args.addr c.args.value c.requires.known

pub returns-clause-sound : goal.returns-clause-sound
unfolding InvariantAt
returns-clause-sound c = record { fits = c.requires.free.fits; runs = rw c.requires.free.nothing_due tt; holds = rw c.tell.ensures tt }

pub returns-clause-rests : goal.returns-clause-rests
unfolding attempt_at
returns-clause-rests c = rw c.tell.ensures (answered_rests (answer_with (base c.args.running.now) c.args.value) (Some c.args.value) refl (none_due_so c.args.running.now c.requires.free.nothing_due))
