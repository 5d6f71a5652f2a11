use Rattle.std.proofs.Common.{sym, ◌∙◌}
use Rattle.ref_table.specs.Seats.{terms_in}
use Rattle.txn_drive.proofs.Onward.{continues_on}
use Rattle.txn_run.proofs.Looping.{comes_then, late_of, may_finish, over_then, owes_in, some_turn, turn_in, turning_first}
use Rattle.txn_run.proofs.Standing.{stands_here}
use Rattle.txn_run.proofs.to_end.take_turns.Goals as goal

pub ask-requires-clause-asks : goal.ask-requires-clause-asks
ask-requires-clause-asks g c =
    let stm = c.args.stm.now in
    may_finish (g.L.Law.lawful stm.law) (g.L.Law.may stm.law) (terms_in stm) c.args.flight.now.attempt c.stands.ensures.rests c.requires.going c.requires.first c.requires.owes

pub loop-token-init : goal.loop-token-init
loop-token-init g c =
    let stm = c.args.stm.now in record {
      here = c.ask.ensures.here;
      continues = c.ask.ensures.continues;
      turning = turning_first g.B.Body.late_means g.B.Body.late_leaves (g.L.Law.lawful stm.law) (g.L.Law.may stm.law) (terms_in stm) c.args.seat.now c.args.flight.now.attempt c.ask.new.self.attempt c.args.body.now
          (stands_here g.L.Law.lawful g.L.Law.may stm c.args.seat.now c.args.flight.now c.requires.here c.stands.ensures) c.requires.going c.requires.first c.requires.owes c.ask.ensures.asked c.ask.ensures.stands.rests;
      fits = λ law size. (λ fits. fits, λ fits. fits);
    }

pub take_turn-requires-clause-late : goal.take_turn-requires-clause-late
take_turn-requires-clause-late g c = late_of c.loop-token.flight.attempt.stage c.in-Some.token (sym c.late.ensures ∙ c.in-Some.is)

pub take_turn-requires-clause-owes : goal.take_turn-requires-clause-owes
take_turn-requires-clause-owes g c = owes_in _ _ _ _ _ _ _ _ _ _ _ c.loop-token.invariant.turning c.in-Some.token (sym c.late.ensures ∙ c.in-Some.is)

pub take_turn-requires-clause-turn : goal.take_turn-requires-clause-turn
take_turn-requires-clause-turn g c = some_turn _ _ _ _ _ _ _ _ _ _ _ c.loop-token.invariant.turning c.in-Some.token (sym c.late.ensures ∙ c.in-Some.is)

pub loop-token-preserved : goal.loop-token-preserved
loop-token-preserved g c =
    let was = c.loop-token.invariant in record {
      here = c.take_turn.ensures.here;
      continues = continues_on _ _ _ was.continues c.take_turn.ensures.continues;
      turning = c.take_turn.ensures.turns _ _ _ _ (turn_in _ _ _ _ _ _ _ _ _ _ _ was.turning c.in-Some.token (sym c.late.ensures ∙ c.in-Some.is));
      fits = λ law size. let one = was.fits law size in let two = c.take_turn.ensures.fits law size in (λ fits. two.0 (one.0 fits), λ fits. one.1 (two.1 fits));
    }

pub returns-clause-over : goal.returns-clause-over
returns-clause-over g c = over_then _ _ _ _ _ _ _ _ _ _ _ c.loop-token.invariant.turning (sym c.late.ensures ∙ c.in_default.is)

pub returns-clause-ends : goal.returns-clause-ends
returns-clause-ends g c = comes_then _ _ _ _ _ _ _ _ _ _ _ c.loop-token.invariant.turning (sym c.late.ensures ∙ c.in_default.is)
