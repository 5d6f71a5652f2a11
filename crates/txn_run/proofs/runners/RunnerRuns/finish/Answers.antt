use Rattle.std.proofs.Common.{refl, sym, arith}
use Rattle.std.proofs.Math.Logic.{∥∥₁_map}
use Rattle.txn_run.proofs.Resting.{less_witness}
use Rattle.txn_run.proofs.Underway.{begins_then, concludes_then, made_then, may_end_with}
use Rattle.txn_run.proofs.runners.RunnerRuns.finish.Goals as goal

pub end_of-outcome-requires-clause-ends : goal.end_of-outcome-requires-clause-ends
end_of-outcome-requires-clause-ends g c =
    let self = c.args.self.now in
    let begun = c.requires.begun in
    may_end_with (g.L.Law.lawful self.stm.now.law) (g.L.Law.may self.stm.now.law) self.stm.now begun.0.stm.now _ _ begun.0.seat.now self.seat.now _ _ self.flight c.in-Some.flight c.args.answer
    (sym c.in-Some.ensures.value) self.going begun.1.3 c.requires.owes c.requires.answers

pub returns-clause-rests : goal.returns-clause-rests
returns-clause-rests g c =
    let self = c.args.self.now in
    let begun = c.requires.begun in (
      c.in-Some.ensures.after,
      begins_then g.L.Law.lawful g.L.Law.may self.stm.now begun.0.stm.now begun.1.2 begun.0.seat.now self.seat.now c.end_of-outcome.new.seat c.give_back.new.self _ _ _ self.flight c.in-Some.flight
          (sym c.in-Some.ensures.value) c.end_of-outcome.new.flight.attempt begun.1.3 c.args.answer c.end_of-outcome.result c.end_of-outcome.ensures.ended c.give_back.ensures.same c.give_back.ensures.room.empty,
    )

pub returns-clause-made : goal.returns-clause-made
returns-clause-made g c first begun =
    let self = c.args.self.now in
    made_then g.L.Law.lawful g.L.Law.may self.stm.now first.stm.now begun.2 first.seat.now self.seat.now c.end_of-outcome.new.seat c.give_back.new.self _ _ _ self.flight c.in-Some.flight
    (sym c.in-Some.ensures.value) c.end_of-outcome.new.flight.attempt begun.3 c.args.answer c.end_of-outcome.result c.end_of-outcome.ensures.ended c.give_back.ensures.same

pub returns-clause-concludes : goal.returns-clause-concludes
returns-clause-concludes g c first begun =
    let self = c.args.self.now in
    concludes_then g.L.Law.lawful g.L.Law.may self.stm.now first.stm.now begun.2 first.seat.now self.seat.now c.end_of-outcome.new.seat c.give_back.new.self _ _ _ self.flight c.in-Some.flight
    (sym c.in-Some.ensures.value) c.end_of-outcome.new.flight.attempt begun.3 c.args.answer c.end_of-outcome.result c.end_of-outcome.ensures.ended c.give_back.ensures.same

pub invariant_of-self : goal.invariant_of-self
invariant_of-self g c =
    let self = c.args.self.now in
    let stm = self.stm.now in
    rw c.in-Some.ensures.after (record {
      here = refl;
      going = tt;
      witness = ∥∥₁_map self.witness (less_witness (g.L.HeapLaw.heaps stm.law) stm self.flight);
      words = λ k d below. absurd (omega (arith, below));
      answered = tt;
      deep = omega arith;
    })
