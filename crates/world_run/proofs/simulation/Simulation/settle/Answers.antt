use Rattle.std.proofs.Common.{◌≡◌, IsTrue, Bool, true, false, refl, sym, ◌∙◌}
use Rattle.stm_core.specs.Machine.{next_of}
use Rattle.world_run.specs.Simulation.{attempt_in, replies}
use Rattle.world_run.proofs.Going.{goes_none, goes_on, turns_on}
use Rattle.world_run.proofs.Owing.{owes_next}
use Rattle.world_run.proofs.Seats.{caller_then}
use Rattle.world_run.proofs.simulation.Simulation.settle.Goals as goal

still : {b : Bool} → b ≡ false → b ≡ true → ⊥
still one other = cc (sym one ∙ other)

pub loop-self-init : goal.loop-self-init
loop-self-init g c = record { caller = c.requires.caller; goes = goes_none c.args.self.now; stays = λ replied. refl }

pub advance-requires-clause-owed : goal.advance-requires-clause-owed
advance-requires-clause-owed g c = λ wins.
    let here = c.loop-self.self in
    let asks = c.requires.owed.0 in
    let goes = c.loop-self.invariant.goes in
    owes_next (g.L.Law.lawful here.law) (g.L.Law.may here.law) _ asks (attempt_in here c.args.caller) _ wins (goes.meets asks c.requires.owed.1)

pub loop-self-preserved : goal.loop-self-preserved
loop-self-preserved g c =
    let happens = c.in_ok-advance.ensures.happens in
    let here = c.loop-self.self in
    let caller = c.loop-self.invariant.caller in
    let whole = c.replies.ensures.invariant in
    record {
      caller = caller_then c.args.caller c.advance.ensures.terms caller;
      stays = λ replied. let here : IsTrue (replies (next_of (attempt_in c.loop-self.self c.args.caller))) = rw (c.loop-self.invariant.stays replied) replied in absurd (still c.loop-self-test.true (c.replies.ensures.told ∙ here));
      goes = goes_on c.loop-self.invariant.goes (turns_on c.args.caller whole.world whole.shows caller c.advance.ensures.same (attempt_in here c.args.caller).due happens);
    }
