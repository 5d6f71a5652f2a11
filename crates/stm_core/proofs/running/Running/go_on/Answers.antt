use Rattle.std.proofs.Common.{◌≡◌, suc, ◌+◌, ◌∷◌, drop, inl, refl, sym, ap, ◌∙◌, arith}
use Rattle.stm_core.proofs.Bodies.{at_body, behind_last}
use Rattle.stm_core.specs.Machine.{accesses_asked, reads_asked, writes_asked}
use Rattle.stm_core.specs.Running.{InvariantAt, attempt_at, base, left_at, reads_under_way, standing_at, writes_under_way}
use Rattle.stm_model.specs.After.{at}
use Rattle.stm_model.specs.Attempt.{Late, Stage}
use Rattle.stm_model.specs.declared.access.Ask.TheVariants.{Finish}
use Rattle.stm_model.specs.Moves.{asked_going, turn_to}
use Rattle.stm_core.proofs.running.Running.go_on.Goals as goal

pub conclude-requires-clause-last : goal.conclude-requires-clause-last
conclude-requires-clause-last c = behind_last c.args.self.now.handlers.laters c.args.self.now.turn (sym c.later_at.ensures.token ∙ c.in-None.is)

pub returns-in-Some : goal.returns-in-Some
unfolding InvariantAt attempt_at left_at reads_under_way writes_under_way accesses_asked reads_asked writes_asked asked_going
returns-in-Some c =
    let r = c.args.self.now in
    let next : drop r.turn r.handlers.laters ≡ c.in-Some.token ∷ drop (r.turn + 1) r.handlers.laters = at_body r.handlers.laters r.turn c.in-Some.token (sym c.later_at.ensures.token ∙ c.in-Some.is) in
    let one : r.turn + 1 ≡ suc r.turn = omega arith in
    let comes : (stage : Stage) → at (record (base r) { turn = r.turn + 1 }) (Late c.in-Some.token) ≡ asked_going (standing_at r stage) Finish =
    λ stage. ap (λ n. at (record (base r) { turn = n }) (Late c.in-Some.token)) one ∙ sym (ap (turn_to (standing_at r stage)) next) in
    record {
      moves = λ stage. inl (comes stage);
      takes = λ stage free. comes stage;
      asked = record {
        left = omega arith;
        room = record { for_reads = omega arith; for_writes = omega arith };
        numbers = record { own = refl; serial = refl; settings = refl };
        sound = record { fits = c.requires.fits; runs = rw c.requires.nothing_due tt; holds = omega arith };
      };
    }
