use Rattle.std.proofs.Common.{sym, ap, ◌∙◌, arith}
use Rattle.stm_core.proofs.Asking.{closes_stopped, has_open}
use Rattle.stm_core.specs.Running.{InvariantAt, attempt_at, left_at, reads_under_way, refused, writes_under_way}
use Rattle.stm_core.specs.declared.running.Running.{Running}
use Rattle.stm_model.specs.After.{at}
use Rattle.stm_model.specs.Attempt.{Stopped}
use Rattle.stm_core.proofs.running.Running.ask_stopped.Goals as goal

pub close_level-requires-clause-open : goal.close_level-requires-clause-open
close_level-requires-clause-open c = has_open c.args.ask c.args.self.now.levels c.in-Keep.is c.requires.open

pub returns-in-Keep-clause-moves : goal.returns-in-Keep-clause-moves
unfolding attempt_at
returns-in-Keep-clause-moves c =
    ap (λ t. at t (Stopped c.args.cause)) c.close_level.ensures.closed
    ∙ sym (closes_stopped (refused c.args.self.now c.args.cause) c.args.cause c.args.ask c.in-Keep.is)

pub returns-in-Keep-clause-asked : goal.returns-in-Keep-clause-asked
unfolding InvariantAt left_at reads_under_way writes_under_way
returns-in-Keep-clause-asked c =
    let same = c.close_level.ensures.same in
    record {
      left = omega arith;
      room = record {
        for_reads = omega (arith, ap (λ (r : Running). r.footprint.reads.spare) same);
        for_writes = omega (arith, ap (λ (r : Running). r.footprint.writes.spare) same);
      };
      numbers = record { own = ap (λ (r : Running). r.own) same; serial = ap (λ (r : Running). r.serial) same; settings = ap (λ (r : Running). r.settings) same };
      sound = record {
        fits = c.close_level.ensures.fits;
        runs = rw (ap (λ (r : Running). r.due) same, c.requires.stopped.nothing_due) tt;
        holds = tt;
      };
    }
