use Rattle.std.proofs.Common.{ap, inl, rules, arith}
use Rattle.stm_core.specs.Machine.{accesses_asked, reads_asked, writes_asked}
use Rattle.stm_core.specs.Running.{InvariantAt, attempt_at, left_at, reads_under_way, writes_under_way}
use Rattle.stm_core.proofs.running.Running.keep.Goals as goal
use Rattle.stm_core.specs.declared.running.Running.{Running}
use Rattle.stm_model.specs.After.{done}
use Rattle.stm_model.specs.Moves.{MayRunOut, asked_going}

pub returns : goal.returns
unfolding InvariantAt attempt_at left_at reads_under_way writes_under_way accesses_asked reads_asked writes_asked asked_going MayRunOut
returns c =
    let same = c.close_level.ensures.same in
    let footprint = ap (λ (r : Running). r.footprint) same in
    record {
      moves = λ stage. inl (ap done c.close_level.ensures.closed);
      takes = λ stage room. ap done c.close_level.ensures.closed;
      asked = record {
        left = search rules;
        room = rw footprint (record { for_reads = omega arith; for_writes = omega arith });
        numbers = record { own = ap (λ (r : Running). r.own) same; serial = ap (λ (r : Running). r.serial) same; settings = ap (λ (r : Running). r.settings) same };
        sound = record { fits = c.close_level.ensures.fits; runs = rw (ap (λ (r : Running). r.due) same, c.requires.free.nothing_due) tt; holds = tt };
      };
    }
