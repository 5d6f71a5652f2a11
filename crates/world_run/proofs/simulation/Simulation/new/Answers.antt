use Rattle.std.proofs.Common.{refl}
use Rattle.world_run.specs.Simulation.{simulation_of}
use Rattle.world_run.proofs.Openings.{opened_shows, opened_whole}
use Rattle.world_run.proofs.simulation.Simulation.new.Goals as goal

pub invariant_of-result : goal.invariant_of-result
invariant_of-result g c =
    let world = c.in_ok-world.world in
    let fresh = c.in_ok-world.ensures.fresh in
    let opens = c.in_ok-world.ensures.opens c.args.settings in
    let safe = c.in_ok-world.ensures.safe c.args.settings refl in
    let after = simulation_of world c.args.settings c.in_ok-machines.machines.items in
    record {
      callers = fresh.callers;
      limit = fresh.limit;
      whole = opened_whole g.L.Law.lawful g.L.Law.may after c.in_ok-machines.ensures.each (rw fresh.history refl) (rw fresh.opening opens) (rw (fresh.opening, fresh.law) safe)
          c.in_ok-machines.ensures.size c.requires.settings c.requires.attempts;
    }

pub returns-clause-opens : goal.returns-clause-opens
returns-clause-opens g c =
    let world = c.in_ok-world.world in
    let fresh = c.in_ok-world.ensures.fresh in
    let opens = c.in_ok-world.ensures.opens c.args.settings in
    let safe = c.in_ok-world.ensures.safe c.args.settings refl in
    opened_shows g.L.Law.lawful g.L.Law.may (simulation_of world c.args.settings c.in_ok-machines.machines.items) c.in_ok-machines.ensures.each (rw fresh.history refl) (rw fresh.opening opens) (rw (fresh.opening, fresh.law) safe)
