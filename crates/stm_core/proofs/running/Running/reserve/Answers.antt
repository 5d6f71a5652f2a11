use Rattle.stm_core.proofs.Spare.{sound_with_room}
use Rattle.stm_core.proofs.running.Running.reserve.Goals as goal

pub returns-clause-sound : goal.returns-clause-sound
returns-clause-sound c =
    sound_with_room c.args.self.now c.reserve.new.self c.reserve_first_writes.new.self c.reserve.ensures.same c.reserve_first_writes.ensures.same c.reserve.ensures.spare c.reserve_first_writes.ensures.spare c.reserve_first_writes.ensures.marks c.requires
