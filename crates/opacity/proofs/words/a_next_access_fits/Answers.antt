use Rattle.stm_model.specs.World.{attempt_of}
use Rattle.opacity.proofs.NextAccess.{fits_at, fits_next}
use Rattle.opacity.proofs.words.a_next_access_fits.Goals as goal

pub returns-clause-stage : goal.returns-clause-stage
returns-clause-stage g c = λ law terms w p safe caller. fits_at (g.L.Law.lawful law) (g.L.Law.may law) terms w p safe caller (attempt_of w p).stage (safe.attempts p caller).stage (safe.attempts p caller).ending

pub returns-clause-next : goal.returns-clause-next
returns-clause-next g c = λ law terms w p act safe caller is. fits_next (g.L.Law.lawful law) (g.L.Law.may law) terms w p safe caller act is
