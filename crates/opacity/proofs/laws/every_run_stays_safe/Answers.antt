use Rattle.opacity.proofs.Openings.{opened_safe}
use Rattle.opacity.proofs.Runs.{run_safe}
use Rattle.opacity.proofs.laws.every_run_stays_safe.Goals as goal

pub returns : goal.returns
returns g c = λ law terms settings events fits limit opens able meets.
    run_safe (g.L.Law.lawful law) (g.L.Law.may law) terms events _ able meets (opened_safe terms settings (g.L.Law.lawful law) (g.L.Law.may law) fits limit opens)
