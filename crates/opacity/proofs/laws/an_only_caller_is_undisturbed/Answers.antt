use Rattle.opacity.proofs.LoneRuns.{only_undisturbed}
use Rattle.opacity.proofs.Openings.{opened_safe}
use Rattle.opacity.proofs.laws.an_only_caller_is_undisturbed.Goals as goal

pub returns : goal.returns
returns g c = λ law terms settings events fits limit opens one able meets.
    only_undisturbed (g.L.Law.lawful law) (g.L.Law.may law) terms settings events one (opened_safe terms settings (g.L.Law.lawful law) (g.L.Law.may law) fits limit opens) able meets
