use Rattle.opacity.proofs.LoneRuns.{undisturbed_run}
use Rattle.opacity.proofs.laws.an_attempt_alone_is_undisturbed.Goals as goal

pub returns : goal.returns
returns g c = λ law terms w p events caller safe is lone able meets leaves. undisturbed_run (g.L.Law.lawful law) (g.L.Law.may law) terms p caller w events safe is lone able meets leaves
