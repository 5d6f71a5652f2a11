use Rattle.opacity.proofs.Runs.{safe_opaque}
use Rattle.opacity.proofs.laws.what_is_safe_is_opaque.Goals as goal

pub returns-clause-legal : goal.returns-clause-legal
returns-clause-legal g c = λ law terms w safe. safe.legal

pub returns-clause-law : goal.returns-clause-law
returns-clause-law g c = λ law terms w safe. safe.law

pub returns-clause-opaque : goal.returns-clause-opaque
returns-clause-opaque g c = λ law terms w p safe caller begun flies. safe_opaque (g.L.Law.lawful law) (g.L.Law.may law) terms w p safe caller begun flies
