use Rattle.opacity.proofs.PlainSteps.{act_plain}
use Rattle.opacity.proofs.world.World.act.Goals as goal

pub returns-clause-shows : goal.returns-clause-shows
returns-clause-shows g c = λ history view attempts safe.
    let self = c.args.self.now in
    rw c.access.ensures.words (act_plain (g.L.Law.lawful self.law) (g.L.Law.may self.law) _ self.words.items history view c.args.caller safe (record { size = self.size; each = self.each })
    c.requires.caller c.args.access c.access.ensures.brings c.requires.undecided)
