use Rattle.std.proofs.Common.{subst, sym}
use Rattle.stm_model.specs.Heap.{AreWords}
use Rattle.stm_model.specs.Safe.{Safe}
use Rattle.stm_model.specs.World.{World}
use Rattle.opacity.specs.Plain.{terms_of}
use Rattle.opacity.proofs.Openings.{opened_safe}
use Rattle.opacity.proofs.PlainOpening.{all_words, shows_opened}
use Rattle.opacity.proofs.world.World.new.Goals as goal

pub returns-clause-opens : goal.returns-clause-opens
returns-clause-opens g c = λ settings.
    shows_opened c.args.opening.now c.args.callers c.args.limit c.in_ok-words.words.items c.in_ok-words.ensures settings

pub returns-clause-safe : goal.returns-clause-safe
returns-clause-safe g c = λ settings limit.
    let words : AreWords c.args.opening.now = all_words c.args.opening.now (λ cell. (c.type_inv.opening cell).fits) in
    subst (λ (w : World). Safe (g.L.Law.lawful c.args.law) (g.L.Law.may c.args.law) (terms_of c.args.opening.now c.args.callers c.args.limit) w)
    (sym (shows_opened c.args.opening.now c.args.callers c.args.limit c.in_ok-words.words.items c.in_ok-words.ensures settings))
    (opened_safe _ settings (g.L.Law.lawful c.args.law) (g.L.Law.may c.args.law) (record { callers = c.requires.callers; limit = c.requires.limit; words = words }) limit c.requires.lawful)
