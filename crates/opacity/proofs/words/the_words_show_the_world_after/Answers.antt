use Rattle.opacity.proofs.WordSteps.{history_after, shows_after}
use Rattle.opacity.proofs.words.the_words_show_the_world_after.Goals as goal

pub returns-clause-world : goal.returns-clause-world
returns-clause-world c = λ terms words history view t act table within fit. shows_after terms words history view table t act within fit

pub returns-clause-history : goal.returns-clause-history
returns-clause-history c = history_after
