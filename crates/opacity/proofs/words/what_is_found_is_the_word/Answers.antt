use Rattle.opacity.proofs.WordSteps.{found_word}
use Rattle.opacity.proofs.words.what_is_found_is_the_word.Goals as goal

pub returns : goal.returns
returns c = found_word
