use Rattle.opacity.proofs.Truths.{committed_shows, rolled_shows}
use Rattle.opacity.proofs.laws.what_was_refused_is_shown.Goals as goal

pub returns-clause-refused : goal.returns-clause-refused
returns-clause-refused g c = λ law terms w p safe caller. (safe.attempts p caller).refused

pub returns-clause-rolled : goal.returns-clause-rolled
returns-clause-rolled g c = λ law terms w p cause prefix safe caller ends. rolled_shows terms w p _ cause prefix (safe.attempts p caller) ends

pub returns-clause-committed : goal.returns-clause-committed
returns-clause-committed g c = λ law terms w p stamp safe caller ends. committed_shows terms w p _ stamp (safe.attempts p caller) ends
