use Rattle.std.proofs.Common.{◌≡◌, ◌∙◌, List, [], true, codes, refl, ap, subst}
use Rattle.clap.proofs.WalkLemmas.{first_value-rows}
use Rattle.clap.specs.Words.{App, Text, fault_of, first_of, first_value, found_of, is_simple, is_simple_and_free, matches_of, rows_of}
use Rattle.clap.specs.declared.parser.matches.Found.{Found}
use Rattle.bank_words.specs.Asking.{asked_for, bank, given, task_by}
use Rattle.bank_words.proofs.words.task_of.Goals as goal

-- what is found for an argument is what the words give
found_given : (words : List Text) (found : Found) (name : Text) → rows_of found ≡ matches_of bank words → first_value found name ≡ given words name
found_given words found name rows = first_value-rows found name ∙ ap (first_of name) rows

-- where clap reads the words, the task is the one that they ask for
reads : (app : App) (words : List Text) (found : Found) → app ≡ bank
    → (is_simple_and_free app ≡ true → fault_of app words ≡ [])
    → (is_simple app ≡ true → rows_of found ≡ matches_of app words)
    → task_by (first_value found (codes "load")) (first_value found (codes "scripts")) (first_value found (codes "threads")) ≡ asked_for words
reads app words found is kinds matches =
    let none : fault_of bank words ≡ [] = subst (λ a. is_simple_and_free a ≡ true → fault_of a words ≡ []) is kinds refl in
    let rows : rows_of found ≡ matches_of bank words = subst (λ a. is_simple a ≡ true → rows_of found ≡ matches_of a words) is matches refl in
    rw (none, found_given words found (codes "load") rows, found_given words found (codes "scripts") rows, found_given words found (codes "threads") rows) refl

pub returns-in-Ok : goal.returns-in-Ok
returns-in-Ok c =
    c.task_by.ensures ∙ reads _ _ (found_of c.in-Ok.matches) c.in_ok-command.ensures c.in-Ok.ensures.kinds (λ simple. (c.in-Ok.ensures.matches simple).0)
