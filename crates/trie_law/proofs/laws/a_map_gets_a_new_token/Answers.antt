use Rattle.trie_law.proofs.Contents.{token_contents}
use Rattle.trie_law.proofs.Tokens.{renewed_dead, renewed_lawful, renewed_may, renewed_stands}
use Rattle.trie_law.proofs.laws.a_map_gets_a_new_token.Goals as goal

pub returns-clause-law : goal.returns-clause-law
returns-clause-law c = λ layout start below map token lawful within drew.
    (renewed_lawful layout start below map token lawful within drew, renewed_may layout start below map token lawful within drew)

pub returns-clause-retired : goal.returns-clause-retired
returns-clause-retired c = λ layout start below map token lawful within drew. renewed_dead layout start below map token lawful within drew

pub returns-clause-stands : goal.returns-clause-stands
returns-clause-stands c = λ layout start below map token root tree lawful within drew is. renewed_stands layout start below map token lawful within drew root tree is

pub returns-clause-holds : goal.returns-clause-holds
returns-clause-holds c = λ layout start below map token contents lawful within drew holds. token_contents layout start below map token contents lawful within drew holds
