use Rattle.trie_law.proofs.Contents.{snapshot_contents}
use Rattle.trie_law.proofs.Tokens.{snapshot_lawful, snapshot_may, snapshot_stands}
use Rattle.trie_law.proofs.laws.a_snapshot_is_lawful.Goals as goal

pub returns-clause-law : goal.returns-clause-law
returns-clause-law c = λ layout start below map snap token lawful within snap_in drew.
    (snapshot_lawful layout start below map token lawful within drew snap snap_in, snapshot_may layout start below map token lawful within drew snap snap_in)

pub returns-clause-stands : goal.returns-clause-stands
returns-clause-stands c = λ layout start below map snap token root tree lawful within snap_in drew is.
    snapshot_stands layout start below map token lawful within drew snap snap_in root tree is

pub returns-clause-holds : goal.returns-clause-holds
returns-clause-holds c = λ layout start below map snap token contents lawful within snap_in drew holds.
    snapshot_contents layout start below map token contents lawful within drew holds snap snap_in
