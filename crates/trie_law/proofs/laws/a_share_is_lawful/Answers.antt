use Rattle.trie_law.proofs.Contents.{share_contents}
use Rattle.trie_law.proofs.Tokens.{share_lawful, share_may, share_stands}
use Rattle.trie_law.proofs.laws.a_share_is_lawful.Goals as goal

pub returns-clause-law : goal.returns-clause-law
returns-clause-law c = λ layout start below second from into token other lawful from_in into_in drew drew_other. (
  share_lawful layout start below second from into token other lawful from_in into_in drew drew_other,
  share_may layout start below second from into token other lawful from_in into_in drew drew_other,
)

pub returns-clause-stands : goal.returns-clause-stands
returns-clause-stands c = λ layout start below second from into token other root tree lawful from_in into_in drew drew_other is.
    share_stands layout start below second from into token other lawful from_in into_in drew drew_other root tree is

pub returns-clause-holds : goal.returns-clause-holds
returns-clause-holds c = λ layout start below second from into token other contents lawful from_in into_in drew drew_other holds.
    share_contents layout start below second from into token other contents lawful from_in into_in drew drew_other holds
