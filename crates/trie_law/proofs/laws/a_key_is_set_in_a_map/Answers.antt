use Rattle.trie_law.proofs.Sets.{delete_contents, put_contents}
use Rattle.trie_law.proofs.laws.a_key_is_set_in_a_map.Goals as goal

pub returns-clause-put : goal.returns-clause-put
returns-clause-put c = put_contents

pub returns-clause-removed : goal.returns-clause-removed
returns-clause-removed c = delete_contents
