-- The pairs of maps and slots, and what a heap holds as a job's contents.
use Rattle.std.specs.Prelude.{◌≡◌, ℕ, zero, suc, ◌<◌, ◌++◌, List, [], length, take, slice_index_or}
use Rattle.stm_model.specs.declared.sizes.Layout.{Layout}
use Rattle.stm_model.specs.Pairs.{KeysAscend}
use Rattle.ledger_model.specs.declared.job.Contents.{Contents}
use Rattle.ledger_model.specs.Maps.{value_at}
use Rattle.trie_law.specs.Blocks.{used_count}
use Rattle.trie_law.specs.Law.{map_root, slot_root}
use Rattle.trie_law.specs.Tries.{Branch, IsTrie, Leaves, Tree, pairs_of, value_in}

-- The root has these pairs: by ascending key, with the values that its trie has.
pub record HasPairs (layout : Layout) (heap : List ℕ) (root : ℕ) (pairs : List (ℕ × ℕ)) : Type 0 where
  pub tree : Tree
  pub trie : IsTrie layout heap root tree
  pub ascend : KeysAscend pairs
  pub values : (key : ℕ) → value_at key pairs ≡ value_in 0 tree key

-- the lists that a function gives below a number, one behind the other
abbrev pub joined : ℕ → (ℕ → List (ℕ × ℕ)) → List (ℕ × ℕ)
joined zero f = []
joined (suc n) f = joined n f ++ f n

-- the pairs of a tree, child by child
abbrev pub all_pairs : Tree → List (ℕ × ℕ)
all_pairs (Leaves chain) = pairs_of chain
all_pairs (Branch block own children) = joined 16 (λ i. all_pairs (children i))

-- The heap holds these contents: the words of the refs, the pairs of the maps and the slots, and as many blocks in use as are drawn.
pub record HoldsContents (layout : Layout) (heap : List ℕ) (contents : Contents) : Type 0 where
  pub refs : contents.refs ≡ take layout.refs heap
  pub map_count : length contents.maps ≡ layout.maps
  pub maps : (map : ℕ) → map < layout.maps → HasPairs layout heap (map_root layout heap map) (slice_index_or contents.maps map [])
  pub slot_count : length contents.slots ≡ layout.snaps
  pub slots : (snap : ℕ) → snap < layout.snaps → HasPairs layout heap (slot_root layout heap snap) (slice_index_or contents.slots snap [])
  pub used : contents.used ≡ used_count layout heap
