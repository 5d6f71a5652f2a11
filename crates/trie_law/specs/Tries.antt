-- A trie as a tree: where it stands in a heap, which shape it has, and which value a key has in it.
use Rattle.std.specs.Prelude.{◌≡◌, ℕ, suc, ◌+◌, ◌*◌, ◌^◌, ◌<◌, ◌≤◌, nat_eq, ◌&&◌, if◌then◌else◌, List, [], ◌∷◌, ◌++◌, length, count_by, slice_index_or, Option, Some}
use Rattle.std.specs.List.{AllByRecursion, IsDistinct}
use Rattle.std.specs.Map.{keys_of}
use Rattle.stm_model.specs.declared.sizes.Layout.{Layout}
use Rattle.ledger_model.specs.Maps.{value_at}
use Rattle.trie_law.specs.Blocks.{IsDrawn, branch_header, leaf_header, sum_below, word}
use Rattle.trie_law.specs.Nibbles.{nibble, way}

-- a leaf: its block, its generation and its pairs
pub record Leaf : Type 0 where
  pub block : ℕ
  pub generation : ℕ
  pub pairs : List (ℕ × ℕ)

-- A chain of leaves, which may be none, or a branch with its block, its generation and a tree for each nibble.
pub data Tree : Type 0 where
  Leaves : (chain : List Leaf) → Tree
  Branch : (block generation : ℕ) → (children : ℕ → Tree) → Tree

-- ---- where it stands

-- The cells behind a header hold these pairs.
pub record HoldsPairs (layout : Layout) (heap : List ℕ) (block : ℕ) (pairs : List (ℕ × ℕ)) : Type 0 where
  pub keys : (i : ℕ) → i < length pairs → word layout heap block (1 + 2 * i) ≡ (slice_index_or pairs i (0, 0)).0
  pub values : (i : ℕ) → i < length pairs → word layout heap block (2 + 2 * i) ≡ (slice_index_or pairs i (0, 0)).1

-- The leaf stands at this block.
pub record IsLeafAt (layout : Layout) (heap : List ℕ) (block : ℕ) (leaf : Leaf) : Type 0 where
  pub is : leaf.block ≡ block
  pub some : 0 < block
  pub header : word layout heap block 0 ≡ leaf_header (length leaf.pairs) leaf.generation
  pub room : length leaf.pairs ≤ 8
  pub holds : HoldsPairs layout heap block leaf.pairs

-- A branch of this number and generation stands at this block.
pub record IsBranchAt (layout : Layout) (heap : List ℕ) (block number generation : ℕ) : Type 0 where
  pub is : number ≡ block
  pub some : 0 < block
  pub header : word layout heap block 0 ≡ branch_header generation

-- The leaves stand one behind the other from this block on, each in its predecessor's cell for the next one.
abbrev pub ChainStands : Layout → List ℕ → (block : ℕ) → List Leaf → Type 0
ChainStands layout heap block [] = block ≡ 0
ChainStands layout heap block (leaf ∷ chain) = IsLeafAt layout heap block leaf × ChainStands layout heap (word layout heap block 17) chain

-- The tree stands at this block; block 0 is no leaf at all.
abbrev pub Stands : Layout → List ℕ → (block : ℕ) → Tree → Type 0
Stands layout heap block (Leaves chain) = ChainStands layout heap block chain
Stands layout heap block (Branch number generation children) =
    IsBranchAt layout heap block number generation
    × ((i : ℕ) → i < 16 → Stands layout heap (word layout heap block (1 + i)) (children i))

-- ---- its pairs

-- the pairs of a chain, leaf by leaf
abbrev pub pairs_of : List Leaf → List (ℕ × ℕ)
pairs_of [] = []
pairs_of (leaf ∷ chain) = leaf.pairs ++ pairs_of chain

-- the value of a key in a tree at this depth, if it has one
abbrev pub value_in : (depth : ℕ) → Tree → (key : ℕ) → Option ℕ
value_in depth (Leaves chain) key = value_at key (pairs_of chain)
value_in depth (Branch block generation children) key = value_in (suc depth) (children (nibble depth key)) key

-- ---- its shape

-- No key stands twice, and each has come by this way.
pub record AreOnWay (so_far depth : ℕ) (pairs : List (ℕ × ℕ)) : Type 0 where
  pub distinct : IsDistinct nat_eq (keys_of pairs)
  pub here : (key value : ℕ) → value_at key pairs ≡ Some value → way depth key ≡ so_far

-- no leaf behind the first is empty
abbrev pub LaterHavePairs : List Leaf → Type 0
LaterHavePairs [] = Unit {0}
LaterHavePairs (leaf ∷ chain) = AllByRecursion (λ later. 0 < length later.pairs) chain

-- A chain at this depth and on this way. Only at depth 8, where the hash is used up, it may have several leaves.
pub record IsChain (so_far depth : ℕ) (chain : List Leaf) : Type 0 where
  pub deep : depth ≤ 8
  pub single : depth < 8 → length chain ≤ 1
  pub filled : LaterHavePairs chain
  pub pairs : AreOnWay so_far depth (pairs_of chain)

-- A tree at this depth and on this way has the shape of a trie.
abbrev pub IsShaped : (so_far depth : ℕ) → Tree → Type 0
IsShaped so_far depth (Leaves chain) = IsChain so_far depth chain
IsShaped so_far depth (Branch block generation children) =
    (depth < 8) × ((i : ℕ) → i < 16 → IsShaped (so_far + i * 2 ^ (4 * depth)) (suc depth) (children i))

-- ---- its blocks

-- Something holds of all blocks of the tree, each told with its generation.
abbrev pub EachBlock : (ℕ → ℕ → Type 0) → Tree → Type 0
EachBlock Holds (Leaves chain) = AllByRecursion (λ leaf. Holds leaf.block leaf.generation) chain
EachBlock Holds (Branch block generation children) = Holds block generation × ((i : ℕ) → i < 16 → EachBlock Holds (children i))

-- Each block of the tree is drawn.
abbrev pub AreDrawn : Layout → List ℕ → Tree → Type 0
AreDrawn layout heap tree = EachBlock (λ block generation. IsDrawn layout heap block) tree

-- how many paths of a tree lead to a block that has this generation there
abbrev pub path_count : (generation block : ℕ) → Tree → ℕ
path_count generation block (Leaves chain) = count_by (λ leaf. nat_eq block leaf.block && nat_eq generation leaf.generation) chain
path_count generation block (Branch number own children) =
    (if nat_eq block number && nat_eq generation own then 1 else 0) + sum_below 16 (λ i. path_count generation block (children i))

-- ---- from a root on

-- The tree is what the root leads to: all its blocks are drawn, it stands at the root, and it is shaped as a trie.
pub record IsTrie (layout : Layout) (heap : List ℕ) (root : ℕ) (tree : Tree) : Type 0 where
  pub stands : Stands layout heap root tree
  pub drawn : AreDrawn layout heap tree
  pub shaped : IsShaped 0 0 tree
