-- Which heaps of maps and snapshots are lawful, and which of them may follow which. A map may change what has its generation, and that alone; so a snapshot needs no copy, only a new generation for its map.
use Rattle.std.specs.Prelude.{◌≡◌, ℕ, ◌+◌, ◌<◌, ◌≤◌, ◌⊎◌, List, length, slice_index, slice_set}
use Rattle.stm_model.specs.declared.sizes.TheConstants.{BLOCK_CELLS}
use Rattle.stm_model.specs.declared.sizes.Layout.{Layout}
use Rattle.stm_model.specs.Layouts.{IsBlock, cell_count, generation_at, root_at, slot_at}
use Rattle.trie_law.specs.Blocks.{IsDrawn, IsNode, IsToken, SameBlock, drawn_count, generation, kind, word}
use Rattle.trie_law.specs.Tries.{EachBlock, IsTrie, Tree, path_count}

-- the block with which a map's trie begins, or 0
abbrev pub map_root : Layout → List ℕ → (map : ℕ) → ℕ
map_root layout heap map = slice_index heap (root_at layout map)

-- a map's generation
abbrev pub map_generation : Layout → List ℕ → (map : ℕ) → ℕ
map_generation layout heap map = slice_index heap (generation_at layout map)

-- the block with which a slot's trie begins, or 0
abbrev pub slot_root : Layout → List ℕ → (snap : ℕ) → ℕ
slot_root layout heap snap = slice_index heap (slot_at layout snap)

-- the heap with another root of a map
abbrev pub with_root : Layout → List ℕ → (map root : ℕ) → List ℕ
with_root layout heap map root = slice_set heap (root_at layout map) root

-- the heap with another generation of a map
abbrev pub with_generation : Layout → List ℕ → (map number : ℕ) → List ℕ
with_generation layout heap map number = slice_set heap (generation_at layout map) number

-- the heap with another root of a slot
abbrev pub with_slot : Layout → List ℕ → (snap root : ℕ) → List ℕ
with_slot layout heap snap root = slice_set heap (slot_at layout snap) root

-- ---- generations

-- The number may be a generation: it is 0, or that of a token which is drawn.
abbrev pub IsGeneration : Layout → List ℕ → ℕ → Type 0
IsGeneration layout heap number = (number ≡ 0) ⊎ (IsDrawn layout heap number × IsToken layout heap number)

-- Some map has this generation, and it isn't 0.
pub record IsLive (layout : Layout) (heap : List ℕ) (number : ℕ) : Type 0 where
  pub map : ℕ
  pub map_in : map < layout.maps
  pub is : map_generation layout heap map ≡ number
  pub some : 0 < number

-- The block is live: no token, and its generation is some map's.
pub record IsLiveBlock (layout : Layout) (heap : List ℕ) (block : ℕ) : Type 0 where
  pub node : IsNode layout heap block
  pub live : IsLive layout heap (generation layout heap block)

-- ---- what holds of roots and branches

-- The tree may be one of a map with this generation: its live blocks have that generation, and one path leads to each of them.
pub record IsOfMap (layout : Layout) (heap : List ℕ) (own : ℕ) (tree : Tree) : Type 0 where
  pub same : EachBlock (λ block other. IsLive layout heap other → other ≡ own) tree
  pub once : 0 < own → (block : ℕ) → path_count own block tree ≤ 1

-- The root has a trie, of a map with this generation.
pub record HasTrie (layout : Layout) (heap : List ℕ) (own root : ℕ) : Type 0 where
  pub tree : Tree
  pub trie : IsTrie layout heap root tree
  pub owned : IsOfMap layout heap own tree

-- The child of a branch is drawn, and has the branch's generation where it is live.
pub record IsChildOf (layout : Layout) (heap : List ℕ) (branch child : ℕ) : Type 0 where
  pub drawn : IsDrawn layout heap child
  pub same : IsLiveBlock layout heap child → generation layout heap child ≡ generation layout heap branch

-- Where the block is a branch, each of its children is none or such a child.
abbrev pub HasChildren : Layout → List ℕ → (block : ℕ) → Type 0
HasChildren layout heap block =
    kind layout heap block ≡ 1 → (i : ℕ) → i < 16
    → (word layout heap block (1 + i) ≡ 0) ⊎ IsChildOf layout heap block (word layout heap block (1 + i))

-- ---- the law

-- The heap is a lawful one.
pub record IsLawful (layout : Layout) (heap : List ℕ) : Type 0 where
  -- The heap has the layout's cells.
  pub size : length heap ≡ cell_count layout
  -- A map has a trie of its generation, and none at all while that is 0.
  pub maps : (map : ℕ) → map < layout.maps → HasTrie layout heap (map_generation layout heap map) (map_root layout heap map)
  pub none : (map : ℕ) → map < layout.maps → map_generation layout heap map ≡ 0 → map_root layout heap map ≡ 0
  -- A slot has a trie without live blocks.
  pub slots : (snap : ℕ) → snap < layout.snaps → HasTrie layout heap 0 (slot_root layout heap snap)
  -- A stripe has no more drawn blocks than blocks, and all others are zero.
  pub counts : (stripe : ℕ) → stripe < layout.stripes → drawn_count layout heap stripe ≤ layout.per_stripe
  pub undrawn : (block index : ℕ) → IsBlock layout block → ¬ IsDrawn layout heap block → index < BLOCK_CELLS → word layout heap block index ≡ 0
  -- The generation of each map and block is 0 or a token. No two maps share one, unless it is 0.
  pub map_generations : (map : ℕ) → map < layout.maps → IsGeneration layout heap (map_generation layout heap map)
  pub block_generations : (block : ℕ) → IsDrawn layout heap block → IsGeneration layout heap (generation layout heap block)
  pub apart : (one other : ℕ) → one < layout.maps → other < layout.maps
      → map_generation layout heap one ≡ map_generation layout heap other → 0 < map_generation layout heap one → one ≡ other
  -- Each child of a drawn branch is none or such a child, also where no path leads to the branch.
  pub children : (block : ℕ) → IsDrawn layout heap block → HasChildren layout heap block

-- A lawful heap may be followed by the second one.
pub record MayBecome (layout : Layout) (before after : List ℕ) : Type 0 where
  -- What is drawn stays drawn.
  pub counts : (stripe : ℕ) → stripe < layout.stripes → drawn_count layout before stripe ≤ drawn_count layout after stripe
  -- A drawn block that isn't live doesn't change.
  pub kept : (block : ℕ) → IsDrawn layout before block → ¬ IsLiveBlock layout before block → SameBlock layout before after block
  -- A token that is no map's generation never is one again.
  pub retired : (token : ℕ) → IsDrawn layout before token → IsToken layout before token → ¬ IsLive layout before token → ¬ IsLive layout after token
