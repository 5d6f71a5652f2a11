-- What calls below `put` and `remove` make of a heap: they draw blocks and fill them, and write in place what is the map's own.
use Rattle.std.specs.Prelude.{◌≡◌, ℕ, ◌+◌, ◌*◌, ◌<◌, ◌≤◌, ◌⊎◌, List, length, slice_index, slice_set}
use Rattle.stm_model.specs.declared.sizes.TheConstants.{BLOCK_CELLS}
use Rattle.stm_model.specs.declared.sizes.Layout.{Layout}
use Rattle.stm_model.specs.Layouts.{IsBlock, block_at, stripe_at}
use Rattle.trie_law.specs.Blocks.{IsDrawn, IsToken, SameBlock, drawn_count, generation, kind}
use Rattle.trie_law.specs.Law.{HasChildren, IsOfMap}
use Rattle.trie_law.specs.Tries.{AreDrawn, EachBlock, Stands, Tree, path_count}

-- A stripe with room gave its next block, and its count went up by one.
pub record Drew (layout : Layout) (before after : List ℕ) (block : ℕ) : Type 0 where
  pub stripe : ℕ
  pub stripe_in : stripe < layout.stripes
  pub room : drawn_count layout before stripe < layout.per_stripe
  pub is : block ≡ 1 + stripe * layout.per_stripe + drawn_count layout before stripe
  pub counted : after ≡ slice_set before (stripe_at layout stripe) (drawn_count layout before stripe + 1)

-- The two heaps differ in this block alone.
pub record Filled (layout : Layout) (before after : List ℕ) (block : ℕ) : Type 0 where
  pub size : length after ≡ length before
  pub outside : (cell : ℕ) → (cell < block_at layout block 0) ⊎ (block_at layout block BLOCK_CELLS ≤ cell)
      → slice_index after cell ≡ slice_index before cell

-- A block was drawn, and filled as a token.
pub record DrewToken (layout : Layout) (before after : List ℕ) (block : ℕ) : Type 0 where
  pub drawn : List ℕ
  pub drew : Drew layout before drawn block
  pub filled : Filled layout drawn after block
  pub token : IsToken layout after block

-- The block may be written in place: it is one of the handed tree and has the map's generation, which isn't 0.
abbrev pub IsWritable : (own : ℕ) → (handed : Tree) → (block : ℕ) → Type 0
IsWritable own handed block = (0 < own) × (0 < path_count own block handed)

-- All drawn branches have children as they have to be.
abbrev pub AllHaveChildren : Layout → List ℕ → Type 0
AllHaveChildren layout heap = (block : ℕ) → IsDrawn layout heap block → HasChildren layout heap block

-- Blocks were drawn and filled, as ones of this generation, and blocks of the handed tree were written that are its map's own. No other block that was drawn changed, and no cell before the stripes' counts.
pub record Grown (layout : Layout) (own : ℕ) (handed : Tree) (before after : List ℕ) : Type 0 where
  pub size : length after ≡ length before
  pub counts : (stripe : ℕ) → stripe < layout.stripes → drawn_count layout before stripe ≤ drawn_count layout after stripe
  pub most : (stripe : ℕ) → stripe < layout.stripes → drawn_count layout before stripe ≤ layout.per_stripe → drawn_count layout after stripe ≤ layout.per_stripe
  pub kept : (block : ℕ) → IsDrawn layout before block → ¬ IsWritable own handed block → SameBlock layout before after block
  -- What is drawn stays what it is, and a token is never written.
  pub kinds : (block : ℕ) → IsDrawn layout before block → kind layout after block ≡ kind layout before block
  pub generations : (block : ℕ) → IsDrawn layout before block → generation layout after block ≡ generation layout before block
  pub tokens : (block : ℕ) → IsDrawn layout before block → kind layout before block ≡ 3 → SameBlock layout before after block
  pub new : (block : ℕ) → IsDrawn layout after block → ¬ IsDrawn layout before block → generation layout after block ≡ own
  pub undrawn : (block : ℕ) → IsBlock layout block → ¬ IsDrawn layout after block → SameBlock layout before after block
  pub others : (cell : ℕ) → cell < layout.refs + 2 * layout.maps + layout.snaps → slice_index after cell ≡ slice_index before cell
  pub children : AllHaveChildren layout before → AllHaveChildren layout after

-- A call is handed this tree of a map with this generation: it stands at this block, of drawn blocks.
pub record IsHanded (layout : Layout) (heap : List ℕ) (own block : ℕ) (tree : Tree) : Type 0 where
  pub stands : Stands layout heap block tree
  pub drawn : AreDrawn layout heap tree
  pub owned : IsOfMap layout heap own tree

-- The tree stands at this block, of drawn blocks, and was made of the handed one. Each of its blocks has this generation or is one of the handed tree. Those of this generation are new or of the handed tree, and one path leads to each.
pub record IsMadeFrom (layout : Layout) (own : ℕ) (before after : List ℕ) (handed : Tree) (block : ℕ) (tree : Tree) : Type 0 where
  pub stands : Stands layout after block tree
  pub drawn : AreDrawn layout after tree
  pub from : EachBlock (λ number other. (other ≡ own) ⊎ (0 < path_count other number handed)) tree
  pub old : 0 < own → (number : ℕ) → IsDrawn layout before number → path_count own number tree ≤ path_count own number handed
  pub once : 0 < own → (number : ℕ) → path_count own number tree ≤ 1
