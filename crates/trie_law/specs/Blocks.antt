-- The blocks of a heap: what stands in them, and which of them are drawn.
use Rattle.std.specs.Prelude.{◌≡◌, ℕ, zero, suc, ◌+◌, ◌*◌, ◌/◌, ◌%◌, ◌<◌, ◌⊎◌, List, slice_index}
use Rattle.stm_model.specs.declared.sizes.TheConstants.{BLOCK_CELLS}
use Rattle.stm_model.specs.declared.sizes.Layout.{Layout}
use Rattle.stm_model.specs.Layouts.{block_at, stripe_at}

-- Cell 0 of a block is its header. Behind it a branch has sixteen children, one for each nibble, and 0 for none. A leaf has pairs there, eight at the most, each a key with its value next to it; its last cell, 17, has the next leaf of its chain, or 0. A token has nothing but its header.

-- the word in a cell of a block
abbrev pub word : Layout → List ℕ → (block index : ℕ) → ℕ
word layout heap block index = slice_index heap (block_at layout block index)

-- ---- headers

-- the header of a branch of this generation
abbrev pub branch_header : (generation : ℕ) → ℕ
branch_header generation = 1 + 64 * generation

-- the header of a leaf of this generation with so many pairs
abbrev pub leaf_header : (pairs generation : ℕ) → ℕ
leaf_header pairs generation = 2 + 4 * pairs + 64 * generation

-- that of a token, whose generation is its own number
abbrev pub token_header : (block : ℕ) → ℕ
token_header block = 3 + 64 * block

-- what a block is by its header: 1 for a branch, 2 for a leaf, 3 for a token
abbrev pub kind : Layout → List ℕ → (block : ℕ) → ℕ
kind layout heap block = word layout heap block 0 % 4

-- the generation in a block's header
abbrev pub generation : Layout → List ℕ → (block : ℕ) → ℕ
generation layout heap block = word layout heap block 0 / 64

-- The block is a branch or a leaf.
abbrev pub IsNode : Layout → List ℕ → (block : ℕ) → Type 0
IsNode layout heap block = (kind layout heap block ≡ 1) ⊎ (kind layout heap block ≡ 2)

-- The block is a token.
abbrev pub IsToken : Layout → List ℕ → (block : ℕ) → Type 0
IsToken layout heap block = word layout heap block 0 ≡ token_header block

-- ---- which are drawn

-- how many blocks of a stripe are drawn
abbrev pub drawn_count : Layout → List ℕ → (stripe : ℕ) → ℕ
drawn_count layout heap stripe = slice_index heap (stripe_at layout stripe)

-- the sum of what a function gives below a number
abbrev pub sum_below : ℕ → (ℕ → ℕ) → ℕ
sum_below zero f = 0
sum_below (suc n) f = sum_below n f + f n

-- the blocks in use, of all stripes together
abbrev pub used_count : Layout → List ℕ → ℕ
used_count layout heap = sum_below layout.stripes (drawn_count layout heap)

-- The block is drawn: its place in its stripe is below the stripe's count.
pub record IsDrawn (layout : Layout) (heap : List ℕ) (block : ℕ) : Type 0 where
  pub stripe : ℕ
  pub place : ℕ
  pub stripe_in : stripe < layout.stripes
  pub place_in : place < layout.per_stripe
  pub drawn : place < drawn_count layout heap stripe
  pub is : block ≡ 1 + stripe * layout.per_stripe + place

-- The block has the same words in both heaps.
pub record SameBlock (layout : Layout) (before after : List ℕ) (block : ℕ) : Type 0 where
  pub same : (index : ℕ) → index < BLOCK_CELLS → word layout after block index ≡ word layout before block index
