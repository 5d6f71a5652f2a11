-- Where the cells of a layout stand.
use Rattle.std.specs.Prelude.{ℕ, ◌+◌, ◌*◌, ◌-◌, ◌<◌, ◌≤◌}
use Rattle.stm_model.specs.declared.sizes.TheConstants.{BLOCK_CELLS}
use Rattle.stm_model.specs.declared.sizes.Layout.{Layout}
use Rattle.stm_model.specs.Sizes.{cells_before, cells_needed}

-- how many blocks it has
abbrev pub block_count : Layout → ℕ
block_count layout = layout.stripes * layout.per_stripe

-- how many cells it has
abbrev pub cell_count : Layout → ℕ
cell_count layout = cells_needed layout.refs layout.maps layout.snaps layout.stripes layout.per_stripe

-- the cell of a map's root
abbrev pub root_at : Layout → ℕ → ℕ
root_at layout map = layout.refs + 2 * map

-- the cell of a map's generation
abbrev pub generation_at : Layout → ℕ → ℕ
generation_at layout map = layout.refs + 2 * map + 1

-- the cell of a snapshot slot
abbrev pub slot_at : Layout → ℕ → ℕ
slot_at layout snap = layout.refs + 2 * layout.maps + snap

-- the cell that counts a stripe's drawn blocks
abbrev pub stripe_at : Layout → ℕ → ℕ
stripe_at layout stripe = layout.refs + 2 * layout.maps + layout.snaps + stripe

-- a cell of a block; blocks are numbered from 1, their cells from 0
abbrev pub block_at : Layout → (block index : ℕ) → ℕ
block_at layout block index = cells_before layout.refs layout.maps layout.snaps layout.stripes + BLOCK_CELLS * (block - 1) + index

-- The block is one of the layout's.
pub record IsBlock (layout : Layout) (block : ℕ) : Type 0 where
  pub some : 0 < block
  pub within : block ≤ block_count layout

-- ---- what each cell is for

-- a part of a layout that takes one cell
pub data Part : Type 0 where
  Ref : (number : ℕ) → Part
  Root : (map : ℕ) → Part
  Generation : (map : ℕ) → Part
  Slot : (snap : ℕ) → Part
  Count : (stripe : ℕ) → Part
  Word : (block index : ℕ) → Part

-- The layout has this part.
unfoldable pub IsPart : Layout → Part → Type 0
IsPart layout (Ref number) = number < layout.refs
IsPart layout (Root map) = map < layout.maps
IsPart layout (Generation map) = map < layout.maps
IsPart layout (Slot snap) = snap < layout.snaps
IsPart layout (Count stripe) = stripe < layout.stripes
IsPart layout (Word block index) = IsBlock layout block × (index < BLOCK_CELLS)

-- the cell of a part
unfoldable pub part_at : Layout → Part → ℕ
part_at layout (Ref number) = number
part_at layout (Root map) = root_at layout map
part_at layout (Generation map) = generation_at layout map
part_at layout (Slot snap) = slot_at layout snap
part_at layout (Count stripe) = stripe_at layout stripe
part_at layout (Word block index) = block_at layout block index
