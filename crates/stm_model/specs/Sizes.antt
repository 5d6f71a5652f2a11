-- How many cells a layout has, and the limits of its sizes.
use Rattle.std.specs.Prelude.{ℕ, ◌+◌, ◌*◌, ◌<◌, ◌≤◌}
use Rattle.meta_word.specs.declared.meta.TheConstants.{MAX_OWNER}
use Rattle.stm_model.specs.declared.sizes.TheConstants.{BLOCK_CELLS, MOST_CELLS, MOST_PARTS}

-- The cells of a layout stand in this order: the refs, a root and a generation for each map, a root for each snapshot slot, a count for each stripe, the blocks.

-- so many cells come before the blocks
abbrev pub cells_before : (refs maps snaps stripes : ℕ) → ℕ
cells_before refs maps snaps stripes = refs + 2 * maps + snaps + stripes

-- so many there are
abbrev pub cells_needed : (refs maps snaps stripes per_stripe : ℕ) → ℕ
cells_needed refs maps snaps stripes per_stripe = cells_before refs maps snaps stripes + BLOCK_CELLS * (stripes * per_stripe)

-- There is a layout of so many refs, maps, snapshot slots and stripes, and of so many blocks for each stripe.
pub record IsWithinLimits (refs maps snaps stripes per_stripe : ℕ) : Type 0 where
  pub some : 0 < stripes
  pub few_stripes : stripes ≤ MAX_OWNER
  pub few_refs : refs ≤ MOST_PARTS
  pub few_maps : maps ≤ MOST_PARTS
  pub few_snaps : snaps ≤ MOST_PARTS
  pub few_blocks : per_stripe ≤ MOST_PARTS
  pub few_cells : cells_needed refs maps snaps stripes per_stripe ≤ MOST_CELLS
