-- The heaps with which maps and snapshots begin.
use Rattle.std.specs.Prelude.{◌≡◌, ℕ, ◌≤◌, List, length, slice_index}
use Rattle.stm_model.specs.declared.sizes.Layout.{Layout}
use Rattle.stm_model.specs.Layouts.{cell_count}

-- The heap has the layout's cells, and all behind the refs are 0.
pub record IsOpening (layout : Layout) (heap : List ℕ) : Type 0 where
  pub size : length heap ≡ cell_count layout
  pub zero : (cell : ℕ) → layout.refs ≤ cell → slice_index heap cell ≡ 0
