-- Each cell of a layout is one of its parts.
use Rattle.std.proofs.Common.{◌≡◌, ℕ, ◌+◌, ◌*◌, ◌-◌, ◌/◌, ◌%◌, ◌<◌, ◌≤◌, inl, inr, refl, ap, arith}
use Rattle.std.proofs.lemmas.Bool.{cases_lt}
use Rattle.stm_model.specs.declared.sizes.Layout.{Layout}
use Rattle.stm_model.specs.Layouts.{Count, Generation, IsPart, Part, Ref, Root, Slot, Word, cell_count, part_at}
use Rattle.stm_model.specs.Sizes.{cells_before}

pub part-inside : (layout : Layout) (part : Part) → IsPart layout part → part_at layout part < cell_count layout
unfolding IsPart part_at
part-inside layout (Word block index) (is, within) = omega (arith, is.some, is.within)
part-inside layout _ is = omega arith

pub parts-apart : (layout : Layout) (one other : Part) → IsPart layout one → IsPart layout other → part_at layout one ≡ part_at layout other → one ≡ other
unfolding IsPart part_at
parts-apart layout (Ref a) (Ref b) p q e = ap Ref e
parts-apart layout (Root a) (Root b) p q e = ap Root (omega arith)
parts-apart layout (Generation a) (Generation b) p q e = ap Generation (omega arith)
parts-apart layout (Slot a) (Slot b) p q e = ap Slot (omega arith)
parts-apart layout (Count a) (Count b) p q e = ap Count (omega arith)
parts-apart layout (Word a i) (Word b j) p q e =
    let block : a ≡ b = omega (arith, p.0.some, q.0.some, p.1, q.1) in
    let index : i ≡ j = omega (arith, p.0.some, q.0.some, p.1, q.1) in
    rw (block, index) refl
parts-apart layout _ _ p q e = absurd (omega arith)

-- ---- each cell

abbrev PartAt : Layout → ℕ → Type 0
PartAt layout cell = (part : Part) × IsPart layout part × (part_at layout part ≡ cell)

of_maps : (layout : Layout) (cell : ℕ) → layout.refs ≤ cell → cell < layout.refs + 2 * layout.maps → PartAt layout cell
unfolding IsPart part_at
of_maps layout cell low high = elim (cases_lt ((cell - layout.refs) % 2) 1) [
  | inl even ↦ (Root ((cell - layout.refs) / 2), omega arith, omega arith)
  | inr odd ↦ (Generation ((cell - layout.refs) / 2), omega arith, omega arith)
]

of_blocks : (layout : Layout) (base cell : ℕ) → base ≡ cells_before layout.refs layout.maps layout.snaps layout.stripes → base ≤ cell → cell < cell_count layout
    → PartAt layout cell
unfolding IsPart part_at
of_blocks layout base cell is low high =
    (Word (1 + (cell - base) / 18) ((cell - base) % 18), (record { some = omega arith; within = omega arith }, omega arith), omega arith)

pub each-cell : (layout : Layout) (cell : ℕ) → cell < cell_count layout → PartAt layout cell
unfolding IsPart part_at
each-cell layout cell within = elim (cases_lt cell layout.refs) [
  | inl ref ↦ (Ref cell, ref, refl)
  | inr refs ↦ elim (cases_lt cell (layout.refs + 2 * layout.maps)) [
    | inl map ↦ of_maps layout cell refs map
    | inr maps ↦ elim (cases_lt cell (layout.refs + 2 * layout.maps + layout.snaps)) [
      | inl snap ↦ (Slot (cell - (layout.refs + 2 * layout.maps)), omega arith, omega arith)
      | inr snaps ↦ elim (cases_lt cell (cells_before layout.refs layout.maps layout.snaps layout.stripes)) [
        | inl stripe ↦ (Count (cell - (layout.refs + 2 * layout.maps + layout.snaps)), omega arith, omega arith)
        | inr stripes ↦ of_blocks layout (cells_before layout.refs layout.maps layout.snaps layout.stripes) cell refl stripes within
      ]
    ]
  ]
]
