-- A call came back from below a branch with a new child for it. The branch takes it, itself or as a copy.
use Rattle.std.proofs.Common.{◌≡◌, ◌≢◌, ℕ, ◌+◌, ◌/◌, ◌%◌, ◌<◌, ◌≤◌, ◌⊎◌, cond, nat_eq, ◌&&◌, List, length, refl, ◌∙◌, ap, subst, arith, inl, inr}
use Rattle.std.proofs.lemmas.Bool.Decides.{eqb_tells}
use Rattle.stm_model.specs.declared.sizes.Layout.{Layout}
use Rattle.stm_model.specs.Layouts.{cell_count, generation_at}
use Rattle.trie_law.specs.Blocks.{IsDrawn, SameBlock, branch_header, sum_below, word}
use Rattle.trie_law.specs.Growing.{Drew, Filled, Grown, IsHanded, IsMadeFrom, IsWritable}
use Rattle.trie_law.specs.Law.{HasChildren, map_generation}
use Rattle.trie_law.specs.Tries.{Branch, EachBlock, Stands, Tree, path_count}
use Rattle.trie_law.proofs.Growth.{all_drawn_grown, cells_before_same, drawn_filled, drawn_grown, fresh, grown_none, grown_then, maps_grown, new_drawn, new_grown, place_grown, place_other, stands_grown, stays, still_drawn, trees_apart}
use Rattle.trie_law.proofs.Made.{branch_has_children, made_same, no_path, stands_apart, undrawn_apart}
use Rattle.trie_law.proofs.Trees.{HeaderSays, blocks_weaker, each_on_path, headers_say, not_on_path, on_path, path_here, sum_of_two, sum_part, sum_update}

module _ (layout : Layout) (start below : List ℕ) (own block number other i child : ℕ) (children : ℕ → Tree) (under : Tree) (within : i < 16)
    (handed : IsHanded layout start own block (Branch number other children))
    (grown : Grown layout own (children i) start below) (made : IsMadeFrom layout own start below (children i) child under) where
  -- what was done below one child left the others as they were
  sibling : (j : ℕ) → j < 16 → j ≢ i → Stands layout below (word layout start block (1 + j)) (children j)
  sibling j there apart = stands_grown layout own (children i) start below (word layout start block (1 + j)) (children j) grown (handed.drawn.1 j there)
      (trees_apart layout start own (word layout start block (1 + j)) (word layout start block (1 + i)) (children j) (children i) (handed.stands.1 j there) (handed.stands.1 i within)
      (λ some y path. omega (arith, path, handed.owned.once some y, sum_of_two 16 (λ q. path_count own y (children q)) i j within there apart))) (handed.stands.1 j there)

  self_apart : ¬ IsWritable own (children i) block
  self_apart is =
      let says = on_path (HeaderSays layout start) own block (children i) (headers_say layout start (word layout start block (1 + i)) (children i) (handed.stands.1 i within)) is.1 in
      let same : other ≡ own = omega (arith, says.generation, handed.stands.0.header) in
      let here : cond {A = ℕ} (nat_eq block number && nat_eq own other) 1 0 ≡ 1 = rw (handed.stands.0.is, same) (path_here block own) in
      omega (arith, handed.owned.once is.0 block, is.1, here, sum_part 16 (λ q. path_count own block (children q)) i within)

  drawn_here : IsDrawn layout start block
  drawn_here = subst (IsDrawn layout start) handed.stands.0.is handed.drawn.0

  -- and the branch itself
  pub branch_kept : SameBlock layout start below block
  branch_kept = grown.kept block drawn_here self_apart

  grown_branch : Grown layout own (Branch number other children) start below
  grown_branch = grown_then layout own (children i) (children i) (Branch number other children) start below below
      (λ y is. (is.0, omega (arith, is.1, sum_part 16 (λ q. path_count own y (children q)) i within)))
      (λ y d is. (is.0, omega (arith, is.1, sum_part 16 (λ q. path_count own y (children q)) i within)))
      grown (grown_none layout own (children i) below)

  -- ---- how many paths lead to a block of the new branch

  abbrev exchanged : ℕ → Tree
  exchanged j = cond (nat_eq j i) under (children j)

  paths_other : (y j : ℕ) → j ≢ i → path_count own y (exchanged j) ≡ path_count own y (children j)
  paths_other y j apart = elim (eqb_tells j i) [ inl same ↦ absurd (apart same.1) | inr differs ↦ rw differs.0 refl ]

  paths_new : (y : ℕ) → path_count own y (exchanged i) ≡ path_count own y under
  paths_new y = elim (eqb_tells i i) [ inl same ↦ rw same.0 refl | inr differs ↦ absurd (differs.1 refl) ]

  paths_all : (y : ℕ) → sum_below 16 (λ j. path_count own y (exchanged j)) + path_count own y (children i) ≡ sum_below 16 (λ j. path_count own y (children j)) + path_count own y under
  paths_all y = omega (arith, sum_update 16 (λ j. path_count own y (children j)) (λ j. path_count own y (exchanged j)) i within (λ j apart. paths_other y j apart), paths_new y)

  -- with no more paths to the branch itself than there were
  paths_once : 0 < own → (y n : ℕ) → n ≤ cond (nat_eq y number && nat_eq own other) 1 0 → n + sum_below 16 (λ j. path_count own y (exchanged j)) ≤ 1
  paths_once some y n few =
      let part = sum_part 16 (λ j. path_count own y (children j)) i within in
      elim (eqb_tells (path_count own y (Branch number other children)) (path_count own y (children i))) [
        | inl same ↦ omega (arith, same.1, part, paths_all y, few, made.once some y)
        | inr differs ↦
            let there = on_path (λ z g. IsDrawn layout start z) own y (Branch number other children) handed.drawn (omega (arith, differs.1, part)) in
            omega (arith, part, paths_all y, few, handed.owned.once some y, made.old some y there)
      ]

  -- ---- the new branch stands at block w, and all other blocks are as they were

  module _ (after : List ℕ) (w : ℕ) (here : IsDrawn layout after w) (some_w : 0 < w)
      (kept : (y : ℕ) → IsDrawn layout below y → y ≢ w → SameBlock layout below after y)
      (still : (y : ℕ) → IsDrawn layout below y → IsDrawn layout after y)
      (maps : (map : ℕ) → map < layout.maps → map_generation layout after map ≡ map_generation layout below map)
      (header : word layout after w 0 ≡ branch_header own)
      (cells : (j : ℕ) → j < 16 → word layout after w (1 + j) ≡ cond (nat_eq j i) child (word layout start block (1 + j)))
      (apart : (j : ℕ) → j < 16 → j ≢ i → EachBlock (λ y g. y ≢ w) (children j)) (apart_under : EachBlock (λ y g. y ≢ w) under)
      (old_here : (y : ℕ) → IsDrawn layout start y → cond {A = ℕ} (nat_eq y w && nat_eq own own) 1 0 ≤ cond (nat_eq y number && nat_eq own other) 1 0)
      (once_after : 0 < own → (y : ℕ) → cond (nat_eq y w && nat_eq own own) 1 0 + sum_below 16 (λ j. path_count own y (exchanged j)) ≤ 1) where
    drawn_below : (j : ℕ) → j < 16 → EachBlock (λ y g. IsDrawn layout below y) (children j)
    drawn_below j there = all_drawn_grown layout own (children i) start below (children j) grown (handed.drawn.1 j there)

    new_stands : Stands layout after w (Branch w own exchanged)
    new_stands = (
      record { is = refl; some = some_w; header = header },
      λ j there. elim (eqb_tells j i) [
        | inl same ↦ rw (cells j there, same.0) (stands_apart layout below after w child under kept made.drawn apart_under made.stands)
        | inr differs ↦ rw (cells j there, differs.0)
            (stands_apart layout below after w (word layout start block (1 + j)) (children j) kept (drawn_below j there) (apart j there differs.1) (sibling j there differs.1))
      ],
    )

    new_all_drawn : EachBlock (λ y g. IsDrawn layout after y) (Branch w own exchanged)
    new_all_drawn = (
      here,
      λ j there. elim (eqb_tells j i) [
        | inl same ↦ rw same.0 (blocks_weaker (λ y g. IsDrawn layout below y) (λ y g. IsDrawn layout after y) under (λ y g d. still y d) made.drawn)
        | inr differs ↦ rw differs.0 (blocks_weaker (λ y g. IsDrawn layout below y) (λ y g. IsDrawn layout after y) (children j) (λ y g d. still y d) (drawn_below j there))
      ],
    )

    new_from : EachBlock (λ y g. (g ≡ own) ⊎ (0 < path_count g y (Branch number other children))) (Branch w own exchanged)
    new_from = (
      inl refl,
      λ j there. elim (eqb_tells j i) [
        | inl same ↦ rw same.0 (blocks_weaker (λ y g. (g ≡ own) ⊎ (0 < path_count g y (children i))) (λ y g. (g ≡ own) ⊎ (0 < path_count g y (Branch number other children))) under
            (λ y g either. elim either [ inl is ↦ inl is | inr path ↦ inr (omega (arith, path, sum_part 16 (λ n. path_count g y (children n)) i within)) ]) made.from)
        | inr differs ↦ rw differs.0 (blocks_weaker (λ y g. 0 < path_count g y (children j)) (λ y g. (g ≡ own) ⊎ (0 < path_count g y (Branch number other children))) (children j)
            (λ y g path. inr (omega (arith, path, sum_part 16 (λ n. path_count g y (children n)) j there))) (each_on_path (children j)))
      ],
    )

    new_made : IsMadeFrom layout own start after (Branch number other children) w (Branch w own exchanged)
    new_made = record {
      stands = new_stands;
      drawn = new_all_drawn;
      from = new_from;
      old = λ some y d. omega (arith, old_here y d, paths_all y, made.old some y d, sum_part 16 (λ j. path_count own y (children j)) i within);
      once = once_after;
    }

    new_has_children : HasChildren layout after w
    new_has_children = branch_has_children layout after w w own exchanged new_stands new_all_drawn
        (made_same layout own start after (Branch number other children) w (Branch w own exchanged)
        (λ map map_in. maps map map_in ∙ maps_grown layout own (children i) start below grown map map_in) handed.owned.same new_made)

  -- ---- the map's own branch is written

  module _ (after : List ℕ) (some : 0 < own) (is_own : other ≡ own) (filled : Filled layout below after block)
      (header : word layout after block 0 ≡ word layout below block 0)
      (cells : (j : ℕ) → j < 16 → word layout after block (1 + j) ≡ cond (nat_eq j i) child (word layout below block (1 + j))) where
    path_to_branch : cond {A = ℕ} (nat_eq block number && nat_eq own other) 1 0 ≡ 1
    path_to_branch = rw (handed.stands.0.is, is_own) (path_here block own)

    no_path_below : (j : ℕ) → j < 16 → path_count own block (children j) ≡ 0
    no_path_below j there = omega (arith, handed.owned.once some block, path_to_branch, sum_part 16 (λ q. path_count own block (children q)) j there)

    header_below : word layout below block 0 ≡ branch_header own
    header_below = branch_kept.same 0 (omega arith) ∙ (handed.stands.0.header ∙ ap branch_header is_own)

    drawn_there : IsDrawn layout below block
    drawn_there = drawn_grown layout own (children i) start below block grown drawn_here

    old_in_place : (y : ℕ) → cond {A = ℕ} (nat_eq y block && nat_eq own own) 1 0 ≤ cond (nat_eq y number && nat_eq own other) 1 0
    old_in_place y = rw (handed.stands.0.is, is_own) (omega arith)

    apart_in_place : (j : ℕ) → j < 16 → j ≢ i → EachBlock (λ y g. y ≢ block) (children j)
    apart_in_place j there differs = not_on_path layout start (word layout start block (1 + j)) block own (children j) (handed.stands.1 j there)
        (omega (arith, handed.stands.0.header, is_own)) (no_path_below j there)

    under_in_place : EachBlock (λ y g. y ≢ block) under
    under_in_place = not_on_path layout below child block own under made.stands (omega (arith, header_below)) (omega (arith, made.old some block drawn_here, no_path_below i within))

    cells_from_start : (j : ℕ) → j < 16 → word layout after block (1 + j) ≡ cond (nat_eq j i) child (word layout start block (1 + j))
    cells_from_start j there = cells j there ∙ ap (λ z. cond (nat_eq j i) child z) (branch_kept.same (1 + j) (omega (arith, there)))

    kept_in_place : (y : ℕ) → IsDrawn layout below y → y ≢ block → SameBlock layout below after y
    kept_in_place y d differs = place_other layout own (Branch number other children) below after block drawn_there filled (ap (λ z. z % 4) header) (ap (λ z. z / 64) header) y (omega (arith, d.is)) differs

    maps_in_place : (map : ℕ) → map < layout.maps → map_generation layout after map ≡ map_generation layout below map
    maps_in_place map map_in = filled.outside (generation_at layout map) (inl (omega (arith, map_in)))

    still_in_place : (y : ℕ) → IsDrawn layout below y → IsDrawn layout after y
    still_in_place y d = drawn_filled layout below after block filled y d

    pub branch_in_place : Grown layout own (Branch number other children) start after
        × IsMadeFrom layout own start after (Branch number other children) block (Branch block own (λ j. cond (nat_eq j i) under (children j)))
    branch_in_place = (
      grown_then layout own (Branch number other children) (Branch number other children) (Branch number other children) start below after (λ y is. is) (λ y d is. is) grown_branch
          (place_grown layout own (Branch number other children) below after block drawn_there filled (ap (λ z. z % 4) header) (ap (λ z. z / 64) header)
          (some, omega (arith, path_to_branch)) (λ token. omega (arith, token, header_below))
          (λ all. new_has_children after block (still_in_place block drawn_there) handed.stands.0.some kept_in_place still_in_place maps_in_place (header ∙ header_below) cells_from_start
          apart_in_place under_in_place (λ y d. old_in_place y) (λ so y. paths_once so y _ (old_in_place y)))),
      new_made after block (still_in_place block drawn_there) handed.stands.0.some kept_in_place still_in_place maps_in_place (header ∙ header_below) cells_from_start
          apart_in_place under_in_place (λ y d. old_in_place y) (λ so y. paths_once so y _ (old_in_place y)),
    )

  -- ---- a copy of the branch is filled

  module _ (drawn after : List ℕ) (w : ℕ) (size : cell_count layout ≤ length below) (drew : Drew layout below drawn w) (filled : Filled layout drawn after w)
      (header : word layout after w 0 ≡ branch_header own)
      (cells : (j : ℕ) → j < 16 → word layout after w (1 + j) ≡ cond (nat_eq j i) child (word layout below block (1 + j))) where
    fresh_below : ¬ IsDrawn layout below w
    fresh_below = fresh layout below drawn w drew

    fresh_start : ¬ IsDrawn layout start w
    fresh_start d = fresh_below (drawn_grown layout own (children i) start below w grown d)

    old_copied : (y : ℕ) → IsDrawn layout start y → cond {A = ℕ} (nat_eq y w && nat_eq own own) 1 0 ≤ cond (nat_eq y number && nat_eq own other) 1 0
    old_copied y d = elim (eqb_tells y w) [ inl same ↦ absurd (fresh_start (subst (IsDrawn layout start) same.1 d)) | inr differs ↦ rw differs.0 (omega arith) ]

    once_copied : 0 < own → (y : ℕ) → cond (nat_eq y w && nat_eq own own) 1 0 + sum_below 16 (λ j. path_count own y (exchanged j)) ≤ 1
    once_copied some y = elim (eqb_tells y w) [
      | inl same ↦ rw same.1 (
          let before = no_path layout start own w (Branch number other children) handed.drawn fresh_start in
          let new = no_path layout below own w under made.drawn fresh_below in
          omega (arith, path_here w own, before, new, paths_all w))
      | inr differs ↦ rw differs.0 (paths_once some y 0 (omega arith))
    ]

    cells_of_copy : (j : ℕ) → j < 16 → word layout after w (1 + j) ≡ cond (nat_eq j i) child (word layout start block (1 + j))
    cells_of_copy j there = cells j there ∙ ap (λ z. cond (nat_eq j i) child z) (branch_kept.same (1 + j) (omega (arith, there)))

    kept_copied : (y : ℕ) → IsDrawn layout below y → y ≢ w → SameBlock layout below after y
    kept_copied y d differs = stays layout own (Branch number other children) below drawn after w size drew filled y d

    still_copied : (y : ℕ) → IsDrawn layout below y → IsDrawn layout after y
    still_copied y d = still_drawn layout own (Branch number other children) below drawn after w size drew filled y d

    maps_copied : (map : ℕ) → map < layout.maps → map_generation layout after map ≡ map_generation layout below map
    maps_copied map map_in = cells_before_same layout own (Branch number other children) below drawn after w size drew filled (generation_at layout map) (omega (arith, map_in))

    apart_copied : (j : ℕ) → j < 16 → j ≢ i → EachBlock (λ y g. y ≢ w) (children j)
    apart_copied j there differs = undrawn_apart layout start w (children j) (handed.drawn.1 j there) fresh_start

    copy_drawn : IsDrawn layout after w
    copy_drawn = new_drawn layout own (Branch number other children) below drawn after w size drew filled

    pub branch_copied : Grown layout own (Branch number other children) start after
        × IsMadeFrom layout own start after (Branch number other children) w (Branch w own (λ j. cond (nat_eq j i) under (children j)))
    branch_copied = (
      grown_then layout own (Branch number other children) (Branch number other children) (Branch number other children) start below after (λ y is. is) (λ y d is. is) grown_branch
          (new_grown layout own (Branch number other children) below drawn after w size drew filled (omega (arith, header))
          (λ all. new_has_children after w copy_drawn (omega (arith, drew.is)) kept_copied still_copied maps_copied header cells_of_copy
          apart_copied (undrawn_apart layout below w under made.drawn fresh_below) old_copied once_copied)),
      new_made after w copy_drawn (omega (arith, drew.is)) kept_copied still_copied maps_copied header cells_of_copy
          apart_copied (undrawn_apart layout below w under made.drawn fresh_below) old_copied once_copied,
    )
