-- A key that was set below is set at the branch above, and at the root: so the heap is lawful and holds the contents with the key set.
use Rattle.std.proofs.Common.{◌≡◌, ℕ, ◌+◌, ◌<◌, ◌≤◌, suc, cond, nat_eq, List, [], length, get_or, set, Option, Some, None, refl, sym, ◌∙◌, ap, subst, arith, inl, inr, length-set}
use Rattle.std.proofs.lemmas.Bool.Decides.{eqb_tells}
use Rattle.std.proofs.lemmas.List.{get_or-set_other, get_or-set_same}
use Rattle.stm_model.specs.declared.sizes.Layout.{Layout}
use Rattle.stm_model.specs.Layouts.{cell_count, root_at}
use Rattle.ledger_model.specs.declared.job.Contents.{Contents}
use Rattle.ledger_model.specs.Maps.{delete_pair, put_pair}
use Rattle.trie_law.specs.Blocks.{branch_header, used_count, word}
use Rattle.trie_law.specs.Growing.{Drew, Filled, IsHanded}
use Rattle.trie_law.specs.Holding.{HasPairs, HoldsContents}
use Rattle.trie_law.specs.Law.{HasTrie, IsLawful, map_generation, map_root, slot_root}
use Rattle.trie_law.specs.Nibbles.{nibble, way}
use Rattle.trie_law.specs.Setting.{SetsAt}
use Rattle.trie_law.specs.Tries.{Branch, IsShaped, IsTrie, Tree, value_in}
use Rattle.trie_law.proofs.Branches.{branch_copied, branch_in_place}
use Rattle.trie_law.proofs.Holdings.{pairs_delete, pairs_put, take_same}
use Rattle.trie_law.proofs.Lawful.{other_is, other_root, same_slot, written_is}
use Rattle.trie_law.proofs.OneMap.{nibble_within, one_map}
use Rattle.trie_law.proofs.Splitting.{branch_sets, way_start}

-- ---- at a branch

pub set_in_place : (layout : Layout) (start below after : List ℕ) (own depth key block number other child : ℕ) (value : Option ℕ) (children : ℕ → Tree)
    → IsHanded layout start own block (Branch number other children) → SetsAt layout own (suc depth) key value (children (nibble depth key)) child start below
    → 0 < own → other ≡ own → Filled layout below after block → word layout after block 0 ≡ word layout below block 0
    → ((j : ℕ) → j < 16 → word layout after block (1 + j) ≡ cond (nat_eq j (nibble depth key)) child (word layout below block (1 + j)))
    → SetsAt layout own depth key value (Branch number other children) block start after
set_in_place layout start below after own depth key block number other child value children handed at some is_own filled header cells =
    let both = branch_in_place layout start below own block number other (nibble depth key) child children at.tree (nibble_within depth key) handed at.grown at.made after some is_own filled header cells in
    record {
      grown = both.0;
      tree = Branch block own (λ j. cond (nat_eq j (nibble depth key)) at.tree (children j));
      made = both.1;
      sets = branch_sets depth key value number other block own children at.tree at.sets;
    }

pub set_copied : (layout : Layout) (start below drawn after : List ℕ) (own depth key block number other child copy : ℕ) (value : Option ℕ) (children : ℕ → Tree)
    → IsHanded layout start own block (Branch number other children) → SetsAt layout own (suc depth) key value (children (nibble depth key)) child start below
    → cell_count layout ≤ length below → Drew layout below drawn copy → Filled layout drawn after copy → word layout after copy 0 ≡ branch_header own
    → ((j : ℕ) → j < 16 → word layout after copy (1 + j) ≡ cond (nat_eq j (nibble depth key)) child (word layout below block (1 + j)))
    → SetsAt layout own depth key value (Branch number other children) copy start after
set_copied layout start below drawn after own depth key block number other child copy value children handed at size drew filled header cells =
    let both = branch_copied layout start below own block number other (nibble depth key) child children at.tree (nibble_within depth key) handed at.grown at.made drawn after copy size drew filled header cells in
    record {
      grown = both.0;
      tree = Branch copy own (λ j. cond (nat_eq j (nibble depth key)) at.tree (children j));
      made = both.1;
      sets = branch_sets depth key value number other copy own children at.tree at.sets;
    }

-- ---- at the root

-- pairs go along with a trie that stands in both heaps
pairs_along : (layout : Layout) (before after : List ℕ) (root : ℕ) (pairs : List (ℕ × ℕ)) (tree : Tree) → IsTrie layout before root tree → IsTrie layout after root tree
    → HasPairs layout before root pairs → HasPairs layout after root pairs
pairs_along layout before after root pairs tree earlier later has = record {
  tree = tree;
  trie = later;
  ascend = has.ascend;
  values = λ key. has.values key ∙ one_map layout before root 0 key has.tree tree has.trie.stands earlier.stands;
}

module _ (layout : Layout) (start below : List ℕ) (map block key : ℕ) (value : Option ℕ) (lawful : IsLawful layout start) (within : map < layout.maps)
    (has : HasTrie layout start (map_generation layout start map) (map_root layout start map)) (some : 0 < map_generation layout start map)
    (at : SetsAt layout (map_generation layout start map) 0 key value has.tree block start below) where
  abbrev with_key : List ℕ
  with_key = set below (root_at layout map) block

  on_way : IsShaped (way 0 key) 0 has.tree
  on_way = subst (λ so_far. IsShaped so_far 0 has.tree) (sym (way_start key)) has.trie.shaped

  shaped : IsShaped 0 0 at.tree
  shaped = subst (λ so_far. IsShaped so_far 0 at.tree) (way_start key) (at.sets.shaped on_way)

  new_trie : IsTrie layout with_key block at.tree
  new_trie = written_is layout start below map block lawful within has some at.tree at.grown at.made shaped

  -- whatever tree the map's root had, the key is set in it
  new_values : (old : Tree) → IsTrie layout start (map_root layout start map) old → (other : ℕ) → value_in 0 at.tree other ≡ cond (nat_eq other key) value (value_in 0 old other)
  new_values old is other = at.sets.values on_way other
      ∙ ap (λ (found : Option ℕ). cond (nat_eq other key) value found) (one_map layout start (map_root layout start map) 0 other has.tree old has.trie.stands is.stands)

  root_here : map_root layout with_key map ≡ block
  root_here = get_or-set_same below (root_at layout map) block 0 (omega (arith, within, lawful.size, at.grown.size))

  -- the contents with other pairs of this map
  contents_with : (contents : Contents) (pairs : List (ℕ × ℕ)) → HoldsContents layout start contents → HasPairs layout with_key block pairs
      → HoldsContents layout with_key (record contents { maps = set contents.maps map pairs; used = used_count layout with_key })
  contents_with contents pairs holds new = record {
    refs = holds.refs ∙ sym (take_same layout.refs with_key start (length-set below (root_at layout map) block ∙ at.grown.size)
        (λ i low. get_or-set_other below (root_at layout map) i block 0 (λ same. omega (arith, same, low)) ∙ at.grown.others i (omega (arith, low))));
    map_count = length-set contents.maps map pairs ∙ holds.map_count;
    maps = λ n there. elim (eqb_tells n map) [
      | inl same ↦ rw (same.1, root_here, get_or-set_same contents.maps map pairs [] (omega (arith, within, holds.map_count))) new
      | inr differs ↦ rw (other_root layout start below map block lawful within has some at.tree at.grown at.made shaped n there differs.1, get_or-set_other contents.maps map n pairs [] differs.1)
          (let one = lawful.maps n there in
          let later = other_is layout start below map block lawful within has some at.tree at.grown at.made shaped (map_generation layout start n) (map_root layout start n)
          (λ same. differs.1 (sym (lawful.apart map n within there same some))) one in
          pairs_along layout start with_key (map_root layout start n) (get_or contents.maps n []) one.tree one.trie later (holds.maps n there))
    ];
    slot_count = holds.slot_count;
    slots = λ snap there. rw (same_slot layout start below map block lawful within has some at.tree at.grown at.made shaped snap there)
        (let one = lawful.slots snap there in
        let later = other_is layout start below map block lawful within has some at.tree at.grown at.made shaped 0 (slot_root layout start snap) (λ same. omega (arith, some, same)) one in
        pairs_along layout start with_key (slot_root layout start snap) (get_or contents.slots snap []) one.tree one.trie later (holds.slots snap there));
    used = refl;
  }

pub put_contents : (layout : Layout) (start below : List ℕ) (map block key value : ℕ) (contents : Contents) → IsLawful layout start → map < layout.maps
    → (has : HasTrie layout start (map_generation layout start map) (map_root layout start map)) → 0 < map_generation layout start map
    → SetsAt layout (map_generation layout start map) 0 key (Some value) has.tree block start below → HoldsContents layout start contents
    → HoldsContents layout (set below (root_at layout map) block)
    (record contents { maps = set contents.maps map (put_pair key value (get_or contents.maps map [])); used = used_count layout (set below (root_at layout map) block) })
put_contents layout start below map block key value contents lawful within has some at holds =
    contents_with layout start below map block key (Some value) lawful within has some at contents (put_pair key value (get_or contents.maps map [])) holds
    (pairs_put layout start (set below (root_at layout map) block) (map_root layout start map) block key value (get_or contents.maps map []) at.tree (holds.maps map within)
    (new_trie layout start below map block key (Some value) lawful within has some at) (new_values layout start below map block key (Some value) lawful within has some at))

pub delete_contents : (layout : Layout) (start below : List ℕ) (map block key : ℕ) (contents : Contents) → IsLawful layout start → map < layout.maps
    → (has : HasTrie layout start (map_generation layout start map) (map_root layout start map)) → 0 < map_generation layout start map
    → SetsAt layout (map_generation layout start map) 0 key None has.tree block start below → HoldsContents layout start contents
    → HoldsContents layout (set below (root_at layout map) block)
    (record contents { maps = set contents.maps map (delete_pair key (get_or contents.maps map [])); used = used_count layout (set below (root_at layout map) block) })
delete_contents layout start below map block key contents lawful within has some at holds =
    contents_with layout start below map block key None lawful within has some at contents (delete_pair key (get_or contents.maps map [])) holds
    (pairs_delete layout start (set below (root_at layout map) block) (map_root layout start map) block key (get_or contents.maps map []) at.tree (holds.maps map within)
    (new_trie layout start below map block key None lawful within has some at) (new_values layout start below map block key None lawful within has some at))
