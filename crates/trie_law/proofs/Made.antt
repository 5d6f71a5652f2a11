-- A tree is handed down, and another one is made of it.
use Rattle.std.proofs.Common.{◌≡◌, ◌≢◌, ℕ, ◌+◌, ◌<◌, ◌⊎◌, List, [], ◌∷◌, sym, ◌∙◌, subst, arith, inl, inr}
use Rattle.std.proofs.lemmas.Bool.Decides.{eqb_tells}
use Rattle.stm_model.specs.declared.sizes.Layout.{Layout}
use Rattle.trie_law.specs.Blocks.{IsDrawn, SameBlock, generation, kind, word}
use Rattle.trie_law.specs.Growing.{Grown, IsHanded, IsMadeFrom}
use Rattle.trie_law.specs.Law.{HasChildren, HasTrie, IsChildOf, IsLive, map_generation}
use Rattle.trie_law.specs.Tries.{AreDrawn, Branch, EachBlock, Leaf, Leaves, Stands, Tree, path_count}
use Rattle.trie_law.proofs.Growth.{drawn_grown, live_before}
use Rattle.trie_law.proofs.Trees.{blocks_both, blocks_weaker, chain_paths, each_on_path, on_path, stands_kept, sum_part}

-- ---- what is handed on

-- the trie of a map's root is handed to who sets a key in it
pub handed_root : (layout : Layout) (heap : List ℕ) (own root : ℕ) (has : HasTrie layout heap own root) → IsHanded layout heap own root has.tree
handed_root layout heap own root has = record { stands = has.trie.stands; drawn = has.trie.drawn; owned = has.owned }

-- the tree of a child is handed with the branch
pub handed_child : (layout : Layout) (heap : List ℕ) (own block number other i : ℕ) (children : ℕ → Tree) → i < 16 → IsHanded layout heap own block (Branch number other children)
    → IsHanded layout heap own (word layout heap block (1 + i)) (children i)
handed_child layout heap own block number other i children within handed = record {
  stands = handed.stands.1 i within;
  drawn = handed.drawn.1 i within;
  owned = record {
    same = handed.owned.same.1 i within;
    once = λ some y. omega (arith, handed.owned.once some y, sum_part 16 (λ j. path_count own y (children j)) i within);
  };
}

-- who has a leaf of a chain may go on behind it
pub handed_rest : (layout : Layout) (heap : List ℕ) (own block : ℕ) (leaf : Leaf) (chain : List Leaf) → IsHanded layout heap own block (Leaves (leaf ∷ chain))
    → IsHanded layout heap own (word layout heap block 17) (Leaves chain)
handed_rest layout heap own block leaf chain handed = record {
  stands = handed.stands.1;
  drawn = handed.drawn.1;
  owned = record {
    same = handed.owned.same.1;
    once = λ some y. omega (arith, handed.owned.once some y, chain_paths own y leaf chain);
  };
}

-- ---- what was made

-- nothing was done, so the tree is its own result
pub made_nothing : (layout : Layout) (heap : List ℕ) (own block : ℕ) (tree : Tree) → IsHanded layout heap own block tree → IsMadeFrom layout own heap heap tree block tree
made_nothing layout heap own block tree handed = record {
  stands = handed.stands;
  drawn = handed.drawn;
  from = blocks_weaker (λ number other. 0 < path_count other number tree) (λ number other. (other ≡ own) ⊎ (0 < path_count other number tree)) tree (λ number other some. inr some) (each_on_path tree);
  old = λ some number d. omega arith;
  once = handed.owned.once;
}

-- it is still that, as long as its blocks are kept
pub made_kept : (layout : Layout) (own : ℕ) (start middle end : List ℕ) (handed : Tree) (block : ℕ) (tree : Tree)
    → ((number : ℕ) → IsDrawn layout middle number → IsDrawn layout end number) → EachBlock (λ number other. SameBlock layout middle end number) tree
    → IsMadeFrom layout own start middle handed block tree → IsMadeFrom layout own start end handed block tree
made_kept layout own start middle end handed block tree still kept made = record {
  stands = stands_kept layout middle end block tree kept made.stands;
  drawn = blocks_weaker (λ number other. IsDrawn layout middle number) (λ number other. IsDrawn layout end number) tree (λ number other d. still number d) made.drawn;
  from = made.from;
  old = made.old;
  once = made.once;
}

-- two calls, one on what the other made
pub made_then : (layout : Layout) (own : ℕ) (start middle end : List ℕ) (handed between : Tree) (one other : ℕ) (tree written : Tree) → Grown layout own written start middle
    → IsMadeFrom layout own start middle handed one between → IsMadeFrom layout own middle end between other tree → IsMadeFrom layout own start end handed other tree
made_then layout own start middle end handed between one other tree written grown first second = record {
  stands = second.stands;
  drawn = second.drawn;
  once = second.once;
  from = blocks_weaker (λ number g. (g ≡ own) ⊎ (0 < path_count g number between)) (λ number g. (g ≡ own) ⊎ (0 < path_count g number handed)) tree
      (λ number g either. elim either [
        | inl same ↦ inl same
        | inr path ↦ on_path (λ y h. (h ≡ own) ⊎ (0 < path_count h y handed)) g number between first.from path
      ]) second.from;
  old = λ some number d. omega (arith, first.old some number d, second.old some number (drawn_grown layout own written start middle number grown d));
}

-- who was handed no tree at all used nothing of this one
pub made_of_nothing : (layout : Layout) (own : ℕ) (before after : List ℕ) (handed : Tree) (block : ℕ) (tree : Tree)
    → IsMadeFrom layout own before after (Leaves []) block tree → IsMadeFrom layout own before after handed block tree
made_of_nothing layout own before after handed block tree made = record {
  stands = made.stands;
  drawn = made.drawn;
  once = made.once;
  from = blocks_weaker (λ number other. (other ≡ own) ⊎ (0 < path_count other number (Leaves []))) (λ number other. (other ≡ own) ⊎ (0 < path_count other number handed)) tree
      (λ number other either. elim either [ inl same ↦ inl same | inr path ↦ absurd (omega (arith, path)) ]) made.from;
  old = λ some number d. omega (arith, made.old some number d);
}

-- The live blocks of what was made have the map's generation, as those of the handed tree had.
pub made_same : (layout : Layout) (own : ℕ) (start end : List ℕ) (handed : Tree) (block : ℕ) (tree : Tree)
    → ((map : ℕ) → map < layout.maps → map_generation layout end map ≡ map_generation layout start map)
    → EachBlock (λ number other. IsLive layout start other → other ≡ own) handed → IsMadeFrom layout own start end handed block tree
    → EachBlock (λ number other. IsLive layout end other → other ≡ own) tree
made_same layout own start end handed block tree maps same made = blocks_weaker (λ number other. (other ≡ own) ⊎ (0 < path_count other number handed)) (λ number other. IsLive layout end other → other ≡ own) tree
    (λ number other either live. elim either [
      | inl is ↦ is
      | inr path ↦ on_path (λ y g. IsLive layout start g → g ≡ own) other number handed same path (live_before layout start end other maps live)
    ]) made.from

-- ---- blocks apart

-- a tree of drawn blocks has no other ones
pub undrawn_apart : (layout : Layout) (heap : List ℕ) (block : ℕ) (tree : Tree) → AreDrawn layout heap tree → ¬ IsDrawn layout heap block → EachBlock (λ number other. number ≢ block) tree
undrawn_apart layout heap block tree drawn fresh = blocks_weaker (λ number other. IsDrawn layout heap number) (λ number other. number ≢ block) tree
    (λ number other d same. fresh (subst (IsDrawn layout heap) same d)) drawn

pub no_path : (layout : Layout) (heap : List ℕ) (own block : ℕ) (tree : Tree) → AreDrawn layout heap tree → ¬ IsDrawn layout heap block → path_count own block tree ≡ 0
no_path layout heap own block tree drawn fresh = elim (eqb_tells (path_count own block tree) 0) [
  | inl none ↦ none.1
  | inr some ↦ absurd (fresh (on_path (λ number other. IsDrawn layout heap number) own block tree drawn (omega (arith, some.1))))
]

-- a tree stands where one block was filled that isn't its own
pub stands_apart : (layout : Layout) (before after : List ℕ) (filled block : ℕ) (tree : Tree)
    → ((number : ℕ) → IsDrawn layout before number → number ≢ filled → SameBlock layout before after number)
    → AreDrawn layout before tree → EachBlock (λ number other. number ≢ filled) tree → Stands layout before block tree → Stands layout after block tree
stands_apart layout before after filled block tree kept drawn apart stands = stands_kept layout before after block tree
    (blocks_weaker (λ number other. IsDrawn layout before number × (number ≢ filled)) (λ number other. SameBlock layout before after number) tree
    (λ number other both. kept number both.0 both.1) (blocks_both (λ number other. IsDrawn layout before number) (λ number other. number ≢ filled) tree drawn apart))
    stands

-- ---- children

-- the root of a tree whose live blocks have one generation is a child of any branch of that generation
root_is_child : (layout : Layout) (heap : List ℕ) (branch root own : ℕ) (tree : Tree) → generation layout heap branch ≡ own → Stands layout heap root tree → AreDrawn layout heap tree
    → EachBlock (λ number other. IsLive layout heap other → other ≡ own) tree → (root ≡ 0) ⊎ IsChildOf layout heap branch root
root_is_child layout heap branch root own (Leaves []) is stands drawn same = inl stands
root_is_child layout heap branch root own (Leaves (leaf ∷ chain)) is stands drawn same = inr (record {
  drawn = subst (IsDrawn layout heap) stands.0.is drawn.0;
  same = λ live.
      let own_generation : generation layout heap root ≡ leaf.generation = omega (arith, stands.0.header, stands.0.room) in
      own_generation ∙ (same.0 (subst (IsLive layout heap) own_generation live.live) ∙ sym is);
})
root_is_child layout heap branch root own (Branch number other children) is stands drawn same = inr (record {
  drawn = subst (IsDrawn layout heap) stands.0.is drawn.0;
  same = λ live.
      let own_generation : generation layout heap root ≡ other = omega (arith, stands.0.header) in
      own_generation ∙ (same.0 (subst (IsLive layout heap) own_generation live.live) ∙ sym is);
})

-- the branch of a tree whose live blocks have its generation has children
pub branch_has_children : (layout : Layout) (heap : List ℕ) (block number own : ℕ) (children : ℕ → Tree) → Stands layout heap block (Branch number own children)
    → AreDrawn layout heap (Branch number own children) → EachBlock (λ y other. IsLive layout heap other → other ≡ own) (Branch number own children) → HasChildren layout heap block
branch_has_children layout heap block number own children stands drawn same is_branch i within =
    root_is_child layout heap block (word layout heap block (1 + i)) own (children i) (omega (arith, stands.0.header)) (stands.1 i within) (drawn.1 i within) (same.1 i within)

-- a leaf has none
pub leaf_has_none : (layout : Layout) (heap : List ℕ) (block : ℕ) → kind layout heap block ≡ 2 → HasChildren layout heap block
leaf_has_none layout heap block is_leaf is_branch = absurd (omega (arith, is_leaf, is_branch))
