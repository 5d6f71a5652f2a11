-- A key is set in a trie, or taken out: what becomes of its tree, from the leaves to the root.
use Rattle.std.specs.Prelude.{◌≡◌, ℕ, nat_eq, if◌then◌else◌, List, filter, Option}
use Rattle.stm_model.specs.declared.sizes.Layout.{Layout}
use Rattle.ledger_model.specs.Maps.{value_at}
use Rattle.trie_law.specs.Growing.{Grown, IsMadeFrom}
use Rattle.trie_law.specs.Nibbles.{nibble, way}
use Rattle.trie_law.specs.Tries.{IsShaped, Tree, value_in}

-- The key has this value afterwards, or none, and each other key what it had. The tree keeps the shape of a trie at this depth, on the way of the key.
pub record SetsKeyIn (depth key : ℕ) (value : Option ℕ) (before after : Tree) : Type 0 where
  pub values : IsShaped (way depth key) depth before → (other : ℕ) → value_in depth after other ≡ if nat_eq other key then value else value_in depth before other
  pub shaped : IsShaped (way depth key) depth before → IsShaped (way depth key) depth after

-- A call that was handed this tree set the key: it made a tree of it, which stands at this block.
pub record SetsAt (layout : Layout) (own depth key : ℕ) (value : Option ℕ) (handed : Tree) (block : ℕ) (before after : List ℕ) : Type 0 where
  pub grown : Grown layout own handed before after
  pub tree : Tree
  pub made : IsMadeFrom layout own before after handed block tree
  pub sets : SetsKeyIn depth key value handed tree

-- ---- what a full leaf is split into

-- of these pairs, what goes below a branch's child for this nibble
abbrev pub part : (depth i : ℕ) → List (ℕ × ℕ) → List (ℕ × ℕ)
part depth i pairs = filter (λ pair. nat_eq (nibble depth pair.0) i) pairs

-- The tree has these pairs and no others, and the shape of a trie at this depth and on this way.
pub record HoldsJust (so_far depth : ℕ) (pairs : List (ℕ × ℕ)) (tree : Tree) : Type 0 where
  pub values : (key : ℕ) → value_in depth tree key ≡ value_at key pairs
  pub shaped : IsShaped so_far depth tree
