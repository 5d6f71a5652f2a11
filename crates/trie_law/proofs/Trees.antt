-- Trees: what holds of each block, how many paths lead to one, and that a tree stands as long as its blocks are kept.
use Rattle.std.proofs.Common.{◌≡◌, ◌≢◌, ℕ, ◌+◌, ◌*◌, ◌<◌, ◌≤◌, nat_eq, ◌&&◌, cond, zero, suc, List, [], ◌∷◌, length, refl, sym, ◌∙◌, ap, subst, arith, inl, inr}
use Rattle.std.specs.List.{AllByRecursion}
use Rattle.std.proofs.lemmas.Bool.Decides.{eqb_tells, nat_tests}
use Rattle.std.proofs.lemmas.Grind.{common_steps}
use Rattle.std.proofs.lemmas.List.Sums.{sum_by-cons}
use Rattle.stm_model.specs.declared.sizes.Layout.{Layout}
use Rattle.ledger_model.proofs.Lists.{each_weaker}
use Rattle.trie_law.specs.Blocks.{IsNode, SameBlock, generation, sum_below, word}
use Rattle.trie_law.specs.Tries.{Branch, ChainStands, EachBlock, HoldsPairs, IsLeafAt, Leaf, Leaves, Stands, Tree, path_count}

-- ---- what holds of each block

pub blocks_weaker : (P Q : ℕ → ℕ → Type 0) (tree : Tree) → ((block own : ℕ) → P block own → Q block own) → EachBlock P tree → EachBlock Q tree
blocks_weaker P Q (Leaves chain) so each = each_weaker (λ leaf. P leaf.block leaf.generation) (λ leaf. Q leaf.block leaf.generation) (λ leaf. so leaf.block leaf.generation) chain each
blocks_weaker P Q (Branch block own children) so each = (so block own each.0, λ i within. blocks_weaker P Q (children i) so (each.1 i within))

leaves_both : (P Q : ℕ → ℕ → Type 0) (chain : List Leaf) → AllByRecursion (λ leaf. P leaf.block leaf.generation) chain
    → AllByRecursion (λ leaf. Q leaf.block leaf.generation) chain → AllByRecursion (λ leaf. P leaf.block leaf.generation × Q leaf.block leaf.generation) chain
leaves_both P Q [] one two = tt
leaves_both P Q (leaf ∷ chain) one two = ((one.0, two.0), leaves_both P Q chain one.1 two.1)

pub blocks_both : (P Q : ℕ → ℕ → Type 0) (tree : Tree) → EachBlock P tree → EachBlock Q tree → EachBlock (λ block own. P block own × Q block own) tree
blocks_both P Q (Leaves chain) one two = leaves_both P Q chain one two
blocks_both P Q (Branch block own children) one two = ((one.0, two.0), λ i within. blocks_both P Q (children i) (one.1 i within) (two.1 i within))

leaves_any : (P : ℕ → ℕ → Type 0) (chain : List Leaf) → ((block own : ℕ) → P block own) → AllByRecursion (λ leaf. P leaf.block leaf.generation) chain
leaves_any P [] so = tt
leaves_any P (leaf ∷ chain) so = (so leaf.block leaf.generation, leaves_any P chain so)

pub blocks_any : (P : ℕ → ℕ → Type 0) (tree : Tree) → ((block own : ℕ) → P block own) → EachBlock P tree
blocks_any P (Leaves chain) so = leaves_any P chain so
blocks_any P (Branch block own children) so = (so block own, λ i within. blocks_any P (children i) so)

-- ---- sums

pub sum_part : (n : ℕ) (f : ℕ → ℕ) (i : ℕ) → i < n → f i ≤ sum_below n f
sum_part zero f i within = absurd (omega arith)
sum_part (suc n) f i within = elim (eqb_tells i n) [
  | inl last ↦ rw last.1 (omega arith)
  | inr other ↦ omega (arith, sum_part n f i (omega (arith, within, other.1)))
]

pub sum_same : (n : ℕ) (f g : ℕ → ℕ) → ((i : ℕ) → i < n → f i ≡ g i) → sum_below n f ≡ sum_below n g
sum_same zero f g same = refl
sum_same (suc n) f g same = omega (arith, sum_same n f g (λ i within. same i (omega arith)), same n (omega arith))

-- one part is exchanged
pub sum_update : (n : ℕ) (f g : ℕ → ℕ) (i : ℕ) → i < n → ((j : ℕ) → j ≢ i → g j ≡ f j) → sum_below n g + f i ≡ sum_below n f + g i
sum_update zero f g i within same = absurd (omega arith)
sum_update (suc n) f g i within same = elim (eqb_tells i n) [
  | inl last ↦ rw last.1 (omega (arith, sum_same n g f (λ j below. same j (λ is. omega (arith, is, below, last.1)))))
  | inr other ↦ omega (arith, sum_update n f g i (omega (arith, within, other.1)) same, same n (λ is. other.1 (sym is)))
]

pub sum_of_two : (n : ℕ) (f : ℕ → ℕ) (i j : ℕ) → i < n → j < n → j ≢ i → f i + f j ≤ sum_below n f
sum_of_two zero f i j one two apart = absurd (omega arith)
sum_of_two (suc n) f i j one two apart = elim (eqb_tells i n) [
  | inl last ↦ rw last.1 (omega (arith, sum_part n f j (omega (arith, last.1, two, apart))))
  | inr other ↦ elim (eqb_tells j n) [
    | inl last ↦ rw last.1 (omega (arith, sum_part n f i (omega (arith, one, other.1))))
    | inr before ↦ omega (arith, sum_of_two n f i j (omega (arith, one, other.1)) (omega (arith, two, before.1)) apart)
  ]
]

sum_some : (n : ℕ) (f : ℕ → ℕ) (P : Type 0) → ((i : ℕ) → i < n → 0 < f i → P) → 0 < sum_below n f → P
sum_some zero f P so some = absurd (omega (arith, some))
sum_some (suc n) f P so some = elim (eqb_tells (f n) 0) [
  | inl none ↦ sum_some n f P (λ i within. so i (omega arith)) (omega (arith, some, none.1))
  | inr here ↦ so n (omega arith) (omega (arith, here.1))
]

-- ---- how many paths lead to a block

pub path_here : (block own : ℕ) → cond {A = ℕ} (nat_eq block block && nat_eq own own) 1 0 ≡ 1
path_here block own = grind (arith, common_steps, nat_tests)

path_step : (P : ℕ → ℕ → Type 0) (block own number other rest : ℕ) → P number other → (0 < rest → P block own)
    → 0 < cond (nat_eq block number && nat_eq own other) 1 0 + rest → P block own
path_step P block own number other rest here behind some = elim (eqb_tells block number) [
  | inl same ↦ elim (eqb_tells own other) [ inl is ↦ rw (same.1, is.1) here | inr differs ↦ behind (omega (arith, rw (same.0, differs.0) at some)) ]
  | inr apart ↦ behind (omega (arith, rw apart.0 at some))
]

-- the leaf in front, and those behind it
pub chain_paths : (own block : ℕ) (leaf : Leaf) (chain : List Leaf)
    → path_count own block (Leaves (leaf ∷ chain)) ≡ cond (nat_eq block leaf.block && nat_eq own leaf.generation) 1 0 + path_count own block (Leaves chain)
chain_paths own block leaf chain = sum_by-cons (λ (other : Leaf). cond {A = ℕ} (nat_eq block other.block && nat_eq own other.generation) 1 0) leaf chain

leaf_path : (P : ℕ → ℕ → Type 0) (own block : ℕ) (chain : List Leaf) → AllByRecursion (λ leaf. P leaf.block leaf.generation) chain
    → 0 < path_count own block (Leaves chain) → P block own
leaf_path P own block [] each some = absurd (omega (arith, some))
leaf_path P own block (leaf ∷ chain) each some = path_step P block own leaf.block leaf.generation (path_count own block (Leaves chain)) each.0 (leaf_path P own block chain each.1)
    (rw (chain_paths own block leaf chain) at some)

-- what holds of each block holds of one that a path leads to
pub on_path : (P : ℕ → ℕ → Type 0) (own block : ℕ) (tree : Tree) → EachBlock P tree → 0 < path_count own block tree → P block own
on_path P own block (Leaves chain) each some = leaf_path P own block chain each some
on_path P own block (Branch number other children) each some =
    path_step P block own number other (sum_below 16 (λ i. path_count own block (children i))) each.0
    (λ below. sum_some 16 (λ i. path_count own block (children i)) (P block own) (λ i within there. on_path P own block (children i) (each.1 i within) there) below) some

leaf_paths : (chain : List Leaf) → AllByRecursion (λ leaf. 0 < path_count leaf.generation leaf.block (Leaves chain)) chain
leaf_paths [] = tt
leaf_paths (leaf ∷ chain) = (
  omega (arith, chain_paths leaf.generation leaf.block leaf chain, path_here leaf.block leaf.generation),
  each_weaker (λ later. 0 < path_count later.generation later.block (Leaves chain)) (λ later. 0 < path_count later.generation later.block (Leaves (leaf ∷ chain)))
      (λ later some. omega (arith, chain_paths later.generation later.block leaf chain, some)) chain (leaf_paths chain),
)

-- a path leads to each block
pub each_on_path : (tree : Tree) → EachBlock (λ block own. 0 < path_count own block tree) tree
each_on_path (Leaves chain) = leaf_paths chain
each_on_path (Branch number other children) = (
  omega (arith, path_here number other),
  λ i within. blocks_weaker (λ block own. 0 < path_count own block (children i)) (λ block own. 0 < path_count own block (Branch number other children)) (children i)
      (λ block own some. omega (arith, some, sum_part 16 (λ j. path_count own block (children j)) i within)) (each_on_path (children i)),
)

-- ---- what headers say

-- A block of a tree is a branch or a leaf, of the generation that the tree has there.
pub record HeaderSays (layout : Layout) (heap : List ℕ) (block own : ℕ) : Type 0 where
  pub some : 0 < block
  pub generation : generation layout heap block ≡ own
  pub node : IsNode layout heap block

leaf_says : (layout : Layout) (heap : List ℕ) (block : ℕ) (leaf : Leaf) → IsLeafAt layout heap block leaf → HeaderSays layout heap leaf.block leaf.generation
leaf_says layout heap block leaf here = rw here.is record {
  some = here.some;
  generation = omega (arith, here.header, here.room);
  node = inr (omega (arith, here.header));
}

pub headers_say : (layout : Layout) (heap : List ℕ) (block : ℕ) (tree : Tree) → Stands layout heap block tree → EachBlock (HeaderSays layout heap) tree
headers_say layout heap block (Leaves []) stands = tt
headers_say layout heap block (Leaves (leaf ∷ chain)) stands =
    (leaf_says layout heap block leaf stands.0, headers_say layout heap (word layout heap block 17) (Leaves chain) stands.1)
headers_say layout heap block (Branch number other children) stands = (
  rw stands.0.is record {
    some = stands.0.some;
    generation = omega (arith, stands.0.header);
    node = inl (omega (arith, stands.0.header));
  },
  λ i within. headers_say layout heap (word layout heap block (1 + i)) (children i) (stands.1 i within),
)

-- a block to which no path leads as to one of its own generation stands nowhere in the tree
pub not_on_path : (layout : Layout) (heap : List ℕ) (root block own : ℕ) (tree : Tree) → Stands layout heap root tree → generation layout heap block ≡ own
    → path_count own block tree ≡ 0 → EachBlock (λ number other. number ≢ block) tree
not_on_path layout heap root block own tree stands is none = blocks_weaker (λ number other. HeaderSays layout heap number other × (0 < path_count other number tree)) (λ number other. number ≢ block) tree
    (λ number other says same.
    let generations : other ≡ own = sym says.0.generation ∙ (ap (generation layout heap) same ∙ is) in
    let some : 0 < path_count own block tree = subst (λ x. 0 < path_count own x tree) same (subst (λ g. 0 < path_count g number tree) generations says.1) in
    omega (arith, some, none))
    (blocks_both (HeaderSays layout heap) (λ number other. 0 < path_count other number tree) tree (headers_say layout heap root tree stands) (each_on_path tree))

-- ---- a tree stands as long as its blocks are kept

pairs_kept : (layout : Layout) (before after : List ℕ) (block : ℕ) (pairs : List (ℕ × ℕ)) → length pairs ≤ 8 → SameBlock layout before after block
    → HoldsPairs layout before block pairs → HoldsPairs layout after block pairs
pairs_kept layout before after block pairs room kept holds = record {
  keys = λ i within. kept.same (1 + 2 * i) (omega arith) ∙ holds.keys i within;
  values = λ i within. kept.same (2 + 2 * i) (omega arith) ∙ holds.values i within;
}

pub leaf_kept : (layout : Layout) (before after : List ℕ) (block : ℕ) (leaf : Leaf) → SameBlock layout before after block
    → IsLeafAt layout before block leaf → IsLeafAt layout after block leaf
leaf_kept layout before after block leaf kept here = record {
  is = here.is;
  some = here.some;
  header = kept.same 0 (omega arith) ∙ here.header;
  room = here.room;
  holds = pairs_kept layout before after block leaf.pairs here.room kept here.holds;
}

chain_kept : (layout : Layout) (before after : List ℕ) (block : ℕ) (chain : List Leaf) → AllByRecursion (λ leaf. SameBlock layout before after leaf.block) chain
    → ChainStands layout before block chain → ChainStands layout after block chain
chain_kept layout before after block [] kept stands = stands
chain_kept layout before after block (leaf ∷ chain) kept stands =
    let here : SameBlock layout before after block = subst (SameBlock layout before after) stands.0.is kept.0 in
    (leaf_kept layout before after block leaf here stands.0, rw (here.same 17 (omega arith)) (chain_kept layout before after (word layout before block 17) chain kept.1 stands.1))

pub stands_kept : (layout : Layout) (before after : List ℕ) (block : ℕ) (tree : Tree) → EachBlock (λ number own. SameBlock layout before after number) tree
    → Stands layout before block tree → Stands layout after block tree
stands_kept layout before after block (Leaves chain) kept stands = chain_kept layout before after block chain kept stands
stands_kept layout before after block (Branch number own children) kept stands =
    let here : SameBlock layout before after block = subst (SameBlock layout before after) stands.0.is kept.0 in (
      record { is = stands.0.is; some = stands.0.some; header = here.same 0 (omega arith) ∙ stands.0.header },
      λ i within. rw (here.same (1 + i) (omega arith)) (stands_kept layout before after (word layout before block (1 + i)) (children i) (kept.1 i within) (stands.1 i within)),
    )
