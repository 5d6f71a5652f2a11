-- A root has one map, and a slot keeps it until it is written.
use Rattle.std.proofs.Common.{◌≡◌, ℕ, suc, ◌+◌, ◌<◌, List, [], ◌∷◌, ◌++◌, length, get_or, refl, sym, ◌∙◌, ap, subst, arith}
use Rattle.std.proofs.lemmas.List.{ext_get_or}
use Rattle.stm_model.specs.declared.sizes.Layout.{Layout}
use Rattle.ledger_model.specs.Maps.{value_at}
use Rattle.trie_law.specs.Blocks.{IsDrawn, SameBlock, word}
use Rattle.trie_law.specs.Law.{HasTrie, IsLawful, IsLive, IsLiveBlock, MayBecome, slot_root}
use Rattle.trie_law.specs.LawFacts.{drawn_later}
use Rattle.trie_law.specs.Nibbles.{nibble}
use Rattle.trie_law.specs.Tries.{Branch, ChainStands, EachBlock, IsBranchAt, IsLeafAt, IsTrie, Leaf, Leaves, Stands, Tree, pairs_of, value_in}
use Rattle.trie_law.proofs.Trees.{HeaderSays, blocks_both, blocks_weaker, headers_say, stands_kept}

pub nibble_within : (depth key : ℕ) → nibble depth key < 16
unfolding nibble
nibble_within depth key = omega arith

-- ---- one block holds one list of pairs

pub pair_same : (one other : ℕ × ℕ) → one.0 ≡ other.0 → one.1 ≡ other.1 → one ≡ other
pair_same one other keys values = ap (λ (key : ℕ). (key, one.1)) keys ∙ ap (λ (value : ℕ). (other.0, value)) values

leaf_pairs_same : (layout : Layout) (heap : List ℕ) (block : ℕ) (one other : Leaf) → IsLeafAt layout heap block one → IsLeafAt layout heap block other → one.pairs ≡ other.pairs
leaf_pairs_same layout heap block one other first second =
    let count : length one.pairs ≡ length other.pairs = omega (arith, first.header, second.header, first.room, second.room) in
    ext_get_or (0, 0) one.pairs other.pairs count (λ i within.
    let there : i < length other.pairs = omega (arith, count, within) in
    pair_same (get_or one.pairs i (0, 0)) (get_or other.pairs i (0, 0)) (sym (first.holds.keys i within) ∙ second.holds.keys i there) (sym (first.holds.values i within) ∙ second.holds.values i there))

chain_pairs_same : (layout : Layout) (heap : List ℕ) (block : ℕ) (one other : List Leaf) → ChainStands layout heap block one → ChainStands layout heap block other → pairs_of one ≡ pairs_of other
chain_pairs_same layout heap block [] [] first second = refl
chain_pairs_same layout heap block [] (leaf ∷ other) first second = absurd (omega (arith, first, second.0.some))
chain_pairs_same layout heap block (leaf ∷ one) [] first second = absurd (omega (arith, second, first.0.some))
chain_pairs_same layout heap block (leaf ∷ one) (next ∷ other) first second =
    ap (λ (pairs : List (ℕ × ℕ)). pairs ++ pairs_of one) (leaf_pairs_same layout heap block leaf next first.0 second.0)
    ∙ ap (λ (pairs : List (ℕ × ℕ)). next.pairs ++ pairs) (chain_pairs_same layout heap (word layout heap block 17) one other first.1 second.1)

not_both : (layout : Layout) (heap : List ℕ) (block number own : ℕ) (chain : List Leaf) → ChainStands layout heap block chain → IsBranchAt layout heap block number own → ⊥
not_both layout heap block number own [] chain branch = omega (arith, chain, branch.some)
not_both layout heap block number own (leaf ∷ rest) chain branch = omega (arith, chain.0.header, branch.header)

-- ---- one root has one map

pub one_map : (layout : Layout) (heap : List ℕ) (block depth key : ℕ) (one other : Tree) → Stands layout heap block one → Stands layout heap block other
    → value_in depth one key ≡ value_in depth other key
one_map layout heap block depth key (Leaves one) (Leaves other) first second =
    ap (value_at key) (chain_pairs_same layout heap block one other first second)
one_map layout heap block depth key (Leaves one) (Branch number own children) first second = absurd (not_both layout heap block number own one first second.0)
one_map layout heap block depth key (Branch number own children) (Leaves other) first second = absurd (not_both layout heap block number own other second first.0)
one_map layout heap block depth key (Branch number own children) (Branch number' own' children') first second =
    one_map layout heap (word layout heap block (1 + nibble depth key)) (suc depth) key (children (nibble depth key)) (children' (nibble depth key))
    (first.1 (nibble depth key) (nibble_within depth key)) (second.1 (nibble depth key) (nibble_within depth key))

-- ---- slots

-- the trie of a slot has no live block
none_live : (layout : Layout) (heap : List ℕ) (root : ℕ) (has : HasTrie layout heap 0 root) → EachBlock (λ block own. ¬ IsLiveBlock layout heap block) has.tree
none_live layout heap root has = blocks_weaker (λ block own. HeaderSays layout heap block own × (IsLive layout heap own → own ≡ 0)) (λ block own. ¬ IsLiveBlock layout heap block) has.tree
    (λ block own both live.
    let here : IsLive layout heap own = subst (IsLive layout heap) both.0.generation live.live in
    omega (arith, both.1 here, here.some))
    (blocks_both (HeaderSays layout heap) (λ block own. IsLive layout heap own → own ≡ 0) has.tree (headers_say layout heap root has.tree has.trie.stands) has.owned.same)

-- whatever a lawful heap becomes, the trie of a slot stands
pub slot_stands : (layout : Layout) (before after : List ℕ) (root : ℕ) → MayBecome layout before after → (has : HasTrie layout before 0 root) → IsTrie layout after root has.tree
slot_stands layout before after root may has = record {
  stands = stands_kept layout before after root has.tree
      (blocks_weaker (λ block own. IsDrawn layout before block × ¬ IsLiveBlock layout before block) (λ block own. SameBlock layout before after block) has.tree
      (λ block own both. may.kept block both.0 both.1)
      (blocks_both (λ block own. IsDrawn layout before block) (λ block own. ¬ IsLiveBlock layout before block) has.tree has.trie.drawn (none_live layout before root has)))
      has.trie.stands;
  drawn = blocks_weaker (λ block own. IsDrawn layout before block) (λ block own. IsDrawn layout after block) has.tree
      (λ block own d. drawn_later layout before after block may.counts d) has.trie.drawn;
  shaped = has.trie.shaped;
}

pub slot_keeps : (layout : Layout) (before after : List ℕ) (snap : ℕ) (one other : Tree) (key : ℕ) → IsLawful layout before → MayBecome layout before after
    → snap < layout.snaps → slot_root layout after snap ≡ slot_root layout before snap
    → IsTrie layout before (slot_root layout before snap) one → IsTrie layout after (slot_root layout after snap) other → value_in 0 one key ≡ value_in 0 other key
slot_keeps layout before after snap one other key lawful may within same first second =
    let root = slot_root layout before snap in
    let has = lawful.slots snap within in
    one_map layout before root 0 key one has.tree first.stands has.trie.stands
    ∙ one_map layout after root 0 key has.tree other (slot_stands layout before after root may has).stands (subst (λ x. Stands layout after x other) same second.stands)
