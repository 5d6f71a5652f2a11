-- Counts: blocks in use, and leaves of a chain.
use Rattle.std.proofs.Common.{◌≡◌, ◌≢◌, ℕ, ◌+◌, ◌*◌, ◌/◌, ◌^◌, ◌<◌, ◌≤◌, Bool, true, false, cond, nat_eq, zero, suc, List, [], ◌∷◌, length, Option, Some, None, refl, sym, ◌∙◌, arith, inl, inr, length-append}
use Rattle.std.specs.List.{AllByRecursion, IsDistinct, filter}
use Rattle.std.specs.Map.{keys_of}
use Rattle.std.proofs.lemmas.Bool.Decides.{eqb_tells}
use Rattle.std.proofs.lemmas.List.Sums.{length-filter}
use Rattle.std.proofs.lemmas.Map.Entries.{lookup-filter-keys}
use Rattle.std.proofs.lemmas.Nat.{xor_of_32}
use Rattle.stm_model.specs.declared.sizes.Layout.{Layout}
use Rattle.stm_model.specs.Layouts.{block_count, cell_count}
use Rattle.ledger_model.specs.Maps.{hash, multiplied, same_hash, value_at}
use Rattle.trie_law.specs.Blocks.{drawn_count, sum_below, used_count}
use Rattle.trie_law.specs.Growing.{Drew, DrewToken, Filled}
use Rattle.trie_law.specs.Law.{IsLawful}
use Rattle.trie_law.specs.LeafPairs.{without}
use Rattle.trie_law.specs.Nibbles.{way}
use Rattle.trie_law.specs.Tries.{IsChain, LaterHavePairs, Leaf, pairs_of}
use Rattle.trie_law.proofs.Growth.{count_here, count_there, filled_count}
use Rattle.trie_law.proofs.Lawful.{SameBehind, behind_count}
use Rattle.trie_law.proofs.LeafPairLemmas.{length-without, without_sets}
use Rattle.trie_law.proofs.Trees.{sum_same}

-- ---- blocks in use

sum_update_within : (n : ℕ) (f g : ℕ → ℕ) (i : ℕ) → i < n → ((j : ℕ) → j < n → j ≢ i → g j ≡ f j) → sum_below n g + f i ≡ sum_below n f + g i
sum_update_within zero f g i within same = absurd (omega arith)
sum_update_within (suc n) f g i within same = elim (eqb_tells i n) [
  | inl last ↦ rw last.1 (omega (arith, sum_same n g f (λ j below. same j (omega (arith, below)) (λ is. omega (arith, is, below, last.1)))))
  | inr other ↦ omega (arith, sum_update_within n f g i (omega (arith, within, other.1)) (λ j below apart. same j (omega (arith, below)) apart), same n (omega arith) (λ is. other.1 (sym is)))
]

-- a draw takes one block
pub used_drew : (layout : Layout) (before after : List ℕ) (block : ℕ) → cell_count layout ≤ length before → Drew layout before after block → used_count layout after ≡ used_count layout before + 1
used_drew layout before after block size drew = omega (
  arith,
  count_here layout before after block size drew,
  sum_update_within layout.stripes (drawn_count layout before) (drawn_count layout after) drew.stripe drew.stripe_in
      (λ stripe within apart. count_there layout before after block size drew stripe apart),
)

-- what fills a block takes none
pub used_filled : (layout : Layout) (before after : List ℕ) (block : ℕ) → Filled layout before after block → used_count layout after ≡ used_count layout before
used_filled layout before after block filled = sum_same layout.stripes (drawn_count layout after) (drawn_count layout before) (λ stripe within. filled_count layout before after block filled stripe within)

-- nor does a cell before the counts
pub used_behind : (layout : Layout) (before after : List ℕ) → SameBehind layout before after → used_count layout after ≡ used_count layout before
used_behind layout before after behind = sum_same layout.stripes (drawn_count layout after) (drawn_count layout before) (λ stripe within. behind_count layout before after behind stripe)

-- a token takes one block
pub used_token : (layout : Layout) (before after : List ℕ) (token : ℕ) → cell_count layout ≤ length before → DrewToken layout before after token → used_count layout after ≡ used_count layout before + 1
used_token layout before after token size drew = used_filled layout drew.drawn after token drew.filled ∙ used_drew layout before drew.drawn token size drew.drew

sum_even : (n each : ℕ) (f : ℕ → ℕ) → ((i : ℕ) → i < n → f i ≡ each) → sum_below n f ≡ n * each
sum_even zero each f same = grind arith
sum_even (suc n) each f same =
    let rest = sum_even n each f (λ i within. same i (omega (arith, within))) in
    let here = same n (omega arith) in
    grind (arith, rest, here)

-- no stripe has a block left
pub used_all : (layout : Layout) (heap : List ℕ) → ((stripe : ℕ) → stripe < layout.stripes → drawn_count layout heap stripe ≤ layout.per_stripe)
    → ((stripe : ℕ) → stripe < layout.stripes → layout.per_stripe ≤ drawn_count layout heap stripe) → used_count layout heap ≡ block_count layout
used_all layout heap most full = sum_even layout.stripes layout.per_stripe (drawn_count layout heap) (λ stripe within. omega (arith, most stripe within, full stripe within))

sum_most : (n each : ℕ) (f : ℕ → ℕ) → ((i : ℕ) → i < n → f i ≤ each) → sum_below n f ≤ n * each
sum_most zero each f few = grind arith
sum_most (suc n) each f few =
    let rest = sum_most n each f (λ i within. few i (omega (arith, within))) in
    let here = few n (omega arith) in
    grind (arith, rest, here)

pub used_most : (layout : Layout) (heap : List ℕ) → IsLawful layout heap → used_count layout heap ≤ block_count layout
used_most layout heap lawful = sum_most layout.stripes layout.per_stripe (drawn_count layout heap) lawful.counts

-- ---- as many keys as stand in another list

left_of : (same : Bool) (value : ℕ) (rest : Option ℕ) (found : ℕ) → same ≡ false → cond same (Some value) rest ≡ Some found → rest ≡ Some found
left_of same value rest found differs is = rw differs at is

first_value : (pair : ℕ × ℕ) (pairs : List (ℕ × ℕ)) → value_at pair.0 (pair ∷ pairs) ≡ Some pair.1
first_value pair pairs = elim (eqb_tells pair.0 pair.0) [ inl same ↦ rw same.0 refl | inr differs ↦ absurd (differs.1 refl) ]

not_here : (test : Bool) (before : Option ℕ) (value : ℕ) → cond test None before ≡ Some value → (test ≡ false) × (before ≡ Some value)
not_here true before value is = absurd (cc)
not_here false before value is = (refl, is)

-- keys that differ, and each of which stands in other pairs, are no more than those
pub no_more : (pairs some : List (ℕ × ℕ)) → IsDistinct nat_eq (keys_of some) → ((key value : ℕ) → value_at key some ≡ Some value → value_at key pairs ≡ Some value) → length some ≤ length pairs
no_more [] [] distinct found = omega arith
no_more [] (pair ∷ some) distinct found = absurd (let here : None ≡ Some pair.1 = found pair.0 pair.1 (first_value pair some) in cc)
no_more (pair ∷ pairs) some distinct found = by (value_at pair.0 some) refl (no_more pairs) where
  by : (here : Option ℕ) → value_at pair.0 some ≡ here
      → ((rest : List (ℕ × ℕ)) → IsDistinct nat_eq (keys_of rest) → ((key value : ℕ) → value_at key rest ≡ Some value → value_at key pairs ≡ Some value) → length rest ≤ length pairs)
      → length some ≤ suc (length pairs)
  by None none fewer = omega (
    arith,
    fewer some distinct (λ key value is. elim (eqb_tells key pair.0) [
      | inl same ↦ absurd (let there : value_at pair.0 some ≡ Some value = rw same.1 at is in cc)
      | inr differs ↦ left_of (nat_eq key pair.0) pair.1 (value_at key pairs) value differs.0 (found key value is)
    ]),
  )
  by (Some value) is fewer =
      let sets = without_sets pair.0 some distinct in
      let rest = fewer (without pair.0 some) sets.distinct (λ key v there.
      let old = not_here (nat_eq key pair.0) (value_at key some) v (sym (sets.values key) ∙ there) in
      left_of (nat_eq key pair.0) pair.1 (value_at key pairs) v old.0 (found key v old.1)) in
      omega (arith, rest, length-without pair.0 value some is)

-- ---- chains

leaves_have : (chain : List Leaf) → AllByRecursion (λ leaf. 0 < length leaf.pairs) chain → length chain ≤ length (pairs_of chain)
leaves_have [] all = omega arith
leaves_have (leaf ∷ chain) all = omega (arith, all.0, leaves_have chain all.1, length-append leaf.pairs (pairs_of chain))

chain_short : (chain : List Leaf) → LaterHavePairs chain → length chain ≤ length (pairs_of chain) + 1
chain_short [] later = omega arith
chain_short (leaf ∷ chain) later = omega (arith, leaves_have chain later, length-append leaf.pairs (pairs_of chain))

hash_within : (key : ℕ) → hash key < 2 ^ 32
unfolding hash
hash_within key = xor_of_32 (multiplied key) (multiplied key / 2 ^ 15) (omega arith) (omega arith)

same_hashes : (key other : ℕ) → way 8 key ≡ way 8 other → hash key ≡ hash other
unfolding way
same_hashes key other same = omega (arith, same, hash_within key, hash_within other)

same_test : (number key other : ℕ) (test : Bool) → nat_eq (hash key) number ≡ test → nat_eq key other ≡ true → nat_eq (hash other) number ≡ test
same_test number key other test is same = elim (eqb_tells key other) [ inl equal ↦ rw equal.1 at is | inr differs ↦ cc ]

found_with_hash : (key other value : ℕ) (pairs : List (ℕ × ℕ)) → hash other ≡ hash key → value_at other pairs ≡ Some value
    → value_at other (filter (λ pair. nat_eq (hash pair.0) (hash key)) pairs) ≡ Some value
found_with_hash key other value pairs same is =
    lookup-filter-keys (nat_eq other) (λ k. nat_eq (hash k) (hash key)) (nat_eq (hash other) (hash key)) (λ k equal. same_test (hash key) other k (nat_eq (hash other) (hash key)) refl equal) pairs
    ∙ (elim (eqb_tells (hash other) (hash key)) [ inl here ↦ rw here.0 is | inr differs ↦ absurd (differs.1 same) ])

-- a chain's leaves, by the pairs of the map that have its hash
pub chain_most : (key : ℕ) (pairs : List (ℕ × ℕ)) (chain : List Leaf) → IsChain (way 8 key) 8 chain
    → ((other value : ℕ) → value_at other (pairs_of chain) ≡ Some value → value_at other pairs ≡ Some value) → length chain ≤ same_hash key pairs + 1
chain_most key pairs chain is found =
    let hashed = filter (λ (pair : ℕ × ℕ). nat_eq (hash pair.0) (hash key)) pairs in
    let most = no_more hashed (pairs_of chain) is.pairs.distinct (λ other value there.
    found_with_hash key other value pairs (same_hashes other key (is.pairs.here other value there)) (found other value there)) in
    omega (arith, most, chain_short chain is.filled, length-filter (λ (pair : ℕ × ℕ). nat_eq (hash pair.0) (hash key)) pairs)
