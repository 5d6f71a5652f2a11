-- The pairs of a tree, child by child, have the values that its keys have in it. So each trie has pairs.
use Rattle.std.proofs.Common.{◌≡◌, ◌≢◌, ℕ, ◌+◌, ◌*◌, ◌^◌, ◌<◌, ◌≤◌, zero, suc, cond, nat_eq, List, [], ◌∷◌, Option, Some, None, refl, sym, ◌∙◌, ap, arith, inl, inr}
use Rattle.std.specs.List.{IsDistinct}
use Rattle.std.specs.Map.{keys_of}
use Rattle.std.specs.Option.{option_or}
use Rattle.std.proofs.lemmas.Bool.{cases_lt}
use Rattle.std.proofs.lemmas.Bool.Decides.{eqb_tells}
use Rattle.std.proofs.lemmas.Nat.{pow-add}
use Rattle.std.proofs.Math.Nat.{mod-lt}
use Rattle.stm_model.specs.declared.sizes.Layout.{Layout}
use Rattle.stm_model.specs.Pairs.{KeysAscend}
use Rattle.ledger_model.specs.Maps.{hash, put_pair, value_at}
use Rattle.ledger_model.proofs.MapLemmas.{KeysAscend-put}
use Rattle.trie_law.specs.Holding.{HasPairs, all_pairs, joined}
use Rattle.trie_law.specs.Nibbles.{nibble, way}
use Rattle.trie_law.specs.Tries.{AreOnWay, Branch, IsShaped, IsTrie, Leaves, Tree, value_in}
use Rattle.trie_law.proofs.Holdings.{put_values}
use Rattle.trie_law.proofs.LeafPairLemmas.{distinct_append, distinct_none, option_or-none, value_at-append}
use Rattle.trie_law.proofs.OneMap.{nibble_within}
use Rattle.trie_law.proofs.Splitting.{power_some, way_step}

-- ---- where a key goes

way_within : (depth key : ℕ) → way depth key < 2 ^ (4 * depth)
unfolding way
way_within depth key = mod-lt (hash key) (power_some (4 * depth))

product_step : (each one other : ℕ) → one < other → one * each + each ≤ other * each
product_step each one other less = grind arith

-- two numbers below another one, with multiples of that one, are the same
same_parts : (each low other one two : ℕ) → low < each → other < each → low + one * each ≡ other + two * each → (low ≡ other) × (one ≡ two)
same_parts each low other one two a b is = elim (cases_lt one two) [
  | inl less ↦ absurd (omega (arith, product_step each one two less, a, b, is))
  | inr more ↦ elim (cases_lt two one) [
    | inl less ↦ absurd (omega (arith, product_step each two one less, a, b, is))
    | inr least ↦
        let same : one ≡ two = omega (arith, more, least) in
        let products = ap (λ (n : ℕ). n * each) same in
        (omega (arith, is, products), same)
  ]
]

-- a key on the way of a child is on the way of its branch, and has the child's nibble
goes_on : (so_far depth i key : ℕ) → so_far < 2 ^ (4 * depth) → way (suc depth) key ≡ so_far + i * 2 ^ (4 * depth) → (way depth key ≡ so_far) × (nibble depth key ≡ i)
goes_on so_far depth i key within is = same_parts (2 ^ (4 * depth)) (way depth key) so_far (nibble depth key) i (way_within depth key) within (sym (way_step depth key) ∙ is)

four_more : (depth : ℕ) → 2 ^ (4 * suc depth) ≡ 16 * 2 ^ (4 * depth)
four_more depth = ap (λ (n : ℕ). 2 ^ n) (omega arith) ∙ pow-add 2 4 (4 * depth)

next_within : (so_far depth i : ℕ) → so_far < 2 ^ (4 * depth) → i < 16 → so_far + i * 2 ^ (4 * depth) < 2 ^ (4 * suc depth)
next_within so_far depth i within few =
    let each = 2 ^ (4 * depth) in
    let most = product_step each i 16 few in
    omega (arith, four_more depth, most, within)

-- ---- the children's pairs, one behind the other

none_or : (found : Option ℕ) (P : Type 0) → ((value : ℕ) → found ≡ Some value → P) → (found ≡ None → P) → P
none_or None P some none = none refl
none_or (Some value) P some none = some value refl

module _ (so_far depth : ℕ) (within : so_far < 2 ^ (4 * depth)) (f : ℕ → List (ℕ × ℕ)) (on : (i : ℕ) → i < 16 → AreOnWay (so_far + i * 2 ^ (4 * depth)) (suc depth) (f i)) where
  goes_to : (i key value : ℕ) → i < 16 → value_at key (f i) ≡ Some value → (way depth key ≡ so_far) × (nibble depth key ≡ i)
  goes_to i key value few found = goes_on so_far depth i key within ((on i few).here key value found)

  -- a key isn't where its nibble doesn't lead
  none_elsewhere : (i key : ℕ) → i < 16 → nibble depth key ≢ i → value_at key (f i) ≡ None
  none_elsewhere i key few apart = none_or (value_at key (f i)) (value_at key (f i) ≡ None) (λ value found. absurd (apart (goes_to i key value few found).1)) (λ none. none)

  none_before : (n key : ℕ) → n ≤ 16 → n ≤ nibble depth key → value_at key (joined n f) ≡ None
  none_before zero key few low = refl
  none_before (suc n) key few low =
      value_at-append key (joined n f) (f n)
      ∙ (ap (λ (found : Option ℕ). option_or found (value_at key (f n))) (none_before n key (omega (arith, few)) (omega (arith, low)))
      ∙ none_elsewhere n key (omega (arith, few)) (λ same. omega (arith, same, low)))

  value_joined : (n key : ℕ) → n ≤ 16 → nibble depth key < n → value_at key (joined n f) ≡ value_at key (f (nibble depth key))
  value_joined zero key few in_it = absurd (omega (arith, in_it))
  value_joined (suc n) key few in_it = value_at-append key (joined n f) (f n) ∙ elim (eqb_tells (nibble depth key) n) [
    | inl last ↦
        ap (λ (found : Option ℕ). option_or found (value_at key (f n))) (none_before n key (omega (arith, few)) (omega (arith, last.1)))
        ∙ ap (λ (i : ℕ). value_at key (f i)) (sym last.1)
    | inr earlier ↦
        ap (option_or (value_at key (joined n f))) (none_elsewhere n key (omega (arith, few)) earlier.1)
        ∙ (option_or-none (value_at key (joined n f)) ∙ value_joined n key (omega (arith, few)) (omega (arith, in_it, earlier.1)))
  ]

  found_joined : (n key value : ℕ) → n ≤ 16 → value_at key (joined n f) ≡ Some value → (way depth key ≡ so_far) × (nibble depth key < n)
  found_joined n key value few found = elim (cases_lt (nibble depth key) n) [
    | inl in_it ↦ ((goes_to (nibble depth key) key value (nibble_within depth key) (sym (value_joined n key few in_it) ∙ found)).0, in_it)
    | inr late ↦ absurd (let none = none_before n key few late in cc)
  ]

  distinct_joined : (n : ℕ) → n ≤ 16 → IsDistinct nat_eq (keys_of (joined n f))
  distinct_joined zero few = distinct_none
  distinct_joined (suc n) few = distinct_append (joined n f) (f n) (distinct_joined n (omega (arith, few))) (on n (omega (arith, few))).distinct
      (λ key value found.
      let there = found_joined n key value (omega (arith, few)) found in
      none_elsewhere n key (omega (arith, few)) (λ same. omega (arith, same, there.1)))

  pub joined_on_way : AreOnWay so_far depth (joined 16 f)
  joined_on_way = record { distinct = distinct_joined 16 (omega arith); here = λ key value found. (found_joined 16 key value (omega arith) found).0 }

  pub joined_value : (key : ℕ) → value_at key (joined 16 f) ≡ value_at key (f (nibble depth key))
  joined_value key = value_joined 16 key (omega arith) (nibble_within depth key)

-- ---- all pairs of a tree

pub all_on_way : (so_far depth : ℕ) (tree : Tree) → so_far < 2 ^ (4 * depth) → IsShaped so_far depth tree → AreOnWay so_far depth (all_pairs tree)
all_on_way so_far depth (Leaves chain) within shaped = shaped.pairs
all_on_way so_far depth (Branch block own children) within shaped = joined_on_way so_far depth within (λ i. all_pairs (children i))
    (λ i few. all_on_way (so_far + i * 2 ^ (4 * depth)) (suc depth) (children i) (next_within so_far depth i within few) (shaped.1 i few))

pub all_values : (so_far depth key : ℕ) (tree : Tree) → so_far < 2 ^ (4 * depth) → IsShaped so_far depth tree → value_at key (all_pairs tree) ≡ value_in depth tree key
all_values so_far depth key (Leaves chain) within shaped = refl
all_values so_far depth key (Branch block own children) within shaped =
    let i = nibble depth key in
    let few = nibble_within depth key in
    joined_value so_far depth within (λ j. all_pairs (children j))
    (λ j there. all_on_way (so_far + j * 2 ^ (4 * depth)) (suc depth) (children j) (next_within so_far depth j within there) (shaped.1 j there)) key
    ∙ all_values (so_far + i * 2 ^ (4 * depth)) (suc depth) key (children i) (next_within so_far depth i within few) (shaped.1 i few)

-- ---- in order

abbrev ordered : List (ℕ × ℕ) → List (ℕ × ℕ)
ordered [] = []
ordered (pair ∷ pairs) = put_pair pair.0 pair.1 (ordered pairs)

ordered_ascends : (pairs : List (ℕ × ℕ)) → KeysAscend (ordered pairs)
ordered_ascends [] = tt
ordered_ascends (pair ∷ pairs) = KeysAscend-put pair.0 pair.1 (ordered pairs) (ordered_ascends pairs)

ordered_values : (key : ℕ) (pairs : List (ℕ × ℕ)) → value_at key (ordered pairs) ≡ value_at key pairs
ordered_values key [] = refl
ordered_values key (pair ∷ pairs) = put_values pair.0 pair.1 key (ordered pairs) ∙ ap (λ (rest : Option ℕ). cond (nat_eq key pair.0) (Some pair.1) rest) (ordered_values key pairs)

pub trie_has_pairs : (layout : Layout) (heap : List ℕ) (root : ℕ) (tree : Tree) → IsTrie layout heap root tree → (pairs : List (ℕ × ℕ)) × HasPairs layout heap root pairs
trie_has_pairs layout heap root tree trie = (
  ordered (all_pairs tree),
  record {
    tree = tree;
    trie = trie;
    ascend = ordered_ascends (all_pairs tree);
    values = λ key. ordered_values key (all_pairs tree) ∙ all_values 0 0 key tree (omega arith) trie.shaped;
  },
)
