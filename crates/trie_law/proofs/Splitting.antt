-- The ways of keys, and what a full leaf is split into.
use Rattle.std.proofs.Common.{◌≡◌, ◌≢◌, ℕ, ◌+◌, ◌*◌, ◌^◌, ◌%◌, ◌<◌, ◌≤◌, Bool, true, false, cond, nat_eq, zero, suc, List, [], ◌∷◌, ◌++◌, length, Option, Some, None, refl, sym, ap, subst, ◌∙◌, inl, inr, arith}
use Rattle.std.specs.List.{AllByRecursion, IsDistinct}
use Rattle.std.specs.Map.{keys_of}
use Rattle.std.specs.Option.{option_or}
use Rattle.std.proofs.lemmas.Bool.Decides.{eqb_tells}
use Rattle.std.proofs.lemmas.List.{append-nil}
use Rattle.std.proofs.lemmas.Map.Entries.{lookup-filter-keys}
use Rattle.std.proofs.lemmas.Map.Made.{IsDistinct-keys_filter}
use Rattle.std.proofs.lemmas.Nat.{pow-add}
use Rattle.std.proofs.Math.Arith.{mod-mul}
use Rattle.ledger_model.specs.Maps.{hash, value_at}
use Rattle.trie_law.specs.LeafPairs.{SetsKey}
use Rattle.trie_law.specs.Nibbles.{nibble, way}
use Rattle.trie_law.specs.Setting.{HoldsJust, SetsKeyIn, part}
use Rattle.trie_law.specs.Tries.{AreOnWay, Branch, IsShaped, Leaf, Leaves, Tree, pairs_of, value_in}
use Rattle.trie_law.proofs.Chains.{set_on_way}
use Rattle.trie_law.proofs.LeafPairLemmas.{distinct_append, distinct_cons, distinct_none, value_at-append}
use Rattle.trie_law.proofs.OneMap.{nibble_within}

-- ---- ways

pub power_some : (n : ℕ) → 0 < 2 ^ n
power_some zero = omega arith
power_some (suc n) = omega (arith, power_some n)

-- one nibble more
pub way_step : (depth key : ℕ) → way (suc depth) key ≡ way depth key + nibble depth key * 2 ^ (4 * depth)
unfolding way nibble
way_step depth key =
    let powers : 2 ^ (4 * suc depth) ≡ 16 * 2 ^ (4 * depth) = ap (λ (n : ℕ). 2 ^ n) (omega arith) ∙ pow-add 2 4 (4 * depth) in
    let split = ap (λ (n : ℕ). hash key % n) powers ∙ mod-mul (hash key) {m = 16} {c = 2 ^ (4 * depth)} (omega arith) (power_some (4 * depth)) in
    omega (arith, split)

pub way_start : (key : ℕ) → way 0 key ≡ 0
unfolding way
way_start key = omega arith

-- ---- leaves

pub none_on_way : (so_far depth : ℕ) → AreOnWay so_far depth []
none_on_way so_far depth = record { distinct = distinct_none; here = λ key value is. cc }

pub holds_none : (so_far depth : ℕ) → depth ≤ 8 → HoldsJust so_far depth [] (Leaves [])
holds_none so_far depth deep = record { values = λ key. refl; shaped = record { deep = deep; single = λ shallow. omega arith; filled = tt; pairs = none_on_way so_far depth } }

pub holds_leaf : (so_far depth : ℕ) (leaf : Leaf) → depth ≤ 8 → AreOnWay so_far depth leaf.pairs → HoldsJust so_far depth leaf.pairs (Leaves (leaf ∷ []))
holds_leaf so_far depth leaf deep on = record {
  values = λ key. ap (value_at key) (append-nil leaf.pairs);
  shaped = record { deep = deep; single = λ shallow. omega arith; filled = tt; pairs = subst (AreOnWay so_far depth) (sym (append-nil leaf.pairs)) on };
}

-- more pairs than one leaf has room for, at depth 8
pub holds_chain : (so_far : ℕ) (first second : Leaf) → 0 < length second.pairs → AreOnWay so_far 8 (first.pairs ++ second.pairs)
    → HoldsJust so_far 8 (first.pairs ++ second.pairs) (Leaves (first ∷ second ∷ []))
holds_chain so_far first second some on = record {
  values = λ key. ap (λ (pairs : List (ℕ × ℕ)). value_at key (first.pairs ++ pairs)) (append-nil second.pairs);
  shaped = record {
    deep = omega arith;
    single = λ shallow. omega (arith, shallow);
    filled = (some, tt);
    pairs = subst (λ pairs. AreOnWay so_far 8 (first.pairs ++ pairs)) (sym (append-nil second.pairs)) on;
  };
}

-- ---- branches

same_nibble : (depth i key other : ℕ) (test : Bool) → nat_eq (nibble depth key) i ≡ test → nat_eq key other ≡ true → nat_eq (nibble depth other) i ≡ test
same_nibble depth i key other test is same = elim (eqb_tells key other) [ inl equal ↦ rw equal.1 at is | inr differs ↦ cc ]

pub value_in_part : (depth i key : ℕ) (pairs : List (ℕ × ℕ)) → value_at key (part depth i pairs) ≡ cond (nat_eq (nibble depth key) i) (value_at key pairs) None
value_in_part depth i key pairs =
    lookup-filter-keys (nat_eq key) (λ other. nat_eq (nibble depth other) i) (nat_eq (nibble depth key) i) (λ other same. same_nibble depth i key other (nat_eq (nibble depth key) i) refl same) pairs

part_way : (depth i so_far key found : ℕ) (before : Option ℕ) → (before ≡ Some found → way depth key ≡ so_far) → cond (nat_eq (nibble depth key) i) before None ≡ Some found
    → way (suc depth) key ≡ so_far + i * 2 ^ (4 * depth)
part_way depth i so_far key found before on is = elim (eqb_tells (nibble depth key) i) [
  | inl same ↦ let here : way depth key ≡ so_far = on (rw same.0 at is) in way_step depth key ∙ rw (same.1, here) refl
  | inr differs ↦ absurd (let none : None ≡ Some found = rw differs.0 at is in cc)
]

pub part_on_way : (so_far depth i : ℕ) (pairs : List (ℕ × ℕ)) → AreOnWay so_far depth pairs → AreOnWay (so_far + i * 2 ^ (4 * depth)) (suc depth) (part depth i pairs)
part_on_way so_far depth i pairs on = record {
  distinct = IsDistinct-keys_filter nat_eq (λ pair. nat_eq (nibble depth pair.0) i) pairs on.distinct;
  here = λ key found is. part_way depth i so_far key found (value_at key pairs) (on.here key found) (sym (value_in_part depth i key pairs) ∙ is);
}

-- where each child has its part of the pairs, the branch has all of them
pub holds_branch : (so_far depth : ℕ) (pairs : List (ℕ × ℕ)) (block own : ℕ) (children : ℕ → Tree) → depth < 8
    → ((i : ℕ) → i < 16 → HoldsJust (so_far + i * 2 ^ (4 * depth)) (suc depth) (part depth i pairs) (children i)) → HoldsJust so_far depth pairs (Branch block own children)
holds_branch so_far depth pairs block own children deep each = record {
  values = λ key. (each (nibble depth key) (nibble_within depth key)).values key ∙ (value_in_part depth (nibble depth key) key pairs
      ∙ elim (eqb_tells (nibble depth key) (nibble depth key)) [ inl same ↦ rw same.0 refl | inr differs ↦ absurd (differs.1 refl) ]);
  shaped = (deep, λ i within. (each i within).shaped);
}

-- ---- a branch with one child, where all keys have one nibble

whole_part : (depth i : ℕ) (pairs : List (ℕ × ℕ)) → AllByRecursion (λ key. nat_eq (nibble depth key) i ≡ true) (keys_of pairs) → part depth i pairs ≡ pairs
whole_part depth i [] all = refl
whole_part depth i (pair ∷ pairs) all = rw all.0 (ap (λ (rest : List (ℕ × ℕ)). pair ∷ rest) (whole_part depth i pairs all.1))

other_nibble : (n i j : ℕ) → nat_eq n i ≡ true → i ≢ j → nat_eq n j ≡ false
other_nibble n i j is apart = elim (eqb_tells n j) [
  | inl same ↦ absurd (elim (eqb_tells n i) [ inl equal ↦ apart (sym equal.1 ∙ same.1) | inr differs ↦ cc (differs.0, is) ])
  | inr differs ↦ differs.0
]

no_part : (depth i j : ℕ) (pairs : List (ℕ × ℕ)) → i ≢ j → AllByRecursion (λ key. nat_eq (nibble depth key) i ≡ true) (keys_of pairs) → part depth j pairs ≡ []
no_part depth i j [] apart all = refl
no_part depth i j (pair ∷ pairs) apart all = rw (other_nibble (nibble depth pair.0) i j all.0 apart) (no_part depth i j pairs apart all.1)

pub holds_deeper : (so_far depth i : ℕ) (pairs : List (ℕ × ℕ)) (block own : ℕ) (tree : Tree) → depth < 8
    → AllByRecursion (λ key. nat_eq (nibble depth key) i ≡ true) (keys_of pairs) → HoldsJust (so_far + i * 2 ^ (4 * depth)) (suc depth) pairs tree
    → HoldsJust so_far depth pairs (Branch block own (λ j. cond (nat_eq j i) tree (Leaves [])))
holds_deeper so_far depth i pairs block own tree deep all holds = holds_branch so_far depth pairs block own (λ j. cond (nat_eq j i) tree (Leaves [])) deep
    (λ j within. elim (eqb_tells j i) [
      | inl same ↦ rw (same.0, same.1, whole_part depth i pairs all) holds
      | inr differs ↦ rw (differs.0, no_part depth i j pairs (λ equal. differs.1 (sym equal)) all) (holds_none (so_far + j * 2 ^ (4 * depth)) (suc depth) (omega arith))
    ])

-- ---- the nine pairs of a split

nine_step : (same : Bool) (value : ℕ) (before : Option ℕ) → (same ≡ true → before ≡ None) → option_or before (cond same (Some value) None) ≡ cond same (Some value) before
nine_step true value before none = rw (none refl) refl
nine_step false value None none = refl
nine_step false value (Some found) none = refl

-- a pair behind others that haven't its key sets it
pub pair_sets : (key value : ℕ) (pairs : List (ℕ × ℕ)) → value_at key pairs ≡ None → IsDistinct nat_eq (keys_of pairs) → SetsKey key (Some value) pairs (pairs ++ (key, value) ∷ [])
pair_sets key value pairs none distinct = record {
  values = λ other. value_at-append other pairs ((key, value) ∷ [])
      ∙ nine_step (nat_eq other key) value (value_at other pairs) (λ is. elim (eqb_tells other key) [ inl same ↦ rw same.1 none | inr differs ↦ cc ]);
  distinct = distinct_append pairs ((key, value) ∷ []) distinct (distinct_cons (key, value) [] refl distinct_none) (λ other found is. elim (eqb_tells other key) [
    | inl same ↦ absurd (let some : value_at key pairs ≡ Some found = rw same.1 at is in cc)
    | inr differs ↦ rw differs.0 refl
  ]);
}

-- a leaf is exchanged for what its pairs and one more are split into
pub split_sets : (depth key value : ℕ) (leaf : Leaf) (tree : Tree) → value_at key leaf.pairs ≡ None
    → (AreOnWay (way depth key) depth (leaf.pairs ++ (key, value) ∷ []) → HoldsJust (way depth key) depth (leaf.pairs ++ (key, value) ∷ []) tree)
    → SetsKeyIn depth key (Some value) (Leaves (leaf ∷ [])) tree
split_sets depth key value leaf tree none holds =
    let own : pairs_of (leaf ∷ []) ≡ leaf.pairs = append-nil leaf.pairs in
    let sets : IsShaped (way depth key) depth (Leaves (leaf ∷ [])) → SetsKey key (Some value) leaf.pairs (leaf.pairs ++ (key, value) ∷ []) =
    λ shaped. pair_sets key value leaf.pairs none (subst (λ pairs. IsDistinct nat_eq (keys_of pairs)) own shaped.pairs.distinct) in
    let on : IsShaped (way depth key) depth (Leaves (leaf ∷ [])) → AreOnWay (way depth key) depth (leaf.pairs ++ (key, value) ∷ []) =
    λ shaped. set_on_way (way depth key) depth key (Some value) leaf.pairs (leaf.pairs ++ (key, value) ∷ []) refl (subst (AreOnWay (way depth key) depth) own shaped.pairs) (sets shaped) in
    record {
      values = λ shaped other. (holds (on shaped)).values other ∙ ((sets shaped).values other ∙ ap (λ (pairs : List (ℕ × ℕ)). cond (nat_eq other key) (Some value) (value_at other pairs)) (sym own));
      shaped = λ shaped. (holds (on shaped)).shaped;
    }

-- ---- a key is set below a branch

value_in_either : (depth : ℕ) (test : Bool) (one other : Tree) (key : ℕ) → value_in depth (cond test one other) key ≡ cond test (value_in depth one key) (value_in depth other key)
value_in_either depth true one other key = refl
value_in_either depth false one other key = refl

child_value : (depth key : ℕ) (value : Option ℕ) (children : ℕ → Tree) (under : Tree) (other : ℕ)
    → value_in (suc depth) under other ≡ cond (nat_eq other key) value (value_in (suc depth) (children (nibble depth key)) other)
    → cond (nat_eq (nibble depth other) (nibble depth key)) (value_in (suc depth) under other) (value_in (suc depth) (children (nibble depth other)) other)
    ≡ cond (nat_eq other key) value (value_in (suc depth) (children (nibble depth other)) other)
child_value depth key value children under other is = elim (eqb_tells (nibble depth other) (nibble depth key)) [
  | inl same ↦ rw same.0 (subst (λ i. value_in (suc depth) under other ≡ cond (nat_eq other key) value (value_in (suc depth) (children i) other)) (sym same.1) is)
  | inr differs ↦ rw differs.0 (elim (eqb_tells other key) [
    | inl equal ↦ absurd (differs.1 (ap (nibble depth) equal.1))
    | inr apart ↦ rw apart.0 refl
  ])
]

pub branch_sets : (depth key : ℕ) (value : Option ℕ) (number other block own : ℕ) (children : ℕ → Tree) (under : Tree) → SetsKeyIn (suc depth) key value (children (nibble depth key)) under
    → SetsKeyIn depth key value (Branch number other children) (Branch block own (λ j. cond (nat_eq j (nibble depth key)) under (children j)))
branch_sets depth key value number other block own children under sets =
    let child : IsShaped (way depth key) depth (Branch number other children) → IsShaped (way (suc depth) key) (suc depth) (children (nibble depth key)) =
    λ shaped. rw (way_step depth key) (shaped.1 (nibble depth key) (nibble_within depth key)) in
    record {
      values = λ shaped k. value_in_either (suc depth) (nat_eq (nibble depth k) (nibble depth key)) under (children (nibble depth k)) k
          ∙ child_value depth key value children under k (sets.values (child shaped) k);
      shaped = λ shaped. (
        shaped.0,
        λ i within. elim (eqb_tells i (nibble depth key)) [
          | inl same ↦ rw (same.0, same.1) (rw (way_step depth key) at (sets.shaped (child shaped)))
          | inr differs ↦ rw differs.0 (shaped.1 i within)
        ],
      );
    }
