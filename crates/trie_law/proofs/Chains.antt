-- What keys a chain has where one of its leaves was written, or one came or went.
use Rattle.std.proofs.Common.{◌≡◌, ℕ, ◌<◌, ◌≤◌, cond, nat_eq, List, [], ◌∷◌, ◌++◌, length, Option, Some, None, refl, sym, ap, subst, ◌∙◌, inl, inr, arith, append_assoc, length-append}
use Rattle.std.specs.List.{AllByRecursion, IsDistinct}
use Rattle.std.specs.Map.{keys_of}
use Rattle.std.proofs.lemmas.List.{append-nil}
use Rattle.std.proofs.lemmas.Bool.Decides.{eqb_tells}
use Rattle.ledger_model.specs.Maps.{value_at}
use Rattle.trie_law.specs.LeafPairs.{SetsKey}
use Rattle.trie_law.specs.Nibbles.{way}
use Rattle.trie_law.specs.Setting.{SetsKeyIn}
use Rattle.trie_law.specs.Tries.{AreOnWay, IsChain, LaterHavePairs, Leaf, Leaves, pairs_of}
use Rattle.trie_law.proofs.LeafPairLemmas.{distinct_cons, distinct_first, distinct_none, distinct_second, middle_set}

pub pairs_of-append : (front behind : List Leaf) → pairs_of (front ++ behind) ≡ pairs_of front ++ pairs_of behind
pairs_of-append [] behind = refl
pairs_of-append (leaf ∷ front) behind = ap (λ (pairs : List (ℕ × ℕ)). leaf.pairs ++ pairs) (pairs_of-append front behind) ∙ sym (append_assoc leaf.pairs (pairs_of front) (pairs_of behind))

-- ---- which leaves have pairs

abbrev AllHavePairs : List Leaf → Type 0
AllHavePairs chain = AllByRecursion (λ leaf. 0 < length leaf.pairs) chain

end_exchanged : (front old new : List Leaf) → AllHavePairs (front ++ old) → AllHavePairs new → AllHavePairs (front ++ new)
end_exchanged [] old new all end = end
end_exchanged (leaf ∷ front) old new all end = (all.0, end_exchanged front old new all.1 end)

all_at_end : (front behind : List Leaf) → AllHavePairs (front ++ behind) → AllHavePairs behind
all_at_end [] behind all = all
all_at_end (leaf ∷ front) behind all = all_at_end front behind all.1

later_exchanged : (front old new : List Leaf) → LaterHavePairs (front ++ old) → LaterHavePairs new → (0 < length front → AllHavePairs new) → LaterHavePairs (front ++ new)
later_exchanged [] old new later end all = end
later_exchanged (leaf ∷ front) old new later end all = end_exchanged front old new later (all (omega arith))

later_of_all : (chain : List Leaf) → AllHavePairs chain → LaterHavePairs chain
later_of_all [] all = tt
later_of_all (leaf ∷ chain) all = all.1

later_at_end : (front behind : List Leaf) → LaterHavePairs (front ++ behind) → LaterHavePairs behind
later_at_end [] behind later = later
later_at_end (leaf ∷ front) behind later = later_of_all behind (all_at_end front behind later)

-- ---- keys on the way

key_on_way : (so_far depth key other found : ℕ) (value before : Option ℕ) → way depth key ≡ so_far → (before ≡ Some found → way depth other ≡ so_far)
    → cond (nat_eq other key) value before ≡ Some found → way depth other ≡ so_far
key_on_way so_far depth key other found value before here there is = elim (eqb_tells other key) [ inl same ↦ rw same.1 here | inr differs ↦ there (rw differs.0 at is) ]

pub set_on_way : (so_far depth key : ℕ) (value : Option ℕ) (before after : List (ℕ × ℕ)) → way depth key ≡ so_far → AreOnWay so_far depth before
    → SetsKey key value before after → AreOnWay so_far depth after
set_on_way so_far depth key value before after here on sets = record {
  distinct = sets.distinct;
  here = λ other found is. key_on_way so_far depth key other found value (value_at other before) here (on.here other found) (sym (sets.values other) ∙ is);
}

-- A chain gets the pairs of another with the key set.
chain_sets : (depth key : ℕ) (value : Option ℕ) (before after : List Leaf)
    → (IsChain (way depth key) depth before → SetsKey key value (pairs_of before) (pairs_of after))
    → (IsChain (way depth key) depth before → (depth < 8 → length after ≤ 1) × LaterHavePairs after) → SetsKeyIn depth key value (Leaves before) (Leaves after)
chain_sets depth key value before after sets rest = record {
  values = λ shaped other. (sets shaped).values other;
  shaped = λ shaped. record {
    deep = shaped.deep;
    single = (rest shaped).0;
    filled = (rest shaped).1;
    pairs = set_on_way (way depth key) depth key value (pairs_of before) (pairs_of after) refl shaped.pairs (sets shaped);
  };
}

-- ---- a leaf is written in which the key is set, and whose key stands in no other leaf

same_length : (front behind : List Leaf) (old new : Leaf) → length (front ++ new ∷ behind) ≡ length (front ++ old ∷ behind)
same_length front behind old new = omega (arith, length-append front (new ∷ behind), length-append front (old ∷ behind))

pub leaf_sets : (depth key : ℕ) (value : Option ℕ) (front behind : List Leaf) (old new : Leaf) → value_at key (pairs_of front) ≡ None → value_at key (pairs_of behind) ≡ None
    → (0 < length front → 0 < length new.pairs) → (IsDistinct nat_eq (keys_of old.pairs) → SetsKey key value old.pairs new.pairs)
    → SetsKeyIn depth key value (Leaves (front ++ old ∷ behind)) (Leaves (front ++ new ∷ behind))
leaf_sets depth key value front behind old new none_front none_behind some sets = chain_sets depth key value (front ++ old ∷ behind) (front ++ new ∷ behind)
    (λ shaped.
    let before = pairs_of-append front (old ∷ behind) in
    let after = pairs_of-append front (new ∷ behind) in
    let distinct : IsDistinct nat_eq (keys_of (pairs_of front ++ (old.pairs ++ pairs_of behind))) = rw before at shaped.pairs.distinct in
    let here : IsDistinct nat_eq (keys_of old.pairs) = distinct_first old.pairs (pairs_of behind) (distinct_second (pairs_of front) (old.pairs ++ pairs_of behind) distinct) in
    rw (before, after) (middle_set key value (pairs_of front) old.pairs new.pairs (pairs_of behind) none_front none_behind distinct (sets here)))
    (λ shaped. (
      λ shallow. omega (arith, shaped.single shallow, same_length front behind old new),
      later_exchanged front (old ∷ behind) (new ∷ behind) shaped.filled (later_at_end front (old ∷ behind) shaped.filled) (λ long. (some long, later_at_end front (old ∷ behind) shaped.filled)),
    ))

-- ---- a leaf is added at a chain's end

pub leaf_adds : (depth key value : ℕ) (front : List Leaf) (new : Leaf) → new.pairs ≡ (key, value) ∷ [] → value_at key (pairs_of front) ≡ None → (depth < 8 → length front ≡ 0)
    → SetsKeyIn depth key (Some value) (Leaves front) (Leaves (front ++ new ∷ []))
leaf_adds depth key value front new is none alone = chain_sets depth key (Some value) front (front ++ new ∷ [])
    (λ shaped.
    let before : pairs_of front ≡ pairs_of front ++ ([] ++ []) = sym (append-nil (pairs_of front)) in
    let after : pairs_of (front ++ new ∷ []) ≡ pairs_of front ++ ((key, value) ∷ [] ++ []) = pairs_of-append front (new ∷ []) ∙ ap (λ (pairs : List (ℕ × ℕ)). pairs_of front ++ (pairs ++ [])) is in
    let one : SetsKey key (Some value) [] ((key, value) ∷ []) = record { values = λ other. refl; distinct = distinct_cons (key, value) [] refl distinct_none } in
    let middle = middle_set key (Some value) (pairs_of front) [] ((key, value) ∷ []) [] none refl (subst (λ pairs. IsDistinct nat_eq (keys_of pairs)) before shaped.pairs.distinct) one in
    subst (λ pairs. SetsKey key (Some value) pairs (pairs_of (front ++ new ∷ []))) (sym before)
    (subst (λ pairs. SetsKey key (Some value) (pairs_of front ++ ([] ++ [])) pairs) (sym after) middle))
    (λ shaped. (
      λ shallow. omega (arith, alone shallow, length-append front (new ∷ [])),
      later_exchanged front [] (new ∷ []) (subst LaterHavePairs (sym (append-nil front)) shaped.filled) tt (λ long. (rw is (omega arith), tt)),
    ))

-- ---- a leaf is taken out with its only pair

pub leaf_goes : (depth key value : ℕ) (front behind : List Leaf) (old : Leaf) → old.pairs ≡ (key, value) ∷ [] → 0 < length front
    → value_at key (pairs_of front) ≡ None → value_at key (pairs_of behind) ≡ None → SetsKeyIn depth key None (Leaves (front ++ old ∷ behind)) (Leaves (front ++ behind))
leaf_goes depth key value front behind old is some none_front none_behind = chain_sets depth key None (front ++ old ∷ behind) (front ++ behind)
    (λ shaped.
    let before : pairs_of (front ++ old ∷ behind) ≡ pairs_of front ++ ((key, value) ∷ [] ++ pairs_of behind) =
    pairs_of-append front (old ∷ behind) ∙ ap (λ (pairs : List (ℕ × ℕ)). pairs_of front ++ (pairs ++ pairs_of behind)) is in
    let after = pairs_of-append front behind in
    let gone : SetsKey key None ((key, value) ∷ []) [] = record { values = λ other. elim (eqb_tells other key) [ inl same ↦ rw same.0 refl | inr differs ↦ rw differs.0 refl ]; distinct = distinct_none } in
    rw (before, after) (middle_set key None (pairs_of front) ((key, value) ∷ []) [] (pairs_of behind) none_front none_behind (rw before at shaped.pairs.distinct) gone))
    (λ shaped. (
      λ shallow. omega (arith, shaped.single shallow, length-append front (old ∷ behind), length-append front behind),
      later_exchanged front (old ∷ behind) behind shaped.filled (later_of_all behind (later_at_end front (old ∷ behind) shaped.filled)) (λ long. later_at_end front (old ∷ behind) shaped.filled),
    ))
