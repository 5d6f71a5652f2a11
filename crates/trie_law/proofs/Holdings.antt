-- A root has one list of pairs, and what a heap holds goes along with its changes.
use Rattle.std.proofs.Common.{◌≡◌, ℕ, ◌<◌, zero, suc, Bool, false, cond, nat_eq, List, [], ◌∷◌, length, take, get_or, Option, Some, None, refl, sym, ◌∙◌, ap, arith, inl, inr}
use Rattle.std.proofs.lemmas.Bool.{cases_lt}
use Rattle.std.proofs.lemmas.Bool.Decides.{eqb_tells, nat_tests}
use Rattle.stm_model.specs.declared.sizes.Layout.{Layout}
use Rattle.stm_model.specs.Pairs.{KeysAscend}
use Rattle.ledger_model.specs.Maps.{delete_pair, put_pair, value_at}
use Rattle.ledger_model.proofs.MapLemmas.{KeysAscend-delete, KeysAscend-put, value_at-delete, value_at-delete_other, value_at-put, value_at-put_other}
use Rattle.trie_law.specs.Holding.{HasPairs}
use Rattle.trie_law.specs.Law.{IsLawful, MayBecome, slot_root}
use Rattle.trie_law.specs.Tries.{IsTrie, Tree, value_in}
use Rattle.trie_law.proofs.OneMap.{one_map, pair_same, slot_stands}

-- ---- one list of pairs

none_less : (key : ℕ) (pair : ℕ × ℕ) (pairs : List (ℕ × ℕ)) → KeysAscend (pair ∷ pairs) → key < pair.0 → value_at key (pair ∷ pairs) ≡ None
none_less key pair [] ascend less = let differs : nat_eq key pair.0 ≡ false = grind (arith, nat_tests) in rw differs refl
none_less key pair (next ∷ pairs) ascend less =
    let differs : nat_eq key pair.0 ≡ false = grind (arith, nat_tests) in
    let first = ascend.0 in
    rw differs (none_less key next pairs ascend.1 (omega (arith, first, less)))

none_again : (pair : ℕ × ℕ) (pairs : List (ℕ × ℕ)) → KeysAscend (pair ∷ pairs) → value_at pair.0 pairs ≡ None
none_again pair [] ascend = refl
none_again pair (next ∷ pairs) ascend = none_less pair.0 next pairs ascend.1 ascend.0

ascend_rest : (pair : ℕ × ℕ) (pairs : List (ℕ × ℕ)) → KeysAscend (pair ∷ pairs) → KeysAscend pairs
ascend_rest pair [] ascend = tt
ascend_rest pair (next ∷ pairs) ascend = ascend.1

value_first : (pair : ℕ × ℕ) (pairs : List (ℕ × ℕ)) → value_at pair.0 (pair ∷ pairs) ≡ Some pair.1
value_first pair pairs = elim (eqb_tells pair.0 pair.0) [ inl same ↦ rw same.0 refl | inr differs ↦ absurd (differs.1 refl) ]

no_value : (value : ℕ) (found : Option ℕ) → found ≡ Some value → found ≡ None → ⊥
no_value value found some none = cc

same_value : (one other : ℕ) (found : Option ℕ) → found ≡ Some one → found ≡ Some other → one ≡ other
same_value one other found first second = cc

rest_value : (test : Bool) (value : ℕ) (one other : Option ℕ) → test ≡ false → cond test (Some value) one ≡ cond test (Some value) other → one ≡ other
rest_value test value one other differs same = rw differs at same

pub one_list : (one other : List (ℕ × ℕ)) → KeysAscend one → KeysAscend other → ((key : ℕ) → value_at key one ≡ value_at key other) → one ≡ other
one_list [] [] first second same = refl
one_list [] (q ∷ other) first second same = absurd (no_value q.1 (value_at q.0 (q ∷ other)) (value_first q other) (sym (same q.0)))
one_list (p ∷ one) [] first second same = absurd (no_value p.1 (value_at p.0 (p ∷ one)) (value_first p one) (same p.0))
one_list (p ∷ one) (q ∷ other) first second same = elim (cases_lt p.0 q.0) [
  | inl less ↦ absurd (no_value p.1 (value_at p.0 (p ∷ one)) (value_first p one) (same p.0 ∙ none_less p.0 q other second less))
  | inr more ↦ elim (cases_lt q.0 p.0) [
    | inl less ↦ absurd (no_value q.1 (value_at q.0 (q ∷ other)) (value_first q other) (sym (same q.0) ∙ none_less q.0 p one first less))
    | inr least ↦
        let keys : p.0 ≡ q.0 = omega (arith, more, least) in
        let values : p.1 ≡ q.1 = same_value p.1 q.1 (value_at p.0 (p ∷ one)) (value_first p one) (same p.0 ∙ (ap (λ (key : ℕ). value_at key (q ∷ other)) keys ∙ value_first q other)) in
        let heads : p ≡ q = pair_same p q keys values in
        let rest : one ≡ other = one_list one other (ascend_rest p one first) (ascend_rest q other second) (λ key. elim (eqb_tells key p.0) [
          | inl here ↦ rw here.1 (none_again p one first ∙ sym (ap (λ (k : ℕ). value_at k other) keys ∙ none_again q other second))
          | inr differs ↦ rest_value (nat_eq key p.0) p.1 (value_at key one) (value_at key other) differs.0
              (same key ∙ sym (ap (λ (pair : ℕ × ℕ). value_at key (pair ∷ other)) heads))
        ]) in
        ap (λ (pair : ℕ × ℕ). pair ∷ one) heads ∙ ap (λ (pairs : List (ℕ × ℕ)). q ∷ pairs) rest
  ]
]

pub one_pairs : (layout : Layout) (heap : List ℕ) (root : ℕ) (one other : List (ℕ × ℕ)) → HasPairs layout heap root one → HasPairs layout heap root other → one ≡ other
one_pairs layout heap root one other first second = one_list one other first.ascend second.ascend
    (λ key. first.values key ∙ (one_map layout heap root 0 key first.tree second.tree first.trie.stands second.trie.stands ∙ sym (second.values key)))

-- ---- pairs go along with their trie

pub pairs_stay : (layout : Layout) (before after : List ℕ) (root : ℕ) (pairs : List (ℕ × ℕ)) → ((tree : Tree) → IsTrie layout before root tree → IsTrie layout after root tree)
    → HasPairs layout before root pairs → HasPairs layout after root pairs
pairs_stay layout before after root pairs stands has = record { tree = has.tree; trie = stands has.tree has.trie; ascend = has.ascend; values = has.values }

pub put_values : (key value other : ℕ) (pairs : List (ℕ × ℕ)) → value_at other (put_pair key value pairs) ≡ cond (nat_eq other key) (Some value) (value_at other pairs)
put_values key value other pairs = elim (eqb_tells other key) [
  | inl same ↦ rw (same.0, same.1) (value_at-put key value pairs)
  | inr differs ↦ rw differs.0 (value_at-put_other key value other pairs differs.1)
]

delete_values : (key other : ℕ) (pairs : List (ℕ × ℕ)) → KeysAscend pairs → value_at other (delete_pair key pairs) ≡ cond (nat_eq other key) None (value_at other pairs)
delete_values key other pairs ascend = elim (eqb_tells other key) [
  | inl same ↦ rw (same.0, same.1) (value_at-delete key pairs ascend)
  | inr differs ↦ rw differs.0 (value_at-delete_other key other pairs differs.1)
]

-- a tree in which the key is set has the pairs with the key set
pub pairs_put : (layout : Layout) (before after : List ℕ) (root block key value : ℕ) (pairs : List (ℕ × ℕ)) (tree : Tree) → HasPairs layout before root pairs
    → IsTrie layout after block tree → ((old : Tree) → IsTrie layout before root old → (other : ℕ) → value_in 0 tree other ≡ cond (nat_eq other key) (Some value) (value_in 0 old other))
    → HasPairs layout after block (put_pair key value pairs)
pairs_put layout before after root block key value pairs tree has trie sets = record {
  tree = tree;
  trie = trie;
  ascend = KeysAscend-put key value pairs has.ascend;
  values = λ other. put_values key value other pairs ∙ (ap (λ (found : Option ℕ). cond (nat_eq other key) (Some value) found) (has.values other) ∙ sym (sets has.tree has.trie other));
}

pub pairs_delete : (layout : Layout) (before after : List ℕ) (root block key : ℕ) (pairs : List (ℕ × ℕ)) (tree : Tree) → HasPairs layout before root pairs
    → IsTrie layout after block tree → ((old : Tree) → IsTrie layout before root old → (other : ℕ) → value_in 0 tree other ≡ cond (nat_eq other key) None (value_in 0 old other))
    → HasPairs layout after block (delete_pair key pairs)
pairs_delete layout before after root block key pairs tree has trie sets = record {
  tree = tree;
  trie = trie;
  ascend = KeysAscend-delete key pairs has.ascend;
  values = λ other. delete_values key other pairs has.ascend ∙ (ap (λ (found : Option ℕ). cond (nat_eq other key) None found) (has.values other) ∙ sym (sets has.tree has.trie other));
}

-- a slot's pairs stay while its root does, whatever the heap becomes
pub slot_pairs : (layout : Layout) (before after : List ℕ) (snap : ℕ) (pairs : List (ℕ × ℕ)) → IsLawful layout before → MayBecome layout before after
    → snap < layout.snaps → slot_root layout after snap ≡ slot_root layout before snap
    → HasPairs layout before (slot_root layout before snap) pairs → HasPairs layout after (slot_root layout after snap) pairs
slot_pairs layout before after snap pairs lawful may within same has =
    let root = slot_root layout before snap in
    let own = lawful.slots snap within in
    rw same (record {
      tree = own.tree;
      trie = slot_stands layout before after root may own;
      ascend = has.ascend;
      values = λ key. has.values key ∙ one_map layout before root 0 key has.tree own.tree has.trie.stands own.trie.stands;
    })

-- ---- refs and counts

pub take_same : (n : ℕ) (one other : List ℕ) → length one ≡ length other → ((i : ℕ) → i < n → get_or one i 0 ≡ get_or other i 0) → take n one ≡ take n other
take_same zero one other size same = refl
take_same (suc n) [] [] size same = refl
take_same (suc n) [] (y ∷ other) size same = absurd (omega (arith, size))
take_same (suc n) (x ∷ one) [] size same = absurd (omega (arith, size))
take_same (suc n) (x ∷ one) (y ∷ other) size same =
    let first : x ≡ y = same 0 (omega arith) in
    ap (λ (z : ℕ). z ∷ take n one) first ∙ ap (λ (rest : List ℕ). y ∷ rest) (take_same n one other (omega (arith, size)) (λ i within. same (suc i) (omega (arith, within))))
