-- Lists of pairs in which no key comes twice; a key is set in such a list, or taken out.
use Rattle.std.proofs.Common.{◌≡◌, ℕ, ◌+◌, Bool, true, false, cond, nat_eq, List, [], ◌∷◌, ◌++◌, length, Option, Some, None, refl, sym, ap, ◌∙◌, inl, inr, arith}
use Rattle.std.specs.List.{AllByRecursion, IsDistinct}
use Rattle.std.specs.Map.{keys_of}
use Rattle.std.specs.Option.{option_or}
use Rattle.std.proofs.lemmas.Bool.Decides.{eqb_tells, nat_tests}
use Rattle.std.proofs.lemmas.Grind.{common_steps}
use Rattle.stm_model.specs.Heap.{put}
use Rattle.stm_model.proofs.HeapLemmas.{IsDistinct-put}
use Rattle.ledger_model.specs.Maps.{value_at}
use Rattle.ledger_model.proofs.Lists.{neither}
use Rattle.trie_law.specs.LeafPairs.{SetsKey, all_but_last, last_first, last_of, without}

-- ---- two lists in a row

pub option_or-none : (found : Option ℕ) → option_or found None ≡ found
option_or-none None = refl
option_or-none (Some value) = refl

or_step : (same : Bool) (value : ℕ) (first second : Option ℕ) → cond same (Some value) (option_or first second) ≡ option_or (cond same (Some value) first) second
or_step true value first second = refl
or_step false value first second = refl

pub value_at-append : (key : ℕ) (first second : List (ℕ × ℕ)) → value_at key (first ++ second) ≡ option_or (value_at key first) (value_at key second)
value_at-append key [] second = refl
value_at-append key (pair ∷ first) second =
    ap (λ rest. cond (nat_eq key pair.0) (Some pair.1) rest) (value_at-append key first second)
    ∙ or_step (nat_eq key pair.0) pair.1 (value_at key first) (value_at key second)

-- ---- keys that differ, by the values that they have

none_step : (same : Bool) (value : ℕ) (rest : Option ℕ) → cond same (Some value) rest ≡ None → (same ≡ false) × (rest ≡ None)
none_step true value rest none = cc
none_step false value rest none = (refl, none)

all_apart : (key : ℕ) (pairs : List (ℕ × ℕ)) → value_at key pairs ≡ None → AllByRecursion (λ other. nat_eq key other ≡ false) (keys_of pairs)
all_apart key [] none = tt
all_apart key (pair ∷ pairs) none =
    let parts = none_step (nat_eq key pair.0) pair.1 (value_at key pairs) none in
    (parts.0, all_apart key pairs parts.1)

none_there : (key : ℕ) (pairs : List (ℕ × ℕ)) → AllByRecursion (λ other. nat_eq key other ≡ false) (keys_of pairs) → value_at key pairs ≡ None
none_there key [] apart = refl
none_there key (pair ∷ pairs) apart = rw apart.0 (none_there key pairs apart.1)

pub distinct_none : IsDistinct nat_eq (keys_of {K = ℕ} {X = ℕ} [])
unfolding IsDistinct
distinct_none = tt

pub distinct_cons : (pair : ℕ × ℕ) (pairs : List (ℕ × ℕ)) → value_at pair.0 pairs ≡ None → IsDistinct nat_eq (keys_of pairs) → IsDistinct nat_eq (keys_of (pair ∷ pairs))
unfolding IsDistinct
distinct_cons pair pairs none distinct = (all_apart pair.0 pairs none, distinct)

pub distinct_head : (pair : ℕ × ℕ) (pairs : List (ℕ × ℕ)) → IsDistinct nat_eq (keys_of (pair ∷ pairs)) → value_at pair.0 pairs ≡ None
unfolding IsDistinct
distinct_head pair pairs distinct = none_there pair.0 pairs distinct.0

pub distinct_tail : (pair : ℕ × ℕ) (pairs : List (ℕ × ℕ)) → IsDistinct nat_eq (keys_of (pair ∷ pairs)) → IsDistinct nat_eq (keys_of pairs)
unfolding IsDistinct
distinct_tail pair pairs distinct = distinct.1

none_in_both : (key : ℕ) (first second : List (ℕ × ℕ)) → value_at key (first ++ second) ≡ None → (value_at key first ≡ None) × (value_at key second ≡ None)
none_in_both key first second none = neither (value_at key first) (value_at key second) (sym (value_at-append key first second) ∙ none)

-- of two such lists in a row, no key is in both
pub distinct_apart : (first second : List (ℕ × ℕ)) (key value : ℕ) → IsDistinct nat_eq (keys_of (first ++ second))
    → value_at key first ≡ Some value → value_at key second ≡ None
distinct_apart [] second key value distinct found = cc
distinct_apart (pair ∷ first) second key value distinct found = elim (eqb_tells key pair.0) [
  | inl same ↦ rw same.1 (none_in_both pair.0 first second (distinct_head pair (first ++ second) distinct)).1
  | inr other ↦ distinct_apart first second key value (distinct_tail pair (first ++ second) distinct) (rw other.0 at found)
]

pub distinct_first : (first second : List (ℕ × ℕ)) → IsDistinct nat_eq (keys_of (first ++ second)) → IsDistinct nat_eq (keys_of first)
distinct_first [] second distinct = distinct_none
distinct_first (pair ∷ first) second distinct =
    distinct_cons pair first (none_in_both pair.0 first second (distinct_head pair (first ++ second) distinct)).0
    (distinct_first first second (distinct_tail pair (first ++ second) distinct))

pub distinct_second : (first second : List (ℕ × ℕ)) → IsDistinct nat_eq (keys_of (first ++ second)) → IsDistinct nat_eq (keys_of second)
distinct_second [] second distinct = distinct
distinct_second (pair ∷ first) second distinct = distinct_second first second (distinct_tail pair (first ++ second) distinct)

value_here : (pair : ℕ × ℕ) (pairs : List (ℕ × ℕ)) → value_at pair.0 (pair ∷ pairs) ≡ Some pair.1
value_here pair pairs = elim (eqb_tells pair.0 pair.0) [ inl same ↦ rw same.0 refl | inr other ↦ absurd (other.1 refl) ]

pub distinct_append : (first second : List (ℕ × ℕ)) → IsDistinct nat_eq (keys_of first) → IsDistinct nat_eq (keys_of second)
    → ((key value : ℕ) → value_at key first ≡ Some value → value_at key second ≡ None) → IsDistinct nat_eq (keys_of (first ++ second))
distinct_append [] second one two apart = two
distinct_append (pair ∷ first) second one two apart = distinct_cons pair (first ++ second)
    (value_at-append pair.0 first second ∙ rw (distinct_head pair first one) (apart pair.0 pair.1 (value_here pair first)))
    (distinct_append first second (distinct_tail pair first one) two (λ key value found. elim (eqb_tells key pair.0) [
      | inl same ↦ absurd (let none = distinct_head pair first one in let some : value_at pair.0 first ≡ Some value = rw same.1 at found in cc)
      | inr other ↦ apart key value (rw other.0 found)
    ]))

-- ---- a key is set within a list

apart_back : (key other : ℕ) → nat_eq key other ≡ false → nat_eq other key ≡ false
apart_back key other apart = grind (arith, nat_tests)

set_first : (same : Bool) (value first second : Option ℕ) → (same ≡ true → second ≡ None)
    → option_or (cond same value first) second ≡ cond same value (option_or first second)
set_first true value first second none = rw (none refl) (option_or-none value)
set_first false value first second none = refl

set_later : (here : Bool) (own : ℕ) (same : Bool) (value before after : Option ℕ) → (here ≡ true → same ≡ false) → after ≡ cond same value before
    → cond here (Some own) after ≡ cond same value (cond here (Some own) before)
set_later true own same value before after apart is = rw (apart refl) refl
set_later false own same value before after apart is = is

was_there : (same : Bool) (value before : Option ℕ) (found : ℕ) → same ≡ false → cond same value before ≡ Some found → before ≡ Some found
was_there same value before found apart is = rw apart at is

none_as_before : (same : Bool) (value before : Option ℕ) → same ≡ false → before ≡ None → cond same value before ≡ None
none_as_before same value before apart none = rw apart none

front_set : (key : ℕ) (value : Option ℕ) (before after behind : List (ℕ × ℕ)) → value_at key behind ≡ None
    → IsDistinct nat_eq (keys_of (before ++ behind)) → SetsKey key value before after → SetsKey key value (before ++ behind) (after ++ behind)
front_set key value before after behind none distinct sets = record {
  values = λ other.
      value_at-append other after behind ∙ (ap (λ found. option_or found (value_at other behind)) (sets.values other)
      ∙ (set_first (nat_eq other key) value (value_at other before) (value_at other behind) (λ is. elim (eqb_tells other key) [ inl same ↦ rw same.1 none | inr apart ↦ cc ])
      ∙ ap (λ found. cond (nat_eq other key) value found) (sym (value_at-append other before behind))));
  distinct = distinct_append after behind sets.distinct (distinct_second before behind distinct) (λ other found is. elim (eqb_tells other key) [
    | inl same ↦ rw same.1 none
    | inr apart ↦ distinct_apart before behind other found distinct (was_there (nat_eq other key) value (value_at other before) found apart.0 (sym (sets.values other) ∙ is))
  ]);
}

-- pairs in front and behind haven't the key, so it is enough to set it between them
pub middle_set : (key : ℕ) (value : Option ℕ) (front before after behind : List (ℕ × ℕ)) → value_at key front ≡ None → value_at key behind ≡ None
    → IsDistinct nat_eq (keys_of (front ++ (before ++ behind))) → SetsKey key value before after
    → SetsKey key value (front ++ (before ++ behind)) (front ++ (after ++ behind))
middle_set key value [] before after behind none_front none_behind distinct sets = front_set key value before after behind none_behind distinct sets
middle_set key value (pair ∷ front) before after behind none_front none_behind distinct sets =
    let parts = none_step (nat_eq key pair.0) pair.1 (value_at key front) none_front in
    let rest = middle_set key value front before after behind parts.1 none_behind (distinct_tail pair (front ++ (before ++ behind)) distinct) sets in
    let other = apart_back key pair.0 parts.0 in
    record {
      values = λ k. set_later (nat_eq k pair.0) pair.1 (nat_eq k key) value (value_at k (front ++ (before ++ behind))) (value_at k (front ++ (after ++ behind)))
          (λ here. elim (eqb_tells k pair.0) [ inl same ↦ rw same.1 other | inr apart ↦ cc ]) (rest.values k);
      distinct = distinct_cons pair (front ++ (after ++ behind))
          (rest.values pair.0 ∙ none_as_before (nat_eq pair.0 key) value (value_at pair.0 (front ++ (before ++ behind))) other (distinct_head pair (front ++ (before ++ behind)) distinct)) rest.distinct;
    }

-- ---- a pair is put

put_here : (same : Bool) (own value : ℕ) (rest : Option ℕ) → cond same (Some value) rest ≡ cond same (Some value) (cond same (Some own) rest)
put_here true own value rest = refl
put_here false own value rest = refl

put_values : (key value other : ℕ) (pairs : List (ℕ × ℕ)) → value_at other (put pairs key value) ≡ cond (nat_eq other key) (Some value) (value_at other pairs)
put_values key value other [] = refl
put_values key value other (pair ∷ pairs) = elim (eqb_tells key pair.0) [
  | inl same ↦ rw same.0 (rw same.1 (put_here (nat_eq other pair.0) pair.1 value (value_at other pairs)))
  | inr apart ↦ rw apart.0 (set_later (nat_eq other pair.0) pair.1 (nat_eq other key) (Some value) (value_at other pairs) (value_at other (put pairs key value))
      (λ here. elim (eqb_tells other pair.0) [ inl is ↦ rw is.1 (apart_back key pair.0 apart.0) | inr differs ↦ cc ]) (put_values key value other pairs))
]

pub put_sets : (key value : ℕ) (pairs : List (ℕ × ℕ)) → IsDistinct nat_eq (keys_of pairs) → SetsKey key (Some value) pairs (put pairs key value)
put_sets key value pairs distinct = record { values = λ other. put_values key value other pairs; distinct = IsDistinct-put pairs key value distinct }

-- ---- a pair is taken out

swap_step : (key one other : ℕ) (first second : ℕ) (rest : Option ℕ) → nat_eq one other ≡ false
    → cond (nat_eq key one) (Some first) (cond (nat_eq key other) (Some second) rest)
    ≡ cond (nat_eq key other) (Some second) (cond (nat_eq key one) (Some first) rest)
swap_step key one other first second rest apart = grind (arith, common_steps, nat_tests)

last_values : (pair : ℕ × ℕ) (pairs : List (ℕ × ℕ)) → IsDistinct nat_eq (keys_of (pair ∷ pairs))
    → ((key : ℕ) → value_at key (last_of pair pairs ∷ all_but_last pair pairs) ≡ value_at key (pair ∷ pairs))
last_values pair [] distinct key = refl
last_values pair (next ∷ pairs) distinct key =
    let last = last_of next pairs in
    let others = all_but_last next pairs in
    let rest = last_values next pairs (distinct_tail pair (next ∷ pairs) distinct) in
    let none : value_at pair.0 (last ∷ others) ≡ None = rest pair.0 ∙ distinct_head pair (next ∷ pairs) distinct in
    let apart = none_step (nat_eq pair.0 last.0) last.1 (value_at pair.0 others) none in
    sym (swap_step key pair.0 last.0 pair.1 last.1 (value_at key others) apart.0)
    ∙ ap (λ found. cond (nat_eq key pair.0) (Some pair.1) found) (rest key)

last_distinct : (pair : ℕ × ℕ) (pairs : List (ℕ × ℕ)) → IsDistinct nat_eq (keys_of (pair ∷ pairs)) → IsDistinct nat_eq (keys_of (last_of pair pairs ∷ all_but_last pair pairs))
last_distinct pair [] distinct = distinct
last_distinct pair (next ∷ pairs) distinct =
    let last = last_of next pairs in
    let others = all_but_last next pairs in
    let behind = distinct_tail pair (next ∷ pairs) distinct in
    let rest = last_distinct next pairs behind in
    let none : value_at pair.0 (last ∷ others) ≡ None = last_values next pairs behind pair.0 ∙ distinct_head pair (next ∷ pairs) distinct in
    let apart = none_step (nat_eq pair.0 last.0) last.1 (value_at pair.0 others) none in
    distinct_cons last (pair ∷ others) (rw (apart_back pair.0 last.0 apart.0) (distinct_head last others rest))
    (distinct_cons pair others apart.1 (distinct_tail last others rest))

last_first_values : (pairs : List (ℕ × ℕ)) → IsDistinct nat_eq (keys_of pairs) → (key : ℕ) → value_at key (last_first pairs) ≡ value_at key pairs
last_first_values [] distinct key = refl
last_first_values (pair ∷ pairs) distinct key = last_values pair pairs distinct key

last_first_distinct : (pairs : List (ℕ × ℕ)) → IsDistinct nat_eq (keys_of pairs) → IsDistinct nat_eq (keys_of (last_first pairs))
last_first_distinct [] distinct = distinct
last_first_distinct (pair ∷ pairs) distinct = last_distinct pair pairs distinct

taken_here : (same : Bool) (own : ℕ) (rest : Option ℕ) → (same ≡ true → rest ≡ None) → rest ≡ cond same None (cond same (Some own) rest)
taken_here true own rest none = none refl
taken_here false own rest none = refl

pub without_sets : (key : ℕ) (pairs : List (ℕ × ℕ)) → IsDistinct nat_eq (keys_of pairs) → SetsKey key None pairs (without key pairs)
without_sets key [] distinct = record { values = λ other. elim (eqb_tells other key) [ inl same ↦ rw same.0 refl | inr apart ↦ rw apart.0 refl ]; distinct = distinct }
without_sets key (pair ∷ pairs) distinct = elim (eqb_tells key pair.0) [
  | inl same ↦ rw same.0 record {
    values = λ other. last_first_values pairs (distinct_tail pair pairs distinct) other ∙ rw same.1 (taken_here (nat_eq other pair.0) pair.1 (value_at other pairs)
        (λ here. elim (eqb_tells other pair.0) [ inl is ↦ rw is.1 (distinct_head pair pairs distinct) | inr differs ↦ cc ]));
    distinct = last_first_distinct pairs (distinct_tail pair pairs distinct);
  }
  | inr apart ↦ rw apart.0 (
      let rest = without_sets key pairs (distinct_tail pair pairs distinct) in
      let other = apart_back key pair.0 apart.0 in
      record {
        values = λ k. set_later (nat_eq k pair.0) pair.1 (nat_eq k key) None (value_at k pairs) (value_at k (without key pairs))
            (λ here. elim (eqb_tells k pair.0) [ inl is ↦ rw is.1 other | inr differs ↦ cc ]) (rest.values k);
        distinct = distinct_cons pair (without key pairs) (rest.values pair.0 ∙ none_as_before (nat_eq pair.0 key) None (value_at pair.0 pairs) other (distinct_head pair pairs distinct)) rest.distinct;
      })
]

length-all_but_last : (pair : ℕ × ℕ) (pairs : List (ℕ × ℕ)) → length (all_but_last pair pairs) ≡ length pairs
length-all_but_last pair [] = refl
length-all_but_last pair (next ∷ pairs) = omega (arith, length-all_but_last next pairs)

length-last_first : (pairs : List (ℕ × ℕ)) → length (last_first pairs) ≡ length pairs
length-last_first [] = refl
length-last_first (pair ∷ pairs) = omega (arith, length-all_but_last pair pairs)

-- a key that is there takes one pair with it
pub length-without : (key value : ℕ) (pairs : List (ℕ × ℕ)) → value_at key pairs ≡ Some value → length (without key pairs) + 1 ≡ length pairs
length-without key value [] found = cc
length-without key value (pair ∷ pairs) found = elim (eqb_tells key pair.0) [
  | inl same ↦ rw same.0 (omega (arith, length-last_first pairs))
  | inr apart ↦ rw apart.0 (omega (arith, length-without key value pairs (rw apart.0 at found)))
]
