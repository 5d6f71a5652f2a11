-- Finite maps as their pairs by ascending key.
use Rattle.std.proofs.Common.{◌≡◌, ◌≢◌, ◌<◌, ◌≤◌, ℕ, zero, suc, Bool, true, false, cond, List, [], ◌∷◌, Option, Some, None, nat_eq, nat_lt, replicate, slice_index_or, slice_set, refl, ap, sym, ◌∙◌, arith}
use Rattle.std.specs.List.{AllByRecursion}
use Rattle.std.specs.declared.cmp.Ordering.TheVariants.{Less, Equal, Greater}
use Rattle.std.specs.Ordering.{match_ordering}
use Rattle.std.proofs.lemmas.Bool.{eqb-true, ne_eqb}
use Rattle.std.proofs.lemmas.Bool.Decides.{nat_tests}
use Rattle.stm_model.specs.Pairs.{KeysAscend}
use Rattle.ledger_model.specs.Maps.{delete_pair, put_pair, value_at}

-- ---- ascending keys

-- the keys ascend from past `low` on
Above : ℕ → List (ℕ × ℕ) → Type 0
Above low [] = Unit {0}
Above low (p ∷ pairs) = (low < p.0) × Above p.0 pairs

above : (p : ℕ × ℕ) (pairs : List (ℕ × ℕ)) → KeysAscend (p ∷ pairs) → Above p.0 pairs
unfolding Above
above p [] h = tt
above p (q ∷ pairs) h = (h.0, above q pairs h.1)

ascends : (p : ℕ × ℕ) (pairs : List (ℕ × ℕ)) → Above p.0 pairs → KeysAscend (p ∷ pairs)
unfolding Above
ascends p [] h = tt
ascends p (q ∷ pairs) h = (h.0, ascends q pairs h.1)

Above-less : (low key : ℕ) (pairs : List (ℕ × ℕ)) → low < key → Above key pairs → Above low pairs
unfolding Above
Above-less low key [] less h = tt
Above-less low key (p ∷ pairs) less h = (let first = h.0 in omega (arith, less, first), h.1)

Above-put : (low key value : ℕ) (pairs : List (ℕ × ℕ)) → low < key → Above low pairs → Above low (put_pair key value pairs)
unfolding Above
Above-put low key value [] less h = (less, tt)
Above-put low key value (p ∷ pairs) less h = by (nat_lt key p.0) (nat_eq key p.0) refl refl (Above-put p.0 key value pairs) where
  by : (first same : Bool) → nat_lt key p.0 ≡ first → nat_eq key p.0 ≡ same → (p.0 < key → Above p.0 pairs → Above p.0 (put_pair key value pairs))
      → Above low (match_ordering (cond first Less (cond same Equal Greater)) ((key, value) ∷ p ∷ pairs) ((p.0, value) ∷ pairs) (p ∷ put_pair key value pairs))
  by true same is e more = (less, (grind (arith, nat_tests), h.1))
  by false true is e more = (h.0, h.1)
  by false false is e more = (h.0, more (grind (arith, nat_tests)) h.1)

Above-delete : (low key : ℕ) (pairs : List (ℕ × ℕ)) → Above low pairs → Above low (delete_pair key pairs)
unfolding Above
Above-delete low key [] h = tt
Above-delete low key (p ∷ pairs) h = by (nat_eq key p.0) (Above-delete p.0 key pairs h.1) where
  by : (same : Bool) → Above p.0 (delete_pair key pairs) → Above low (cond same pairs (p ∷ delete_pair key pairs))
  by true more = Above-less low p.0 pairs h.0 h.1
  by false more = (h.0, more)

-- what ascends from past some number ascends
from_above : (low : ℕ) (pairs : List (ℕ × ℕ)) → Above low pairs → KeysAscend pairs
unfolding Above
from_above low [] h = tt
from_above low (p ∷ pairs) h = ascends p pairs h.1

pub KeysAscend-put : (key value : ℕ) (pairs : List (ℕ × ℕ)) → KeysAscend pairs → KeysAscend (put_pair key value pairs)
unfolding Above
KeysAscend-put key value [] h = tt
KeysAscend-put key value (p ∷ pairs) h = by (nat_lt key p.0) (nat_eq key p.0) refl refl where
  by : (first same : Bool) → nat_lt key p.0 ≡ first → nat_eq key p.0 ≡ same
      → KeysAscend (match_ordering (cond first Less (cond same Equal Greater)) ((key, value) ∷ p ∷ pairs) ((p.0, value) ∷ pairs) (p ∷ put_pair key value pairs))
  by true same is e = (grind (arith, nat_tests), h)
  by false true is e = ascends (p.0, value) pairs (above p pairs h)
  by false false is e = ascends p (put_pair key value pairs) (Above-put p.0 key value pairs (grind (arith, nat_tests)) (above p pairs h))

pub KeysAscend-delete : (key : ℕ) (pairs : List (ℕ × ℕ)) → KeysAscend pairs → KeysAscend (delete_pair key pairs)
KeysAscend-delete key [] h = tt
KeysAscend-delete key (p ∷ pairs) h = by (nat_eq key p.0) where
  by : (same : Bool) → KeysAscend (cond same pairs (p ∷ delete_pair key pairs))
  by true = from_above p.0 pairs (above p pairs h)
  by false = ascends p (delete_pair key pairs) (Above-delete p.0 key pairs (above p pairs h))

-- ---- what a key has

-- none where all keys are greater
none_above : (key low : ℕ) (pairs : List (ℕ × ℕ)) → key ≤ low → Above low pairs → value_at key pairs ≡ None
unfolding Above
none_above key low [] le h = refl
none_above key low (p ∷ pairs) le h =
    let less = h.0 in
    let differs : nat_eq key p.0 ≡ false = grind (arith, nat_tests) in
    let key_less : key ≤ p.0 = omega (arith, less, le) in
    ap (λ (b : Bool). cond b (Some p.1) (value_at key pairs)) differs ∙ none_above key p.0 pairs key_less h.1

pub value_at-put : (key value : ℕ) (pairs : List (ℕ × ℕ)) → value_at key (put_pair key value pairs) ≡ Some value
value_at-put key value [] = same key where
  same : (k : ℕ) → cond (nat_eq k k) (Some value) None ≡ Some value
  same k = let e : nat_eq k k ≡ true = grind (arith, nat_tests) in ap (λ (b : Bool). cond b (Some value) None) e
value_at-put key value (p ∷ pairs) = by (nat_lt key p.0) (nat_eq key p.0) refl refl (value_at-put key value pairs) where
  by : (first same : Bool) → nat_lt key p.0 ≡ first → nat_eq key p.0 ≡ same → value_at key (put_pair key value pairs) ≡ Some value
      → value_at key (match_ordering (cond first Less (cond same Equal Greater)) ((key, value) ∷ p ∷ pairs) ((p.0, value) ∷ pairs) (p ∷ put_pair key value pairs)) ≡ Some value
  by true same is e more = let own : nat_eq key key ≡ true = grind (arith, nat_tests) in ap (λ (b : Bool). cond b (Some value) (value_at key (p ∷ pairs))) own
  by false true is e more = ap (λ (b : Bool). cond b (Some value) (value_at key pairs)) e
  by false false is e more = ap (λ (b : Bool). cond b (Some p.1) (value_at key (put_pair key value pairs))) e ∙ more

pub value_at-put_other : (key value other : ℕ) (pairs : List (ℕ × ℕ)) → other ≢ key → value_at other (put_pair key value pairs) ≡ value_at other pairs
value_at-put_other key value other [] differs = ap (λ (b : Bool). cond b (Some value) None) (ne_eqb other key differs)
value_at-put_other key value other (p ∷ pairs) differs = by (nat_lt key p.0) (nat_eq key p.0) refl (value_at-put_other key value other pairs differs) where
  by : (first same : Bool) → nat_eq key p.0 ≡ same → value_at other (put_pair key value pairs) ≡ value_at other pairs
      → value_at other (match_ordering (cond first Less (cond same Equal Greater)) ((key, value) ∷ p ∷ pairs) ((p.0, value) ∷ pairs) (p ∷ put_pair key value pairs))
      ≡ value_at other (p ∷ pairs)
  by true same e more = ap (λ (b : Bool). cond b (Some value) (value_at other (p ∷ pairs))) (ne_eqb other key differs)
  by false true e more =
      let is : key ≡ p.0 = eqb-true key p.0 e in
      let no : nat_eq other p.0 ≡ false = ap (nat_eq other) (sym is) ∙ ne_eqb other key differs in
      ap (λ (b : Bool). cond b (Some value) (value_at other pairs)) no ∙ sym (ap (λ (b : Bool). cond b (Some p.1) (value_at other pairs)) no)
  by false false e more = ap (λ (found : Option ℕ). cond (nat_eq other p.0) (Some p.1) found) more

pub value_at-delete : (key : ℕ) (pairs : List (ℕ × ℕ)) → KeysAscend pairs → value_at key (delete_pair key pairs) ≡ None
value_at-delete key [] h = refl
value_at-delete key (p ∷ pairs) h = by (nat_eq key p.0) refl (value_at-delete key pairs (from_above p.0 pairs (above p pairs h))) where
  by : (same : Bool) → nat_eq key p.0 ≡ same → value_at key (delete_pair key pairs) ≡ None → value_at key (cond same pairs (p ∷ delete_pair key pairs)) ≡ None
  by true e more = let is = eqb-true key p.0 e in none_above key p.0 pairs (omega (arith, is)) (above p pairs h)
  by false e more = ap (λ (b : Bool). cond b (Some p.1) (value_at key (delete_pair key pairs))) e ∙ more

pub value_at-delete_other : (key other : ℕ) (pairs : List (ℕ × ℕ)) → other ≢ key → value_at other (delete_pair key pairs) ≡ value_at other pairs
value_at-delete_other key other [] differs = refl
value_at-delete_other key other (p ∷ pairs) differs = by (nat_eq key p.0) refl (value_at-delete_other key other pairs differs) where
  by : (same : Bool) → nat_eq key p.0 ≡ same → value_at other (delete_pair key pairs) ≡ value_at other pairs
      → value_at other (cond same pairs (p ∷ delete_pair key pairs)) ≡ value_at other (p ∷ pairs)
  by true e more =
      let is : key ≡ p.0 = eqb-true key p.0 e in
      let no : nat_eq other p.0 ≡ false = ap (nat_eq other) (sym is) ∙ ne_eqb other key differs in sym (ap (λ (b : Bool). cond b (Some p.1) (value_at other pairs)) no)
  by false e more = ap (λ (found : Option ℕ). cond (nat_eq other p.0) (Some p.1) found) more

-- ---- lists of maps

pub All-at : {X : Type 0} (P : X → Type 0) (list : List X) (index : ℕ) (other : X) → AllByRecursion P list → P other → P (slice_index_or list index other)
All-at P [] index other h p = p
All-at P (x ∷ list) zero other h p = h.0
All-at P (x ∷ list) (suc index) other h p = All-at P list index other h.1 p

pub All-set : {X : Type 0} (P : X → Type 0) (list : List X) (index : ℕ) (x : X) → AllByRecursion P list → P x → AllByRecursion P (slice_set list index x)
All-set P [] index x h p = h
All-set P (y ∷ list) zero x h p = (p, h.1)
All-set P (y ∷ list) (suc index) x h p = (h.0, All-set P list index x h.1 p)

pub All-replicate : {X : Type 0} (P : X → Type 0) (n : ℕ) (x : X) → P x → AllByRecursion P (replicate n x)
All-replicate P zero x p = tt
All-replicate P (suc n) x p = (p, All-replicate P n x p)
