-- The order of rows is that of their keys, compared part by part.
use Rattle.std.proofs.Common.{◌≡◌, ℕ, Bool, true, false, not, cond, ◌&&◌, ◌||◌, nat_eq, nat_lt, refl, ap, sym, ◌∙◌}
use Rattle.std.specs.declared.cmp.Ordering.{Ordering}
use Rattle.std.specs.declared.cmp.Ordering.TheVariants.{Less, Equal, Greater}
use Rattle.std.specs.Ordering.{is_lt, nat_cmp, bool_cmp, ordering_then}
use Rattle.ledger_model.specs.declared.listing.Row.{Row}
use Rattle.ledger_model.specs.Order.{less_or_tied, kind_rank, stands_before}

assoc : (x y z : Ordering) → ordering_then (ordering_then x y) z ≡ ordering_then x (ordering_then y z)
assoc Less y z = refl
assoc Equal y z = refl
assoc Greater y z = refl

less_by_tests : (less equal : Bool) (o : Ordering) → is_lt (ordering_then (cond less Less (cond equal Equal Greater)) o) ≡ (less || (equal && is_lt o))
less_by_tests true equal o = refl
less_by_tests false true o = refl
less_by_tests false false o = refl

less_by_number : (a b : ℕ) (o : Ordering) → is_lt (ordering_then (nat_cmp a b) o) ≡ less_or_tied a b (is_lt o)
less_by_number a b o = less_by_tests (nat_lt a b) (nat_eq a b) o

less_by_kind : (v w : Bool) (o : Ordering) → is_lt (ordering_then (bool_cmp (not v) (not w)) o) ≡ less_or_tied (kind_rank v) (kind_rank w) (is_lt o)
less_by_kind true true o = refl
less_by_kind true false o = refl
less_by_kind false true o = refl
less_by_kind false false o = refl

last : (a b : ℕ) → is_lt (nat_cmp a b) ≡ nat_lt a b
last a b = by_tests (nat_lt a b) (nat_eq a b) where
  by_tests : (less equal : Bool) → is_lt (cond less Less (cond equal Equal Greater)) ≡ less
  by_tests true equal = refl
  by_tests false true = refl
  by_tests false false = refl

-- by position, by kind, by worker, by number, as a comparison of four parts does it
pub stands_before_by_parts : (a b : Row)
    → stands_before a b ≡
    is_lt (ordering_then (ordering_then (ordering_then (nat_cmp a.position b.position) (bool_cmp (not a.writer) (not b.writer))) (nat_cmp a.worker b.worker)) (nat_cmp a.number b.number))
stands_before_by_parts a b =
    let position = nat_cmp a.position b.position in
    let kind = bool_cmp (not a.writer) (not b.writer) in
    let worker = nat_cmp a.worker b.worker in
    let number = nat_cmp a.number b.number in
    sym (
    ap is_lt (assoc (ordering_then position kind) worker number ∙ assoc position kind (ordering_then worker number))
    ∙ less_by_number a.position b.position (ordering_then kind (ordering_then worker number))
    ∙ ap (less_or_tied a.position b.position) (
    less_by_kind a.writer b.writer (ordering_then worker number)
    ∙ ap (less_or_tied (kind_rank a.writer) (kind_rank b.writer)) (less_by_number a.worker b.worker number ∙ ap (less_or_tied a.worker b.worker) (last a.number b.number)))
    )
