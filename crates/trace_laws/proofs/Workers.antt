-- The rows and the rolled lines of each worker stand in the listing as they came.
use Rattle.std.proofs.Common.{◌≡◌, ℕ, ◌<◌, ◌≤◌, Bool, true, false, nat_eq, nat_lt, IsTrue, List, sym, subst, ◌∙◌, arith}
use Rattle.std.specs.Bool.{MatchBool}
use Rattle.std.specs.List.{AllByRecursion, AllPairs, flat_map, range_with_len}
use Rattle.std.specs.List.Sorted.{IsPermutation}
use Rattle.std.proofs.lemmas.Bool.{eqb-true}
use Rattle.std.proofs.lemmas.Bool.Decides.{nat_tests}
use Rattle.std.proofs.lemmas.List.Sorted.{IsPermutation-sym}
use Rattle.ledger_model.specs.declared.listing.Rolled.{Rolled}
use Rattle.ledger_model.specs.declared.listing.Row.{Row}
use Rattle.ledger_model.specs.Order.{kind_rank, less_or_tied}
use Rattle.ledger_model.specs.Replays.{InOrder, MayPrecede, rolled_of, rows_of}
use Rattle.ledger_model.proofs.Lists.{each_weaker}
use Rattle.trace_laws.proofs.Tracked.{ComesEarlier}
use Rattle.trace_laws.proofs.Lists.{Has, Has-filter, Has-from_filter, Has-permutation, Ordered, Ordered-filter, Ordered-flat_map, Ordered-weaker, all_pairs, each_from, filter_all, filter_none, from_pairs, ordered_same}
use Rattle.trace_laws.proofs.Numbers.{IsBetween, Has-range, each_in_range, one_part, range_ascends}
use Rattle.trace_laws.proofs.RowsInOrder.{Before, rows_apart}

-- ---- rows

stands : (p q w m n : ℕ) (first second : Bool) → MatchBool second (p < q) (p ≤ q) → m < n
    → IsTrue (less_or_tied p q (less_or_tied (kind_rank first) (kind_rank second) (less_or_tied w w (nat_lt m n))))
stands p q w m n first true position number = grind (arith, nat_tests)
stands p q w m n true false position number = grind (arith, nat_tests)
stands p q w m n false false position number = grind (arith, nat_tests)

-- Of one worker's rows the earlier stands before the other.
comes_before : (p : ℕ) (a b : Row) → a.worker ≡ p → b.worker ≡ p → ComesEarlier a b → Before a b
comes_before p a b first second comes =
    subst (λ (v : ℕ). IsTrue (less_or_tied a.position b.position (less_or_tied (kind_rank a.writer) (kind_rank b.writer) (less_or_tied a.worker v (nat_lt a.number b.number))))) (first ∙ sym second)
    (stands a.position b.position a.worker a.number b.number a.writer b.writer comes.position comes.number)

-- Sorting leaves the rows of a worker as they came.
pub worker_rows : (p : ℕ) (rows listed : List Row) → IsPermutation rows listed → InOrder listed → Ordered ComesEarlier (rows_of p rows) → rows_of p listed ≡ rows_of p rows
worker_rows p rows listed moved order earlier =
    let test : Row → Bool = λ row. nat_eq row.worker p in
    let owns : AllByRecursion (λ row. row.worker ≡ p) (rows_of p rows) =
    each_from (λ row. row.worker ≡ p) (rows_of p rows) (λ row has. eqb-true row.worker p (Has-from_filter test rows row has).1) in
    let along : (xs ys : List Row) → IsPermutation xs ys → (row : Row) → Has row (rows_of p xs) → Has row (rows_of p ys) =
    λ xs ys moved row has. let both = Has-from_filter test xs row has in Has-filter test ys row both.1 (Has-permutation xs ys moved row both.0) in
    ordered_same Before rows_apart (rows_of p listed) (rows_of p rows)
    (Ordered-filter Before test listed (from_pairs Before listed order))
    (Ordered-weaker ComesEarlier Before (λ row. row.worker ≡ p) (comes_before p) (rows_of p rows) owns earlier)
    (along listed rows (IsPermutation-sym rows listed moved)) (along rows listed moved)

-- ---- rolled lines

module _ (lines : List Rolled) where
  pub owned : (p : ℕ) → AllByRecursion (λ rolled. rolled.worker ≡ p) (rolled_of p lines)
  owned p = each_from (λ rolled. rolled.worker ≡ p) (rolled_of p lines) (λ rolled has. eqb-true rolled.worker p (Has-from_filter (λ line. nat_eq line.worker p) lines rolled has).1)

  -- Put by worker, the lines of a worker stand as they came.
  pub worker_lines : (p n : ℕ) → IsBetween 1 n p → rolled_of p (flat_map (λ q. rolled_of q lines) (range_with_len 1 n)) ≡ rolled_of p lines
  worker_lines p n within =
      let test : Rolled → Bool = λ line. nat_eq line.worker p in
      one_part test (λ q. rolled_of q lines) p
      (λ q other. filter_none test (rolled_of q lines) (each_weaker (λ line. line.worker ≡ q) (λ line. test line ≡ false) (λ line is. grind (arith, nat_tests)) (rolled_of q lines) (owned q)))
      (range_with_len 1 n) (range_ascends 1 n) (Has-range 1 n p within)
      ∙ filter_all test (rolled_of p lines) (each_weaker (λ line. line.worker ≡ p) (λ line. test line ≡ true) (λ line is. grind (arith, nat_tests)) (rolled_of p lines) (owned p))

  across : (p q : ℕ) → p < q → AllByRecursion (λ first. AllByRecursion (MayPrecede first) (rolled_of q lines)) (rolled_of p lines)
  across p q less =
      each_weaker (λ line. line.worker ≡ p) (λ first. AllByRecursion (MayPrecede first) (rolled_of q lines))
      (λ first own. each_weaker (λ line. line.worker ≡ q) (MayPrecede first) (λ second other. precedes first second (omega arith)) (rolled_of q lines) (owned q)) (rolled_of p lines) (owned p)
    where
      precedes : (first second : Rolled) → first.worker < second.worker → MayPrecede first second
      precedes first second less = record { worker = omega arith; number = λ same. absurd (omega arith); prefix = λ same. absurd (omega arith) }

  -- And so they may all stand.
  pub lines_in_order : (n : ℕ) → ((p : ℕ) → IsBetween 1 n p → Ordered MayPrecede (rolled_of p lines)) → AllPairs MayPrecede (flat_map (λ q. rolled_of q lines) (range_with_len 1 n))
  lines_in_order n each =
      let part : ℕ → List Rolled = λ q. rolled_of q lines in
      all_pairs MayPrecede (flat_map part (range_with_len 1 n))
      (Ordered-flat_map MayPrecede part (range_with_len 1 n)
      (each_weaker (IsBetween 1 n) (λ p. Ordered MayPrecede (part p)) each (range_with_len 1 n) (each_in_range 1 n))
      (Ordered-weaker (λ p q. p < q) (λ p q. AllByRecursion (λ first. AllByRecursion (MayPrecede first) (part q)) (part p)) (IsBetween 1 n) (λ p q here there less. across p q less)
      (range_with_len 1 n) (each_in_range 1 n) (range_ascends 1 n)))
