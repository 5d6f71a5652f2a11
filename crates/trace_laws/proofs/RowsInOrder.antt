-- Rows in their order: those with the same elements are the same.
use Rattle.std.proofs.Common.{◌≡◌, ℕ, Bool, true, false, IsTrue, List, refl, arith}
use Rattle.std.specs.List.Sorted.{IsPermutation}
use Rattle.std.proofs.lemmas.Bool.Decides.{nat_tests}
use Rattle.std.proofs.lemmas.List.Sorted.{IsPermutation-sym, IsPermutation-trans}
use Rattle.ledger_model.specs.declared.listing.Row.{Row}
use Rattle.ledger_model.specs.Order.{kind_rank, less_or_tied, stands_before}
use Rattle.ledger_model.specs.Replays.{InOrder}
use Rattle.trace_laws.proofs.Lists.{Has-permutation, from_pairs, ordered_same}

-- the first row stands before the second
abbrev pub Before : Row → Row → Type 0
Before a b = IsTrue (stands_before a b)

pub tied_apart : (a b : ℕ) (first second : Bool) → (IsTrue first → IsTrue second → ⊥) → IsTrue (less_or_tied a b first) → IsTrue (less_or_tied b a second) → ⊥
tied_apart a b true true apart here there = absurd (apart refl refl)
tied_apart a b true false apart here there = grind (arith, nat_tests)
tied_apart a b false second apart here there = grind (arith, nat_tests)

pub rows_apart : (a b : Row) → Before a b → Before b a → ⊥
rows_apart a b =
    tied_apart a.position b.position _ _
    (tied_apart (kind_rank a.writer) (kind_rank b.writer) _ _
    (tied_apart a.worker b.worker _ _ (λ here there. grind (arith, nat_tests))))

-- One list of rows has one order.
pub one_order : (rows a b : List Row) → IsPermutation rows a → IsPermutation rows b → InOrder a → InOrder b → a ≡ b
one_order rows a b first second here there =
    let moved = IsPermutation-trans a rows b (IsPermutation-sym rows a first) second in
    ordered_same Before rows_apart a b (from_pairs Before a here) (from_pairs Before b there) (Has-permutation a b moved) (Has-permutation b a (IsPermutation-sym a b moved))
