-- The order of rows.
use Rattle.std.specs.Prelude.{ℕ, Bool, ◌&&◌, ◌||◌, nat_eq, nat_lt, if◌then◌else◌}
use Rattle.ledger_model.specs.declared.listing.Row.{Row}

-- the first number is less, or they are tied and what decides then holds
abbrev pub less_or_tied : ℕ → ℕ → Bool → Bool
less_or_tied a b then_by = nat_lt a b || (nat_eq a b && then_by)

-- writers stand before others
abbrev pub kind_rank : Bool → ℕ
kind_rank writer = if writer then 0 else 1

-- by position, writers first, by worker, by number
abbrev pub stands_before : Row → Row → Bool
stands_before a b =
    less_or_tied a.position b.position (
    less_or_tied (kind_rank a.writer) (kind_rank b.writer) (less_or_tied a.worker b.worker (nat_lt a.number b.number)))
