-- Tables of tests, under the law that any heap may follow any other.
use Rattle.std.specs.Prelude.{ℕ, List}
use Rattle.ref_table.specs.Seats.{SeatState, StmState}
use Rattle.stm_model.specs.declared.law.Free.{Free}
use Rattle.txn_run.specs.Callers.{MayBegin}

-- The seat's caller may begin an attempt at the table.
abbrev pub Begins : StmState Free → SeatState → Type 0
Begins stm seat = MayBegin (λ _. Unit {0}) (λ _ _. Unit {0}) stm seat
