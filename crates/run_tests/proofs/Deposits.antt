-- A deposit on a heap.
use Rattle.std.proofs.Common.{◌≡◌, ℕ, ◌+◌, ◌%◌, ◌^◌, List, Some, refl, ap, sym}
use Rattle.std.specs.Prelude.{slice_index, slice_set}
use Rattle.std.proofs.lemmas.Option.{same_Some}
use Rattle.run_tests.specs.Deposits.{deposited}

-- the balance was read, and one with more in it was put there
pub deposited_by : (account amount balance : ℕ) (first second third : List ℕ)
    → (second ≡ first) × (Some (slice_index first account) ≡ Some balance)
    → third ≡ slice_set second account ((balance + amount) % 2 ^ 64)
    → ((balance + amount) % 2 ^ 64 ≡ deposited account amount first) × (third ≡ slice_set first account (deposited account amount first))
deposited_by account amount balance first second third read put =
    let is : slice_index first account ≡ balance = same_Some _ _ read.1 in
    let more : (balance + amount) % 2 ^ 64 ≡ deposited account amount first = ap (λ n. (n + amount) % 2 ^ 64) (sym is) in
    (more, rw (put, read.0, more) refl)
