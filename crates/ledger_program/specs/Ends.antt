-- How the program ends.
use Rattle.std.specs.Prelude.{◌≡◌, ◌⊎◌, ℕ, List, Option}
use Rattle.std.specs.Io.KnownBytes.{Appends}
use Rattle.stm_io.specs.Faults.{Rose}
use Rattle.stm_io.specs.Whole.{AppendedProperFront}
use Rattle.ledger_host.specs.declared.host.HostStatus.{HostStatus}
use Rattle.ledger_program.specs.Status.{error_line, exit_number}

-- A sink, before and after, with its counts of faults, was told the bytes whole, unless it failed.
abbrev pub IsTold : Option (List ℕ) → Option (List ℕ) → ℕ → ℕ → List ℕ → Type 0
IsTold before after faults_before faults_after bytes =
    Appends before after bytes ⊎ (AppendedProperFront before after bytes × Rose faults_before faults_after)

-- Some status answers the call, its line was told, and the program ends with its number.
pub record Ends (IsAnswer : HostStatus → Type 0) (WasTold : List ℕ → Type 0) (number : ℕ) : Type 0 where
  pub status : HostStatus
  pub answers : IsAnswer status
  pub told : WasTold (error_line status)
  pub number_is : number ≡ exit_number status
