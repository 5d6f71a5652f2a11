-- A caller's status word as a number, and as its fields.
use Rattle.std.specs.Prelude.{ℕ, ◌+◌, ◌*◌, ◌/◌, ◌%◌, ◌^◌, ◌≤◌, ◌==◌, Bool, ◌&&◌, nat_eq, if◌then◌else◌}
use Rattle.meta_word.specs.declared.status.Phase.{Phase}
use Rattle.meta_word.specs.declared.status.Phase.TheVariants.{Idle, Active, Preparing, Doomed}
use Rattle.meta_word.specs.declared.status.TxnStatus.{TxnStatus}
use Rattle.meta_word.specs.declared.status.TheConstants.{MAX_SERIAL}

-- the serial has room in its bits
pub record StatusFits (status : TxnStatus) : Type 0 where
  pub serial : status.serial ≤ MAX_SERIAL

-- the number that stands for a phase
abbrev pub phase_number : Phase → ℕ
phase_number Idle = 0
phase_number Active = 1
phase_number Preparing = 2
phase_number Doomed = 3

-- the phase that a number below 4 stands for
abbrev pub phase_of : ℕ → Phase
phase_of number = if number == 0 then Idle else if number == 1 then Active else if number == 2 then Preparing else Doomed

-- The phase has the bits 0 and 1, and the serial begins at bit 2.
unfoldable pub status_word : TxnStatus → ℕ
status_word status = 2 ^ 2 * status.serial + phase_number status.phase

-- the fields, each read from its bits
unfoldable pub status_of : ℕ → TxnStatus
status_of word = record { serial = word / 2 ^ 2; phase = phase_of (word % 2 ^ 2) }

-- the same status
abbrev pub same_status : TxnStatus → TxnStatus → Bool
same_status status other = nat_eq status.serial other.serial && nat_eq (phase_number status.phase) (phase_number other.phase)
