-- What the words that a cause keeps have to show.
use Rattle.std.specs.Prelude.{◌≡◌, ◌≢◌, ◌<◌, ◌⊎◌, ℕ, IsTrue, IsFalse}
use Rattle.meta_word.specs.Meta.{changing_by_another, owned_by_another}
use Rattle.meta_word.specs.declared.meta.Meta.{Meta}
use Rattle.meta_word.specs.declared.status.Phase.TheVariants.{Doomed as IsDoomed}
use Rattle.stm_model.specs.declared.cause.Cause.{Cause}
use Rattle.stm_model.specs.declared.cause.Cause.TheVariants.{AttemptsEnd, ClockEnd, ClockMoved, Doomed, Full, Memory, Moved, ReadConflict, Retry, Stale, TooDeep, User, WriteConflict}
use Rattle.stm_model.specs.declared.settings.Settings.{Settings}
use Rattle.stm_model.specs.Refusing.{IsFull, IsTooDeep}

-- Between two loads of its meta word the cell was written, or another began to change it, or another that owned it has let it go.
abbrev pub HasMoved : ℕ → Meta → Meta → Type 0
HasMoved own first second =
    (first.version ≢ second.version)
    ⊎ (IsTrue (changing_by_another own second) × IsFalse (changing_by_another own first))
    ⊎ (IsTrue (owned_by_another own first) × (second.owner ≡ 0))

-- The cell no longer stands as it was read at this version.
abbrev pub IsStale : ℕ → ℕ → Meta → Type 0
IsStale own version meta = (meta.version ≢ version) ⊎ IsTrue (changing_by_another own meta)

-- What a cause shows to the caller of this number. A retry and a failure are the body's word, and that memory is out shows nothing.
unfoldable pub Evidence : ℕ → Settings → Cause → Type 0
Evidence own settings (ReadConflict addr meta) = IsTrue (changing_by_another own meta)
Evidence own settings (Moved addr first second) = HasMoved own first second
Evidence own settings (Stale addr version meta) = IsStale own version meta
Evidence own settings (WriteConflict addr meta) = IsTrue (owned_by_another own meta)
Evidence own settings (Doomed status) = status.phase ≡ IsDoomed
Evidence own settings (ClockMoved first second) = first < second
Evidence own settings (ClockEnd clock) = clock ≡ settings.clock
Evidence own settings (Full used blocks) = IsFull used blocks
Evidence own settings (TooDeep depth) = IsTooDeep depth
Evidence own settings (AttemptsEnd serial) = serial ≡ settings.attempts
Evidence own settings Retry = Unit {0}
Evidence own settings (User code) = Unit {0}
Evidence own settings Memory = Unit {0}

-- The words of the cause show it, whatever the settings are.
abbrev pub IsEvident : ℕ → Cause → Type 0
IsEvident own cause = (settings : Settings) → Evidence own settings cause
