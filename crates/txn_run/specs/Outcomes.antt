-- What an attempt concludes with. `ends`, `gives` and `leaves` are what its body states of itself on a heap: that it ran to its end, that it answered a cause, and how it is left.
use Rattle.std.specs.Prelude.{◌≡◌, ℕ, suc, ◌-◌, ◌<◌, ◌≤◌, ◌⊎◌, Bool, false, List, [], ◌++◌, length, Some}
use mathlib.Core.List.{IsPrefix}
use Rattle.ref_table.specs.Calls.{HasNoneOf}
use Rattle.ref_table.specs.Seats.{SeatState, StmState}
use Rattle.stm_model.specs.CellsState.{Book}
use Rattle.stm_model.specs.Handlers.{completing, failing}
use Rattle.stm_model.specs.History.{entry_after, state}
use Rattle.stm_model.specs.Refusing.{IsOfBody}
use Rattle.stm_model.specs.World.{entry_of}
use Rattle.stm_model.specs.declared.cause.Cause.{Cause}
use Rattle.stm_model.specs.declared.cause.Cause.TheVariants.{AttemptsEnd, ClockEnd, Full, Retry, User}
use Rattle.stm_model.specs.declared.note.Note.{Note}
use Rattle.stm_model.specs.declared.ending.Ending.TheVariants.{Committed, Read, Rolled}
use Rattle.txn_drive.specs.Calls.{TellsMore}
use Rattle.txn_run.specs.Bodies.{HasBook}
use Rattle.txn_run.specs.Callers.{CallerState, attempt_in}
use Rattle.txn_run.specs.declared.callers.Outcome.{Outcome}
use Rattle.txn_run.specs.declared.callers.Outcome.TheVariants as with

-- The caller made one attempt more. It has seen what it had seen before and maybe more, what the attempt read is no older, and it was rung for the cells that the attempt released where somebody waited.
pub record Made (attempts : ℕ) (before after : CallerState) : Type 0 where
  pub grows : IsPrefix before.seen after.seen
  pub serial : after.view.attempt.serial ≡ suc before.view.attempt.serial
  pub within : before.view.attempt.serial < attempts
  pub fresh : length before.seen ≤ after.view.attempt.prefix
  pub waits : after.view.waits ≡ before.view.waits
  pub rings : TellsMore before.rings after.rings after.view.attempt.rings

-- It committed with this stamp, and wrote something: the entry at that place is the attempt's and its caller's only new one, and on the heap before it the body and its before-commit bodies ran to this end.
pub record CommittedAs {T : Type 0} (ends : T → List ℕ → Book → Type 0) (opening : List ℕ) (before after : CallerState) (out : T) (stamp : ℕ) : Type 0 where
  pub ending : after.view.attempt.ending ≡ Some (Committed stamp)
  pub low : length before.seen < stamp
  pub high : stamp ≤ length after.seen
  pub entry : entry_after after.seen (stamp - 1) ≡ entry_of after.view.attempt
  pub only : (n : ℕ) → length before.seen ≤ n → n < length after.seen → (entry_after after.seen n).caller ≡ before.number → n ≡ stamp - 1
  pub book : Book
  pub has : HasBook after.view.attempt book
  pub some : 0 < length book.writes
  pub whole : ends out (state opening after.seen (stamp - 1)) book
  pub runs : TellsMore before.runs after.runs (book.runs ++ completing book.hooks)

-- It wrote nothing and read the heap at this prefix, on which the body and its before-commit bodies ran to this end.
pub record ReadAs {T : Type 0} (ends : T → List ℕ → Book → Type 0) (opening : List ℕ) (before after : CallerState) (out : T) (prefix : ℕ) : Type 0 where
  pub ending : after.view.attempt.ending ≡ Some (Read prefix)
  pub none : HasNoneOf before.number before.seen after.seen
  pub book : Book
  pub has : HasBook after.view.attempt book
  pub nothing : book.writes ≡ []
  pub whole : ends out (state opening after.seen prefix) book
  pub runs : TellsMore before.runs after.runs (book.runs ++ completing book.hooks)

-- a body's own word, which the heap decides
abbrev pub IsWord : Cause → Type 0
IsWord Retry = Unit {0}
IsWord (User code) = Unit {0}
IsWord (Full used blocks) = Unit {0}
IsWord cause = ⊥

-- It was rolled back. A retry, a failure and a Full are what the body answered on the heap at this prefix. At the clock's end it had written something and run to its end there. However it came, the body is left as a run there leaves it.
pub record RolledAs {T : Type 0} (ends : T → List ℕ → Book → Type 0) (gives : Cause → List ℕ → Book → Type 0) (leaves : List ℕ → Type 0)
    (opening : List ℕ) (before after : CallerState) (cause : Cause) (prefix : ℕ) : Type 0 where
  pub ending : after.view.attempt.ending ≡ Some (Rolled cause prefix)
  pub none : HasNoneOf before.number before.seen after.seen
  pub book : Book
  pub has : HasBook after.view.attempt book
  pub answered : IsWord cause → gives cause (state opening after.seen prefix) book
  pub at_end : (clock : ℕ) → cause ≡ ClockEnd clock → (out : T) × ends out (state opening after.seen prefix) book × (0 < length book.writes)
  pub left : leaves (state opening after.seen prefix)
  pub prepared : Bool
  pub unprepared : IsOfBody cause → prepared ≡ false
  pub runs : TellsMore before.runs after.runs (book.runs ++ failing prepared book.hooks)

-- what it is by its outcome
abbrev pub ConcludesAs : {T : Type 0} → (T → List ℕ → Book → Type 0) → (Cause → List ℕ → Book → Type 0) → (List ℕ → Type 0)
    → List ℕ → CallerState → CallerState → Outcome T → Type 0
ConcludesAs ends gives leaves opening before after (with.Committed out stamp) = CommittedAs ends opening before after out stamp
ConcludesAs ends gives leaves opening before after (with.Read out prefix) = ReadAs ends opening before after out prefix
ConcludesAs ends gives leaves opening before after (with.Rolled cause prefix) = RolledAs ends gives leaves opening before after cause prefix

-- All attempts that there may be were made, so none was: the prefix is the clock as it was loaded last, and nothing else changed.
pub record IsSpent {T : Type 0} (attempts : ℕ) (untouched : Type 0) (before after : CallerState) (outcome : Outcome T) : Type 0 where
  pub spent : before.view.attempt.serial ≡ attempts
  pub ends : outcome ≡ with.Rolled (AttemptsEnd attempts) before.view.clock
  pub same : after ≡ before
  pub body : untouched

-- One attempt was made and ended so, or there are no more.
abbrev pub Concludes : {T : Type 0} → (T → List ℕ → Book → Type 0) → (Cause → List ℕ → Book → Type 0) → (List ℕ → Type 0) → (untouched : Type 0)
    → {S : Type 0} → StmState S → CallerState → CallerState → Outcome T → Type 0
Concludes ends gives leaves untouched stm before after outcome =
    (Made stm.settings.attempts before after × ConcludesAs ends gives leaves stm.opening before after outcome)
    ⊎ IsSpent stm.settings.attempts untouched before after outcome

-- What was read is handed back: the notes of the attempt that was made, and none where none was.
pub record HandsBack (attempts : ℕ) (before after : SeatState) (notes : List Note) : Type 0 where
  pub made : (attempt_in before).serial < attempts → notes ≡ (attempt_in after).notes
  pub spent : (attempt_in before).serial ≡ attempts → notes ≡ []
