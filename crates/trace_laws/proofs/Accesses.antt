-- An access keeps what is told.
use Rattle.std.proofs.Common.{◌≡◌, ℕ, ◌<◌, List, [], length, get_or}
use Rattle.stm_model.specs.Accesses.{Answer, Number, OfStatus}
use Rattle.stm_model.specs.After.{after, after_at}
use Rattle.stm_model.specs.Attempt.{Attempt, Stage, Announce, Begin, ReadMeta, ExtendClock, ExtendNote, ReadValue, Validate, AcquireMeta, Acquire, OwnerStatus, OwnerMeta, DoomOwner, ReleaseLevel, Prepare, Mark, CommitClock, CommitNote, Decide, StoreValues, Release, RollBack, Close}
use Rattle.stm_model.specs.History.{IsCurrent, IsLegal, state}
use Rattle.stm_model.specs.Safe.{SafeAttempt, SafeStage, Sound}
use Rattle.stm_model.specs.World.{Terms, World}
use Rattle.stm_model.proofs.HandlerRunsLemmas.{ends-access}
use Rattle.stm_model.proofs.HistoryLemmas.{AreWords-state, length-state}
use Rattle.ledger_model.specs.declared.job.Contents.{Contents}
use Rattle.ledger_model.specs.declared.script.Statement.{Statement}
use Rattle.ledger_model.specs.Traced.{Progress}
use Rattle.trace_laws.proofs.Told.{IsTold, ToldAt}
use Rattle.trace_laws.proofs.Acquires.{acquire_meta_told, acquire_told, doom_owner_told, owner_meta_told, owner_status_told}
use Rattle.trace_laws.proofs.Closings.{EndsOn, close_told, release_cell_told, roll_back_told, store_values_told}
use Rattle.trace_laws.proofs.Commits.{commit_clock_told, commit_note_told, decide_told, mark_cell_told, prepare_told}
use Rattle.trace_laws.proofs.ReadSteps.{AreOfWords, extend_clock_told, extend_note_told, read_meta_told, read_value_told, validate_told}
use Rattle.trace_laws.proofs.Releases.{release_level_told}

-- What is noted of a legal history are words.
pub noted_words : (terms : Terms) (w : World) (p : ℕ) (t : Attempt) → IsLegal terms.opening w.history → Sound terms w p t → AreOfWords t.notes
noted_words terms w p t legal sound = λ k d within.
    let note = get_or t.notes k d in
    let heap : List ℕ = state terms.opening w.history t.prefix in
    let current : IsCurrent terms.opening w.history t.prefix note = sound.notes k d within in
    let inside : note.addr.0 < length heap = rw (length-state terms.opening w.history t.prefix) (sound.noted_cells k d within) in
    rw current.value at (AreWords-state terms.opening w.history t.prefix legal.opening_words legal.entries note.addr.0 0 inside)

module _ (base : Contents) (block : List Statement) (g : Progress) (t : Attempt) (here : IsTold base block t g) where
  announce_told : (answer : Answer) → ToldAt base block t g Announce → IsTold base block (after_at t Announce answer) g
  unfolding after_at ToldAt
  announce_told (OfStatus found) told = record { comes = told.0.comes; allowed = told.0.allowed; levels = told.0.levels }
  announce_told answer told = here

  begin_told : (answer : Answer) → ToldAt base block t g Begin → IsTold base block (after_at t Begin answer) g
  unfolding after_at ToldAt
  begin_told (Number clock) told = record { comes = told.comes; allowed = told.allowed; levels = told.levels }
  begin_told answer told = here

  module _ (terms : Terms) (w : World) (none : t.due ≡ []) (answer : Answer) where
    told_after : (stage : Stage) → ToldAt base block t g stage → SafeStage terms w t stage → EndsOn t stage (after_at t stage answer)
        → AreOfWords (after_at t stage answer).notes → IsTold base block (after_at t stage answer) g
    unfolding ToldAt SafeStage after_at
    told_after Announce told safe on words = announce_told answer told
    told_after Begin told safe on words = begin_told answer told
    told_after (ReadMeta cell left) told safe on words = read_meta_told base block g t here cell left answer told
    told_after (ExtendClock cell left first) told safe on words = extend_clock_told base block g t here cell left first answer told
    told_after (ExtendNote cell left first clock note behind) told safe on words = extend_note_told base block g t here cell left first clock note behind answer told
    told_after (ReadValue cell left first) told safe on words = read_value_told base block g t here cell left first answer told
    told_after (Validate cell left first value) told safe on words = validate_told base block g t here cell left first value answer told safe.0.unwritten words
    told_after (AcquireMeta cell value left tried) told safe on words = acquire_meta_told base block g t here cell value left tried answer told
    told_after (Acquire cell value left tried first expected again) told safe on words = acquire_told base block g t here cell value left tried first expected again answer told
    told_after (OwnerStatus cell value left first) told safe on words = owner_status_told base block g t here cell value left first answer told
    told_after (OwnerMeta cell value left first status) told safe on words = owner_meta_told base block g t here cell value left first status answer told
    told_after (DoomOwner cell value left first second status) told safe on words = doom_owner_told base block g t here cell value left first second status answer told
    told_after (ReleaseLevel kept write behind) told safe on words = release_level_told base block g t kept write behind answer none told here
    told_after Prepare told safe on words = prepare_told base block g t told here answer on
    told_after (Mark write behind) told safe on words = mark_cell_told base block g t told here write behind answer on
    told_after (CommitClock lost) told safe on words = commit_clock_told base block g t told here lost answer safe on
    told_after (CommitNote lost clock note behind) told safe on words = commit_note_told base block g t told here lost clock note behind answer safe.0 on
    told_after (Decide lost clock) told safe on words = decide_told base block g t told here lost clock answer safe.0 on
    told_after (StoreValues write behind) told safe on words = store_values_told base block g t told here write behind answer on
    told_after (Release write behind) told safe on words = release_cell_told base block g t told here write behind answer on
    told_after (RollBack write behind) told safe on words = roll_back_told base block g t told here write behind answer on
    told_after Close told safe on words = close_told base block g t told here answer on
    told_after _ told safe on words = here

-- The handlers run on in order.
ends_on : (t : Attempt) (answer : Answer) → t.due ≡ [] → EndsOn t t.stage (after t answer)
ends_on t answer none former prepared ends = (ends.stands, ends-access former t.now.hooks prepared t answer ends none)

pub after_access : (base : Contents) (block : List Statement) (terms : Terms) (w later : World) (p : ℕ) (t : Attempt) (g : Progress) (answer : Answer)
    → t.due ≡ [] → SafeAttempt terms w p t → IsLegal terms.opening later.history → Sound terms later p (after t answer)
    → IsTold base block t g → IsTold base block (after t answer) g
after_access base block terms w later p t g answer none safe legal sound told =
    told_after base block g t told terms w none answer t.stage told safe.stage (ends_on t answer none)
    (noted_words terms later p (after t answer) legal sound)
