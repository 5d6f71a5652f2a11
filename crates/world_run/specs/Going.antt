-- Private: how a caller's attempt goes on, by one event and by many. Here p is the caller's number and t an attempt.
use Rattle.std.specs.Prelude.{◌≡◌, ℕ, zero, suc, Bool, true, false, ◌<◌, ◌≤◌, ◌⊎◌, IsTrue, List, [], ◌∷◌, ◌++◌, length, Option, Some, None}
use Rattle.std.specs.List.{All}
use Rattle.stm_core.specs.Machine.{next_of}
use Rattle.stm_core.specs.declared.next.Next.{Next}
use Rattle.stm_core.specs.declared.next.Next.TheVariants.{Before, Reply}
use Rattle.stm_core.specs.declared.next.Reply.TheVariants as reply
use Rattle.stm_model.specs.Attempt.{Attempt, Stage, Write, Late, Stopped, AcquireMeta, Acquire, OwnerStatus, OwnerMeta, DoomOwner, ReleaseLevel, Prepare, Mark, CommitClock, CommitNote, Decide, StoreValues, Release, RollBack, Close, Ended}
use Rattle.stm_model.specs.CellsState.{Book}
use Rattle.stm_model.specs.HandlerRuns.{is_rolled}
use Rattle.stm_model.specs.Heap.{put}
use Rattle.stm_model.specs.History.{Entry}
use Rattle.stm_model.specs.Moves.{AwaitsAsk}
use Rattle.stm_model.specs.Owes.{Owes}
use Rattle.stm_model.specs.World.{Event}
use Rattle.stm_model.specs.declared.access.Ask.{Ask}
use Rattle.stm_model.specs.declared.access.Ask.TheVariants.{Finish}
use Rattle.stm_model.specs.declared.ending.Ending.{Ending}
use Rattle.world_run.specs.Simulation.{Simulation, Happens, IsSameOf, attempt_in, left_of, replies}
use Rattle.world_run.specs.Run.{AreAsked, AsksMeetOwed, ClosesLevel, ClosesOpen, LeadsTo, around, asks_in, innermost}

-- ---- what an attempt tells

-- what comes next tells that the attempt is over
abbrev pub tells_end : Next → Bool
tells_end (Reply (reply.Ended ending)) = true
tells_end next = false

-- what comes next tells that the attempt waits to be asked
abbrev pub tells_wait : Next → Bool
tells_wait (Before token) = true
tells_wait (Reply reply.Ready) = true
tells_wait (Reply (reply.Value value)) = true
tells_wait (Reply (reply.Stopped cause)) = true
tells_wait next = false

-- the ending that a reply tells
abbrev pub told_ending : Option Next → Option Ending
told_ending (Some (Reply (reply.Ended ending))) = Some ending
told_ending next = None

-- ---- one event

-- The event happens, of the caller's attempt, which is the same one and may do less by itself then.
pub record Advances {L : Type 0} (lawful : L → List ℕ → Type 0) (may : L → List ℕ → List ℕ → Type 0) (p : ℕ) (before : Simulation L) (event : Event) (after : Simulation L) : Type 0 where
  pub happens : Happens lawful may before event after
  pub same : IsSameOf p before after
  pub falls : left_of after p < left_of before p

-- ---- what its asks owe

-- what each open level began with
abbrev pub writes_of : List Book → List (List Write)
writes_of [] = []
writes_of (book ∷ books) = book.writes ∷ writes_of books

-- An attempt with these writes and levels, which waits, meets what it owes if it is asked for these. Once the body is over, its before-commit bodies ask for nothing.
unfoldable pub BodyMeets : (List ℕ → Type 0) → (List ℕ → List ℕ → Type 0) → ℕ → List Ask → (turn : ℕ) → List Write → List (List Write) → Type 0
BodyMeets lawful may size asks zero writes levels = AsksMeetOwed lawful may size writes levels asks × ClosesOpen (length levels) asks
BodyMeets lawful may size asks (suc turn) writes levels = Owes lawful may size [] writes

-- The same of an attempt at this stage.
unfoldable pub MeetsOwedAt : (List ℕ → Type 0) → (List ℕ → List ℕ → Type 0) → ℕ → List Ask → (turn : ℕ) → List Write → List (List Write) → Stage → Type 0
MeetsOwedAt lawful may size asks turn writes levels (AcquireMeta cell value left tried) = BodyMeets lawful may size asks turn (put writes cell value) levels
MeetsOwedAt lawful may size asks turn writes levels (Acquire cell value left tried first expected again) = BodyMeets lawful may size asks turn (put writes cell value) levels
MeetsOwedAt lawful may size asks turn writes levels (OwnerStatus cell value left first) = BodyMeets lawful may size asks turn (put writes cell value) levels
MeetsOwedAt lawful may size asks turn writes levels (OwnerMeta cell value left first status) = BodyMeets lawful may size asks turn (put writes cell value) levels
MeetsOwedAt lawful may size asks turn writes levels (DoomOwner cell value left first second status) = BodyMeets lawful may size asks turn (put writes cell value) levels
MeetsOwedAt lawful may size asks turn writes levels (ReleaseLevel kept write behind) = BodyMeets lawful may size asks turn (innermost writes levels) (around levels)
MeetsOwedAt lawful may size asks turn writes levels (Stopped cause) = Unit {0}
MeetsOwedAt lawful may size asks turn writes levels Prepare = Owes lawful may size [] writes
MeetsOwedAt lawful may size asks turn writes levels (Mark write behind) = Owes lawful may size [] writes
MeetsOwedAt lawful may size asks turn writes levels (CommitClock lost) = Owes lawful may size [] writes
MeetsOwedAt lawful may size asks turn writes levels (CommitNote lost clock note behind) = Owes lawful may size [] writes
MeetsOwedAt lawful may size asks turn writes levels (Decide lost clock) = Owes lawful may size [] writes
MeetsOwedAt lawful may size asks turn writes levels (StoreValues write behind) = Unit {0}
MeetsOwedAt lawful may size asks turn writes levels (Release write behind) = Unit {0}
MeetsOwedAt lawful may size asks turn writes levels (RollBack write behind) = Unit {0}
MeetsOwedAt lawful may size asks turn writes levels Close = Unit {0}
MeetsOwedAt lawful may size asks turn writes levels Ended = Unit {0}
MeetsOwedAt lawful may size asks turn writes levels stage = BodyMeets lawful may size asks turn writes levels

-- The caller's attempt meets what it owes, if it is asked for these where it waits.
abbrev pub MeetsOwedBy : {L : Type 0} → (L → List ℕ → Type 0) → (L → List ℕ → List ℕ → Type 0) → Simulation L → ℕ → List Ask → Type 0
MeetsOwedBy lawful may c p asks = MeetsOwedAt (lawful c.law) (may c.law) (length c.opening) asks (attempt_in c p).turn (attempt_in c p).now.writes (writes_of (attempt_in c p).saved) (attempt_in c p).stage

-- ---- within one attempt

-- It has begun to commit or to roll back, or is over, so it isn't asked again.
unfoldable pub IsClosing : Stage → Type 0
IsClosing Prepare = Unit {0}
IsClosing (Mark write behind) = Unit {0}
IsClosing (CommitClock lost) = Unit {0}
IsClosing (CommitNote lost clock note behind) = Unit {0}
IsClosing (Decide lost clock) = Unit {0}
IsClosing (StoreValues write behind) = Unit {0}
IsClosing (Release write behind) = Unit {0}
IsClosing (RollBack write behind) = Unit {0}
IsClosing Close = Unit {0}
IsClosing Ended = Unit {0}
IsClosing stage = ⊥

-- It was refused something, or is rolled back for that, so it doesn't commit.
unfoldable pub LostAt : Stage → Option Ending → Type 0
LostAt (Stopped cause) ending = Unit {0}
LostAt (RollBack write behind) ending = IsTrue (is_rolled ending)
LostAt Close ending = IsTrue (is_rolled ending)
LostAt Ended ending = IsTrue (is_rolled ending)
LostAt stage ending = ⊥

-- A before-commit body has its turn.
unfoldable pub IsLateAt : Stage → Type 0
IsLateAt (Late token) = Unit {0}
IsLateAt stage = ⊥

-- It is closing, or it is asked by its own body, or a before-commit body has its turn, which asks for nothing.
abbrev pub IsDriven : Attempt → Type 0
IsDriven t = IsClosing t.stage ⊎ ((t.turn ≡ 0) ⊎ IsLateAt t.stage)

-- It is closing, or on its way there along before-commit bodies.
abbrev pub IsEnding : Attempt → Type 0
IsEnding t = IsClosing t.stage ⊎ (0 < t.turn)

-- It does nothing by itself. Where it waits to be asked, it is by its own body.
pub record Pauses (t : Attempt) : Type 0 where
  pub replies : IsTrue (replies (next_of t))
  pub own : AwaitsAsk t → t.turn ≡ 0
  pub driven : IsDriven t

-- The entry is one of this attempt.
pub record IsOf (t : Attempt) (entry : Entry) : Type 0 where
  pub caller : entry.caller ≡ t.own
  pub serial : entry.serial ≡ t.serial

-- A caller's attempt went on, and was asked for these. Whatever came into the history is its own.
pub record GoesOn {L : Type 0} (lawful : L → List ℕ → Type 0) (may : L → List ℕ → List ℕ → Type 0) (before : Simulation L) (p : ℕ) (asks : List Ask) (after : Simulation L) : Type 0 where
  pub events : List Event
  pub leads : LeadsTo lawful may before p events after
  pub asked : asks_in events ≡ asks
  pub same : IsSameOf p before after
  pub meets : (more : List Ask) → MeetsOwedBy lawful may before p (asks ++ more) → MeetsOwedBy lawful may after p more
  pub closes : IsClosing (attempt_in before p).stage → IsClosing (attempt_in after p).stage
  pub lost : LostAt (attempt_in before p).stage (attempt_in before p).ending → LostAt (attempt_in after p).stage (attempt_in after p).ending
  pub driven : IsDriven (attempt_in before p) → IsDriven (attempt_in after p)
  pub turn : (attempt_in before p).turn ≤ (attempt_in after p).turn
  pub entries : List Entry
  pub history : after.history ≡ before.history ++ entries
  pub left : All (IsOf (attempt_in before p)) entries

-- And it was asked for the first of these, perhaps not for all.
pub record GoesAlong {L : Type 0} (lawful : L → List ℕ → Type 0) (may : L → List ℕ → List ℕ → Type 0) (before : Simulation L) (p : ℕ) (asks : List Ask) (after : Simulation L) : Type 0 where
  pub asked : List Ask
  pub behind : List Ask
  pub front : asks ≡ asked ++ behind
  pub goes : GoesOn lawful may before p asked after

-- It was refused something, and the next of these asks would close a level where none is open.
pub record CutsOff {L : Type 0} (lawful : L → List ℕ → Type 0) (may : L → List ℕ → List ℕ → Type 0) (before : Simulation L) (p : ℕ) (asks : List Ask) (after : Simulation L) : Type 0 where
  pub front : List Ask
  pub close : Ask
  pub behind : List Ask
  pub closes : ClosesLevel close
  pub whole : asks ≡ front ++ close ∷ behind
  pub goes : GoesOn lawful may before p front after
  pub lost : LostAt (attempt_in after p).stage (attempt_in after p).ending

-- A caller's attempt was asked for all of these, or is over before, or is cut off.
abbrev pub ComesThrough : {L : Type 0} → (L → List ℕ → Type 0) → (L → List ℕ → List ℕ → Type 0) → Simulation L → ℕ → List Ask → Simulation L → Type 0
ComesThrough lawful may before p asks after = GoesOn lawful may before p asks after ⊎ (((attempt_in after p).stage ≡ Ended) ⊎ CutsOff lawful may before p asks after)

-- A caller's attempt was asked for nothing more, or waited and was asked to finish.
abbrev pub Finishes : {L : Type 0} → (L → List ℕ → Type 0) → (L → List ℕ → List ℕ → Type 0) → Simulation L → ℕ → Simulation L → Type 0
Finishes lawful may before p after = GoesOn lawful may before p [] after ⊎ (AwaitsAsk (attempt_in before p) × GoesOn lawful may before p (Finish ∷ []) after)

-- A caller's attempt was asked for the first ones of a body's asks.
pub record BodyGoes {L : Type 0} (lawful : L → List ℕ → Type 0) (may : L → List ℕ → List ℕ → Type 0) (before : Simulation L) (p : ℕ) (asks : List Ask) (after : Simulation L) : Type 0 where
  pub came : List Ask
  pub asked : AreAsked asks came (attempt_in after p).ending
  pub goes : GoesOn lawful may before p came after
