-- A caller's attempt that runs from its begin to its end, nobody else moving. Here p is the caller's number and t an attempt.
use Rattle.std.specs.Prelude.{◌≡◌, ℕ, suc, ◌-◌, ◌<◌, ◌⊎◌, IsTrue, List, [], ◌∷◌, ◌++◌, length, Option, Some}
use Rattle.std.specs.List.{All}
use Rattle.opacity.specs.Effects.{caller_of}
use Rattle.stm_model.specs.Attempt.{Attempt, Write}
use Rattle.stm_model.specs.HandlerRuns.{is_rolled}
use Rattle.stm_model.specs.Heap.{put}
use Rattle.stm_model.specs.History.{Entry}
use Rattle.stm_model.specs.Moves.{OutOfMemory, Takes}
use Rattle.stm_model.specs.Owes.{Owes}
use Rattle.stm_model.specs.Safe.{Opaque}
use Rattle.stm_model.specs.World.{Event, MayRun, Moves, World, entry_of, run}
use Rattle.stm_model.specs.declared.access.Ask.{Ask}
use Rattle.stm_model.specs.declared.access.Ask.TheVariants.{Abandon, Enter, Finish, Keep, Set, Undo}
use Rattle.stm_model.specs.declared.ending.Ending.{Ending}
use Rattle.stm_model.specs.declared.ending.Ending.TheVariants.{Committed}
use Rattle.world_run.specs.Simulation.{Simulation, HasSameTerms, IsOver, IsTrueOf, MayBegin, Shows, attempt_in, terms_in}

-- ---- who moved

-- the asks among some events, whether they were taken or refused, out of memory
unfoldable pub asks_of : Event → List Ask
asks_of (Moves p (Takes ask)) = ask ∷ []
asks_of (Moves p (OutOfMemory ask)) = ask ∷ []
asks_of event = []

abbrev pub asks_in : List Event → List Ask
asks_in [] = []
asks_in (event ∷ events) = asks_of event ++ asks_in events

-- These events, all of them the caller's, lead from each world that is shown before to one that is shown after.
pub record LeadsTo {L : Type 0} (lawful : L → List ℕ → Type 0) (may : L → List ℕ → List ℕ → Type 0) (before : Simulation L) (p : ℕ) (events : List Event) (after : Simulation L) : Type 0 where
  pub terms : HasSameTerms before after
  pub own : All (λ event. caller_of event ≡ p) events
  pub able : (w : World) → Shows lawful may before w → MayRun (terms_in before) w events
  pub shows : (w : World) → Shows lawful may before w → Shows lawful may after (run w events)

-- The ask closes a level.
abbrev pub ClosesLevel : Ask → Type 0
ClosesLevel Keep = Unit {0}
ClosesLevel Undo = Unit {0}
ClosesLevel ask = ⊥

-- Of a body's asks the first ones came, and then, in place of one that closes a level, to finish.
pub record IsCutOff (asks came : List Ask) : Type 0 where
  pub front : List Ask
  pub close : Ask
  pub behind : List Ask
  pub closes : ClosesLevel close
  pub whole : asks ≡ front ++ close ∷ behind
  pub last : came ≡ front ++ Finish ∷ []

-- Of a body's asks, and to finish behind them, the first ones came, in order, perhaps all. Or it is cut off and rolled back.
abbrev pub AreAsked : (asks came : List Ask) → Option Ending → Type 0
AreAsked asks came ending = ((behind : List Ask) × (asks ++ Finish ∷ [] ≡ came ++ behind)) ⊎ (IsCutOff asks came × IsTrue (is_rolled ending))

-- Nobody but the caller moved, and of a body's asks its attempt was asked for the first ones.
pub record Runs {L : Type 0} (lawful : L → List ℕ → Type 0) (may : L → List ℕ → List ℕ → Type 0) (before : Simulation L) (p : ℕ) (asks : List Ask) (after : Simulation L) : Type 0 where
  pub events : List Event
  pub leads : LeadsTo lawful may before p events after
  pub asked : AreAsked asks (asks_in events) (attempt_in after p).ending

-- ---- how the attempt ended

-- What an attempt leaves in the history: where it committed, its entry comes last, and its stamp is that entry's place; else nothing.
unfoldable pub Leaves : List Entry → Attempt → Ending → List Entry → Type 0
Leaves before t (Committed stamp) after = (after ≡ before ++ entry_of t ∷ []) × (stamp ≡ length after)
Leaves before t ending after = after ≡ before

-- In each world that is shown, what the caller's attempt has read is one heap of the history, no older than what the caller had seen before it.
abbrev pub IsOpaque : {L : Type 0} → (L → List ℕ → Type 0) → (L → List ℕ → List ℕ → Type 0) → Simulation L → ℕ → Type 0
IsOpaque lawful may c p = (w : World) → Shows lawful may c w → Opaque c.opening c.history (w.view p).since (attempt_in c p)

-- The caller's next attempt could begin and was made, and it is over with this ending. What it leaves in the history is all that is new there, the ending is true of it, and what it has read is one heap.
pub record HasEnded {L : Type 0} (lawful : L → List ℕ → Type 0) (may : L → List ℕ → List ℕ → Type 0) (before : Simulation L) (p : ℕ) (after : Simulation L) (ending : Ending) : Type 0 where
  pub began : MayBegin before p
  pub own : (attempt_in after p).own ≡ p
  pub next : (attempt_in after p).serial ≡ suc (attempt_in before p).serial
  pub settings : (attempt_in after p).settings ≡ before.settings
  pub over : IsOver (attempt_in after p)
  pub ends : (attempt_in after p).ending ≡ Some ending
  pub history : Leaves before.history (attempt_in after p) ending after.history
  pub tells : IsTrueOf after.history (attempt_in after p) ending
  pub opaque : IsOpaque lawful may after p

-- ---- what its asks owe

-- the writes that stand where the innermost level is undone: those that it began with
abbrev pub innermost : List Write → List (List Write) → List Write
innermost writes [] = writes
innermost writes (former ∷ levels) = former

-- the levels around the innermost one
abbrev pub around : List (List Write) → List (List Write)
around [] = []
around (former ∷ levels) = levels

-- Asked for these, an attempt with these writes meets what it owes: where Finish comes, its writes then make of any lawful heap a lawful one that it may become. Of each open level the writes are given with which it began, the innermost first. Who gives up owes nothing.
unfoldable pub AsksMeetOwed : (List ℕ → Type 0) → (List ℕ → List ℕ → Type 0) → ℕ → List Write → List (List Write) → List Ask → Type 0
AsksMeetOwed lawful may size writes levels [] = Unit {0}
AsksMeetOwed lawful may size writes levels (Set cell value ∷ asks) = AsksMeetOwed lawful may size (put writes cell.0 value) levels asks
AsksMeetOwed lawful may size writes levels (Enter ∷ asks) = AsksMeetOwed lawful may size writes (writes ∷ levels) asks
AsksMeetOwed lawful may size writes levels (Keep ∷ asks) = AsksMeetOwed lawful may size writes (around levels) asks
AsksMeetOwed lawful may size writes levels (Undo ∷ asks) = AsksMeetOwed lawful may size (innermost writes levels) (around levels) asks
AsksMeetOwed lawful may size writes levels (Finish ∷ asks) = Owes lawful may size [] writes
AsksMeetOwed lawful may size writes levels (Abandon cause ∷ asks) = Unit {0}
AsksMeetOwed lawful may size writes levels (ask ∷ asks) = AsksMeetOwed lawful may size writes levels asks

-- With so many levels open before, each of these asks that closes one finds one open, where none is refused.
unfoldable pub ClosesOpen : ℕ → List Ask → Type 0
ClosesOpen depth [] = Unit {0}
ClosesOpen depth (Enter ∷ asks) = ClosesOpen (suc depth) asks
ClosesOpen depth (Keep ∷ asks) = (0 < depth) × ClosesOpen (depth - 1) asks
ClosesOpen depth (Undo ∷ asks) = (0 < depth) × ClosesOpen (depth - 1) asks
ClosesOpen depth (ask ∷ asks) = ClosesOpen depth asks
