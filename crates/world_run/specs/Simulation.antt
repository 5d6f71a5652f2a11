-- A world that runs with its callers' attempts. Here c is such a simulation, w a world and p a caller's number.
use Rattle.std.specs.Prelude.{◌≡◌, ℕ, Bool, true, false, ◌*◌, ◌+◌, ◌-◌, ◌<◌, ◌≤◌, List, [], ◌∷◌, IsSome, length, slice_index, slice_index_or, Option, Some, None}
use Rattle.meta_word.specs.declared.status.TheConstants.{MAX_SERIAL}
use Rattle.opacity.specs.Plain.{history_of, terms_of}
use Rattle.opacity.specs.declared.world.World.{World as Table}
use Rattle.stm_core.specs.declared.next.Next.{Next}
use Rattle.stm_core.specs.declared.next.Next.TheVariants.{Before, Decide, Reply}
use Rattle.stm_core.specs.declared.next.Reply.TheVariants as reply
use Rattle.stm_core.specs.Machine.{IsSameAttempt, Machine, SettingsFit}
use Rattle.stm_model.specs.Accesses.{ExchangeClock, next}
use Rattle.stm_model.specs.Attempt.{Attempt, Due, Ended, no_attempt}
use Rattle.stm_model.specs.CellsState.{Book}
use Rattle.stm_model.specs.History.{Entry, entry_after}
use Rattle.stm_model.specs.Moves.{AwaitsAsk, Does, MayAsk}
use Rattle.stm_model.specs.Owes.{Owes}
use Rattle.stm_model.specs.Safe.{IsShown, Safe}
use Rattle.stm_model.specs.World.{Event, IsCaller, MayHappen, Moves, Steps, Terms, World, attempt_of, entry_of, happened, world_of}
use Rattle.stm_model.specs.declared.access.Ask.{Ask}
use Rattle.stm_model.specs.declared.ending.Ending.{Ending}
use Rattle.stm_model.specs.declared.ending.Ending.TheVariants as ended
use Rattle.stm_model.specs.declared.law.Law.{Ghosts}
use Rattle.stm_model.specs.declared.settings.Settings.{Settings}

-- the law of its heaps, the heap with which it opened, what its table is set to, its words, what committed, and each caller's latest attempt
pub record Simulation (L : Type 0) : Type 0 where
  pub law : L
  pub opening : List ℕ
  pub settings : Settings
  pub words : List ℕ
  pub history : List Entry
  pub machines : List (Option Machine)

-- a simulation over such a world, as it is kept
abbrev pub simulation_of : {L : Type 0} {bound : Ghosts L} → Table L bound → Settings → List (Option Machine) → Simulation L
simulation_of table settings machines = record {
  law = table.law;
  opening = table.opening.items;
  settings = settings;
  words = table.words.items;
  history = history_of table.history.items;
  machines = machines;
}

abbrev pub terms_in : {L : Type 0} → Simulation L → Terms
terms_in c = terms_of c.opening c.settings.callers c.settings.clock

-- a caller's latest attempt, where this one is kept
abbrev pub latest : Settings → ℕ → Option Machine → Attempt
latest settings p None = no_attempt p settings
latest settings p (Some machine) = machine.attempt

-- what is kept of a caller's latest attempt
abbrev pub machine_at : {L : Type 0} → Simulation L → ℕ → Option Machine
machine_at c p = slice_index_or c.machines (p - 1) None

-- a caller's latest attempt
abbrev pub attempt_in : {L : Type 0} → Simulation L → ℕ → Attempt
attempt_in c p = latest c.settings p (machine_at c p)

-- The simulation shows this world: its words and history, its attempts. It is safe under the law.
pub record Shows {L : Type 0} (lawful : L → List ℕ → Type 0) (may : L → List ℕ → List ℕ → Type 0) (c : Simulation L) (w : World) : Type 0 where
  pub words : w ≡ world_of (terms_in c) c.words c.history w.view
  pub attempts : (p : ℕ) → IsCaller (terms_in c) p → attempt_of w p ≡ attempt_in c p
  pub safe : Safe (lawful c.law) (may c.law) (terms_in c) w

-- The law, the opening heap and the settings are as before.
pub record HasSameTerms {L : Type 0} (before after : Simulation L) : Type 0 where
  pub law : after.law ≡ before.law
  pub opening : after.opening ≡ before.opening
  pub settings : after.settings ≡ before.settings

-- The event may happen in each world that is shown before it, and the world after it is shown then.
pub record Happens {L : Type 0} (lawful : L → List ℕ → Type 0) (may : L → List ℕ → List ℕ → Type 0) (before : Simulation L) (event : Event) (after : Simulation L) : Type 0 where
  pub terms : HasSameTerms before after
  pub able : (w : World) → Shows lawful may before w → MayHappen (terms_in before) w event
  pub shows : (w : World) → Shows lawful may before w → Shows lawful may after (happened w event)

-- Where the caller's attempt would win the exchange of the clock next, its writes meet what is owed.
abbrev pub MeetsOwedNext : {L : Type 0} → (L → List ℕ → Type 0) → (L → List ℕ → List ℕ → Type 0) → Simulation L → ℕ → Type 0
MeetsOwedNext lawful may c p =
    next (attempt_in c p) ≡ Some (ExchangeClock (slice_index c.words 0))
    → Owes (lawful c.law) (may c.law) (length c.opening) (attempt_in c p).notes (attempt_in c p).now.writes

-- How an attempt ended is true of it: the stamp is the place of its own entry in the history, the prefix is its own, and the attempt shows the cause.
unfoldable pub IsTrueOf : List Entry → Attempt → Ending → Type 0
IsTrueOf history t (ended.Committed stamp) = (0 < stamp) × (stamp ≤ length history) × (entry_after history (stamp - 1) ≡ entry_of t)
IsTrueOf history t (ended.Read prefix) = prefix ≡ t.prefix
IsTrueOf history t (ended.Rolled cause prefix) = (prefix ≡ t.prefix) × IsShown t cause

-- What comes next tells the truth: how the attempt ended, or the cause with which it was refused, which it shows.
unfoldable pub TellsTruth : List Entry → Attempt → Next → Type 0
TellsTruth history t (Reply (reply.Stopped cause)) = IsShown t cause
TellsTruth history t (Reply (reply.Ended ending)) = IsTrueOf history t ending
TellsTruth history t next = Unit {0}

-- what comes next is a reply, or a before-commit body has its turn, or there is no attempt: nothing is done by itself
abbrev pub replies : Option Next → Bool
replies None = true
replies (Some (Before token)) = true
replies (Some (Reply reply)) = true
replies (Some next) = false

-- The exchange of the clock comes next, the one thing that an attempt does by itself and that may want memory.
unfoldable pub IsToDecide : Option Next → Type 0
IsToDecide (Some (Decide old)) = Unit {0}
IsToDecide next = ⊥

-- The attempt is over, and nothing is due.
pub record IsOver (t : Attempt) : Type 0 where
  pub ended : t.stage ≡ Ended
  pub nothing_due : t.due ≡ []

-- A caller's next attempt may begin: its latest is over, and it has made fewer than the settings allow.
pub record MayBegin {L : Type 0} (c : Simulation L) (p : ℕ) : Type 0 where
  pub over : IsOver (attempt_in c p)
  pub serial : (attempt_in c p).serial < c.settings.attempts

-- what a caller's attempt does by itself: what is due first, or else its next access
abbrev pub turn_of : ℕ → List Due → Event
turn_of p [] = Steps p
turn_of p (due ∷ dues) = Moves p Does

-- The caller's attempt is the same one as before, if it has begun one.
pub record IsSameOf {L : Type 0} (p : ℕ) (before after : Simulation L) : Type 0 where
  pub begun : IsSome (machine_at before p) → IsSome (machine_at after p)
  pub same : IsSameAttempt (attempt_in before p) (attempt_in after p)

-- An attempt takes the ask wherever its body waits for one, over so many cells, if a level is open.
pub record IsAlwaysTaken (size : ℕ) (ask : Ask) : Type 0 where
  pub able : (t : Attempt) → t.turn ≡ 0 → 0 < length t.saved → MayAsk size t ask

-- A before-commit body has its turn and waits to ask.
pub record WaitsLate (t : Attempt) : Type 0 where
  pub waits : AwaitsAsk t
  pub late : 0 < t.turn

-- The attempt waits to be asked and may take the ask, over so many cells.
pub record IsAskable (size : ℕ) (t : Attempt) (ask : Ask) : Type 0 where
  pub waits : AwaitsAsk t
  pub able : MayAsk size t ask

-- ---- how much it may do by itself

-- how many handlers these books hold, each one for itself
abbrev pub hooks_in : List Book → ℕ
hooks_in [] = 0
hooks_in (book ∷ books) = length book.hooks + hooks_in books

-- Each access may bring one ring and a run of each handler.
abbrev pub moves_left : Option Machine → ℕ
moves_left None = 0
moves_left (Some machine) = (hooks_in (machine.attempt.now ∷ machine.attempt.saved) + 2) * machine.left + length machine.attempt.due

-- how much a caller's attempt may do by itself before it replies
abbrev pub left_of : {L : Type 0} → Simulation L → ℕ → ℕ
left_of c p = moves_left (machine_at c p)

-- ---- what holds of it

-- The invariant: it shows a world, and its settings fit.
pub record Invariant {L : Type 0} (lawful : L → List ℕ → Type 0) (may : L → List ℕ → List ℕ → Type 0) (c : Simulation L) : Type 0 where
  pub size : length c.machines ≡ c.settings.callers
  pub fits : SettingsFit c.settings
  pub attempts : c.settings.attempts ≤ MAX_SERIAL
  pub world : World
  pub shows : Shows lawful may c world

-- The invariant, on a table for so many callers and with this limit of the clock.
pub record InvariantOn {L : Type 0} (lawful : L → List ℕ → Type 0) (may : L → List ℕ → List ℕ → Type 0) (count clock : ℕ) (c : Simulation L) : Type 0 where
  pub callers : count ≡ c.settings.callers
  pub limit : clock ≡ c.settings.clock
  pub whole : Invariant lawful may c
