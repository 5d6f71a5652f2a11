-- Private: the attempts of a simulation by their places, and what changes there.
use Rattle.std.specs.Prelude.{◌≡◌, ℕ, ◌<◌, ◌^◌, ◌⊎◌, List, length, slice_index_or, slice_set, Option, Some, None}
use Rattle.stm_core.specs.declared.next.Next.{Next}
use Rattle.stm_core.specs.declared.next.Next.TheVariants.{Reply}
use Rattle.stm_core.specs.declared.next.Reply.TheVariants as reply
use Rattle.stm_core.specs.Machine.{IsRefused, IsSameAttempt, Machine, MayTake}
use Rattle.stm_model.specs.After.{after_word}
use Rattle.stm_model.specs.Attempt.{Attempt}
use Rattle.stm_model.specs.Moves.{Does, EndsLate, Takes, moved}
use Rattle.stm_model.specs.Refusing.{IsOfBody}
use Rattle.stm_model.specs.declared.access.Ask.{Ask}
use Rattle.stm_model.specs.declared.access.Ask.TheVariants.{Abandon, Finish, Get, Keep, Set, Undo}
use Rattle.world_run.specs.Simulation.{IsAskable, WaitsLate}

-- Of these attempts the one at this place changes.
pub record Changes (before after : List (Option Machine)) (place : ℕ) (was now : Machine) : Type 0 where
  pub within : place < length before
  pub there : slice_index_or before place None ≡ Some was
  pub others : after ≡ slice_set before place (Some now)
  pub same : IsSameAttempt was.attempt now.attempt

-- The attempt at this place was given the word that its access found.
pub record IsGivenWord (before after : List (Option Machine)) (place found : ℕ) : Type 0 where
  pub was : Machine
  pub now : Machine
  pub changes : Changes before after place was now
  pub attempt : now.attempt ≡ after_word was.attempt found
  pub falls : now.left < was.left

-- What was due first was done for the attempt at this place.
pub record IsDone (before after : List (Option Machine)) (place : ℕ) : Type 0 where
  pub was : Machine
  pub now : Machine
  pub changes : Changes before after place was now
  pub attempt : now.attempt ≡ moved was.attempt Does
  pub left : now.left ≡ was.left

-- The attempt at this place was asked: it took the ask, or refused it, out of memory.
pub record IsAsked (before after : List (Option Machine)) (place : ℕ) (ask : Ask) : Type 0 where
  pub was : Machine
  pub now : Machine
  pub changes : Changes before after place was now
  pub moves : (now.attempt ≡ moved was.attempt (Takes ask)) ⊎ IsRefused was.attempt ask now.attempt

-- The before-commit body of the attempt at this place is over.
pub record IsPastLate (before after : List (Option Machine)) (place : ℕ) : Type 0 where
  pub was : Machine
  pub now : Machine
  pub changes : Changes before after place was now
  pub attempt : now.attempt ≡ moved was.attempt EndsLate

-- This attempt stands at the place.
pub record StandsAt (machines : List (Option Machine)) (place : ℕ) (machine : Machine) : Type 0 where
  pub within : place < length machines
  pub there : slice_index_or machines place None ≡ Some machine

-- The attempt at this place may be given the word.
pub record MayBeGiven (machines : List (Option Machine)) (place found : ℕ) : Type 0 where
  pub machine : Machine
  pub stands : StandsAt machines place machine
  pub able : MayTake machine.attempt found

-- Something is due for the attempt at this place.
pub record HasDue (machines : List (Option Machine)) (place : ℕ) : Type 0 where
  pub machine : Machine
  pub stands : StandsAt machines place machine
  pub due : 0 < length machine.attempt.due

-- A before-commit body of the attempt at this place waits to ask.
pub record HasLate (machines : List (Option Machine)) (place : ℕ) : Type 0 where
  pub machine : Machine
  pub stands : StandsAt machines place machine
  pub waits : WaitsLate machine.attempt

-- The attempt at this place may be asked.
pub record MayBeAsked (machines : List (Option Machine)) (place : ℕ) (ask : Ask) : Type 0 where
  pub machine : Machine
  pub stands : StandsAt machines place machine
  pub askable : IsAskable (2 ^ 32) machine.attempt ask

-- An attempt that waits with this reply may take the ask, over so many cells.
unfoldable pub TakesAsk : ℕ → Attempt → Next → Ask → Type 0
TakesAsk size t told (Get cell) = cell.0 < size
TakesAsk size t told (Set cell value) = (cell.0 < size) × (value < 2 ^ 64)
TakesAsk size t told Keep = 0 < length t.saved
TakesAsk size t told Undo = 0 < length t.saved
TakesAsk size t told Finish = t.turn ≡ 0
TakesAsk size t told (Abandon cause) = IsOfBody cause ⊎ (told ≡ Reply (reply.Stopped cause))
TakesAsk size t told ask = Unit {0}
