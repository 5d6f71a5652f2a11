-- What is known of an attempt that waits to be asked: a heap is possible by its notes, it writes words, and it has not prepared.
use Rattle.std.proofs.Common.{◌≡◌, ℕ, List, Option}
use Rattle.std.specs.Map.{values_of}
use Rattle.meta_word.specs.declared.status.Phase.{Phase}
use Rattle.meta_word.specs.declared.status.Phase.TheVariants.{Active}
use Rattle.ref_table.specs.Seats.{SeatState}
use Rattle.stm_model.specs.Attempt.{Attempt, Late, Ready, Stage, Stopped}
use Rattle.stm_model.specs.Heap.{AreWords}
use Rattle.stm_model.specs.History.{state}
use Rattle.stm_model.specs.Moves.{AwaitsAsk, AwaitsAskAt}
use Rattle.stm_model.specs.Owes.{IsPossible}
use Rattle.stm_model.specs.Safe.{PhaseAt, SafeAttempt}
use Rattle.stm_model.specs.Telling.{Witness}
use Rattle.stm_model.specs.World.{Terms, World, cells_in}
use Rattle.stm_model.specs.declared.ending.Ending.{Ending}
use Rattle.stm_model.proofs.HistoryLemmas.{Agrees-from_current, AreWords-state, length-state}
use Rattle.txn_drive.specs.Standing.{IsOn}
use Rattle.txn_drive.proofs.Here.{attempt_is_safe, safe_here, world_here}

active_at : (stage : Stage) (ending : Option Ending) (phase : Phase) → AwaitsAskAt stage → PhaseAt stage ending phase → phase ≡ Active
unfolding AwaitsAskAt PhaseAt
active_at (Ready told) ending phase waits is = is
active_at (Late token) ending phase waits is = is
active_at (Stopped cause) ending phase waits is = is
active_at stage ending phase waits is = absurd waits

module _ (lawful : List ℕ → Type 0) (may : List ℕ → List ℕ → Type 0) (terms : Terms) (seat : SeatState) (t : Attempt) (on : IsOn lawful may terms seat t) where
  abbrev here : World
  here = world_here lawful may terms seat t on

  is_safe : SafeAttempt terms here seat.number t
  is_safe = attempt_is_safe lawful may terms seat t on

  -- the heap at its prefix
  abbrev pub heap_here : List ℕ
  heap_here = state terms.opening here.history t.prefix

  pub possible_here : IsPossible lawful (cells_in terms) t.notes heap_here
  possible_here =
      let safe = safe_here lawful may terms seat t on in record {
        cells = length-state terms.opening here.history t.prefix;
        words = AreWords-state terms.opening here.history t.prefix safe.legal.opening_words safe.legal.entries;
        keeps_law = safe.law.each t.prefix is_safe.sound.prefix;
        agrees = Agrees-from_current terms.opening here.history t.prefix t.notes is_safe.sound.notes;
      }

  pub witness_here : Witness lawful (cells_in terms) t.notes
  witness_here = (heap_here, possible_here)

  pub words_here : AreWords (values_of t.now.writes)
  words_here = is_safe.sound.entry.words

  pub active_here : AwaitsAsk t → t.phase ≡ Active
  active_here waits = active_at t.stage t.ending t.phase waits.stands is_safe.phase
