-- Which heaps of what a seat has seen are possible by the notes of its attempt that is over.
use Rattle.std.proofs.Common.{◌≡◌, ℕ, ◌-◌, ◌<◌, ◌≤◌, List, length, Option, Some, subst, arith}
use Rattle.std.specs.List.{All}
use Rattle.ref_table.specs.Seats.{SeatState}
use Rattle.ref_table.specs.Seen.{SafeSeat}
use Rattle.stm_model.specs.Attempt.{Ended, Stage}
use Rattle.stm_model.specs.Heap.{Agrees}
use Rattle.stm_model.specs.History.{Entry, IsCurrent, state}
use Rattle.stm_model.specs.Owes.{IsPossible}
use Rattle.stm_model.specs.Safe.{HasBegun, IsKept, Opaque}
use Rattle.stm_model.specs.World.{Terms, cells_in}
use Rattle.stm_model.specs.declared.ending.Ending.{Ending}
use Rattle.stm_model.specs.declared.ending.Ending.TheVariants.{Committed}
use Rattle.stm_model.specs.declared.note.Note.{Note}
use Rattle.stm_model.proofs.HistoryLemmas.{Agrees-from_current, AreWords-state, length-state}

over_begun : (stage : Stage) → stage ≡ Ended → HasBegun stage
unfolding HasBegun
over_begun stage is = rw is tt

pub over_kept : (stage : Stage) (known : Option Ending) (ending : Ending) → stage ≡ Ended → known ≡ Some ending → IsKept stage known
unfolding IsKept
over_kept stage known ending over is = rw (over, is) tt

module _ (lawful : List ℕ → Type 0) (may : List ℕ → List ℕ → Type 0) (terms : Terms) (seat : SeatState) (safe : SafeSeat lawful may terms seat) where
  -- the heap after so many entries
  abbrev heap_at : ℕ → List ℕ
  heap_at n = state terms.opening seat.seen n

  pub possible_at : (n : ℕ) (notes : List Note) → n ≤ length seat.seen → Agrees notes (heap_at n) → IsPossible lawful (cells_in terms) notes (heap_at n)
  possible_at n notes low agrees = record {
    cells = length-state terms.opening seat.seen n;
    words = AreWords-state terms.opening seat.seen n safe.seen.legal.opening_words safe.seen.legal.entries;
    keeps_law = safe.seen.law.each n low;
    agrees = agrees;
  }

  pub ended_opaque : (ending : Ending) → seat.view.attempt.stage ≡ Ended → seat.view.attempt.ending ≡ Some ending → Opaque terms.opening seat.seen seat.view.since seat.view.attempt
  ended_opaque ending over is = safe.attempt.opaque (over_begun seat.view.attempt.stage over) (over_kept seat.view.attempt.stage seat.view.attempt.ending ending over is)

  -- that at its prefix
  pub possible_at_prefix : (ending : Ending) → seat.view.attempt.stage ≡ Ended → seat.view.attempt.ending ≡ Some ending
      → IsPossible lawful (cells_in terms) seat.view.attempt.notes (heap_at seat.view.attempt.prefix)
  possible_at_prefix ending over is =
      let seen = ended_opaque ending over is in possible_at seat.view.attempt.prefix seat.view.attempt.notes seen.prefix seen.notes

  -- that before its own entry
  pub possible_at_stamp : (stamp : ℕ) → seat.view.attempt.ending ≡ Some (Committed stamp) → IsPossible lawful (cells_in terms) seat.view.attempt.notes (heap_at (stamp - 1))
  possible_at_stamp stamp is =
      let so = safe.attempt.committed stamp is in
      let above : 0 < stamp = so.0 in
      let high : stamp ≤ length seat.seen = so.1 in
      let within : stamp - 1 < length seat.seen = omega arith in
      let reads : All (IsCurrent terms.opening seat.seen (stamp - 1)) seat.view.attempt.notes =
      subst (λ (entry : Entry). All (IsCurrent terms.opening seat.seen (stamp - 1)) entry.reads) so.2 (safe.seen.legal.reads (stamp - 1) within) in
      possible_at (stamp - 1) seat.view.attempt.notes (omega arith) (Agrees-from_current terms.opening seat.seen (stamp - 1) seat.view.attempt.notes reads)
