-- What calls of cells tell: from the state before to the state after.
use Rattle.std.specs.Prelude.{◌≡◌, ℕ, ◌+◌, ◌<◌, ◌≤◌, ◌⊎◌, true, List, [], ◌∷◌, ◌++◌, length, slice_index, Some, None}
use Rattle.std.specs.List.{Any}
use Rattle.stm_model.specs.declared.cause.Cause.{Cause}
use Rattle.stm_model.specs.declared.note.Note.{Note}
use Rattle.stm_model.specs.Heap.{over, writes_to}
use Rattle.stm_model.specs.Owes.{IsPossible, Owes}
use Rattle.stm_model.specs.CellsState.{CellsState, entered}
use Rattle.stm_model.specs.Refusing.{IsAway, deepest}

-- the list, with more behind it
abbrev pub Extends : {T : Type 0} → List T → List T → Type 0
Extends {T} before after = (more : List T) × (after ≡ before ++ more)

-- a heap that is possible by the notes
abbrev pub Witness : (List ℕ → Type 0) → ℕ → List Note → Type 0
Witness lawful size reads = (heap : List ℕ) × IsPossible lawful size reads heap

-- What is owed of the reads and the writes, while no cause was answered.
abbrev pub Owing : (List ℕ → Type 0) → (List ℕ → List ℕ → Type 0) → CellsState → Type 0
Owing lawful may state = state.cause ≡ None → Owes lawful may state.size state.reads state.now.writes

-- ---- single calls

-- The cell is written or noted.
abbrev pub IsAtHand : ℕ → CellsState → Type 0
IsAtHand address state = (writes_to state.now.writes address ≡ true) ⊎ Any (λ note. note.addr.0 ≡ address) state.reads

-- A note that a read of this cell with this value made. The cell was neither written nor noted before.
pub record IsNewNote (address told : ℕ) (before : CellsState) (note : Note) : Type 0 where
  pub cell : note.addr.0 ≡ address
  pub value : note.value ≡ told
  pub away : IsAway address before

-- A read told the cell's value: what the cell holds under the writes, in each heap that is possible by the notes. It made no note of a cell that was at hand, and else one note, of that value. It changed nothing else.
pub record Got (lawful : List ℕ → Type 0) (address value : ℕ) (before after : CellsState) : Type 0 where
  pub going : before.cause ≡ None
  pub only_reads : after ≡ record before { reads = after.reads }
  pub noted : (IsAtHand address before × (after.reads ≡ before.reads))
      ⊎ ((note : Note) × IsNewNote address value before note × (after.reads ≡ before.reads ++ note ∷ []))
  pub told : (heap : List ℕ) → IsPossible lawful before.size after.reads heap → slice_index (over heap before.now.writes) address ≡ value

-- A call did what it does, since no cause had been answered.
pub record Does (change : CellsState → CellsState) (before after : CellsState) : Type 0 where
  pub going : before.cause ≡ None
  pub is : after ≡ change before

-- A level was opened, since fewer than the most were open.
pub record Enters (before after : CellsState) : Type 0 where
  pub going : before.cause ≡ None
  pub room : length before.saved < deepest
  pub is : after ≡ entered before

-- A call was refused with this cause: the one answered before, or else one of those for such a call. Nothing else changed.
pub record Refused (fresh : Cause → Type 0) (cause : Cause) (before after : CellsState) : Type 0 where
  pub is : after ≡ record before { cause = Some cause }
  pub again : (earlier : Cause) → before.cause ≡ Some earlier → cause ≡ earlier
  pub first : before.cause ≡ None → fresh cause

-- ---- several calls

-- From one moment of the cells to another: the law is the same, the second may follow the first, and their states stand in this relation.
pub record Leads {S L : Type 0} (law : S → L) (follows : S → S → Type 0) (state : S → CellsState) (before after : S)
    (relation : CellsState → CellsState → Type 0) : Type 0 where
  pub same_law : law after ≡ law before
  pub goes : follows before after
  pub states : relation (state before) (state after)

-- There were only reads, and they taught this fact: it holds of each heap that is possible by the notes, under the writes.
pub record Learned (lawful : List ℕ → Type 0) (fact : List ℕ → Type 0) (before after : CellsState) : Type 0 where
  pub only_reads : after ≡ record before { reads = after.reads }
  pub reads : Extends before.reads after.reads
  pub each : (heap : List ℕ) → IsPossible lawful before.size after.reads heap → fact (over heap before.now.writes)

-- There were only reads and writes, and each heap that is possible by the notes stands under the writes before in this relation to itself under those after.
pub record Changed (lawful : List ℕ → Type 0) (step : List ℕ → List ℕ → Type 0) (before after : CellsState) : Type 0 where
  pub only_writes : after ≡ record before { reads = after.reads; now = record before.now { writes = after.now.writes } }
  pub reads : Extends before.reads after.reads
  pub each : (heap : List ℕ) → IsPossible lawful before.size after.reads heap → step (over heap before.now.writes) (over heap after.now.writes)

-- The calls ended with this cause, the one answered before or the first one. As many levels are open as before.
pub record Cut (cause : Cause) (before after : CellsState) : Type 0 where
  pub size : after.size ≡ before.size
  pub reads : Extends before.reads after.reads
  pub saved : after.saved ≡ before.saved
  pub stopped : after.cause ≡ Some cause
  pub again : (earlier : Cause) → before.cause ≡ Some earlier → cause ≡ earlier

-- at most so many notes and writes together came in
abbrev pub AddsAtMost : ℕ → CellsState → CellsState → Type 0
AddsAtMost most before after =
    length after.reads + length after.now.writes ≤ length before.reads + length before.now.writes + most

abbrev pub Reading : {S L : Type 0} → (L → List ℕ → Type 0) → (S → L) → (S → S → Type 0) → (S → CellsState) → S → S → (List ℕ → Type 0) → Type 0
Reading lawful law follows state before after fact = Leads law follows state before after (Learned (lawful (law before)) fact)

abbrev pub Writing : {S L : Type 0} → (L → List ℕ → Type 0) → (S → L) → (S → S → Type 0) → (S → CellsState) → S → S → (List ℕ → List ℕ → Type 0) → Type 0
Writing lawful law follows state before after step = Leads law follows state before after (Changed (lawful (law before)) step)

abbrev pub Stopping : {S L : Type 0} → (S → L) → (S → S → Type 0) → (S → CellsState) → S → S → Cause → Type 0
Stopping law follows state before after cause = Leads law follows state before after (Cut cause)

-- A call ended with this cause: cells stopped it, or the cause is one of the call's own, and there were only reads and writes, which stand in this relation.
abbrev pub Failing : {S L : Type 0} → (L → List ℕ → Type 0) → (S → L) → (S → S → Type 0) → (S → CellsState) → S → S → (Cause → Type 0) → (List ℕ → List ℕ → Type 0) → Cause → Type 0
Failing lawful law follows state before after own step cause =
    Stopping law follows state before after cause ⊎ (own cause × Writing lawful law follows state before after step)

-- ---- what is known at a moment

-- No cause was answered, and this holds of each heap that is possible by the notes, under the writes.
pub record Knows (lawful : List ℕ → Type 0) (fact : List ℕ → Type 0) (state : CellsState) : Type 0 where
  pub going : state.cause ≡ None
  pub each : (heap : List ℕ) → IsPossible lawful state.size state.reads heap → fact (over heap state.now.writes)

-- While no cause was answered, each heap that is possible by the notes is lawful under the writes.
abbrev pub StaysLawful : (List ℕ → Type 0) → CellsState → Type 0
StaysLawful lawful state =
    state.cause ≡ None → (heap : List ℕ) → IsPossible lawful state.size state.reads heap → lawful (over heap state.now.writes)
