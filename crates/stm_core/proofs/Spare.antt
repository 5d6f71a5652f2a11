-- More room changes nothing else.
use Rattle.std.proofs.Common.{◌≡◌, ℕ, ◌≤◌, List, refl, sym, subst, ap, ◌∙◌, arith}
use Rattle.read_set.specs.Reads.{Reads}
use Rattle.stm_core.specs.Running.{HasRoomFor, InvariantAt, IsSound, left_in, shown}
use Rattle.stm_core.specs.declared.running.Running.{Running}
use Rattle.stm_core.specs.declared.running.State.{State}
use Rattle.stm_core.specs.declared.running.State.TheVariants.{Acquire, Announce, Begin, Commit, Ended, Extend, Late, Read, Ready, RollBack, Stopped, Undo, Undone}
use Rattle.stm_core.proofs.Marked.{marked_while_kept}
use Rattle.stm_core.specs.Marked.{AreMarked}
use Rattle.stm_core.specs.Past.{books_in}
use Rattle.stm_model.specs.declared.marks.WriteMark.{WriteMark}
use Rattle.write_buffer.specs.Buffer.{Buffer, IsMark, Keeps}

-- with this room, the rest being the same
abbrev with_room : Running → (reads : Reads) → (writes : Buffer) → Running
with_room r reads writes = record r { footprint = record { reads = reads; writes = writes } }

module _ (r : Running) (spare cells rewrites : ℕ) (replaced : List (ℕ × ℕ)) (more : r.footprint.reads.spare ≤ spare) (more_cells : r.footprint.writes.spare ≤ cells) where
  abbrev roomier : Running
  roomier = with_room r (record { notes = r.footprint.reads.notes; spare = spare }) (record { writes = r.footprint.writes.writes; replaced = replaced; spare = cells; spare_rewrites = rewrites })

  roomier_note : {cell : ℕ} → HasRoomFor r.footprint.reads cell → HasRoomFor roomier.footprint.reads cell
  roomier_note room = record { unnoted = room.unnoted; room = omega (arith, more, room.room) }

  holds_still : (state : State) → InvariantAt r state → InvariantAt roomier state
  unfolding InvariantAt
  holds_still Announce holds = holds
  holds_still Begin holds = holds
  holds_still (Ready told) holds = holds
  holds_still (Late token) holds = holds
  holds_still (Stopped cause) holds = holds
  holds_still (Undo op) holds = (record { made_for = holds.0.made_for; along = holds.0.along; part = holds.0.part; inside = holds.0.inside }, holds.1)
  holds_still (Undone hooks) holds = record { within = holds.within; outer = holds.outer; runs = holds.runs }
  holds_still (Read op) holds = (record { made_for = holds.0.made_for; room = roomier_note holds.0.room }, holds.1)
  holds_still (Extend reading first op) holds =
      (record { made_for = holds.0.made_for; along = holds.0.along; own = holds.0.own; waits = holds.0.waits; room = roomier_note holds.0.room }, holds.1)
  holds_still (Acquire op value) holds =
      (record { made_for = holds.0.made_for; within = holds.0.within; unwritten = holds.0.unwritten; room = omega (arith, more_cells, holds.0.room) }, holds.1)
  holds_still (Commit op) holds = (record { made_for = holds.0.made_for; along = holds.0.along }, holds.1)
  holds_still (RollBack op ending prepared) holds = (record { made_for = holds.0.made_for; along = holds.0.along; whole = holds.0.whole }, holds.1)
  holds_still (Ended ending) holds = holds

holds_with : (r : Running) (reads : Reads) (writes : Buffer) → writes.writes ≡ r.footprint.writes.writes → r.footprint.reads.spare ≤ reads.spare → r.footprint.writes.spare ≤ writes.spare → IsSound r →
    InvariantAt (with_room r (record { notes = r.footprint.reads.notes; spare = reads.spare }) writes) r.state
holds_with r reads writes same more more_cells sound =
    subst (λ cells. InvariantAt (with_room r (record { notes = r.footprint.reads.notes; spare = reads.spare }) (record { writes = cells; replaced = writes.replaced; spare = writes.spare; spare_rewrites = writes.spare_rewrites })) r.state) (sym same)
    (holds_still r reads.spare writes.spare writes.spare_rewrites writes.replaced more more_cells r.state sound.holds)

-- A buffer keeps its own marks.
pub keeps_own : (writes : Buffer) (mark : WriteMark) → IsMark writes mark → Keeps writes writes mark
keeps_own writes mark is = record { still = is; same = refl }

-- With the same notes and writes and no less room it is as sound, and shows the same.
pub sound_with_room : (r : Running) (reads : Reads) (writes : Buffer) → reads.notes ≡ r.footprint.reads.notes → writes.writes ≡ r.footprint.writes.writes →
    r.footprint.reads.spare ≤ reads.spare → r.footprint.writes.spare ≤ writes.spare → ((mark : WriteMark) → IsMark r.footprint.writes mark → Keeps r.footprint.writes writes mark) → IsSound r → IsSound (with_room r reads writes)
sound_with_room r reads writes same_notes same_writes more more_cells keeps sound =
    let marks : AreMarked writes r.handlers r.levels (books_in r.past) = marked_while_kept r.footprint.writes writes r.handlers r.levels (books_in r.past) keeps sound.fits.marks in
    subst (λ notes. IsSound (with_room r (record { notes = notes; spare = reads.spare }) writes)) (sym same_notes)
    (record { fits = record { numbers = sound.fits.numbers; marks = marks }; runs = sound.runs; holds = holds_with r reads writes same_writes more more_cells sound })

pub shown_with_room : (r : Running) (reads : Reads) (writes : Buffer) → reads.notes ≡ r.footprint.reads.notes → writes.writes ≡ r.footprint.writes.writes → shown (with_room r reads writes) ≡ shown r
shown_with_room r reads writes same_notes same_writes =
    ap (λ notes. shown (with_room r (record { notes = notes; spare = reads.spare }) writes)) same_notes
    ∙ ap (λ cells. shown (with_room r (record { notes = r.footprint.reads.notes; spare = reads.spare }) (record { writes = cells; replaced = writes.replaced; spare = writes.spare; spare_rewrites = writes.spare_rewrites }))) same_writes

pub left_with_room : (r : Running) (reads : Reads) (writes : Buffer) → reads.notes ≡ r.footprint.reads.notes → writes.writes ≡ r.footprint.writes.writes → left_in (with_room r reads writes) ≡ left_in r
left_with_room r reads writes same_notes same_writes =
    ap (λ notes. left_in (with_room r (record { notes = notes; spare = reads.spare }) writes)) same_notes
    ∙ ap (λ cells. left_in (with_room r (record { notes = r.footprint.reads.notes; spare = reads.spare }) (record { writes = cells; replaced = writes.replaced; spare = writes.spare; spare_rewrites = writes.spare_rewrites }))) same_writes
