-- Buffered cells and reads by their notes.
use Rattle.std.proofs.Common.{◌≡◌, ℕ, zero, suc, ◌+◌, ◌-◌, ◌<◌, ◌≤◌, arith, List, [], ◌∷◌, ◌++◌, drop, length, slice_get, Some, refl, ap, sym, ◌∙◌, get_or, add-one, drop-cons}
use Rattle.op_commit.specs.Buffered.{buffered}
use Rattle.stm_model.specs.declared.note.Note.{Note}
use Rattle.stm_model.specs.Attempt.{Write}

-- the write that a note stands for
abbrev pub write_of : Note → Write
write_of note = (note.addr.0, note.value)

drop-at : (writes : List Write) (index : ℕ) (note : Note) → slice_get (buffered writes) index ≡ Some note → drop index writes ≡ write_of note ∷ drop (suc index) writes
drop-at [] index note here = cc here
drop-at (write ∷ writes) zero note here = cc here
drop-at (write ∷ writes) (suc index) note here = drop-at writes index note here

-- At a note stands its write.
pub drop-write : (writes : List Write) (index : ℕ) (note : Note) → slice_get (buffered writes) index ≡ Some note → drop index writes ≡ write_of note ∷ drop (index + 1) writes
drop-write writes index note here =
    let next : index + 1 ≡ suc index = omega arith in
    rw next (drop-at writes index note here)

pub length-buffered : (writes : List Write) → length writes ≡ length (buffered writes)
length-buffered [] = refl
length-buffered (write ∷ writes) = ap suc (length-buffered writes)

-- The same where other notes stand behind them.
drop-front : (writes : List Write) (reads : List Note) (index : ℕ) (note : Note) → index < length writes → slice_get (buffered writes ++ reads) index ≡ Some note →
    drop index writes ≡ write_of note ∷ drop (suc index) writes
drop-front [] reads index note within here = absurd (omega arith)
drop-front (write ∷ writes) reads zero note within here = cc here
drop-front (write ∷ writes) reads (suc index) note within here = drop-front writes reads index note (omega arith) here

pub drop-buffered : (writes : List Write) (reads : List Note) (index : ℕ) (note : Note) → index < length writes → slice_get (buffered writes ++ reads) index ≡ Some note →
    drop index writes ≡ write_of note ∷ drop (index + 1) writes
drop-buffered writes reads index note within here =
    let next : index + 1 ≡ suc index = omega arith in
    rw next (drop-front writes reads index note within here)

drop-at-note : (reads : List Note) (index : ℕ) (note : Note) → slice_get reads index ≡ Some note → drop index reads ≡ note ∷ drop (suc index) reads
drop-at-note [] index note here = cc here
drop-at-note (first ∷ reads) zero note here = cc here
drop-at-note (first ∷ reads) (suc index) note here = drop-at-note reads index note here

-- At a note it stands first.
pub drop-note : (reads : List Note) (index : ℕ) (note : Note) → slice_get reads index ≡ Some note → drop index reads ≡ note ∷ drop (index + 1) reads
drop-note reads index note here =
    let next : index + 1 ≡ suc index = omega arith in
    rw next (drop-at-note reads index note here)

get-behind : (writes : List Write) (reads : List Note) (index : ℕ) → length writes ≤ index → slice_get (buffered writes ++ reads) index ≡ slice_get reads (index - length writes)
get-behind [] reads index behind =
    let all : index - 0 ≡ index = omega arith in
    rw all refl
get-behind (write ∷ writes) reads zero behind = absurd (omega arith)
get-behind (write ∷ writes) reads (suc index) behind =
    let same : suc index - length (write ∷ writes) ≡ index - length writes = omega arith in
    rw same (get-behind writes reads index (omega arith))

-- At a note behind them stands what was read.
pub drop-read : (writes : List Write) (reads : List Note) (index : ℕ) (note : Note) → length writes ≤ index → slice_get (buffered writes ++ reads) index ≡ Some note →
    drop (index - length writes) reads ≡ note ∷ drop (index + 1 - length writes) reads
drop-read writes reads index note behind here =
    let next : index + 1 - length writes ≡ suc (index - length writes) = omega arith in
    rw next (drop-at-note reads (index - length writes) note (sym (get-behind writes reads index behind) ∙ here))

-- so many notes in all
pub length-all : (writes : List Write) (reads : List Note) → length (buffered writes ++ reads) ≡ length writes + length reads
length-all [] reads = omega arith
length-all (write ∷ writes) reads = omega (arith, length-all writes reads)

-- somewhere among them
pub drop-within : (writes : List Write) (index : ℕ) → index < length writes → drop index writes ≡ get_or writes index (0, 0) ∷ drop (index + 1) writes
drop-within writes index within = rw (add-one, drop-cons writes index (0, 0)) refl
