use Rattle.std.proofs.Common.{◌≡◌, ◌<◌, ◌≤◌, ◌+◌, true, false, length, None, sym, ◌∙◌}
use Rattle.meta_word.specs.Meta.{meta_of, still_has}
use Rattle.op_commit.proofs.Buffered.{drop-buffered, drop-read, drop-within, length-all, write_of}
use Rattle.op_commit.proofs.Commits.{ends-stale, validates, goes-marking, goes-releasing, goes-storing, loads-clock, decides, prepares, whatever-due}
use Rattle.op_commit.specs.Commit.{due_at}
use Rattle.stm_model.specs.After.{ring_if}
use Rattle.op_commit.proofs.commit.CommitOp.take.Goals as goal

pub returns-in-Prepare-clause-after : goal.returns-in-Prepare-clause-after
returns-in-Prepare-clause-after g c = λ t nothing commits same.
    let found = rw (← c.unpack_status.ensures.fields) at (prepares t nothing c.args.answer) in
    rw c.in-Prepare.is (found ∙ c.after_prepare-self.ensures.shows t nothing (whatever-due c.args.self.now None t t.due commits))

pub returns-in-Decide-clause-after : goal.returns-in-Decide-clause-after
returns-in-Decide-clause-after g c = λ t nothing commits same.
    rw c.in-Decide.is (decides t nothing c.in-Decide.lost c.in-Decide.clock c.args.answer
    ∙ c.after_decide-self.ensures.shows t nothing (whatever-due c.args.self.now None t t.due commits))

pub returns-in-CommitClock-clause-after : goal.returns-in-CommitClock-clause-after
returns-in-CommitClock-clause-after g c = λ t nothing commits same.
    let op = c.args.self.now in
    let dues = due_at c.validate_from-self.result None t in
    let count : c.len-count.result ≡ op.writes + length t.notes = rw (c.len-count.ensures, same, ← commits.writes) (length-all t.now.writes t.notes) in
    rw c.in-CommitClock.is (loads-clock t nothing c.in-CommitClock.lost c.args.answer op.writes dues (c.validate_from-self.ensures.due t)
    ∙ c.validate_from-self.ensures.shows (record t { due = dues }) (whatever-due op None t dues commits) count)

pub returns-in-Mark-clause-after : goal.returns-in-Mark-clause-after
returns-in-Mark-clause-after g c = λ t nothing commits same.
    let op = c.args.self.now in
    let dues = due_at c.mark_from-self.result None t in
    let within : c.in-Mark.index < length t.now.writes = rw commits.writes (rw c.in-Mark.is at c.requires.along.place) in
    rw c.in-Mark.is (goes-marking t nothing c.in-Mark.index _ (drop-within t.now.writes c.in-Mark.index within) c.args.answer dues (c.mark_from-self.ensures.comes.due t None)
    ∙ c.mark_from-self.ensures.comes.shows (record t { due = dues }) (whatever-due op None t dues commits))

pub returns-in-StoreValues-clause-after : goal.returns-in-StoreValues-clause-after
returns-in-StoreValues-clause-after g c = λ t nothing commits same.
    let op = c.args.self.now in
    let dues = due_at c.store_from-self.result None t in
    let place = rw c.in-StoreValues.is at c.requires.along.place in
    let within : c.in-StoreValues.index < length t.now.writes = rw commits.writes place.0 in
    rw c.in-StoreValues.is (goes-storing t nothing c.in-StoreValues.index _ (drop-within t.now.writes c.in-StoreValues.index within) c.in-StoreValues.stamp c.args.answer dues (c.store_from-self.ensures.comes.due t None)
    ∙ c.store_from-self.ensures.comes.shows (record t { due = dues }) (whatever-due op None t dues commits))

pub returns-in-Release-clause-after : goal.returns-in-Release-clause-after
returns-in-Release-clause-after g c = λ t nothing commits same.
    let op = c.args.self.now in
    let index = c.in-Release.index in
    let rung = c.cell_to_ring-self.result in
    let dues = due_at c.release_from-self.result rung t in
    let place = rw c.in-Release.is at c.requires.along.place in
    let within : index < length t.now.writes = rw commits.writes place.0 in
    let here = drop-buffered t.now.writes t.notes index c.at.result within (rw same at c.at.ensures) in
    let ring : dues ≡ ring_if (meta_of c.args.answer).pending c.at.result.addr.0 = rw (← c.unpack_meta.ensures.fields) (c.release_from-self.ensures.comes.due t rung ∙ c.cell_to_ring-self.ensures) in
    rw c.in-Release.is (goes-releasing t nothing index (write_of c.at.result) here c.in-Release.stamp c.args.answer dues ring
    ∙ c.release_from-self.ensures.comes.shows (record t { due = dues }) (whatever-due op rung t dues commits))

pub returns-then-still_has-clause-after : goal.returns-then-still_has-clause-after
returns-then-still_has-clause-after g c = λ t nothing commits same.
    let op = c.args.self.now in
    let index = c.in-CommitNote.index in
    let note = c.at-note.result in
    let dues = due_at c.validate_from-self-then-still_has.result None t in
    let place = rw c.in-CommitNote.is at c.requires.along.place in
    let behind : length t.now.writes ≤ index = rw commits.writes place.0 in
    let here = rw commits.writes at (drop-read t.now.writes t.notes index note behind (rw same at c.at-note.ensures)) in
    let count : c.len-count.result ≡ op.writes + length t.notes = rw (c.len-count.ensures, same, ← commits.writes) (length-all t.now.writes t.notes) in
    let still : still_has t.own note.version (meta_of c.args.answer) ≡ true = rw (commits.own, sym c.unpack_meta-found.ensures.fields) (sym c.still_has.ensures ∙ c.if-still_has.true) in
    rw c.in-CommitNote.is (validates t nothing c.in-CommitNote.lost c.in-CommitNote.clock index op.writes note here c.args.answer dues (c.validate_from-self-then-still_has.ensures.due t) still
    ∙ c.validate_from-self-then-still_has.ensures.shows (record t { due = dues }) (whatever-due op None t dues commits) count)

pub returns-else-still_has-clause-after : goal.returns-else-still_has-clause-after
returns-else-still_has-clause-after g c = λ t nothing commits same.
    let op = c.args.self.now in
    let index = c.in-CommitNote.index in
    let note = c.at-note.result in
    let place = rw c.in-CommitNote.is at c.requires.along.place in
    let behind : length t.now.writes ≤ index = rw commits.writes place.0 in
    let here = rw commits.writes at (drop-read t.now.writes t.notes index note behind (rw same at c.at-note.ensures)) in
    let stale : still_has t.own note.version (meta_of c.args.answer) ≡ false = rw (commits.own, sym c.unpack_meta-found.ensures.fields) (sym c.still_has.ensures ∙ c.if-still_has.false) in
    rw (c.in-CommitNote.is, c.refused-self.ensures, c.stale.ensures, c.unpack_meta-found.ensures.fields) (ends-stale t nothing c.in-CommitNote.lost c.in-CommitNote.clock index op.writes note here c.args.answer stale)
