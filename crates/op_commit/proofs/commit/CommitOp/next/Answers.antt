use Rattle.std.proofs.Common.{◌<◌, ◌≤◌, length, sym}
use Rattle.op_commit.proofs.Buffered.{drop-buffered, drop-read, write_of}
use Rattle.op_commit.proofs.Commits.{loads-note, marks, releases, stores}
use Rattle.op_commit.proofs.commit.CommitOp.next.Goals as goal

pub returns-in-Mark-clause-access : goal.returns-in-Mark-clause-access
returns-in-Mark-clause-access g c = λ going t nothing commits same.
    let index = c.in-Mark.index in
    let note = c.at.result in
    let within : index < length t.now.writes = rw commits.writes (rw c.in-Mark.is at c.requires.place) in
    rw c.in-Mark.is (sym (marks t nothing index (write_of note) (drop-buffered t.now.writes t.notes index note within (rw same at c.at.ensures))))

pub returns-in-StoreValues-clause-access : goal.returns-in-StoreValues-clause-access
returns-in-StoreValues-clause-access g c = λ going t nothing commits same.
    let index = c.in-StoreValues.index in
    let note = c.at-note.result in
    let place = rw c.in-StoreValues.is at c.requires.place in
    let within : index < length t.now.writes = rw commits.writes place.0 in
    rw c.in-StoreValues.is (sym (stores t nothing index (write_of note) (drop-buffered t.now.writes t.notes index note within (rw same at c.at-note.ensures)) c.in-StoreValues.stamp))

pub returns-in-Release-clause-access : goal.returns-in-Release-clause-access
returns-in-Release-clause-access g c = λ going t nothing commits same.
    let index = c.in-Release.index in
    let note = c.at-in-Release.result in
    let place = rw c.in-Release.is at c.requires.place in
    let within : index < length t.now.writes = rw commits.writes place.0 in
    rw (c.in-Release.is, c.released_word.ensures) (sym (releases t nothing index (write_of note) (drop-buffered t.now.writes t.notes index note within (rw same at c.at-in-Release.ensures)) c.in-Release.stamp))

pub returns-in-CommitNote-clause-access : goal.returns-in-CommitNote-clause-access
returns-in-CommitNote-clause-access g c = λ going t nothing commits same.
    let index = c.in-CommitNote.index in
    let note = c.at-in-CommitNote.result in
    let place = rw c.in-CommitNote.is at c.requires.place in
    let behind : length t.now.writes ≤ index = rw commits.writes place.0 in
    rw (c.in-CommitNote.is, ← commits.writes) (sym (loads-note t nothing c.in-CommitNote.lost c.in-CommitNote.clock index (length t.now.writes) note (drop-read t.now.writes t.notes index note behind (rw same at c.at-in-CommitNote.ensures))))
