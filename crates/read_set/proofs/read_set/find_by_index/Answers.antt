use Rattle.std.proofs.Common.{◌<◌, length, ◌∙◌, sym}
use Rattle.std.proofs.lemmas.List.{length-map}
use Rattle.cell_index.proofs.Beside.{has_all}
use Rattle.read_set.specs.Reads.{cells_of}
use Rattle.read_set.proofs.Among.{noted_at, unnoted}
use Rattle.read_set.proofs.read_set.find_by_index.Goals as goal

pub returns-in_err-place : goal.returns-in_err-place
returns-in_err-place c =
    let many : 32 < length (cells_of c.args.notes.now) = rw (length-map c.args.notes.now _) c.requires.many in
    let all = has_all _ _ c.requires.indexed.cells many in
    c.from_residual.ensures ∙ sym (unnoted c.args.notes.now c.args.addr.0 (rw all at c.in_err-place.ensures))

pub returns : goal.returns
returns c =
    let many : 32 < length (cells_of c.args.notes.now) = rw (length-map c.args.notes.now _) c.requires.many in
    let all = has_all _ _ c.requires.indexed.cells many in
    let found = rw all at c.in_ok-place.ensures in
    sym (noted_at c.args.notes.now c.in_ok-place.place c.args.addr.0 _ c.requires.indexed.apart found.0 found.1)
