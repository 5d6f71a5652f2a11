use Rattle.std.proofs.Common.{◌≢◌}
use Rattle.std.specs.List.{AllWithin}
use Rattle.plain_cells.proofs.book.noted.Given as goal

abbrev pub invariant-loop-note : goal.invariant-loop-note
invariant-loop-note l = AllWithin (λ note. note.addr.0 ≢ l.address) l.notes 0 l.note-index
