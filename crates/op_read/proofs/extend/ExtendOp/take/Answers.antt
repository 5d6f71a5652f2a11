use Rattle.std.proofs.Common.{◌≡◌, true, false, sym, ◌∙◌}
use Rattle.meta_word.specs.Meta.{meta_of, still_has}
use Rattle.op_read.proofs.Along.{ends-stale, validates}
use Rattle.op_read.proofs.extend.ExtendOp.take.Goals as goal

pub returns-then-still_has-clause-after : goal.returns-then-still_has-clause-after
returns-then-still_has-clause-after g c = λ t cell left first nothing same reads.
    let still : still_has t.own c.at-note.result.version (meta_of c.args.answer) ≡ true = rw (reads.own, sym c.unpack_meta-found.ensures.fields) (sym c.still_has.ensures ∙ c.if-still_has.true) in
    rw c.in-ExtendNote.is (validates t cell left first c.in-ExtendNote.clock c.in-ExtendNote.index c.at-note.result (rw same c.at-note.ensures) c.args.answer nothing still
    ∙ c.validate_from-then-still_has.ensures.after t cell left first (rw same (sym c.len-count.ensures)))

pub returns-else-still_has-clause-after : goal.returns-else-still_has-clause-after
returns-else-still_has-clause-after g c = λ t cell left first nothing same reads.
    let stale : still_has t.own c.at-note.result.version (meta_of c.args.answer) ≡ false = rw (reads.own, sym c.unpack_meta-found.ensures.fields) (sym c.still_has.ensures ∙ c.if-still_has.false) in
    rw c.in-ExtendNote.is (rw (c.stale.ensures, c.unpack_meta-found.ensures.fields) (ends-stale t cell left first c.in-ExtendNote.clock c.in-ExtendNote.index c.at-note.result (rw same c.at-note.ensures) c.args.answer nothing stale))
