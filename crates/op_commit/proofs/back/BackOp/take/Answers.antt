use Rattle.std.proofs.Common.{◌≡◌, sym, ◌∙◌, length}
use Rattle.meta_word.specs.Meta.{meta_of}
use Rattle.op_commit.proofs.Backs.{goes-releasing}
use Rattle.op_commit.proofs.Buffered.{length-buffered}
use Rattle.op_commit.specs.Back.{due_at}
use Rattle.stm_model.specs.After.{ring_if}
use Rattle.op_commit.proofs.back.BackOp.take.Goals as goal

pub returns-in-Cell-clause-after : goal.returns-in-Cell-clause-after
returns-in-Cell-clause-after g c = λ t nothing backs same.
    let op = c.args.self.now in
    let count : length t.now.writes ≡ c.len-count.result = length-buffered t.now.writes ∙ rw same at (sym c.len-count.ensures) in
    let rung = c.cell_to_ring-self.result in
    let dues = due_at c.release_from-self.result op.whole rung t in
    let ring : dues ≡ ring_if (meta_of c.args.answer).pending c.at.result.addr.0 = rw (← c.unpack_meta.ensures.fields) (c.release_from-self.ensures.due t rung ∙ c.cell_to_ring-self.ensures) in
    rw c.in-Cell.is (goes-releasing t c.in-Cell.index c.at.result (rw same at c.at.ensures) op.whole c.args.answer dues nothing ring
    ∙ c.release_from-self.ensures.shows (record t { due = dues }) count)
