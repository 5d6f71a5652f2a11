use Rattle.std.proofs.Common.{◌<◌, length, ◌∙◌, sym, arith}
use Rattle.std.specs.Map.{keys_of}
use Rattle.std.proofs.lemmas.Map.Entries.{length-keys_of}
use Rattle.cell_index.proofs.Beside.{first_goes_on}
use Rattle.cell_index.proofs.Room.{key_at}
use Rattle.write_buffer.proofs.buffer.catch_up.Goals as goal

pub loop-index-preserved : goal.loop-index-preserved
loop-index-preserved c =
    let within : c.len-in-loop-index.result < length (keys_of c.args.writes.now) = rw (length-keys_of c.args.writes.now) (omega arith) in
    record {
      first = rw c.push.ensures.addresses
          (first_goes_on c.loop-index.index.addresses (keys_of c.args.writes.now) _ c.len-in-loop-index.result c.loop-index.invariant.first c.len-in-loop-index.ensures.count within
          (sym (key_at c.args.writes.now c.len-in-loop-index.result)));
      room = c.push.ensures.room ∙ c.loop-index.invariant.room;
    }
