use Rattle.std.proofs.Common.{◌-◌, refl}
use Rattle.std.specs.Vec.{with_item}
use Rattle.std.proofs.lemmas.Result.{on_ok_weaker}
use Rattle.host_trace.proofs.Standing.{flies_there, room_there}
use Rattle.host_trace.proofs.Turning.{access_traces}
use Rattle.host_trace.proofs.trace.Tracing.access.Goals as goal

pub access-requires-clause-flies : goal.access-requires-clause-flies
access-requires-clause-flies c =
    let stands = c.requires.stands in
    flies_there stands.traces c.requires.worker c.index_mut.result.now c.index_mut.ensures.value (c.requires.flies stands.trace stands.traces)

pub access-requires-clause-room : goal.access-requires-clause-room
access-requires-clause-room c =
    let stands = c.requires.stands in
    room_there stands.traces c.requires.worker c.index_mut.result.now c.index_mut.ensures.value (c.requires.flies stands.trace stands.traces)

pub returns : goal.returns
returns c =
    let t = c.args.self.now in
    on_ok_weaker c.access.result
    (λ on. access_traces c.requires.worker c.index_mut.result.now c.access.new.self c.index_mut.ensures.value c.access.new.simulation c.access.new.rows
    (record t { simulation = c.access.new.simulation; workers = with_item t.workers (c.args.worker - 1) c.access.new.self; rows = c.access.new.rows }) refl refl refl refl refl on) c.access.ensures
