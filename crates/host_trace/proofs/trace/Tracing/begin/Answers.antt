use Rattle.std.proofs.Common.{◌≡◌, ◌-◌, refl, sym, ◌∙◌, arith}
use Rattle.std.specs.Vec.{with_item}
use Rattle.std.proofs.lemmas.List.{get_or_default}
use Rattle.std.proofs.lemmas.Result.{on_ok_weaker}
use Rattle.host_trace.proofs.Beginning.{allowed_there, may_there, traces_begun}
use Rattle.host_trace.proofs.trace.Tracing.begin.Goals as goal

pub begin-requires-clause-may : goal.begin-requires-clause-may
begin-requires-clause-may c =
    let stands = c.requires.stands in
    may_there stands.traces c.requires.worker (c.requires.may stands.trace stands.traces) (c.requires.rests stands.trace stands.traces)

pub begin-requires-clause-allowed : goal.begin-requires-clause-allowed
begin-requires-clause-allowed c =
    let stands = c.requires.stands in
    allowed_there stands.traces c.requires.worker c.index.result.now c.index.ensures c.at.result.now c.at-script.result.now c.at.ensures c.at-script.ensures

pub returns : goal.returns
returns c =
    let t = c.args.self.now in
    let there = c.requires.stands.traces.workers in
    let same : c.index.result.now ≡ c.index_mut.result.now =
    c.index.ensures ∙ get_or_default t.workers.items (c.args.worker - 1) c.index.result.now c.index_mut.result.now (omega (arith, there, c.requires.worker.0, c.requires.worker.1)) ∙ sym c.index_mut.ensures.value in
    on_ok_weaker c.begin.result
    (λ on. record {
      job = refl;
      settings = refl;
      traces = λ s traces.
          traces_begun traces c.requires.worker c.index_mut.result.now c.index_mut.ensures.value c.at.result.now c.at-script.result.now c.at.ensures (rw same at c.at-script.ensures)
          (c.requires.may s traces) c.begin.new.simulation c.begin.new.self on
          (record t { simulation = c.begin.new.simulation; workers = with_item t.workers (c.args.worker - 1) c.begin.new.self }) refl refl refl refl refl;
    }) c.begin.ensures
