use Rattle.std.proofs.Common.{sym, ◌∙◌}
use Rattle.std.proofs.lemmas.Result.{on_ok_weaker}
use Rattle.ledger_model.specs.Traced.{access, begins, turn}
use Rattle.host_trace.proofs.Beginning.{begun_flies, flies_alike, traces_as, traces_on, turn_beginning, turn_flying}
use Rattle.host_trace.proofs.trace.Tracing.turn.Goals as goal

pub returns-then-is_flying : goal.returns-then-is_flying
returns-then-is_flying c =
    let t = c.args.self.now in
    let p = c.args.worker in
    on_ok_weaker c.access.result
    (λ on. traces_as (access p) (turn t.job.now t.settings p) on (λ s traces. turn_flying t.job.now t.settings p s (sym (c.if-is_flying.ensures s traces)))) c.access.ensures

pub access-requires-2-clause-flies : goal.access-requires-2-clause-flies
access-requires-2-clause-flies c = λ s traces.
    let t = c.args.self.now in
    let p = c.args.worker in
    let on = c.in_ok-begin.ensures in
    let stands = c.requires.stands in
    flies_alike traces (on.traces stands.trace stands.traces) (rw on.job c.requires.worker) ∙ begun_flies t.job.now t.settings p stands.trace

pub returns : goal.returns
returns c =
    let t = c.args.self.now in
    let p = c.args.worker in
    on_ok_weaker c.access-2.result
    (λ on. traces_as (λ s. access p (begins t.job.now t.settings p s)) (turn t.job.now t.settings p)
    (traces_on (begins t.job.now t.settings p) (access p) c.in_ok-begin.ensures on)
    (λ s traces. turn_beginning t.job.now t.settings p s (sym (c.if-is_flying.ensures s traces)) (sym (c.if-not-may_begin.ensures s traces)))) c.access-2.ensures
