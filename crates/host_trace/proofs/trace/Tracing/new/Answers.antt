use Rattle.std.proofs.Common.{arith, refl, ◌∙◌}
use Rattle.host_trace.specs.declared.trace.Tracing.{Tracing}
use Rattle.host_trace.proofs.Starting.{opening_size, starts}
use Rattle.host_trace.proofs.trace.Tracing.new.Goals as goal

pub new-requires-clause-size : goal.new-requires-clause-size
new-requires-clause-size c =
    let size = opening_size c.args.job.now in
    let most = c.requires.may.fits.refs in
    rw c.requires.refs (omega (arith, size, most))

pub returns : goal.returns
returns c =
    let simulation = c.in_ok-new.field-0 in
    let workers = c.in_ok-new_workers.field-0 in
    let t : Tracing = record { alloc = c.args.alloc; job = c.args.job; settings = c.args.settings; simulation = simulation; workers = workers; rows = c.new-2.result } in
    record {
      job = refl;
      settings = refl;
      traces =
          starts t c.requires.may (c.in_ok-new.ensures.opening ∙ c.requires.refs) c.in_ok-new.ensures.settings c.in_ok-new.ensures.opens
          (c.in_ok-new_workers.ensures.count ∙ c.len.ensures) c.in_ok-new_workers.ensures.new c.new-2.ensures;
    }
