use Rattle.std.proofs.Common.{refl, arith}
use Rattle.std.proofs.lemmas.Bool.Decides.{nat_tests}
use Rattle.script_text.proofs.LineCounts.{may_be_traced}
use Rattle.trace_tests.specs.Jobs.{plain_settings}
use Rattle.trace_tests.proofs.jobs.job_of.Goals as goal

pub returns : goal.returns
returns g c =
    may_be_traced c.args.text.now c.in_ok-parse.field-0 (plain_settings c.in_ok-parse.field-0) c.in_ok-parse.ensures.parsed (grind (arith, nat_tests)) refl
