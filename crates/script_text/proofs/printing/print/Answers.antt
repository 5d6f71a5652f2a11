use Rattle.script_text.proofs.PrintLemmas.{job_put}
use Rattle.script_text.proofs.printing.print.Goals as goal

pub returns : goal.returns
returns c =
    job_put _ _ _ _ _ _ _ _ _ c.args.job.now _ _ _ c.new-text.ensures.items c.in_ok-put.ensures.ok c.in_ok-put_header.ensures c.in_ok-put_header-2.ensures c.in_ok-put_header-3.ensures
    c.in_ok-put_header-4.ensures c.in_ok-put_openings.ensures c.in_ok-put_workers.ensures c.in_ok-put_steps.ensures c.as_slice.ensures c.as_slice-2.ensures c.as_slice-3.ensures
