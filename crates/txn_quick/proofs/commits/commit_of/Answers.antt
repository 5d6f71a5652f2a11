use Rattle.std.proofs.Common.{List, refl, sym, ap, arith}
use Rattle.op_commit.proofs.Buffered.{length-all}
use Rattle.stm_core.specs.Running.{base}
use Rattle.stm_model.specs.After.{at}
use Rattle.stm_model.specs.Attempt.{Due, Prepare}
use Rattle.txn_quick.proofs.Steps.{none_due_so}
use Rattle.txn_quick.proofs.commits.commit_of.Goals as goal

pub returns-clause-begins : goal.returns-clause-begins
returns-clause-begins c =
    let r = c.args.running.now in
    ap (λ (due : List Due). at (record (base r) { due = due }) Prepare) (sym (none_due_so r c.requires.free.nothing_due))

pub returns-clause-commits : goal.returns-clause-commits
returns-clause-commits c =
    let r = c.args.running.now in
    let numbers = c.requires.free.fits.numbers in
    let many = length-all r.footprint.writes.writes r.footprint.reads.notes in
    record {
      made_for = record { own = refl; serial = refl; tries = refl; limit = refl; writes = sym c.len.ensures.count };
      along = record { serial = numbers.serials; limit = numbers.limits.clock; writes = omega (arith, many, c.len.ensures.count); place = tt };
    }
