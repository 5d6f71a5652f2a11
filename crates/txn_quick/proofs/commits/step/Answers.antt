use Rattle.std.proofs.Common.{refl, sym, ap, ◌∙◌}
use Rattle.ref_table.specs.Seats.{terms_in}
use Rattle.stm_core.specs.Running.{base}
use Rattle.stm_model.specs.Accesses.{next_access}
use Rattle.stm_model.specs.After.{after_word}
use Rattle.stm_model.specs.Attempt.{Attempt}
use Rattle.txn_drive.proofs.Stepped.{accessed}
use Rattle.txn_quick.proofs.Committing.{accessed_commits, clock_found, makes_access, may_commit, same_word, undisturbed_so}
use Rattle.txn_quick.proofs.Steps.{none_due_so}
use Rattle.txn_quick.specs.Committing.{commits_at}
use Rattle.txn_quick.proofs.commits.step.Goals as goal

pub unreachable-requires : goal.unreachable-requires
unreachable-requires g c =
    let r = c.args.running.now in
    let commits = c.requires.here.commits in
    let going = c.requires.undisturbed.going in
    makes_access r c.args.op.now c.requires.quiet commits going (sym (c.next.ensures.access going (base r) (none_due_so r c.requires.quiet.free.nothing_due) commits.made_for refl) ∙ c.in_default.is)

pub perform-found-requires : goal.perform-found-requires
perform-found-requires g c =
    let stm = c.args.stm.now in
    let r = c.args.running.now in
    let op = c.args.op.now in
    let comes = ap next_access (undisturbed_so r op c.requires.quiet c.requires.undisturbed)
    ∙ (sym (c.next.ensures.access c.requires.undisturbed.going (base r) (none_due_so r c.requires.quiet.free.nothing_due) c.requires.here.commits.made_for refl) ∙ c.in-Some.is) in
    let able = may_commit (g.L.Law.lawful stm.law) (g.L.Law.may stm.law) (terms_in stm) r c.args.seat.now op c.in-Some.access c.requires.here comes in
    record { own = c.requires.own; word = able.word; may = record { comes = able.comes; is_next = able.is_next; owes = able.owes } }

pub take-requires-clause-clock : goal.take-requires-clause-clock
take-requires-clause-clock g c =
    let stm = c.args.stm.now in
    let r = c.args.running.now in
    let op = c.args.op.now in
    let comes = ap next_access (undisturbed_so r op c.requires.quiet c.requires.undisturbed)
    ∙ (sym (c.next.ensures.access c.requires.undisturbed.going (base r) (none_due_so r c.requires.quiet.free.nothing_due) c.requires.here.commits.made_for refl) ∙ c.in-Some.is) in
    let able = may_commit (g.L.Law.lawful stm.law) (g.L.Law.may stm.law) (terms_in stm) r c.args.seat.now op c.in-Some.access c.requires.here comes in
    clock_found (terms_in stm) r op c.in-Some.access c.perform-found.result c.requires.quiet c.requires.here.commits c.requires.undisturbed comes able.limit c.perform-found.ensures.fits

pub returns-clause-commits : goal.returns-clause-commits
returns-clause-commits g c =
    let stm = c.args.stm.now in
    let lawful = g.L.Law.lawful stm.law in
    let may = g.L.Law.may stm.law in
    let r = c.args.running.now in
    let op = c.args.op.now in
    let later = c.take.new.self in
    let due = none_due_so r c.requires.quiet.free.nothing_due in
    let made_for = c.requires.here.commits.made_for in
    let is = undisturbed_so r op c.requires.quiet c.requires.undisturbed in
    let comes = ap next_access is ∙ (sym (c.next.ensures.access c.requires.undisturbed.going (base r) due made_for refl) ∙ c.in-Some.is) in
    let able = may_commit lawful may (terms_in stm) r c.args.seat.now op c.in-Some.access c.requires.here comes in
    let finds = sym (ap (λ (t : Attempt). after_word t c.perform-found.result) is ∙ c.take.ensures.after (base r) due made_for refl) in
    let made = c.perform-found.ensures in
    accessed_commits lawful may (terms_in stm) r c.args.seat.now c.perform-found.new.self op later c.in-Some.access c.requires.here
    (record { made_for = c.take.ensures.same (base r) made_for; along = c.take.ensures.along }) comes
    (accessed lawful may (terms_in stm) c.args.seat.now c.perform-found.new.self (commits_at r op) (commits_at r later) c.in-Some.access c.perform-found.result
    able made.same made.steps made.performs made.safe finds (same_word (commits_at r op) (commits_at r later) c.perform-found.result finds))
