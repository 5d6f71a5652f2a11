use Rattle.std.proofs.Common.{◌∙◌, None, sym, subst, inl}
use Rattle.ref_table.specs.Seats.{terms_in}
use Rattle.stm_core.specs.Running.{shown}
use Rattle.stm_model.specs.Attempt.{Attempt}
use Rattle.stm_model.specs.declared.access.Ask.TheVariants.{Finish}
use Rattle.txn_drive.proofs.Asking.{put_so}
use Rattle.txn_drive.proofs.Onward.{continues_on}
use Rattle.txn_drive.specs.Moment.{moment}
use Rattle.txn_drive.specs.Paying.{IsLed}
use Rattle.txn_quick.proofs.Finishing.{plain_quiet, reader_asked, writer_asked}
use Rattle.txn_quick.specs.Committing.{to_close, to_commit}
use Rattle.txn_quick.proofs.commits.finish.Goals as goal

pub end_reader-requires-clause-quiet : goal.end_reader-requires-clause-quiet
end_reader-requires-clause-quiet g c = plain_quiet c.args.running.now (c.is_plain.ensures c.if-not-is_plain.false) c.requires.sound c.requires.waits

pub end_reader-requires-clause-on : goal.end_reader-requires-clause-on
end_reader-requires-clause-on g c =
    let stm = c.args.stm.now in
    let r = c.args.running.now in
    let plain = (c.is_plain.ensures c.if-not-is_plain.false) in
    (put_so (g.L.Law.lawful stm.law) (g.L.Law.may stm.law) (terms_in stm) c.args.seat.now (g.H.Hooks.runs c.args.hooks.now) (g.R.Bell.rings c.args.bell.now) (shown r) (to_close r)
    c.requires.on c.requires.waits Finish c.requires.may (λ is. c.requires.owes)
    (inl (reader_asked r plain (plain_quiet r plain c.requires.sound c.requires.waits) (sym c.len.ensures.count ∙ c.if-len-eq0.true)))).on

pub commit-requires-clause-quiet : goal.commit-requires-clause-quiet
commit-requires-clause-quiet g c = plain_quiet c.args.running.now (c.is_plain.ensures c.if-not-is_plain.false) c.requires.sound c.requires.waits

pub commit-requires-clause-on : goal.commit-requires-clause-on
commit-requires-clause-on g c =
    let stm = c.args.stm.now in
    let r = c.args.running.now in
    (put_so (g.L.Law.lawful stm.law) (g.L.Law.may stm.law) (terms_in stm) c.args.seat.now (g.H.Hooks.runs c.args.hooks.now) (g.R.Bell.rings c.args.bell.now) (shown r) (to_commit r)
    c.requires.on c.requires.waits Finish c.requires.may (λ is. c.requires.owes)
    (inl (writer_asked r (c.is_plain.ensures c.if-not-is_plain.false) (λ none. c.if-len-eq0.false (c.len.ensures.count ∙ none))))).on

pub commit-requires-clause-pays : goal.commit-requires-clause-pays
commit-requires-clause-pays g c =
    let stm = c.args.stm.now in
    let r = c.args.running.now in
    (put_so (g.L.Law.lawful stm.law) (g.L.Law.may stm.law) (terms_in stm) c.args.seat.now (g.H.Hooks.runs c.args.hooks.now) (g.R.Bell.rings c.args.bell.now) (shown r) (to_commit r)
    c.requires.on c.requires.waits Finish c.requires.may (λ is. c.requires.owes)
    (inl (writer_asked r (c.is_plain.ensures c.if-not-is_plain.false) (λ none. c.if-len-eq0.false (c.len.ensures.count ∙ none))))).pays

pub returns-then-len-eq0-clause-asked : goal.returns-then-len-eq0-clause-asked
returns-then-len-eq0-clause-asked g c =
    let r = c.args.running.now in
    let plain = (c.is_plain.ensures c.if-not-is_plain.false) in
    inl (subst (λ (t : Attempt). IsLed t (shown c.end_reader.new.running)) (reader_asked r plain (plain_quiet r plain c.requires.sound c.requires.waits) (sym c.len.ensures.count ∙ c.if-len-eq0.true))
    (c.end_reader.ensures.gone None None).goes.led)

pub returns-then-len-eq0-clause-continues : goal.returns-then-len-eq0-clause-continues
returns-then-len-eq0-clause-continues g c =
    let stm = c.args.stm.now in
    let r = c.args.running.now in
    let runs = g.H.Hooks.runs c.args.hooks.now in
    let rings = g.R.Bell.rings c.args.bell.now in
    let plain = (c.is_plain.ensures c.if-not-is_plain.false) in
    let put = put_so (g.L.Law.lawful stm.law) (g.L.Law.may stm.law) (terms_in stm) c.args.seat.now runs rings (shown r) (to_close r)
    c.requires.on c.requires.waits Finish c.requires.may (λ is. c.requires.owes)
    (inl (reader_asked r plain (plain_quiet r plain c.requires.sound c.requires.waits) (sym c.len.ensures.count ∙ c.if-len-eq0.true))) in
    continues_on (moment c.args.seat.now (shown r) runs rings) (moment c.args.seat.now (to_close r) runs rings) (moment c.end_reader.new.seat (shown c.end_reader.new.running) runs rings)
    put.continues (c.end_reader.ensures.gone runs rings).goes.continues

pub returns-then-len-eq0-clause-on : goal.returns-then-len-eq0-clause-on
returns-then-len-eq0-clause-on g c = (c.end_reader.ensures.gone None None).on

pub returns-then-len-eq0-clause-rests : goal.returns-then-len-eq0-clause-rests
returns-then-len-eq0-clause-rests g c = (c.end_reader.ensures.gone None None).rests

pub returns-else-len-eq0-clause-asked : goal.returns-else-len-eq0-clause-asked
returns-else-len-eq0-clause-asked g c =
    inl (subst (λ (t : Attempt). IsLed t (shown c.commit.new.running)) (writer_asked c.args.running.now (c.is_plain.ensures c.if-not-is_plain.false) (λ none. c.if-len-eq0.false (c.len.ensures.count ∙ none))) c.commit.ensures.gone.goes.led)

pub returns-else-len-eq0-clause-continues : goal.returns-else-len-eq0-clause-continues
returns-else-len-eq0-clause-continues g c =
    let stm = c.args.stm.now in
    let r = c.args.running.now in
    let runs = g.H.Hooks.runs c.args.hooks.now in
    let rings = g.R.Bell.rings c.args.bell.now in
    let put = put_so (g.L.Law.lawful stm.law) (g.L.Law.may stm.law) (terms_in stm) c.args.seat.now runs rings (shown r) (to_commit r)
    c.requires.on c.requires.waits Finish c.requires.may (λ is. c.requires.owes)
    (inl (writer_asked r (c.is_plain.ensures c.if-not-is_plain.false) (λ none. c.if-len-eq0.false (c.len.ensures.count ∙ none)))) in
    continues_on (moment c.args.seat.now (shown r) runs rings) (moment c.args.seat.now (to_commit r) runs rings)
    (moment c.commit.new.seat (shown c.commit.new.running) (g.H.Hooks.runs c.commit.new.hooks) (g.R.Bell.rings c.commit.new.bell))
    put.continues c.commit.ensures.gone.goes.continues
