use Rattle.std.proofs.Common.{ap, ◌∙◌}
use Rattle.txn_run.proofs.Lending.{begins_again, begins_with, concludes_so, made_so}
use Rattle.txn_run.proofs.Standing.{stands_here}
use Rattle.txn_run.proofs.making.make.Goals as goal

pub returns-clause-begins : goal.returns-clause-begins
returns-clause-begins g c =
    let stm = c.args.stm.now in
    let lawful = g.L.Law.lawful stm.law in
    let may = g.L.Law.may stm.law in
    let ran = c.run_to_end-outcome in
    let stands = stands_here g.L.Law.lawful g.L.Law.may stm ran.new.seat ran.new.flight ran.ensures.here c.stands.ensures in
    let able = begins_with lawful may stm c.args.seat.now c.lend-lists.new.self c.lend-lists.ensures.same c.lend-lists.ensures.empty c.requires.begins in
    begins_again lawful may stm c.args.seat.now c.lend-lists.new.self c.begin-flight.new.seat ran.new.seat c.begin-flight.result.attempt ran.new.flight.attempt _ _ _ _ c.lend-lists.ensures.same
    able c.requires.more c.begin-flight.ensures.begun ran.ensures.continues stands.on ran.ensures.over _ _ _ ran.result ran.ensures.ends

pub returns-clause-made : goal.returns-clause-made
returns-clause-made g c =
    let stm = c.args.stm.now in
    let lawful = g.L.Law.lawful stm.law in
    let may = g.L.Law.may stm.law in
    let ran = c.run_to_end-outcome in
    let stands = stands_here g.L.Law.lawful g.L.Law.may stm ran.new.seat ran.new.flight ran.ensures.here c.stands.ensures in
    let able = begins_with lawful may stm c.args.seat.now c.lend-lists.new.self c.lend-lists.ensures.same c.lend-lists.ensures.empty c.requires.begins in
    made_so lawful may stm c.args.seat.now c.lend-lists.new.self c.begin-flight.new.seat ran.new.seat c.begin-flight.result.attempt ran.new.flight.attempt _ _ _ _ c.lend-lists.ensures.same
    able c.requires.more c.begin-flight.ensures.begun ran.ensures.continues stands.on ran.ensures.over _ _ _ ran.result ran.ensures.ends

pub returns-clause-concludes : goal.returns-clause-concludes
returns-clause-concludes g c =
    let stm = c.args.stm.now in
    let lawful = g.L.Law.lawful stm.law in
    let may = g.L.Law.may stm.law in
    let ran = c.run_to_end-outcome in
    let stands = stands_here g.L.Law.lawful g.L.Law.may stm ran.new.seat ran.new.flight ran.ensures.here c.stands.ensures in
    let able = begins_with lawful may stm c.args.seat.now c.lend-lists.new.self c.lend-lists.ensures.same c.lend-lists.ensures.empty c.requires.begins in
    concludes_so lawful may stm c.args.seat.now c.lend-lists.new.self c.begin-flight.new.seat ran.new.seat c.begin-flight.result.attempt ran.new.flight.attempt _ _ _ _ c.lend-lists.ensures.same
    able c.requires.more c.begin-flight.ensures.begun ran.ensures.continues stands.on ran.ensures.over _ _ _ ran.result ran.ensures.ends

pub returns-clause-notes : goal.returns-clause-notes
returns-clause-notes g c =
    let stm = c.args.stm.now in
    let lawful = g.L.Law.lawful stm.law in
    let may = g.L.Law.may stm.law in
    let ran = c.run_to_end-outcome in
    let stands = stands_here g.L.Law.lawful g.L.Law.may stm ran.new.seat ran.new.flight ran.ensures.here c.stands.ensures in
    ap (λ reads. reads.notes) c.lists_of.ensures ∙ (c.into_running.ensures ∙ ap (λ a. a.notes) (stands.on.over ran.ensures.over.stage).is)
