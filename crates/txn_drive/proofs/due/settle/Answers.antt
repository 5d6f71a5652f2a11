use Rattle.std.proofs.Common.{◌∙◌}
use Rattle.stm_core.proofs.Shown.{none_shown}
use Rattle.stm_core.specs.Running.{shown}
use Rattle.txn_drive.proofs.Settling.{due_shown, less_due, settles_on, some_due}
use Rattle.txn_drive.proofs.due.settle.Goals as goal

pub do_first-requires-clause-due : goal.do_first-requires-clause-due
do_first-requires-clause-due g c = some_due _ c.in-Some.next (due_shown c.loop-next.running c.in-Some.next c.loop-next.invariant.sound c.in-Some.ensures.first)

pub loop-next-smaller : goal.loop-next-smaller
loop-next-smaller g c =
    less_due (shown c.loop-next.running) (shown c.do_first.new.self) c.in-Some.next (due_shown c.loop-next.running c.in-Some.next c.loop-next.invariant.sound c.in-Some.ensures.first) c.do_first.ensures.becomes.shows

pub loop-next-preserved : goal.loop-next-preserved
loop-next-preserved g c =
    let before = c.loop-next.running in
    let after = c.do_first.new.self in record {
      settles = settles_on (shown c.args.running.now) (shown before) (shown after) c.in-Some.next
          (g.H.Hooks.runs c.args.hooks.now) (g.H.Hooks.runs c.loop-next.hooks) (g.H.Hooks.runs c.call.new.hooks)
          (g.R.Bell.rings c.args.bell.now) (g.R.Bell.rings c.loop-next.bell) (g.R.Bell.rings c.call.new.bell)
          c.loop-next.invariant.settles c.call.ensures c.do_first.ensures.becomes.shows
          (due_shown before c.in-Some.next c.loop-next.invariant.sound c.in-Some.ensures.first);
      sound = c.do_first.ensures.becomes.sound;
      left = c.do_first.ensures.left ∙ c.loop-next.invariant.left;
    }

pub returns-clause-nothing_due : goal.returns-clause-nothing_due
returns-clause-nothing_due g c = none_shown c.loop-next.running c.loop-next.invariant.sound c.in_default.ensures.first
