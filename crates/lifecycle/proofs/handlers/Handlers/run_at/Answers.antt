use Rattle.std.proofs.Common.{◌≡◌, sym, ◌∙◌, arith}
use Rattle.lifecycle.proofs.Places.{left_behind, none_stands, stands_here}
use Rattle.lifecycle.proofs.handlers.Handlers.run_at.Goals as goal

pub returns-in_err-next : goal.returns-in_err-next
returns-in_err-next c =
    c.from_residual.ensures ∙ sym (none_stands _ c.loop-skipped._skipped c.args.index (omega arith) (c.loop-skipped.invariant ∙ c.in_err-next.ensures))

pub loop-skipped-preserved : goal.loop-skipped-preserved
loop-skipped-preserved c = left_behind _ c.loop-skipped._skipped _ _ (c.loop-skipped.invariant ∙ c.in_ok-next.ensures)

pub returns-in_err-phase : goal.returns-in_err-phase
returns-in_err-phase c =
    c.from_residual-in_err-phase.ensures
    ∙ sym (none_stands _ c.loop-skipped._skipped c.args.index (omega arith) (c.loop-skipped.invariant ∙ c.in_err-phase.ensures))

pub returns : goal.returns
returns c =
    let all : c.args.index ≡ c.loop-skipped._skipped = omega arith in
    rw all (sym (stands_here _ c.loop-skipped._skipped _ _ (c.loop-skipped.invariant ∙ c.in_ok-phase.ensures)))
