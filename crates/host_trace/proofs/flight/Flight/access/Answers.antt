use Rattle.std.proofs.Common.{IsSome, Option, ap, ◌∙◌, subst}
use Rattle.stm_core.specs.declared.next.Next.{Next}
use Rattle.world_run.specs.Simulation.{attempt_in}
use Rattle.world_run.proofs.Seats.{caller_then}
use Rattle.host_trace.specs.Tellings.{told_ending}
use Rattle.host_trace.proofs.Flying.{flown_expects, flown_leads, has_flown}
use Rattle.host_trace.proofs.Telling.{makes_goes}
use Rattle.host_trace.proofs.flight.Flight.access.Goals as goal

pub go_on-requires-clause-expects : goal.go_on-requires-clause-expects
go_on-requires-clause-expects c =
    flown_expects c.args.caller c.requires.caller c.args.self.now c.do_due.new.said c.requires.flies c.in_ok-advance.ensures.happens c.advance.ensures.same c.in_ok-do_due.ensures.leads c.in_ok-do_due.ensures.attempt

pub next-requires : goal.next-requires
next-requires c = caller_then c.args.caller (c.give_up.ensures.leads c.go_on.new.self).terms (caller_then c.args.caller c.in_ok-go_on.ensures.leads.terms (caller_then c.args.caller c.in_ok-do_due.ensures.leads.terms (caller_then c.args.caller c.advance.ensures.terms c.requires.caller)))

pub returns-clause-leads : goal.returns-clause-leads
returns-clause-leads c =
    flown_leads c.args.caller c.requires.caller c.args.self.now c.do_due.new.said c.requires.flies c.in_ok-advance.ensures.happens c.advance.ensures.same c.in_ok-do_due.ensures.leads c.in_ok-do_due.ensures.attempt
    c.go_on.new.self c.in_ok-go_on.ensures.leads c.in_ok-go_on.ensures.rests c.in_ok-go_on.ensures.goes c.give_up.ensures.leads c.give_up.ensures.gives

pub returns-clause-flown : goal.returns-clause-flown
returns-clause-flown c =
    let p = c.args.caller in
    let t = attempt_in c.args.simulation.now p in
    let whole = c.next.ensures.invariant in
    has_flown p c.requires.caller c.args.self.now c.do_due.new.said c.requires.flies c.in_ok-advance.ensures.happens c.advance.ensures.same c.in_ok-do_due.ensures.leads c.in_ok-do_due.ensures.attempt
    c.go_on.new.self c.in_ok-go_on.ensures.leads c.in_ok-go_on.ensures.rests c.in_ok-go_on.ensures.goes c.give_up.ensures.leads c.give_up.ensures.gives
    (λ begun. subst (λ (next : Option Next). IsSome next) c.next.ensures.next (c.next.ensures.begun begun))
    (c.in_ok-advance.ensures.falls (makes_goes t c.requires.flies.makes)) c.in_ok-do_due.ensures.left (whole.world, whole.shows)
    c.ending_in.result (c.ending_in.ensures ∙ ap told_ending c.next.ensures.next)
