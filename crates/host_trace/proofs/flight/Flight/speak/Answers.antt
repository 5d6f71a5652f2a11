use Rattle.std.proofs.Common.{◌≡◌, ℕ, IsFalse, IsTrue, MatchOption, Option, refl, ap, sym, ◌∙◌, subst}
use Rattle.std.proofs.lemmas.Result.{IfOk-weaker}
use Rattle.ledger_model.specs.Talk.{Talk, Asks, Ends}
use Rattle.ledger_model.specs.Traced.{requested, returned}
use Rattle.script_cursor.specs.Cursors.{talk_of}
use Rattle.world_run.specs.Simulation.{attempt_in}
use Rattle.world_run.proofs.Seats.{caller_then}
use Rattle.host_trace.specs.declared.flight.Flight.{Flight}
use Rattle.host_trace.specs.Flights.{HasHeard, HearsIn, Speaks}
use Rattle.host_trace.specs.Tellings.{told_answer}
use Rattle.host_trace.proofs.Requests.{ends_expects, takes_expects}
use Rattle.host_trace.proofs.Speaking.{asks_is, done_expects, ends_is, says_is, speaks_by, speaks_says}
use Rattle.host_trace.proofs.flight.Flight.speak.Goals as goal

pub next-requires-in-Asks : goal.next-requires-in-Asks
next-requires-in-Asks c = let p = c.args.caller in caller_then p (c.in_ok-request-in-Asks.ensures.leads (λ answer. talk_of c.args.self.now.cursor)).terms c.requires.caller

pub next-requires-in-Ends : goal.next-requires-in-Ends
next-requires-in-Ends c = let p = c.args.caller in caller_then p (c.in_ok-end_late-in-Ends.ensures.leads (talk_of c.args.self.now.cursor)).terms c.requires.caller

pub returns-in_ok-answer-in-Says : goal.returns-in_ok-answer-in-Says
returns-in_ok-answer-in-Says c =
    let says = says_is (talk_of c.args.self.now.cursor) c.in-Says.number (sym c.next.ensures ∙ c.in-Says.is) in
    let later : Flight = record { cursor = c.answer.new.self; answered = c.args.self.now.answered; said = c.say.new.self } in
    speaks_says c.args.caller c.args.simulation.now c.args.self.now later c.in-Says.number says.0 says.1 c.in_ok-answer-in-Says.ensures.talk
    c.in_ok-say-in-Says.ensures.told c.say.ensures.runs c.in_ok-answer-in-Says.ensures.left refl c.requires.hearing

pub returns-in_ok-request-in-Asks : goal.returns-in_ok-request-in-Asks
returns-in_ok-request-in-Asks c =
    let p = c.args.caller in
    let now = c.args.self.now in
    let here = c.args.simulation.now in
    let asks = asks_is (talk_of now.cursor) c.in-Asks.ask (sym c.next.ensures ∙ c.in-Asks.is) in
    let hears = c.requires.hearing.there in
    let heard : HearsIn p here (Asks c.in-Asks.ask asks.0) = subst (λ (talk : Talk). HearsIn p here talk) asks.1 hears in
    let leads = c.in_ok-request-in-Asks.ensures.leads asks.0 in
    let done = c.in_ok-request-in-Asks.ensures.attempt in
    let after = attempt_in c.request.new.simulation p in
    let mid : Flight = record { cursor = now.cursor; answered = now.answered; said = c.request.new.said } in
    let whole = c.next-in-Asks.ensures.invariant in
    let expects = done_expects _ _ after asks.0 done (takes_expects _ (attempt_in here p) c.in-Asks.ask asks.0 heard.hears) in
    let told = ap told_answer c.next-in-Asks.ensures.next in
    IfOk-weaker c.hear_at_once.result
    (λ goes. MatchOption c.answer_in.result (IsFalse goes × (c.hear_at_once.new.self ≡ mid)) (λ value. IsTrue goes × HasHeard value mid c.hear_at_once.new.self))
    (λ goes. Speaks p here c.request.new.simulation now c.hear_at_once.new.self goes)
    (λ goes heard_so. speaks_by p c.requires.caller now mid refl c.requires.hearing.answered refl (Asks c.in-Asks.ask asks.0) asks.1 asks.0 (λ answer. refl) (requested p c.in-Asks.ask asks.0) (λ s. refl)
    leads done.nothing_due expects refl (whole.world, whole.shows) goes c.hear_at_once.new.self
    (subst (λ (answer : Option ℕ). MatchOption answer (IsFalse goes × (c.hear_at_once.new.self ≡ mid)) (λ value. IsTrue goes × HasHeard value mid c.hear_at_once.new.self)) (c.answer_in.ensures ∙ told) heard_so))
    c.hear_at_once.ensures

pub returns-in_ok-end_late-in-Ends : goal.returns-in_ok-end_late-in-Ends
returns-in_ok-end_late-in-Ends c =
    let p = c.args.caller in
    let now = c.args.self.now in
    let here = c.args.simulation.now in
    let ends = ends_is (talk_of now.cursor) (sym c.next.ensures ∙ c.in-Ends.is) in
    let hears = c.requires.hearing.there in
    let heard : HearsIn p here (Ends ends.0) = subst (λ (talk : Talk). HearsIn p here talk) ends.1 hears in
    let leads = c.in_ok-end_late-in-Ends.ensures.leads ends.0 in
    let done = c.in_ok-end_late-in-Ends.ensures.attempt in
    let after = attempt_in c.end_late.new.simulation p in
    let mid : Flight = record { cursor = now.cursor; answered = now.answered; said = c.end_late.new.said } in
    let whole = c.next-in-Ends.ensures.invariant in
    let expects = done_expects _ _ after (λ answer. ends.0) done (ends_expects _ (attempt_in here p) ends.0 heard.hears) in
    let told = ap told_answer c.next-in-Ends.ensures.next in
    IfOk-weaker c.hear_at_once-in-Ends.result
    (λ goes. MatchOption c.answer_in-in-Ends.result (IsFalse goes × (c.hear_at_once-in-Ends.new.self ≡ mid)) (λ value. IsTrue goes × HasHeard value mid c.hear_at_once-in-Ends.new.self))
    (λ goes. Speaks p here c.end_late.new.simulation now c.hear_at_once-in-Ends.new.self goes)
    (λ goes heard_so. speaks_by p c.requires.caller now mid refl c.requires.hearing.answered refl (Ends ends.0) ends.1 (λ answer. ends.0) (λ answer. refl) (returned p ends.0) (λ s. refl)
    leads done.nothing_due expects refl (whole.world, whole.shows) goes c.hear_at_once-in-Ends.new.self
    (subst (λ (answer : Option ℕ). MatchOption answer (IsFalse goes × (c.hear_at_once-in-Ends.new.self ≡ mid)) (λ value. IsTrue goes × HasHeard value mid c.hear_at_once-in-Ends.new.self)) (c.answer_in-in-Ends.ensures ∙ told) heard_so))
    c.hear_at_once-in-Ends.ensures
