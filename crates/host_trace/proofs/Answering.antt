-- What comes of a script that is given an answer.
use Rattle.std.proofs.Common.{◌≡◌, inr, ℕ, Bool, true, false, if◌then◌else◌, [], length, Option, Some, None, ap, sym, ◌∙◌, refl, arith}
use Rattle.std.specs.Option.{option_map_or}
use Rattle.stm_model.specs.World.{IsCaller}
use Rattle.stm_model.specs.declared.law.Free.{Free}
use Rattle.ledger_model.specs.Allowed.{Footing, IsAllowed}
use Rattle.ledger_model.specs.Talk.{Talk, Over, Says, Asks, Ends}
use Rattle.ledger_model.specs.Traced.{Trace, answer_at, answer_in, goes_on, speaks}
use Rattle.script_cursor.specs.Cursors.{after, is_over, talk_of}
use Rattle.world_run.specs.Simulation.{Simulation, attempt_in, terms_in}
use Rattle.world_run.proofs.Seats.{none_changed}
use Rattle.host_trace.specs.declared.flight.Flight.{Flight}
use Rattle.host_trace.specs.Flights.{AwaitsIn, GoesOn, HasHeard, Hearing, IsShown, Leads, SpeaksOut, done, rest_of}
use Rattle.host_trace.specs.Footings.{Expects, footing_at}
use Rattle.host_trace.proofs.Leading.{same_none}
use Rattle.host_trace.proofs.Speaking.{answers_held, goes_on_allowed, hears_then}

-- a talk that goes on behind the answer that it waits for isn't over
heard_goes : (size : ℕ) (f : Footing) (answered : Bool) (talk : Talk) (answer : ℕ) → IsAllowed size f (if answered then after talk answer else talk) → is_over talk ≡ false
heard_goes size f true (Over end) answer may = absurd may
heard_goes size f true (Says n rest) answer may = refl
heard_goes size f true (Asks ask rest) answer may = refl
heard_goes size f true (Ends rest) answer may = refl
heard_goes size f false talk answer may = goes_on_allowed size f talk may

module _ (p : ℕ) (c : Simulation Free) (before mid : Flight) (answer : ℕ) (expects : Expects (length c.opening) (attempt_in c p) (rest_of before)) (none : (attempt_in c p).due ≡ [])
    (loud : answer_at (attempt_in c p).stage ≡ Some answer) (heard : HasHeard answer before mid) where
  pub hearing_then : IsShown c → Hearing p c mid
  hearing_then shown = record {
    answered = heard.answered;
    there = record { shown = shown; hears = rw heard.talk (hears_then (length c.opening) (attempt_in c p) (rest_of before) answer expects none loud heard.word) };
  }

  goes : is_over (talk_of before.cursor) ≡ false
  goes =
      let held = answers_held (attempt_in c p) (attempt_in c p).stage answer loud in
      heard_goes (length c.opening) (footing_at (attempt_in c p) (attempt_in c p).stage) before.answered (talk_of before.cursor) answer (expects.allowed held.0 answer heard.word)

  module _ {d : Simulation Free} (last : Flight) (out : SpeaksOut p c d mid last) where
    pub goes_nearer : GoesOn c d before last
    goes_nearer = inr (let less = heard.falls goes in let most = out.rises_none in omega (arith, less, most))

    said_on : (s : Trace) → AwaitsIn p c before s → IsCaller (terms_in c) p → speaks p (talk_of mid.cursor) s ≡ goes_on p s
    said_on s awaits caller =
        let there : answer_in s p ≡ Some answer = ap (λ t. answer_at t.stage) (awaits.follows.shows.attempts p caller) ∙ loud in
        let rest : talk_of mid.cursor ≡ (s.progress p).rest answer = heard.talk ∙ sym (awaits.rest answer) in
        ap (λ (talk : Talk). speaks p talk s) rest ∙ sym (ap (λ (found : Option ℕ). option_map_or (λ answer. speaks p ((s.progress p).rest answer) s) found s) there)

    pub goes_leads : IsCaller (terms_in c) p → Leads p c d (AwaitsIn p c before) (AwaitsIn p d last) (goes_on p) done
    goes_leads caller = record {
      terms = out.leads.terms;
      same = out.leads.same;
      follows = λ s awaits.
          let one = out.leads.follows s (rw heard.said awaits.follows) in
          record { trace = one.trace; after = one.after; leads = one.leads ∙ said_on s awaits caller };
    }

-- Nothing was answered, so nothing follows.
pub goes_nowhere : (p : ℕ) (c : Simulation Free) (flight : Flight) → IsCaller (terms_in c) p → answer_at (attempt_in c p).stage ≡ None → Leads p c c (AwaitsIn p c flight) (AwaitsIn p c flight) (goes_on p) done
goes_nowhere p c flight caller quiet = record {
  terms = none_changed c;
  same = same_none p c;
  follows = λ s awaits.
      let there : answer_in s p ≡ None = ap (λ t. answer_at t.stage) (awaits.follows.shows.attempts p caller) ∙ quiet in
      record { trace = s; after = awaits; leads = sym (ap (λ (found : Option ℕ). option_map_or (λ answer. speaks p ((s.progress p).rest answer) s) found s) there) };
}
