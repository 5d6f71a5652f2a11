-- What comes of what a script says, request by request.
use Rattle.std.proofs.Common.{◌≡◌, ◌<◌, ◌^◌, ℕ, Bool, true, false, List, [], ◌∷◌, length, Option, Some, None, IsTrue, IsFalse, MatchOption, ap, sym, ◌∙◌, refl, subst, arith}
use Rattle.std.specs.Option.{option_map_or}
use Rattle.stm_core.specs.Machine.{next_of}
use Rattle.stm_model.specs.Attempt.{Attempt, Late, Ready, ReleaseLevel, Stage}
use Rattle.stm_model.specs.CellsState.{Book, returned}
use Rattle.stm_model.specs.World.{IsCaller}
use Rattle.stm_model.specs.declared.access.Ask.{Ask}
use Rattle.stm_model.specs.declared.law.Free.{Free}
use Rattle.ledger_model.specs.Allowed.{Footing, IsAllowed}
use Rattle.ledger_model.specs.Talk.{Talk, Over, Says, Asks, Ends}
use Rattle.ledger_model.specs.Traced.{Progress, Trace, answer_at, answer_in, said, speaks}
use Rattle.script_cursor.specs.Cursors.{after, coming_of, is_over, left, talk_of}
use Rattle.script_cursor.specs.declared.coming.Coming.TheVariants as coming
use Rattle.world_run.specs.Simulation.{Simulation, attempt_in, terms_in}
use Rattle.world_run.proofs.Seats.{caller_then}
use Rattle.host_trace.specs.declared.flight.Flight.{Flight}
use Rattle.host_trace.specs.Flights.{Awaits, Follows, HasHeard, Hearing, IsShown, Leads, Speaks, SpeaksOn, SpeaksOut, done, rest_of}
use Rattle.host_trace.specs.Footings.{Expects, Hears, IsDone, footing_at, footing_in, footing_of, rank}
use Rattle.host_trace.specs.Tellings.{IsTold, told_answer}
use Rattle.host_trace.proofs.Leading.{leads_as, leads_none, leads_then, leads_told}
use Rattle.host_trace.proofs.Telling.{answer_is}

-- ---- what comes next

pub says_is : (talk : Talk) (number : ℕ) → coming_of talk ≡ coming.Says number → (rest : Talk) × (talk ≡ Says number rest)
says_is (Says n rest) number is = let same : n ≡ number = cc in (rest, ap (λ (m : ℕ). Says m rest) same)
says_is (Over end) number is = cc
says_is (Asks ask rest) number is = cc
says_is (Ends rest) number is = cc

pub asks_is : (talk : Talk) (ask : Ask) → coming_of talk ≡ coming.Asks ask → (rest : ℕ → Talk) × (talk ≡ Asks ask rest)
asks_is (Asks this rest) ask is = let same : this ≡ ask = cc in (rest, ap (λ (each : Ask). Asks each rest) same)
asks_is (Over end) ask is = cc
asks_is (Says n rest) ask is = cc
asks_is (Ends rest) ask is = cc

pub ends_is : (talk : Talk) → coming_of talk ≡ coming.Ends → (rest : Talk) × (talk ≡ Ends rest)
ends_is (Ends rest) is = (rest, refl)
ends_is (Over end) is = cc
ends_is (Says n rest) is = cc
ends_is (Asks ask rest) is = cc

-- what may be asked isn't over
pub goes_on_allowed : (size : ℕ) (f : Footing) (talk : Talk) → IsAllowed size f talk → is_over talk ≡ false
goes_on_allowed size f (Over end) may = absurd may
goes_on_allowed size f (Says n rest) may = refl
goes_on_allowed size f (Asks ask rest) may = refl
goes_on_allowed size f (Ends rest) may = refl

-- ---- footings

returned_laters : (saved : List Book) (now next : Book) → next.laters ≡ now.laters → (returned saved next).laters ≡ (returned saved now).laters
returned_laters [] now next same = same
returned_laters (former ∷ books) now next same = refl

footing_same : (t u : Attempt) (stage : Stage) → u.now.laters ≡ t.now.laters → u.saved ≡ t.saved → u.turn ≡ t.turn → footing_at u stage ≡ footing_at t stage
unfolding footing_at
footing_same t u (ReleaseLevel kept write behind) laters saved turn =
    rw (saved, turn) (ap (λ (list : List ℕ). record (footing_in (returned t.saved t.now) (Rattle.stm_model.specs.CellsState.outer t.saved) t.turn) { registered = length list }) (returned_laters t.saved t.now u.now laters))
footing_same t u stage laters saved turn = rw (saved, turn, laters) refl

-- All that was due is done, and it expects the same.
pub done_expects : (size : ℕ) (t u : Attempt) (rest : ℕ → Talk) → IsDone t u → Expects size t rest → Expects size u rest
unfolding footing_at
done_expects size t u rest is expects = record {
  allowed = λ two answer word.
      let here : rank t.stage ≡ 2 = rw is.stays.stage at two in
      rw (is.stays.stage, footing_same t u t.stage is.stays.laters is.stays.saved is.stays.turn) (expects.allowed here answer word);
}

pub answers_held : (t : Attempt) (stage : Stage) (answer : ℕ) → answer_at stage ≡ Some answer → (rank stage ≡ 2) × (footing_at t stage ≡ footing_of t)
unfolding rank footing_at
answers_held t (Ready told) answer is = (refl, refl)
answers_held t (Late token) answer is = (refl, refl)
answers_held t stage answer is = cc

-- Who answers hears what follows.
pub hears_then : (size : ℕ) (t : Attempt) (rest : ℕ → Talk) (answer : ℕ) → Expects size t rest → t.due ≡ [] → answer_at t.stage ≡ Some answer → answer < 2 ^ 64 → Hears size t (rest answer)
hears_then size t rest answer expects none is word =
    let held = answers_held t t.stage answer is in record {
      waits = rw is refl;
      nothing_due = none;
      allowed = rw held.1 at (expects.allowed held.0 answer word);
    }

-- ---- a print

module _ (p : ℕ) (c : Simulation Free) (before after_ : Flight) where
  pub speaks_says : (number : ℕ) (rest : Talk) → talk_of before.cursor ≡ Says number rest → talk_of after_.cursor ≡ after (talk_of before.cursor) 0
      → ((now : Progress) → IsTold before.said now → IsTold after_.said (said number now)) → after_.said.runs ≡ before.said.runs
      → (is_over (talk_of before.cursor) ≡ false → left after_.cursor < left before.cursor) → after_.answered ≡ before.answered
      → Hearing p c before → SpeaksOn p c c before after_
  speaks_says number rest is went tells runs falls same hearing =
      let now : talk_of after_.cursor ≡ rest = went ∙ ap (λ (talk : Talk). after talk 0) is in
      let less = falls (ap is_over is) in
      let heard = rw is at hearing.there.hears in
      record {
        leads = leads_as (speaks p (talk_of before.cursor)) (speaks p (talk_of after_.cursor))
            (leads_then (leads_told p c before.said after_.said (said number) tells runs) (leads_none c (Follows p c after_.said) (speaks p rest)))
            (λ s. ap (λ (talk : Talk). speaks p talk s) is) (λ s follows. follows) (λ s. ap (λ (talk : Talk). speaks p talk s) now);
        hearing = record { answered = same ∙ hearing.answered; there = record { shown = hearing.there.shown; hears = rw now (record { waits = heard.waits; nothing_due = heard.nothing_due; allowed = heard.allowed.1 }) } };
        falls = rw (same, hearing.answered) (omega (arith, less));
      }

-- ---- a request, or the end of a before-commit body

-- This came of what the script said, and the rest follows what is answered then.
module _ (p : ℕ) {c d : Simulation Free} (caller : IsCaller (terms_in c) p) (before mid : Flight) (cursor : mid.cursor ≡ before.cursor) (answered : before.answered ≡ true)
    (answered_then : mid.answered ≡ before.answered) (talk : Talk) (is : talk_of before.cursor ≡ talk) (rest : ℕ → Talk) (follows : (answer : ℕ) → after talk answer ≡ rest answer) (this : Trace → Trace)
    (answers : (s : Trace) → speaks p talk s ≡ option_map_or (λ answer. speaks p (rest answer) (this s)) (answer_in (this s) p) (this s))
    (leads : Leads p c d (Follows p c before.said) (Awaits p d mid.said rest) this done) (none : (attempt_in d p).due ≡ [])
    (expected : Expects (length c.opening) (attempt_in d p) rest) (going : is_over talk ≡ false) (shown : IsShown d) where
  abbrev stage : Stage
  stage = (attempt_in d p).stage

  -- the script goes on with the answer, where there is one
  abbrev goes_with : Option ℕ → Trace → Trace
  goes_with found s = option_map_or (λ answer. speaks p (rest answer) s) found s

  expects : Expects (length d.opening) (attempt_in d p) rest
  expects = subst (λ (opening : List ℕ). Expects (length opening) (attempt_in d p) rest) (sym leads.terms.opening) expected

  rest_is : (answer : ℕ) → rest_of mid answer ≡ rest answer
  rest_is answer = rw (answered_then, answered, cursor, is) (follows answer)

  answer_of : (s : Trace) → Awaits p d mid.said rest s → answer_in s p ≡ answer_at stage
  answer_of s awaits = ap (λ (t : Attempt). answer_at t.stage) (awaits.follows.shows.attempts p (caller_then p leads.terms caller))

  -- where there is an answer, and where there is none
  then_is : (answer : Option ℕ) → answer_at stage ≡ answer → (s : Trace) → Awaits p d mid.said rest s → (end : Trace) → s ≡ end
      → goes_with answer s ≡ goes_with (answer_in end p) end
  then_is answer same s awaits end one =
      subst (λ (t : Trace). goes_with answer s ≡ goes_with (answer_in t p) t) one (ap (λ (found : Option ℕ). goes_with found s) (sym (answer_of s awaits ∙ same)))

  before_said : (s : Trace) → speaks p (talk_of before.cursor) s ≡ speaks p talk s
  before_said s = ap (λ (each : Talk). speaks p each s) is

  unheard : answer_at stage ≡ None → SpeaksOut p c d before mid
  unheard quiet = record {
    leads = record {
      terms = leads.terms;
      same = leads.same;
      follows = λ s start.
          let one = leads.follows s start in
          record {
            trace = one.trace;
            after = record { follows = one.after.follows; rest = λ answer. one.after.rest answer ∙ sym (rest_is answer) };
            leads = then_is None quiet one.trace one.after (this s) one.leads ∙ sym (answers s) ∙ sym (before_said s);
          };
    };
    rests = record { quiet = quiet; nothing_due = none; expects = record { allowed = λ two answer word. rw (rest_is answer) (expects.allowed two answer word) } };
    rises_none = rw (cursor, answered_then) (omega arith);
  }

  heard : (answer : ℕ) (later : Flight) → answer_at stage ≡ Some answer → HasHeard answer mid later → SpeaksOn p c d before later
  heard answer later loud hears =
      let now : talk_of later.cursor ≡ rest answer = hears.talk ∙ rest_is answer in
      record {
        leads = record {
          terms = leads.terms;
          same = leads.same;
          follows = λ s start.
              let one = leads.follows s start in
              record {
                trace = one.trace;
                after = rw hears.said one.after.follows;
                leads = ap (λ (each : Talk). speaks p each one.trace) now ∙ then_is (Some answer) loud one.trace one.after (this s) one.leads ∙ sym (answers s) ∙ sym (before_said s);
              };
        };
        hearing = record { answered = hears.answered; there = record { shown = shown; hears = rw now (hears_then (length d.opening) (attempt_in d p) rest answer expects none loud hears.word) } };
        falls = let less = hears.falls (rw (cursor, is) going) in rw (cursor, answered_then) at less;
      }

  pub speaks_by : (goes : Bool) (later : Flight) → MatchOption (told_answer (next_of (attempt_in d p))) (IsFalse goes × (later ≡ mid)) (λ answer. IsTrue goes × HasHeard answer mid later)
      → Speaks p c d before later goes
  speaks_by goes later told = go (answer_at stage) refl (subst (λ (found : Option ℕ). MatchOption found (IsFalse goes × (later ≡ mid)) (λ answer. IsTrue goes × HasHeard answer mid later)) (answer_is (attempt_in d p) none) told)
    where
      go : (found : Option ℕ) → answer_at stage ≡ found → MatchOption found (IsFalse goes × (later ≡ mid)) (λ answer. IsTrue goes × HasHeard answer mid later) → Speaks p c d before later goes
      go None quiet none_told = rw (none_told.0, none_told.1) (unheard quiet)
      go (Some answer) loud some_told = rw some_told.0 (heard answer later loud some_told.1)
