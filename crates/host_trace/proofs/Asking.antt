-- What comes of an attempt that is asked, whose before-commit body is over, or that gives up.
use Rattle.std.proofs.Common.{◌≡◌, ◌⊎◌, inl, inr, ℕ, Bool, true, false, List, [], ◌∷◌, Option, Some, None, IsSome, ap, sym, ◌∙◌, refl, subst}
use Rattle.std.specs.Option.{option_map_or}
use Rattle.opacity.proofs.Places.{replaced_here}
use Rattle.stm_core.specs.Machine.{next_of}
use Rattle.stm_model.specs.Accesses.{next_at, unless_due}
use Rattle.stm_model.specs.After.{roll_on, rolled, stopped}
use Rattle.stm_model.specs.Attempt.{Attempt, Close, Due, RollBack, Stage, Stopped, Write, cause_at}
use Rattle.stm_model.specs.Moves.{AwaitsAskAt, EndsLate, May, MayAsk, MayRunOut, OutOfMemory, Takes, asked_at, asked_stopped, moved}
use Rattle.stm_model.specs.World.{IsCaller, MayHappen, Moves, World}
use Rattle.stm_model.specs.declared.access.Ask.{Ask}
use Rattle.stm_model.specs.declared.access.Ask.TheVariants.{Abandon, Enter, Keep, Undo}
use Rattle.stm_model.specs.declared.cause.Cause.{Cause}
use Rattle.stm_model.specs.declared.cause.Cause.TheVariants.{Memory}
use Rattle.stm_model.specs.declared.law.Free.{Free}
use Rattle.ledger_model.specs.Talk.{Talk}
use Rattle.ledger_model.specs.Traced.{Progress, Trace, all_done, answer_at, asked, attempt_in as attempt_at, due_done, gives_up, happens, requested, returned, with_progress}
use Rattle.world_run.specs.Simulation.{Simulation, IsAskable, IsSameOf, attempt_in, terms_in}
use Rattle.stm_model.specs.declared.ending.Ending.TheVariants.{Rolled}
use Rattle.world_run.proofs.Seats.{none_changed}
use Rattle.host_trace.specs.declared.flight.Flight.{Flight}
use Rattle.host_trace.specs.declared.said.Said.{Said}
use Rattle.host_trace.specs.Flights.{Awaits, AwaitsIn, Follows, IsShown, Leads, ShowsWorld, done}
use Rattle.host_trace.specs.Footings.{IsDone, Rolls, rank}
use Rattle.host_trace.specs.Tellings.{IsTold, tells_memory}
use Rattle.host_trace.proofs.Leading.{Comes, attempt_moved, leads_by, leads_then, leads_told, same_none}
use Rattle.host_trace.proofs.Requests.{ends_runs, rolled_runs, takes_runs}
use Rattle.host_trace.proofs.Telling.{memory_told}

-- ---- what stays

all_progress : (p : ℕ) (dues : List Due) (s : Trace) → (all_done p dues s).progress ≡ s.progress
all_progress p [] s = refl
all_progress p (due ∷ dues) s = all_progress p dues (happens (Moves p _) s)

pub due_progress : (p : ℕ) (s : Trace) → (due_done p s).progress ≡ s.progress
due_progress p s = all_progress p (attempt_at s p).due s

asked_rest : (ask : Ask) (rest : ℕ → Talk) (now : Progress) → (asked ask rest now).rest ≡ rest
asked_rest Enter rest now = refl
asked_rest Keep rest now = refl
asked_rest Undo rest now = refl
asked_rest ask rest now = refl

-- ---- a request

closes : (t : Attempt) → IsSome (next_at t Close)
unfolding next_at
closes t = refl

rolls_back : (t : Attempt) (write : Write) (behind : List Write) → IsSome (next_at t (RollBack write behind))
unfolding next_at
rolls_back t write behind = refl

out_of_memory : (t : Attempt) (ask : Ask) → moved t (OutOfMemory ask) ≡ stopped t Memory
unfolding moved
out_of_memory t ask = refl

first_of_two : {A B : Type 0} → A ⊎ B → (B → ⊥) → A
first_of_two (inl a) never = a
first_of_two (inr b) never = absurd (never b)

never_both : {b : Bool} → b ≡ false → b ≡ true → ⊥
never_both one other = cc (sym one ∙ other)

-- Where it isn't out of memory, it took the ask.
lacks_none : {p : ℕ} {c d : Simulation Free} (ask : Ask) → IsCaller (terms_in c) p → (w : World) → ShowsWorld c w → (attempt_in c p).due ≡ []
    → tells_memory (next_of (attempt_in d p)) ≡ false → Comes c (Moves p (OutOfMemory ask)) d → ⊥
lacks_none {p = p} {c = c} {d = d} ask caller w shows none tells lacks =
    let here = attempt_moved p caller w shows lacks ∙ out_of_memory (attempt_in c p) ask in
    never_both tells (memory_told (attempt_in d p) (ap (λ (t : Attempt). t.due) here ∙ none) (ap (λ (t : Attempt). t.stage) here))

module _ (p : ℕ) {c mid : Simulation Free} (caller : IsCaller (terms_in c) p) (shown : IsShown c) where
  -- the request, and what is due then
  module _ (ask : Ask) (none : (attempt_in c p).due ≡ []) (calm : IsSome (answer_at (attempt_in c p).stage))
      (asks : Comes c (Moves p (Takes ask)) mid ⊎ Comes c (Moves p (OutOfMemory ask)) mid)
      (tells : tells_memory (next_of (attempt_in mid p)) ≡ false) where
    takes : Comes c (Moves p (Takes ask)) mid
    takes = first_of_two asks (lacks_none ask caller shown.0 shown.1 none tells)

    pub request_done : (u : Attempt) → IsDone (attempt_in mid p) u → IsDone (moved (attempt_in c p) (Takes ask)) u
    request_done u is = subst (λ (t : Attempt). IsDone t u) (attempt_moved p caller shown.0 shown.1 takes) is

    pub request_leads : {d : Simulation Free} → IsSameOf p c mid → (said told later : Said) (rest : ℕ → Talk) → ((now : Progress) → IsTold said now → IsTold told (asked ask rest now)) → told.runs ≡ said.runs
        → Leads p mid d (Follows p mid told) (Follows p d later) (due_done p) done → Leads p c d (Follows p c said) (Awaits p d later rest) (requested p ask rest) done
    request_leads same said told later rest tells_so runs dues =
        let one = leads_told p c said told (asked ask rest) tells_so runs in
        let two = leads_by p caller {said = told} told takes same (λ now is. is)
        (λ w shows before. ap (λ (t : Attempt). t.now.runs) (attempt_moved p caller w shows takes) ∙ takes_runs (attempt_in c p) ask calm ∙ before) in
        let all = leads_then (leads_then one two) dues in record {
          terms = all.terms;
          same = all.same;
          follows = λ s before.
              let last = all.follows s before in
              let asking : Trace = happens (Moves p (Takes ask)) (with_progress p (asked ask rest (s.progress p)) s) in
              let here : last.trace.progress p ≡ asked ask rest (s.progress p) =
              ap (λ (t : Trace). t.progress p) last.leads ∙ ap (λ (progress : ℕ → Progress). progress p) (due_progress p asking) ∙ replaced_here s.progress p (asked ask rest (s.progress p)) in
              record {
                trace = last.trace;
                after = record { follows = last.after; rest = λ answer. ap (λ (now : Progress). now.rest answer) here ∙ ap (λ (each : ℕ → Talk). each answer) (asked_rest ask rest (s.progress p)) };
                leads = last.leads;
              };
        }

  -- a before-commit body is over, and what is due then
  module _ (calm : IsSome (answer_at (attempt_in c p).stage)) (ends : Comes c (Moves p EndsLate) mid) where
    pub ends_done : (u : Attempt) → IsDone (attempt_in mid p) u → IsDone (moved (attempt_in c p) EndsLate) u
    ends_done u is = subst (λ (t : Attempt). IsDone t u) (attempt_moved p caller shown.0 shown.1 ends) is

    pub ends_leads : {d : Simulation Free} → IsSameOf p c mid → (said later : Said) (rest : Talk) → Leads p mid d (Follows p mid said) (Follows p d later) (due_done p) done
        → Leads p c d (Follows p c said) (Awaits p d later (λ answer. rest)) (returned p rest) done
    ends_leads same said later rest dues =
        let make : Progress → Progress = λ now. record now { rest = λ answer. rest } in
        let one = leads_told p c said said make (λ now is. record { prints = is.prints; saved = is.saved; trail = is.trail }) refl in
        let two = leads_by p caller {said = said} said ends same (λ now is. is)
        (λ w shows before. ap (λ (t : Attempt). t.now.runs) (attempt_moved p caller w shows ends) ∙ ends_runs (attempt_in c p) calm ∙ before) in
        let all = leads_then (leads_then one two) dues in record {
          terms = all.terms;
          same = all.same;
          follows = λ s before.
              let last = all.follows s before in
              let ending : Trace = happens (Moves p EndsLate) (with_progress p (make (s.progress p)) s) in
              let here : last.trace.progress p ≡ make (s.progress p) =
              ap (λ (t : Trace). t.progress p) last.leads ∙ ap (λ (progress : ℕ → Progress). progress p) (due_progress p ending) ∙ replaced_here s.progress p (make (s.progress p)) in
              record {
                trace = last.trace;
                after = record { follows = last.after; rest = λ answer. ap (λ (now : Progress). now.rest answer) here };
                leads = last.leads;
              };
        }

-- ---- who gives up

refused_at : (stage : Stage) (cause : Cause) → cause_at stage ≡ Some cause → stage ≡ Stopped cause
unfolding cause_at
refused_at (Stopped other) cause is = ap Stopped (let same : other ≡ cause = cc in same)
refused_at stage cause is = cc

pub may_give_up : (size : ℕ) (t : Attempt) (cause : Cause) → t.due ≡ [] → cause_at t.stage ≡ Some cause → IsAskable size t (Abandon cause)
unfolding MayAsk AwaitsAskAt
may_give_up size t cause none is = record { waits = record { stands = rw (refused_at t.stage cause is) tt; nothing_due = none }; able = inr is }

rolls_at : (t : Attempt) (stage : Stage) (cause : Cause) → stage ≡ Stopped cause → asked_at t stage (Abandon cause) ≡ rolled t cause
unfolding asked_at asked_stopped
rolls_at t stage cause is = rw is refl

rolls : (t : Attempt) (cause : Cause) → t.due ≡ [] → cause_at t.stage ≡ Some cause → moved t (Takes (Abandon cause)) ≡ rolled t cause
unfolding moved
rolls t cause none is = rolls_at t t.stage cause (refused_at t.stage cause is)

rolled_rolls : (t : Attempt) (cause : Cause) → t.due ≡ [] → cause_at t.stage ≡ Some cause → Rolls t (rolled t cause)
unfolding rank
rolled_rolls t cause none is = go t.now.writes
  where
    refused : rank t.stage ≡ 1
    refused = ap rank (refused_at t.stage cause is)

    go : (writes : List Write) → Rolls t (roll_on (record t { ending = Some (Rolled cause t.prefix) }) writes)
    go [] = record { refused = refused; ends = refl; makes = subst (λ (dues : List Due). IsSome (unless_due dues (next_at (record t { ending = Some (Rolled cause t.prefix); stage = Close }) Close))) (sym none) (closes (record t { ending = Some (Rolled cause t.prefix); stage = Close })) }
    go (write ∷ behind) = record { refused = refused; ends = refl; makes = subst (λ (dues : List Due). IsSome (unless_due dues (next_at (record t { ending = Some (Rolled cause t.prefix); stage = RollBack write behind }) (RollBack write behind)))) (sym none) (rolls_back (record t { ending = Some (Rolled cause t.prefix); stage = RollBack write behind }) write behind) }

-- what a refusal makes of a trace
abbrev given_up : ℕ → Trace → Option Cause → Trace
given_up p s cause = option_map_or (λ cause. happens (Moves p (Takes (Abandon cause))) s) cause s

module _ (p : ℕ) {c : Simulation Free} (caller : IsCaller (terms_in c) p) where
  -- It waits for no one.
  pub gives_nothing : cause_at (attempt_in c p).stage ≡ None → (flight : Flight) → Leads p c c (AwaitsIn p c flight) (AwaitsIn p c flight) (gives_up p) done
  gives_nothing calm flight = record {
    terms = none_changed c;
    same = same_none p c;
    follows = λ s before.
        let here = before.follows.shows.attempts p caller in
        record { trace = s; after = before; leads = sym (ap (given_up p s) (ap (λ (t : Attempt). cause_at t.stage) here ∙ calm)) };
  }

  module _ {d : Simulation Free} (cause : Cause) (none : (attempt_in c p).due ≡ []) (is : cause_at (attempt_in c p).stage ≡ Some cause)
      (asks : Comes c (Moves p (Takes (Abandon cause))) d ⊎ Comes c (Moves p (OutOfMemory (Abandon cause))) d) where
    takes_it : (w : World) → ShowsWorld c w → Comes c (Moves p (Takes (Abandon cause))) d
    unfolding MayHappen May MayRunOut
    takes_it w shows = elim asks [
      | inl takes ↦ takes
      | inr lacks ↦ absurd ((lacks.able w shows).1.3)
    ]

    pub gives_rolls : (w : World) → ShowsWorld c w → Rolls (attempt_in c p) (attempt_in d p)
    gives_rolls w shows = rw (attempt_moved p caller w shows (takes_it w shows), rolls (attempt_in c p) cause none is) (rolled_rolls (attempt_in c p) cause none is)

    pub gives_leads : (w : World) → ShowsWorld c w → IsSameOf p c d → (flight : Flight) → Leads p c d (AwaitsIn p c flight) (AwaitsIn p d flight) (gives_up p) done
    gives_leads w shows same flight =
        let takes = takes_it w shows in record {
          terms = takes.terms;
          same = same;
          follows = λ s before.
              let here = before.follows.shows.attempts p caller in
              record {
                trace = happens (Moves p (Takes (Abandon cause))) s;
                after = record {
                  follows = record {
                    shows = takes.shows s.world before.follows.shows;
                    told = before.follows.told;
                    runs = ap (λ (t : Attempt). t.now.runs) (attempt_moved p caller w shows takes ∙ rolls (attempt_in c p) cause none is) ∙ rolled_runs (attempt_in c p) cause ∙ before.follows.runs;
                  };
                  rest = before.rest;
                };
                leads = sym (ap (given_up p s) (ap (λ (t : Attempt). cause_at t.stage) here ∙ is));
              };
        }
