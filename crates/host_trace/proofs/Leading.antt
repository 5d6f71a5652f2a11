-- Traces that lead to one another, and what each event makes of one.
use Rattle.std.proofs.Common.{◌≡◌, ℕ, Option, Some, None, ap, sym, ◌∙◌, refl, subst, arith}
use Rattle.opacity.proofs.Places.{attempt_here, replaced_here}
use Rattle.stm_core.specs.Machine.{IsSameAttempt}
use Rattle.stm_model.specs.Accesses.{Act, next}
use Rattle.stm_model.specs.Attempt.{Attempt}
use Rattle.stm_model.specs.Moves.{Move, moved}
use Rattle.stm_model.specs.World.{Event, IsCaller, Moves, Steps, World, attempt_of, found, happened, step_by, view_after, words_after}
use Rattle.stm_model.specs.declared.law.Free.{Free}
use Rattle.ledger_model.specs.Traced.{Progress, Trace, happens, with_progress}
use Rattle.world_run.specs.Simulation.{Simulation, Happens, IsSameOf, attempt_in, terms_in}
use Rattle.world_run.proofs.Seats.{caller_then, none_changed, terms_on}
use Rattle.host_trace.specs.declared.said.Said.{Said}
use Rattle.host_trace.specs.Flights.{Follows, Leads, ShowsWorld, done}
use Rattle.host_trace.specs.Footings.{footing_at, rank}
use Rattle.host_trace.specs.Tellings.{IsTold}
use Rattle.host_trace.proofs.Ranks.{Fits, access_fits}

-- ---- the same attempt

same_attempt : {t u v : Attempt} → IsSameAttempt t u → IsSameAttempt u v → IsSameAttempt t v
same_attempt first second = record { own = second.own ∙ first.own; serial = second.serial ∙ first.serial; settings = second.settings ∙ first.settings }

pub same_on : {p : ℕ} {a b c : Simulation Free} → IsSameOf p a b → IsSameOf p b c → IsSameOf p a c
same_on first second = record { begun = λ some. second.begun (first.begun some); same = same_attempt first.same second.same }

pub same_none : (p : ℕ) (c : Simulation Free) → IsSameOf p c c
same_none p c = record { begun = λ some. some; same = record { own = refl; serial = refl; settings = refl } }

-- ---- one after another

module _ {p : ℕ} where
  pub leads_none : (c : Simulation Free) (Before : Trace → Type 0) (this : Trace → Trace) → Leads p c c Before Before this this
  leads_none c Before this = record { terms = none_changed c; same = same_none p c; follows = λ s before. record { trace = s; after = before; leads = refl } }

  -- what leads on to the rest, and then the rest
  pub leads_on : {a b c : Simulation Free} {A B C : Trace → Type 0} {f g h : Trace → Trace} → Leads p a b A B f g → Leads p b c B C g h → Leads p a c A C f h
  leads_on first second = record {
    terms = terms_on first.terms second.terms;
    same = same_on first.same second.same;
    follows = λ s before.
        let one = first.follows s before in
        let two = second.follows one.trace one.after in
        record { trace = two.trace; after = two.after; leads = two.leads ∙ one.leads };
  }

  -- one thing done, and then another
  pub leads_then : {a b c : Simulation Free} {A B C : Trace → Type 0} {f g h : Trace → Trace} → Leads p a b A B f done → Leads p b c B C g h → Leads p a c A C (λ s. g (f s)) h
  leads_then {g = g} first second = record {
    terms = terms_on first.terms second.terms;
    same = same_on first.same second.same;
    follows = λ s before.
        let one = first.follows s before in
        let two = second.follows one.trace one.after in
        record { trace = two.trace; after = two.after; leads = two.leads ∙ ap g one.leads };
  }

  -- the same by other names
  pub leads_as : {a b : Simulation Free} {A B C : Trace → Type 0} {f g : Trace → Trace} (h k : Trace → Trace) → Leads p a b A B f g
      → ((s : Trace) → h s ≡ f s) → ((s : Trace) → B s → C s) → ((s : Trace) → k s ≡ g s) → Leads p a b A C h k
  leads_as h k leads front back rest = record {
    terms = leads.terms;
    same = leads.same;
    follows = λ s before.
        let one = leads.follows s before in
        record { trace = one.trace; after = back one.trace one.after; leads = rest one.trace ∙ one.leads ∙ sym (front s) };
  }

-- ---- one event

-- The event happens, under the free law.
abbrev pub Comes : Simulation Free → Event → Simulation Free → Type 0
Comes c event d = Happens (λ law heap. Unit {0}) (λ law heap next. Unit {0}) c event d

-- what an access leaves of its attempt
acted : (w : World) (p : ℕ) (this : Option Act) → Fits (footing_at (attempt_of w p) (attempt_of w p).stage) (attempt_of w p).now.runs (rank (attempt_of w p).stage) (attempt_of (step_by w p this) p)
unfolding step_by
acted w p None = record { nearer = omega arith; footing = λ two. refl; runs = refl }
acted w p (Some act) = rw (attempt_here (words_after w (attempt_of w p) act) p (view_after w (w.view p) act)) (access_fits (attempt_of w p) (found w act))

module _ (p : ℕ) {c d : Simulation Free} (caller : IsCaller (terms_in c) p) where
  module _ (w : World) (shows : ShowsWorld c w) where
    -- the attempt after a local move
    pub attempt_moved : {this : Move} → Comes c (Moves p this) d → attempt_in d p ≡ moved (attempt_in c p) this
    unfolding happened
    attempt_moved {this = this} happens =
        sym ((happens.shows w shows).attempts p (caller_then p happens.terms caller))
        ∙ attempt_here w p (record (w.view p) { attempt = moved (attempt_of w p) this })
        ∙ ap (λ (t : Attempt). moved t this) (shows.attempts p caller)

    -- after its next access
    pub attempt_stepped : Comes c (Steps p) d → Fits (footing_at (attempt_in c p) (attempt_in c p).stage) (attempt_in c p).now.runs (rank (attempt_in c p).stage) (attempt_in d p)
    unfolding happened
    attempt_stepped happens =
        let before = shows.attempts p caller in
        let after = (happens.shows w shows).attempts p (caller_then p happens.terms caller) in
        subst (λ (t : Attempt). Fits (footing_at t t.stage) t.now.runs (rank t.stage) (attempt_in d p)) before
        (subst (λ (t : Attempt). Fits (footing_at (attempt_of w p) (attempt_of w p).stage) (attempt_of w p).now.runs (rank (attempt_of w p).stage) t) after (acted w p (next (attempt_of w p))))

  -- An event of the attempt, by which the same handlers have run.
  pub leads_by : {event : Event} {said : Said} (told : Said) → Comes c event d → IsSameOf p c d
      → ((now : Progress) → IsTold said now → IsTold told now)
      → ((w : World) → ShowsWorld c w → (attempt_in c p).now.runs ≡ said.runs.items → (attempt_in d p).now.runs ≡ told.runs.items)
      → Leads p c d (Follows p c said) (Follows p d told) (happens event) done
  leads_by {event = event} told comes same tells runs = record {
    terms = comes.terms;
    same = same;
    follows = λ s before. record {
      trace = happens event s;
      after = record { shows = comes.shows s.world before.shows; told = tells (s.progress p) before.told; runs = runs s.world before.shows before.runs };
      leads = refl;
    };
  }

-- The script said something, which changes its progress alone.
pub leads_told : (p : ℕ) (c : Simulation Free) (said told : Said) (make : Progress → Progress)
    → ((now : Progress) → IsTold said now → IsTold told (make now)) → told.runs ≡ said.runs
    → Leads p c c (Follows p c said) (Follows p c told) (λ s. with_progress p (make (s.progress p)) s) done
leads_told p c said told make tells runs = record {
  terms = none_changed c;
  same = same_none p c;
  follows = λ s before. record {
    trace = with_progress p (make (s.progress p)) s;
    after = record {
      shows = before.shows;
      told = rw (replaced_here s.progress p (make (s.progress p))) (tells (s.progress p) before.told);
      runs = rw runs before.runs;
    };
    leads = refl;
  };
}
