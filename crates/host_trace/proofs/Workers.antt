-- What a turn makes of a worker. Here p is the worker, c and d are simulations, before and after, and s is a trace.
use Rattle.std.proofs.Common.{◌≡◌, ℕ, suc, ◌+◌, Bool, true, false, if◌then◌else◌, List, [], ◌∷◌, length, Option, Some, None, IsSome, refl, ap, sym, subst, ◌∙◌, arith}
use Rattle.opacity.proofs.Places.{replaced_here}
use Rattle.stm_model.specs.Accesses.{next, next_at, unless_due}
use Rattle.stm_model.specs.Attempt.{Attempt, Due, Ended, Stage, flies_at}
use Rattle.stm_model.specs.Moves.{Begins, begun, moved}
use Rattle.stm_model.specs.World.{IsCaller, Moves, World, happened}
use Rattle.stm_model.specs.declared.cause.Cause.{Cause}
use Rattle.stm_model.specs.declared.cause.Cause.TheVariants.{ClockEnd, User}
use Rattle.stm_model.specs.declared.ending.Ending.{Ending}
use Rattle.stm_model.specs.declared.ending.Ending.TheVariants.{Committed, Read, Rolled as RolledBack}
use Rattle.stm_model.specs.declared.law.Free.{Free}
use Rattle.ledger_model.specs.declared.job.Job.{Job}
use Rattle.ledger_model.specs.declared.listing.Rolled.{Rolled}
use Rattle.ledger_model.specs.declared.listing.Row.{Row}
use Rattle.ledger_model.specs.declared.script.Script.{Script}
use Rattle.ledger_model.specs.Allowed.{IsAllowed, first_footing}
use Rattle.ledger_model.specs.Replays.{block_of, rolled_of, settled_by}
use Rattle.ledger_model.specs.Talk.{talk}
use Rattle.ledger_model.specs.Traced.{Progress, Trace, access, attempt_in as traced_attempt, begins, ended_with, ends, fresh, rolled_with, with_rolled}
use Rattle.script_cursor.specs.Cursors.{after, talk_of}
use Rattle.world_run.specs.Simulation.{Simulation, Happens, attempt_in, machine_at, terms_in}
use Rattle.world_run.proofs.Seats.{caller_then}
use Rattle.host_trace.specs.declared.flight.Flight.{Flight}
use Rattle.host_trace.specs.declared.worker.Worker.{Worker}
use Rattle.host_trace.specs.Flights.{AwaitsIn, Flies, FliesOn, HasLanded, Leads, ShowsWorld, done, flown, rest_of}
use Rattle.host_trace.specs.Footings.{footing_at}
use Rattle.host_trace.specs.Tellings.{IsTold}
use Rattle.host_trace.specs.Tracings.{BeginsOn, HasSaid, IsFlight, Lists, ListsOn, Works, WorksOn}
use Rattle.host_trace.proofs.Leading.{attempt_moved}
use Rattle.host_trace.proofs.Others.{flown_stays}

-- ---- how an attempt ends

pub lists_as : {p : ℕ} {Says : Trace → Type 0} {rows rest : List Row} {worker after : Worker} (f g : Trace → Trace)
    → ListsOn p Says rows rest worker after f → ((s : Trace) → f s ≡ g s) → ListsOn p Says rows rest worker after g
lists_as {p = p} {rest = rest} {after = after} f g lists same = record {
  attempts = lists.attempts;
  flight = lists.flight;
  lists = λ s says listed. subst (Lists p rest after) (same s) (lists.lists s says listed);
}

pub rolled_otherwise : (cause : Cause) (p prefix : ℕ) (s : Trace) → ((code : ℕ) → cause ≡ User code → ⊥) → ((clock : ℕ) → cause ≡ ClockEnd clock → ⊥)
    → with_rolled p prefix cause s ≡ rolled_with cause p prefix s
rolled_otherwise (User code) p prefix s fails spends = absurd (fails code refl)
rolled_otherwise (ClockEnd clock) p prefix s fails spends = absurd (spends clock refl)
rolled_otherwise cause p prefix s fails spends = refl

rolled_world : (cause : Cause) (p prefix : ℕ) (s : Trace) → (rolled_with cause p prefix s).world ≡ s.world
rolled_world (User code) p prefix s = refl
rolled_world (ClockEnd clock) p prefix s = refl
rolled_world cause p prefix s = refl

ended_world : (ending : Option Ending) (p : ℕ) (s : Trace) → (ended_with ending p s).world ≡ s.world
ended_world None p s = refl
ended_world (Some (Committed stamp)) p s = refl
ended_world (Some (Read prefix)) p s = refl
ended_world (Some (RolledBack cause prefix)) p s = rolled_world cause p prefix s

-- ---- an access

flies_unless_due : (t : Attempt) (stage : Stage) (dues : List Due) → IsSome (unless_due dues (next_at t stage)) → flies_at stage ≡ true
unfolding flies_at next_at
flies_unless_due t Ended [] makes = cc
flies_unless_due t Ended (due ∷ dues) makes = cc
flies_unless_due t stage dues makes = refl

pub makes_flies : (t : Attempt) → IsSome (next t) → flies_at t.stage ≡ true
makes_flies t makes = flies_unless_due t t.stage t.due makes

pub ended_not : (stage : Stage) → stage ≡ Ended → flies_at stage ≡ false
unfolding flies_at
ended_not stage is = ap (λ (stage : Stage). flies_at stage) is

module _ {p : ℕ} {c d : Simulation Free} (caller : IsCaller (terms_in c) p) (flight after : Flight)
    (leads : Leads p c d (AwaitsIn p c flight) (AwaitsIn p d after) (flown p) done) where
  module _ (s : Trace) (awaits : AwaitsIn p c flight s) where
    -- what is followed then
    follows : AwaitsIn p d after (flown p s)
    follows = let led = leads.follows s awaits in subst (AwaitsIn p d after) led.leads led.after

    attempt_then : traced_attempt (flown p s) p ≡ attempt_in d p
    attempt_then = follows.follows.shows.attempts p (caller_then p leads.terms caller)

    lists_then : (rows : List Row) (worker other : Worker) → other.settled ≡ worker.settled → other.rolled.items ≡ worker.rolled.items
        → Lists p rows worker s → Lists p rows other (flown p s)
    lists_then rows worker other settled rolled lists =
        let stays = flown_stays p s in
        record {
          rows = stays.rows ∙ lists.rows;
          settled = ap (λ (rows : List Row). settled_by rows p) stays.rows ∙ lists.settled ∙ sym settled;
          rolled = ap (λ (lines : List Rolled). rolled_of p lines) stays.rolled ∙ lists.rolled ∙ sym rolled;
        }

  -- The attempt still flies.
  pub flies_on : (rows : List Row) (worker : Worker) → worker.flight ≡ Some flight → FliesOn p c d flight after
      → WorksOn p c d rows rows worker (record worker { flight = Some after }) (access p)
  flies_on rows worker is on = record {
    terms = leads.terms;
    works = λ job s works.
        let here : IsFlight job p c s flight = rw is at works.flight in
        let still : ends p (flown p s) ≡ flown p s =
        ap (λ (flies : Bool). if flies then flown p s else ended_with (traced_attempt (flown p s) p).ending p (flown p s))
        (ap (λ (t : Attempt). flies_at t.stage) (attempt_then s here.awaits) ∙ makes_flies (attempt_in d p) on.flies.makes) in
        subst (Works job p d rows (record worker { flight = Some after })) (sym still)
        (record {
          shows = (follows s here.awaits).follows.shows;
          lists = lists_then s here.awaits rows worker (record worker { flight = Some after }) refl refl works.lists;
          attempts = leads.same.same.serial ∙ works.attempts;
          flight = record {
            awaits = follows s here.awaits;
            flies = on.flies;
            left = rw (flown_stays p s).rows here.left;
          };
        });
  }

  -- It is over, and its end is listed.
  pub lands : (rows rest : List Row) (worker last : Worker) (ending : Ending) → worker.flight ≡ Some flight → HasLanded p d ending
      → ListsOn p (HasSaid p after.said) rows rest (record worker { flight = None }) last (ended_with (Some ending) p)
      → WorksOn p c d rows rest worker last (access p)
  lands rows rest worker last ending is landed lists = record {
    terms = leads.terms;
    works = λ job s works.
        let here : IsFlight job p c s flight = rw is at works.flight in
        let u = flown p s in
        let there = follows s here.awaits in
        let same = attempt_then s here.awaits in
        let over : ends p u ≡ ended_with (Some ending) p u =
        ap (λ (flies : Bool). if flies then u else ended_with (traced_attempt u p).ending p u)
        (ap (λ (t : Attempt). flies_at t.stage) same ∙ ended_not (attempt_in d p).stage landed.over.ended)
        ∙ ap (λ (t : Attempt). ended_with t.ending p u) same ∙ ap (λ (ending : Option Ending). ended_with ending p u) landed.ends in
        subst (Works job p d rest last) (sym over)
        (record {
          shows = rw (ended_world (Some ending) p u) there.follows.shows;
          lists = lists.lists u (record { told = there.follows.told; runs = ap (λ (t : Attempt). t.now.runs) same ∙ there.follows.runs })
              (lists_then s here.awaits rows worker (record worker { flight = None }) refl refl works.lists);
          attempts = leads.same.same.serial ∙ works.attempts ∙ sym lists.attempts;
          flight = rw lists.flight landed.over;
        });
  }

-- ---- a beginning

abbrev lawful : Free → List ℕ → Type 0
lawful law heap = Unit {0}

abbrev may : Free → List ℕ → List ℕ → Type 0
may law heap next = Unit {0}

module _ {p : ℕ} {c d : Simulation Free} (caller : IsCaller (terms_in c) p) (script : Script) (flight : Flight)
    (talks : talk_of flight.cursor ≡ talk script.block) (answered : flight.answered ≡ false)
    (runs : flight.said.runs.items ≡ []) (told : IsTold flight.said (fresh (talk script.block)))
    (allowed : IsAllowed (length c.opening) first_footing (talk script.block))
    (comes : Happens lawful may c (Moves p (Begins c.settings)) d) (some : IsSome (machine_at d p)) where
  rest_then : (answer : ℕ) → rest_of flight answer ≡ talk script.block
  rest_then answer = ap (λ (b : Bool). if b then after (talk_of flight.cursor) answer else talk_of flight.cursor) answered ∙ talks

  module _ (w : World) (shows : ShowsWorld c w) where
    attempt_begun : attempt_in d p ≡ begun (attempt_in c p) c.settings
    unfolding moved
    attempt_begun = attempt_moved p caller w shows comes

    begun_flies : Flies p d flight
    unfolding next_at footing_at
    begun_flies = record {
      shown = (happened w (Moves p (Begins c.settings)), comes.shows w shows);
      begun = some;
      makes = subst (λ (t : Attempt). IsSome (next t)) (sym attempt_begun) refl;
      expects = record {
        allowed = λ two answer word. rw (attempt_begun, comes.terms.opening, rest_then answer) allowed;
      };
    }

  begun_awaits : (job : Job) (s : Trace) → block_of job p (suc (settled_by s.rows p)) ≡ script.block → ShowsWorld c s.world → AwaitsIn p d flight (begins job c.settings p s)
  begun_awaits job s block shows =
      let now = fresh (talk (block_of job p (suc (settled_by s.rows p)))) in
      let here : (begins job c.settings p s).progress p ≡ now = replaced_here s.progress p now in
      record {
        follows = record {
          shows = comes.shows s.world shows;
          told = rw (here, block) told;
          runs = ap (λ (t : Attempt). t.now.runs) (attempt_begun s.world shows) ∙ sym runs;
        };
        rest = λ answer. ap (λ (now : Progress). now.rest answer) here ∙ ap talk block ∙ sym (rest_then answer);
      }

  pub begins_on : (worker : Worker) → BeginsOn p script c d worker (record worker { attempts = worker.attempts + 1; flight = Some flight })
  begins_on worker = record {
    terms = comes.terms;
    works = λ job rows s left block works. record {
      shows = comes.shows s.world works.shows;
      lists = record { rows = works.lists.rows; settled = works.lists.settled; rolled = works.lists.rolled };
      attempts = ap (λ (t : Attempt). t.serial) (attempt_begun s.world works.shows) ∙ omega (arith, works.attempts);
      flight = record {
        awaits = begun_awaits job s block works.shows;
        flies = begun_flies s.world works.shows;
        left = left;
      };
    };
  }
