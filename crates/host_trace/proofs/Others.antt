-- What a worker's attempt leaves as it is: the rows and the rolled lines until it ends, and always the attempts of all others. Here p is the worker, s and u are traces, before and after.
use Rattle.std.proofs.Common.{◌≡◌, ◌≢◌, ℕ, List, [], ◌∷◌, Option, Some, None, refl, ap, ◌∙◌}
use Rattle.std.specs.Option.{option_map_or}
use Rattle.opacity.specs.Effects.{caller_of}
use Rattle.opacity.proofs.Effects.{others_views}
use Rattle.opacity.proofs.Places.{replaced_else}
use Rattle.stm_model.specs.Attempt.{Due, cause_at}
use Rattle.stm_model.specs.Moves.{Does, EndsLate, Takes}
use Rattle.stm_model.specs.World.{Event, Moves, Steps, View}
use Rattle.stm_model.specs.declared.access.Ask.{Ask}
use Rattle.stm_model.specs.declared.access.Ask.TheVariants.{Abandon}
use Rattle.ledger_model.specs.Talk.{Talk, Over, Says, Asks, Ends}
use Rattle.ledger_model.specs.Traced.{Progress, Trace, all_done, answer_in, asked, attempt_in, due_done, gives_up, goes_on, happens, requested, returned, said, speaks, with_progress}
use Rattle.host_trace.specs.Flights.{flown}

-- The rows and the rolled lines are as before, and so is all that is of other workers.
pub record Stays (p : ℕ) (s u : Trace) : Type 0 where
  pub rows : u.rows ≡ s.rows
  pub rolled : u.rolled ≡ s.rolled
  pub attempts : (q : ℕ) → q ≢ p → attempt_in u q ≡ attempt_in s q
  pub progress : (q : ℕ) → q ≢ p → u.progress q ≡ s.progress q

module _ {p : ℕ} where
  pub stays_none : (s : Trace) → Stays p s s
  stays_none s = record { rows = refl; rolled = refl; attempts = λ q other. refl; progress = λ q other. refl }

  pub stays_on : {s u v : Trace} → Stays p s u → Stays p u v → Stays p s v
  stays_on first second = record {
    rows = second.rows ∙ first.rows;
    rolled = second.rolled ∙ first.rolled;
    attempts = λ q other. second.attempts q other ∙ first.attempts q other;
    progress = λ q other. second.progress q other ∙ first.progress q other;
  }

module _ (p : ℕ) where
  pub happens_stays : (event : Event) (s : Trace) → caller_of event ≡ p → Stays p s (happens event s)
  happens_stays event s own = record {
    rows = refl;
    rolled = refl;
    attempts = λ q other. ap (λ (view : View). view.attempt) (others_views s.world event q (rw own other));
    progress = λ q other. refl;
  }

  pub progress_stays : (now : Progress) (s : Trace) → Stays p s (with_progress p now s)
  progress_stays now s = record { rows = refl; rolled = refl; attempts = λ q other. refl; progress = λ q other. replaced_else s.progress p now q other }

  all_done_stays : (dues : List Due) (s : Trace) → Stays p s (all_done p dues s)
  all_done_stays [] s = stays_none s
  all_done_stays (due ∷ dues) s = stays_on (happens_stays (Moves p Does) s refl) (all_done_stays dues (happens (Moves p Does) s))

  due_done_stays : (s : Trace) → Stays p s (due_done p s)
  due_done_stays s = all_done_stays (attempt_in s p).due s

  if_stays : {X : Type 0} (found : Option X) (next : X → Trace) (s u : Trace) → Stays p s u → ((x : X) → Stays p u (next x)) → Stays p s (option_map_or next found u)
  if_stays None next s u first then = first
  if_stays (Some x) next s u first then = stays_on first (then x)

  requested_stays : (ask : Ask) (rest : ℕ → Talk) (s : Trace) → Stays p s (requested p ask rest s)
  requested_stays ask rest s =
      let now = with_progress p (asked ask rest (s.progress p)) s in
      stays_on (progress_stays (asked ask rest (s.progress p)) s) (stays_on (happens_stays (Moves p (Takes ask)) now refl) (due_done_stays (happens (Moves p (Takes ask)) now)))

  returned_stays : (rest : Talk) (s : Trace) → Stays p s (returned p rest s)
  returned_stays rest s =
      let now = with_progress p (record (s.progress p) { rest = λ answer. rest }) s in
      stays_on (progress_stays (record (s.progress p) { rest = λ answer. rest }) s) (stays_on (happens_stays (Moves p EndsLate) now refl) (due_done_stays (happens (Moves p EndsLate) now)))

  speaks_stays : (talk : Talk) (s : Trace) → Stays p s (speaks p talk s)
  speaks_stays (Over end) s = stays_none s
  speaks_stays (Says number rest) s = stays_on (progress_stays (said number (s.progress p)) s) (speaks_stays rest (with_progress p (said number (s.progress p)) s))
  speaks_stays (Asks ask rest) s =
      if_stays (answer_in (requested p ask rest s) p) (λ answer. speaks p (rest answer) (requested p ask rest s)) s (requested p ask rest s) (requested_stays ask rest s)
      (λ answer. speaks_stays (rest answer) (requested p ask rest s))
  speaks_stays (Ends rest) s =
      if_stays (answer_in (returned p rest s) p) (λ answer. speaks p rest (returned p rest s)) s (returned p rest s) (returned_stays rest s)
      (λ answer. speaks_stays rest (returned p rest s))

  goes_on_stays : (s : Trace) → Stays p s (goes_on p s)
  goes_on_stays s =
      if_stays (answer_in s p) (λ answer. speaks p ((s.progress p).rest answer) s) s s (stays_none s) (λ answer. speaks_stays ((s.progress p).rest answer) s)

  gives_up_stays : (s : Trace) → Stays p s (gives_up p s)
  gives_up_stays s =
      if_stays (cause_at (attempt_in s p).stage) (λ cause. happens (Moves p (Takes (Abandon cause))) s) s s (stays_none s) (λ cause. happens_stays (Moves p (Takes (Abandon cause))) s refl)

  pub flown_stays : (s : Trace) → Stays p s (flown p s)
  flown_stays s =
      let first = happens (Steps p) s in
      let second = due_done p first in
      let third = goes_on p second in
      stays_on (happens_stays (Steps p) s refl) (stays_on (due_done_stays first) (stays_on (goes_on_stays second) (gives_up_stays third)))
