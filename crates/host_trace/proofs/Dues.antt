-- What is due is done, one thing after another.
use Rattle.std.proofs.Common.{◌≡◌, ◌<◌, ℕ, false, List, [], ◌∷◌, ◌++◌, length, ap, sym, ◌∙◌, refl, subst, append-nil, arith}
use Rattle.opacity.proofs.Places.{attempt_here}
use Rattle.stm_core.specs.Machine.{next_of}
use Rattle.stm_model.specs.Attempt.{Attempt, Due, Ring, Run}
use Rattle.stm_model.specs.Moves.{Does, did_first, moved}
use Rattle.stm_model.specs.World.{IsCaller, Moves, Steps, World, attempt_of, happened}
use Rattle.stm_model.specs.declared.law.Free.{Free}
use Rattle.ledger_model.specs.Traced.{Progress, Trace, all_done, attempt_in as attempt_at, due_done, happens}
use Rattle.world_run.specs.Simulation.{Simulation, IsSameOf, attempt_in, terms_in, turn_of}
use Rattle.world_run.proofs.Seats.{caller_then}
use Rattle.host_trace.specs.declared.said.Said.{Said}
use Rattle.host_trace.specs.Flights.{Follows, Leads, ShowsWorld, done}
use Rattle.host_trace.specs.Footings.{Stays}
use Rattle.host_trace.specs.Tellings.{IsTold, tells_due, told_run}
use Rattle.host_trace.proofs.Leading.{Comes, attempt_moved}
use Rattle.host_trace.proofs.Telling.{did_stays, due_none, due_runs, run_none}

pub turn_due : (p : ℕ) (dues : List Due) → 0 < length dues → turn_of p dues ≡ Moves p Does
turn_due p [] some = absurd (omega (arith, some))
turn_due p (due ∷ dues) some = refl

pub turn_undue : (p : ℕ) (dues : List Due) → dues ≡ [] → turn_of p dues ≡ Steps p
turn_undue p [] none = refl
turn_undue p (due ∷ dues) none = cc

did_due : (t : Attempt) (due : Due) (behind : List Due) → (did_first t (due ∷ behind)).due ≡ behind
did_due t (Run phase token) behind = refl
did_due t (Ring cell) behind = refl

done_then : (p : ℕ) (s : Trace) → (attempt_at (happens (Moves p Does) s) p).due ≡ (moved (attempt_at s p) Does).due
unfolding happened
done_then p s = ap (λ (t : Attempt). t.due) (attempt_here s.world p (record (s.world.view p) { attempt = moved (attempt_of s.world p) Does }))

-- The first that is due is done, and then the others.
due_step : (p : ℕ) (s : Trace) (dues : List Due) → (attempt_at s p).due ≡ dues → 0 < length dues → due_done p (happens (Moves p Does) s) ≡ all_done p dues s
unfolding moved
due_step p s [] is some = absurd (omega (arith, some))
due_step p s (due ∷ behind) is some =
    let rest : (attempt_at (happens (Moves p Does) s) p).due ≡ behind =
    done_then p s ∙ ap (λ (dues : List Due). (did_first (attempt_at s p) dues).due) is ∙ did_due (attempt_at s p) due behind in
    ap (λ (dues : List Due). all_done p dues (happens (Moves p Does) s)) rest

module _ (p : ℕ) {c d : Simulation Free} (caller : IsCaller (terms_in c) p) where
  pub due_leads : (said told : Said) → Comes c (turn_of p (attempt_in c p).due) d → IsSameOf p c d → 0 < length (attempt_in c p).due
      → ((now : Progress) → IsTold said now → IsTold told now) → told.runs.items ≡ said.runs.items ++ told_run (next_of (attempt_in c p))
      → Leads p c d (Follows p c said) (Follows p d told) (due_done p) (due_done p)
  due_leads said told turns same some tells runs =
      let comes : Comes c (Moves p Does) d = rw (turn_due p (attempt_in c p).due some) at turns in record {
        terms = comes.terms;
        same = same;
        follows = λ s before.
            let here = before.shows.attempts p caller in record {
              trace = happens (Moves p Does) s;
              after = record {
                shows = comes.shows s.world before.shows;
                told = tells (s.progress p) before.told;
                runs = rw (attempt_moved p caller s.world before.shows comes) (due_runs (attempt_in c p) ∙ ap (λ run. run ++ told_run (next_of (attempt_in c p))) before.runs ∙ sym runs);
              };
              leads = due_step p s (attempt_at s p).due refl (subst (λ (t : Attempt). 0 < length t.due) (sym here) some);
            };
      }

  pub due_stays : (w : World) → ShowsWorld c w → Comes c (turn_of p (attempt_in c p).due) d → 0 < length (attempt_in c p).due → Stays (attempt_in c p) (attempt_in d p)
  due_stays w shows turns some =
      let comes : Comes c (Moves p Does) d = rw (turn_due p (attempt_in c p).due some) at turns in
      let stays = did_stays (attempt_in c p) in
      rw (attempt_moved p caller w shows comes) (record { stage = stays.0; laters = stays.1; saved = stays.2; turn = stays.3 })

pub stays_on : {t u v : Attempt} → Stays t u → Stays u v → Stays t v
stays_on first second = record { stage = second.stage ∙ first.stage; laters = second.laters ∙ first.laters; saved = second.saved ∙ first.saved; turn = second.turn ∙ first.turn }

pub stays_none : (t : Attempt) → Stays t t
stays_none t = record { stage = refl; laters = refl; saved = refl; turn = refl }

-- Where nothing is due, nothing is left to do.
pub due_over : {p : ℕ} {b c : Simulation Free} {A : Trace → Type 0} {f : Trace → Trace} {said : Said} (told : Said) → IsCaller (terms_in b) p → tells_due (next_of (attempt_in c p)) ≡ false
    → ((now : Progress) → IsTold said now → IsTold told now) → told.runs.items ≡ said.runs.items ++ told_run (next_of (attempt_in c p))
    → Leads p b c A (Follows p c said) f (due_done p) → Leads p b c A (Follows p c told) f done
due_over {p = p} {c = c} {said = said} told caller quiet tells runs leads = record {
  terms = leads.terms;
  same = leads.same;
  follows = λ s before.
      let one = leads.follows s before in
      let here = one.after.shows.attempts p (caller_then p leads.terms caller) in
      let nothing : (attempt_at one.trace p).due ≡ [] = ap (λ (t : Attempt). t.due) here ∙ due_none (attempt_in c p) quiet in
      let kept : told.runs.items ≡ said.runs.items = runs ∙ ap (λ run. said.runs.items ++ run) (run_none (next_of (attempt_in c p)) quiet) ∙ append-nil said.runs.items in
      record {
        trace = one.trace;
        after = record { shows = one.after.shows; told = tells (one.trace.progress p) one.after.told; runs = one.after.runs ∙ sym kept };
        leads = sym (ap (λ (dues : List Due). all_done p dues one.trace) nothing) ∙ one.leads;
      };
}
