-- What comes of an access of an attempt in flight, and of what follows it at once.
use Rattle.std.proofs.Common.{◌≡◌, ◌≤◌, ◌<◌, inl, inr, ℕ, List, [], ◌∷◌, length, Option, Some, None, IsSome, ap, sym, ◌∙◌, refl, subst, arith}
use Rattle.stm_core.specs.Machine.{next_of, over, standing}
use Rattle.stm_model.specs.Accesses.{next, next_at, unless_due}
use Rattle.stm_model.specs.Attempt.{Attempt, Due, Ended, cause_at}
use Rattle.stm_model.specs.World.{IsCaller, Steps}
use Rattle.stm_model.specs.declared.ending.Ending.{Ending}
use Rattle.stm_model.specs.declared.law.Free.{Free}
use Rattle.ledger_model.specs.Talk.{Talk}
use Rattle.ledger_model.specs.Traced.{Progress, Trace, answer_at, due_done, gives_up, goes_on, happens}
use Rattle.world_run.specs.Simulation.{Simulation, IsSameOf, attempt_in, left_of, machine_at, terms_in, turn_of}
use Rattle.host_trace.specs.declared.flight.Flight.{Flight}
use Rattle.host_trace.specs.declared.said.Said.{Said}
use Rattle.host_trace.specs.Flights.{AwaitsIn, Flies, Follows, GivesUp, GoesOn, HasFlown, IsShown, Leads, Nears, ahead, done, flown, rest_of}
use Rattle.host_trace.specs.Footings.{Expects, IsDone, Rests, footing_at, rank}
use Rattle.host_trace.specs.Tellings.{told_ending}
use Rattle.host_trace.proofs.Asking.{due_progress}
use Rattle.host_trace.proofs.Dues.{turn_undue}
use Rattle.host_trace.proofs.Leading.{Comes, attempt_stepped, leads_then}
use Rattle.host_trace.proofs.Ranks.{Fits, rank_most}
use Rattle.host_trace.proofs.Speaking.{done_expects}
use Rattle.host_trace.proofs.Telling.{ended_told, makes, makes_due, next_undue, over_told}

-- ---- the access

module _ (p : ℕ) {c d : Simulation Free} (caller : IsCaller (terms_in c) p) (comes : Comes c (Steps p) d) where
  pub steps_fit : IsShown c → Fits (footing_at (attempt_in c p) (attempt_in c p).stage) (attempt_in c p).now.runs (rank (attempt_in c p).stage) (attempt_in d p)
  steps_fit shown = attempt_stepped p caller shown.0 shown.1 comes

  pub steps_leads : IsSameOf p c d → (flight : Flight) → Leads p c d (AwaitsIn p c flight) (AwaitsIn p d flight) (happens (Steps p)) done
  steps_leads same flight = record {
    terms = comes.terms;
    same = same;
    follows = λ s before. record {
      trace = happens (Steps p) s;
      after = record {
        follows = record {
          shows = comes.shows s.world before.follows.shows;
          told = before.follows.told;
          runs = (attempt_stepped p caller s.world before.follows.shows comes).runs ∙ before.follows.runs;
        };
        rest = before.rest;
      };
      leads = refl;
    };
  }

fits_expects : (size : ℕ) (t u : Attempt) (rest : ℕ → Talk) → Fits (footing_at t t.stage) t.now.runs (rank t.stage) u → Expects size t rest → Expects size u rest
fits_expects size t u rest fits expects = record {
  allowed = λ two answer word.
      let most = rank_most t.stage in
      let low = fits.nearer in
      let here : rank t.stage ≡ 2 = omega (arith, two, most, low) in
      rw (fits.footing two) (expects.allowed here answer word);
}

-- ---- what is due then

pub due_awaits : (p : ℕ) {c d : Simulation Free} (flight : Flight) (told : Said) → Leads p c d (Follows p c flight.said) (Follows p d told) (due_done p) done
    → Leads p c d (AwaitsIn p c flight) (AwaitsIn p d (record flight { said = told })) (due_done p) done
due_awaits p flight told leads = record {
  terms = leads.terms;
  same = leads.same;
  follows = λ s before.
      let one = leads.follows s before.follows in
      let here : one.trace.progress ≡ s.progress = ap (λ (t : Trace). t.progress) one.leads ∙ due_progress p s in
      record {
        trace = one.trace;
        after = record { follows = one.after; rest = λ answer. ap (λ (progress : ℕ → Progress). (progress p).rest answer) here ∙ before.rest answer };
        leads = one.leads;
      };
}

-- ---- how it goes on

makes_going : (t : Attempt) → IsSome (next t) → t.stage ≡ Ended → ⊥
unfolding next_at
makes_going t some is =
    let none : next_at t t.stage ≡ None = rw is refl in
    go t.due (subst (λ (found : Option _). IsSome (unless_due t.due found)) none some)
  where
    go : (dues : List Due) → IsSome (unless_due dues None) → ⊥
    go [] some = cc
    go (due ∷ dues) some = cc

ends_no : (t : Attempt) (ending : Ending) → t.due ≡ [] → told_ending (next_of t) ≡ Some ending → t.ending ≡ Some ending
unfolding standing
ends_no t ending none is =
    let over_now = ended_told t ending none is in
    let here : next_of t ≡ over t.ending = next_undue t none ∙ rw over_now refl in
    go t.ending (sym (ap told_ending here) ∙ is)
  where
    go : (found : Option Ending) → told_ending (over found) ≡ Some ending → found ≡ Some ending
    go None told = cc
    go (Some other) told = told

-- Its access, and what is due then.
module _ (p : ℕ) {c c1 c2 : Simulation Free} (caller : IsCaller (terms_in c) p) (before : Flight) (told : Said) (flies : Flies p c before)
    (turns : Comes c (turn_of p (attempt_in c p).due) c1) (same : IsSameOf p c c1)
    (dues : Leads p c1 c2 (Follows p c1 before.said) (Follows p c2 told) (due_done p) done) (is : IsDone (attempt_in c1 p) (attempt_in c2 p)) where
  abbrev pub mid : Flight
  mid = record before { said = told }

  comes : Comes c (Steps p) c1
  comes = rw (turn_undue p (attempt_in c p).due (makes_due (attempt_in c p) flies.makes)) at turns

  fits : Fits (footing_at (attempt_in c p) (attempt_in c p).stage) (attempt_in c p).now.runs (rank (attempt_in c p).stage) (attempt_in c1 p)
  fits = steps_fit p caller comes flies.shown

  pub flown_expects : Expects (length c2.opening) (attempt_in c2 p) (rest_of mid)
  flown_expects =
      let opening : c2.opening ≡ c.opening = dues.terms.opening ∙ comes.terms.opening in
      subst (λ (opening : List ℕ). Expects (length opening) (attempt_in c2 p) (rest_of mid)) (sym opening)
      (done_expects (length c.opening) (attempt_in c1 p) (attempt_in c2 p) (rest_of mid) is (fits_expects (length c.opening) (attempt_in c p) (attempt_in c1 p) (rest_of before) fits flies.expects))

  ranked : rank (attempt_in c2 p).stage ≤ rank (attempt_in c p).stage
  ranked = let low = fits.nearer in let here : rank (attempt_in c2 p).stage ≡ rank (attempt_in c1 p).stage = ap rank is.stays.stage in omega (arith, low, here)

  -- and how it goes on
  module _ {c3 d : Simulation Free} (last : Flight)
      (leads : Leads p c2 c3 (AwaitsIn p c2 mid) (AwaitsIn p c3 last) (goes_on p) done) (rests : Rests (length c3.opening) (attempt_in c3 p) (rest_of last)) (goes : GoesOn c2 c3 mid last)
      (gives_leads : (flight : Flight) → Leads p c3 d (AwaitsIn p c3 flight) (AwaitsIn p d flight) (gives_up p) done) (gives : GivesUp p c3 d) where
    pub flown_leads : Leads p c d (AwaitsIn p c before) (AwaitsIn p d last) (flown p) done
    flown_leads = leads_then (leads_then (leads_then (steps_leads p caller comes same before) (due_awaits p before told dues)) leads) (gives_leads last)

    abbrev now : Attempt
    now = attempt_in d p

    undue : now.due ≡ []
    undue = elim gives [
      | inl calm ↦ ap (λ (e : Simulation Free). (attempt_in e p).due) calm.1 ∙ rests.nothing_due
      | inr rolls ↦ makes_due now rolls.makes
    ]

    module _ (begun : IsSome (machine_at d p) → IsSome (next_of now)) where
      begun_now : IsSome (machine_at d p)
      begun_now = flown_leads.same.begun flies.begun

      still : told_ending (next_of now) ≡ None → IsSome (next now)
      still none = elim gives [
        | inl calm ↦
            let here : now ≡ attempt_in c3 p = ap (λ (e : Simulation Free). attempt_in e p) calm.1 in
            makes now undue (ap (λ (t : Attempt). answer_at t.stage) here ∙ rests.quiet) (ap (λ (t : Attempt). cause_at t.stage) here ∙ calm.0)
            (λ ended. let told_over = over_told now undue ended (begun begun_now) in let never : Some told_over.0 ≡ None = sym told_over.1.1 ∙ none in cc)
        | inr rolls ↦ rolls.makes
      ]

      expects_now : Expects (length d.opening) now (rest_of last)
      expects_now =
          let opening = (gives_leads last).terms.opening in
          subst (λ (opening : List ℕ). Expects (length opening) now (rest_of last)) (sym opening) (elim gives [
            | inl calm ↦ subst (λ (e : Simulation Free). Expects (length c3.opening) (attempt_in e p) (rest_of last)) (sym calm.1) rests.expects
            | inr rolls ↦ let ends = rolls.ends in record { allowed = λ two. absurd (omega (arith, two, ends)) }
          ])

      module _ (falls : left_of c1 p < left_of c p) (left : left_of c2 p ≤ left_of c1 p) where
        nears : Nears p c d before last
        nears = elim goes [
          | inl stays ↦ elim gives [
            | inl calm ↦
                let same_rank : rank now.stage ≡ rank (attempt_in c2 p).stage = ap (λ (e : Simulation Free). rank (attempt_in e p).stage) (calm.1 ∙ stays.0) in
                let same_left : left_of d p ≡ left_of c2 p = ap (λ (e : Simulation Free). left_of e p) (calm.1 ∙ stays.0) in
                let same_ahead : ahead last ≡ ahead before = ap ahead stays.1 in
                let low = ranked in
                inr (omega (arith, same_rank, same_ahead, low), omega (arith, same_left, falls, left))
            | inr rolls ↦
                let same_rank : rank (attempt_in c3 p).stage ≡ rank (attempt_in c2 p).stage = ap (λ (e : Simulation Free). rank (attempt_in e p).stage) stays.0 in
                let same_ahead : ahead last ≡ ahead before = ap ahead stays.1 in
                let one = rolls.refused in
                let none = rolls.ends in
                let low = ranked in
                inl (omega (arith, same_rank, same_ahead, one, none, low))
          ]
          | inr nearer ↦
              let most = rank_most now.stage in
              let less : ahead last < ahead before = nearer in
              inl (omega (arith, most, less))
        ]

        pub has_flown : IsShown d → (ending : Option Ending) → ending ≡ told_ending (next_of now) → HasFlown p c d before last ending
        has_flown shown None told_so = record { flies = record { shown = shown; begun = begun_now; makes = still (sym told_so); expects = expects_now }; nears = nears }
        has_flown shown (Some ending) told_so = record { over = record { ended = ended_told now ending undue (sym told_so); nothing_due = undue }; ends = ends_no now ending undue (sym told_so) }
