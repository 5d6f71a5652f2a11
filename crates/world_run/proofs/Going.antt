-- Runs of one caller, put together, and what each event adds.
use Rattle.std.proofs.Common.{◌≡◌, ◌⊎◌, inl, inr, ℕ, ◌≤◌, List, [], ◌∷◌, ◌++◌, length, Option, Some, None, ap, sym, ◌∙◌, refl, subst, append-nil, append_assoc, arith}
use Rattle.std.specs.List.{All}
use Rattle.std.proofs.lemmas.List.Elements.{All-append, All-cons, All-nil, All-weaker}
use Rattle.opacity.proofs.Effects.{history_after}
use Rattle.opacity.proofs.Places.{attempt_here}
use Rattle.opacity.specs.Effects.{caller_of}
use Rattle.stm_core.specs.Machine.{IsSameAttempt}
use Rattle.stm_model.specs.Accesses.{Act, next}
use Rattle.stm_model.specs.Attempt.{Attempt, Due}
use Rattle.stm_model.specs.History.{Entry}
use Rattle.stm_model.specs.Moves.{AwaitsAsk, EndsLate, OutOfMemory, May, MayRunOut, Move, Takes, moved}
use Rattle.stm_model.specs.World.{Event, IsCaller, MayHappen, MayRun, Moves, Steps, Terms, World, attempt_of, cells_in, entry_of, found, happened, run, step_by, view_after, words_after}
use Rattle.stm_model.specs.declared.access.Ask.{Ask}
use Rattle.stm_model.specs.declared.access.Ask.TheVariants.{Finish}
use Rattle.world_run.specs.Simulation.{Simulation, Happens, IsSameOf, Shows, attempt_in, terms_in, turn_of}
use Rattle.world_run.specs.Going.{GoesOn, IsClosing, IsDriven, IsEnding, IsOf, LostAt, MeetsOwedAt, MeetsOwedBy, writes_of}
use Rattle.world_run.specs.Run.{LeadsTo, asks_in, asks_of}
use Rattle.world_run.proofs.Closings.{closing_after, closing_does, closing_waits, finish_closing, gone_after, gone_does, gone_late, gone_refuses, gone_takes}
use Rattle.world_run.proofs.Bounds.{turn_after}
use Rattle.world_run.proofs.Driven.{driven_after, driven_does, driven_late, driven_refuses, driven_takes, turn_does, turn_late}
use Rattle.world_run.proofs.Owing.{after_meets, does_meets, meets_late, refuses_meets, takes_meets}
use Rattle.world_run.proofs.Seats.{caller_then, none_changed, same_terms, terms_on}
use Rattle.world_run.proofs.Truths.{shown_history}

-- ---- lists of events

run_more : (xs ys : List Event) (w : World) → run w (xs ++ ys) ≡ run (run w xs) ys
run_more [] ys w = refl
run_more (x ∷ xs) ys w = run_more xs ys (happened w x)

may_more : (terms : Terms) (xs ys : List Event) (w : World) → MayRun terms w xs → MayRun terms (run w xs) ys → MayRun terms w (xs ++ ys)
may_more terms [] ys w first second = second
may_more terms (x ∷ xs) ys w first second = (first.0, may_more terms xs ys (happened w x) first.1 second)

asks_more : (xs ys : List Event) → asks_in (xs ++ ys) ≡ asks_in xs ++ asks_in ys
asks_more [] ys = refl
asks_more (x ∷ xs) ys =
    ap (λ (asks : List Ask). asks_of x ++ asks) (asks_more xs ys) ∙ sym (append_assoc (asks_of x) (asks_in xs) (asks_in ys))

-- ---- what it means to be the same

same_attempt : {t u v : Attempt} → IsSameAttempt t u → IsSameAttempt u v → IsSameAttempt t v
same_attempt first second = record { own = second.own ∙ first.own; serial = second.serial ∙ first.serial; settings = second.settings ∙ first.settings }

same_on : {L : Type 0} {p : ℕ} {a b c : Simulation L} → IsSameOf p a b → IsSameOf p b c → IsSameOf p a c
same_on first second = record { begun = λ some. second.begun (first.begun some); same = same_attempt first.same second.same }

same_none : {L : Type 0} (p : ℕ) (c : Simulation L) → IsSameOf p c c
same_none p c = record { begun = λ some. some; same = record { own = refl; serial = refl; settings = refl } }

-- ---- one after another

module _ {L : Type 0} {lawful : L → List ℕ → Type 0} {may : L → List ℕ → List ℕ → Type 0} {p : ℕ} where
  pub leads_on : {a b c : Simulation L} {xs ys : List Event} → LeadsTo lawful may a p xs b → LeadsTo lawful may b p ys c → LeadsTo lawful may a p (xs ++ ys) c
  leads_on {a = a} {c = c} {xs = xs} {ys = ys} first second = record {
    terms = terms_on first.terms second.terms;
    own = All-append (λ event. caller_of event ≡ p) xs ys first.own second.own;
    able = λ w shows. may_more (terms_in a) xs ys w (first.able w shows)
        (subst (λ (terms : Terms). MayRun terms (run w xs) ys) (same_terms first.terms) (second.able (run w xs) (first.shows w shows)));
    shows = λ w shows. subst (λ (v : World). Shows lawful may c v) (sym (run_more xs ys w)) (second.shows (run w xs) (first.shows w shows));
  }

  leads_none : (c : Simulation L) → LeadsTo lawful may c p [] c
  leads_none c = record { terms = none_changed c; own = All-nil (λ event. caller_of event ≡ p); able = λ w shows. tt; shows = λ w shows. shows }

  pub leads_by : {before after : Simulation L} {event : Event} → caller_of event ≡ p → Happens lawful may before event after → LeadsTo lawful may before p (event ∷ []) after
  leads_by {event = event} own happens = record {
    terms = happens.terms;
    own = All-cons (λ event. caller_of event ≡ p) event [] own (All-nil (λ event. caller_of event ≡ p));
    able = λ w shows. (happens.able w shows, tt);
    shows = happens.shows;
  }

  pub goes_none : (c : Simulation L) → GoesOn lawful may c p [] c
  goes_none c = record {
    events = [];
    leads = leads_none c;
    asked = refl;
    same = same_none p c;
    meets = λ more meets. meets;
    closes = λ closing. closing;
    lost = λ gone. gone;
    driven = λ driven. driven;
    turn = omega arith;
    entries = [];
    history = sym (append-nil _);
    left = All-nil (IsOf (attempt_in c p));
  }

  pub goes_on : {a b c : Simulation L} {xs ys : List Ask} → GoesOn lawful may a p xs b → GoesOn lawful may b p ys c → GoesOn lawful may a p (xs ++ ys) c
  goes_on {a = a} {b = b} {xs = xs} {ys = ys} first second = record {
    events = first.events ++ second.events;
    leads = leads_on first.leads second.leads;
    asked = asks_more first.events second.events ∙ ap (λ (asks : List Ask). asks ++ asks_in second.events) first.asked ∙ ap (λ (asks : List Ask). xs ++ asks) second.asked;
    same = same_on first.same second.same;
    meets = λ more meets. second.meets more (first.meets (ys ++ more) (subst (λ (asks : List Ask). MeetsOwedBy lawful may a p asks) (append_assoc xs ys more) meets));
    closes = λ closing. second.closes (first.closes closing);
    lost = λ gone. second.lost (first.lost gone);
    driven = λ driven. second.driven (first.driven driven);
    turn = let low = first.turn in let high = second.turn in omega (arith, low, high);
    entries = first.entries ++ second.entries;
    history = second.history ∙ ap (λ (list : List Entry). list ++ second.entries) first.history ∙ append_assoc a.history first.entries second.entries;
    left = All-append (IsOf (attempt_in a p)) first.entries second.entries first.left
        (All-weaker (IsOf (attempt_in b p)) (IsOf (attempt_in a p))
        (λ entry is. record { caller = is.caller ∙ first.same.same.own; serial = is.serial ∙ first.same.same.serial }) second.entries second.left);
  }

-- ---- what one event adds

-- What an event leaves of its caller's attempt, which is asked for these by it: one that is closing or lost stays so, it is asked by no before-commit body, and one that meets what it owes does so too.
record Keeps (lawful : List ℕ → Type 0) (may : List ℕ → List ℕ → Type 0) (size : ℕ) (asks : List Ask) (t u : Attempt) : Type 0 where
  closes : IsClosing t.stage → IsClosing u.stage
  lost : LostAt t.stage t.ending → LostAt u.stage u.ending
  driven : IsDriven t → IsDriven u
  turn : t.turn ≤ u.turn
  meets : (more : List Ask) → MeetsOwedAt lawful may size (asks ++ more) t.turn t.now.writes (writes_of t.saved) t.stage → MeetsOwedAt lawful may size more u.turn u.now.writes (writes_of u.saved) u.stage

module _ {L : Type 0} {lawful : L → List ℕ → Type 0} {may : L → List ℕ → List ℕ → Type 0} {before after : Simulation L} (p : ℕ) (w : World) (shows : Shows lawful may before w)
    (caller : IsCaller (terms_in before) p) where
  module _ {event : Event} (own : caller_of event ≡ p) (happens : Happens lawful may before event after) where
    pub attempt_then : attempt_of (happened w event) p ≡ attempt_in after p
    attempt_then = (happens.shows w shows).attempts p (caller_then p happens.terms caller)

    -- what came into the history
    record Added : Type 0 where
      entries : List Entry
      history : after.history ≡ before.history ++ entries
      left : All (IsOf (attempt_in before p)) entries

    is_own : IsOf (attempt_in before p) (entry_of (attempt_of w p))
    is_own = record { caller = ap (λ (t : Attempt). t.own) (shows.attempts p caller); serial = ap (λ (t : Attempt). t.serial) (shows.attempts p caller) }

    history_then : after.history ≡ (happened w event).history
    history_then = sym (shown_history (happens.shows w shows))

    added : Added
    added = elim (history_after w event) [
      | inl same ↦ record {
        entries = [];
        history = history_then ∙ same ∙ shown_history shows ∙ sym (append-nil _);
        left = All-nil (IsOf (attempt_in before p));
      }
      | inr won ↦ record {
        entries = entry_of (attempt_of w p) ∷ [];
        history = history_then ∙ won.1 ∙ ap (λ (n : ℕ). w.history ++ entry_of (attempt_of w n) ∷ []) own ∙ ap (λ (list : List Entry). list ++ entry_of (attempt_of w p) ∷ []) (shown_history shows);
        left = All-cons (IsOf (attempt_in before p)) (entry_of (attempt_of w p)) [] is_own (All-nil (IsOf (attempt_in before p)));
      }
    ]

    meets_then : (more : List Ask) → MeetsOwedAt (lawful before.law) (may before.law) (length before.opening) more (attempt_in after p).turn (attempt_in after p).now.writes (writes_of (attempt_in after p).saved) (attempt_in after p).stage → MeetsOwedBy lawful may after p more
    meets_then more meets =
        subst (λ (opening : List ℕ). MeetsOwedAt (lawful after.law) (may after.law) (length opening) more (attempt_in after p).turn (attempt_in after p).now.writes (writes_of (attempt_in after p).saved) (attempt_in after p).stage) (sym happens.terms.opening)
        (subst (λ law. MeetsOwedAt (lawful law) (may law) (length before.opening) more (attempt_in after p).turn (attempt_in after p).now.writes (writes_of (attempt_in after p).saved) (attempt_in after p).stage) (sym happens.terms.law) meets)

    goes_by : {asks : List Ask} → asks_of event ≡ asks → IsSameOf p before after
        → Keeps (lawful before.law) (may before.law) (length before.opening) asks (attempt_in before p) (attempt_in after p) → GoesOn lawful may before p asks after
    goes_by is same keeps = let more = added in record {
      events = event ∷ [];
      leads = leads_by own happens;
      asked = append-nil (asks_of event) ∙ is;
      same = same;
      meets = λ others meets. meets_then others (keeps.meets others meets);
      closes = keeps.closes;
      lost = keeps.lost;
      driven = keeps.driven;
      turn = keeps.turn;
      entries = more.entries;
      history = more.history;
      left = more.left;
    }

  -- the attempt after a local move
  pub attempt_moved : {this : Move} → Happens lawful may before (Moves p this) after → attempt_in after p ≡ moved (attempt_in before p) this
  unfolding happened
  attempt_moved {this = this} happens =
      sym (attempt_then {event = Moves p this} refl happens)
      ∙ attempt_here w p (record (w.view p) { attempt = moved (attempt_of w p) this })
      ∙ ap (λ (t : Attempt). moved t this) (shows.attempts p caller)

  may_now : {this : Move} → Happens lawful may before (Moves p this) after → May (cells_in (terms_in before)) (terms_in before).limit (attempt_in before p) this
  unfolding MayHappen
  may_now {this = this} happens = subst (λ (t : Attempt). May (cells_in (terms_in before)) (terms_in before).limit t this) (shows.attempts p caller) (happens.able w shows).1

  -- ---- what a caller's attempt does by itself

  module _ (same : IsSameOf p before after) where
    abbrev Kept : List Ask → Attempt → Attempt → Type 0
    Kept asks t u = Keeps (lawful before.law) (may before.law) (length before.opening) asks t u

    kept_act : (this : Option Act) → Kept [] (attempt_of w p) (attempt_of (step_by w p this) p)
    unfolding step_by
    kept_act None = record { closes = λ closing. closing; lost = λ gone. gone; driven = λ driven. driven; turn = omega arith; meets = λ more meets. meets }
    kept_act (Some act) = rw (attempt_here (words_after w (attempt_of w p) act) p (view_after w (w.view p) act)) (record {
      closes = closing_after (attempt_of w p) (found w act);
      lost = gone_after (attempt_of w p) (found w act);
      driven = driven_after (attempt_of w p) (found w act);
      turn = let same = turn_after (attempt_of w p) (found w act) in omega (arith, same);
      meets = λ more. after_meets (lawful before.law) (may before.law) (length before.opening) more (attempt_of w p) (attempt_of w p).stage (found w act) refl;
    })

    steps_on : Happens lawful may before (Steps p) after → GoesOn lawful may before p [] after
    unfolding happened asks_of
    steps_on happens = goes_by {event = Steps p} refl happens refl same
        (subst (λ (u : Attempt). Kept [] (attempt_in before p) u) (attempt_then {event = Steps p} refl happens)
        (subst (λ (t : Attempt). Kept [] t (attempt_of (happened w (Steps p)) p)) (shows.attempts p caller) (kept_act (next (attempt_of w p)))))

    moves_on : {this : Move} {asks : List Ask} → asks_of (Moves p this) ≡ asks → Happens lawful may before (Moves p this) after → Kept asks (attempt_in before p) (moved (attempt_in before p) this)
        → GoesOn lawful may before p asks after
    moves_on {this = this} {asks = asks} is happens kept = goes_by {event = Moves p this} refl happens is same
        (subst (λ (u : Attempt). Kept asks (attempt_in before p) u) (sym (attempt_moved happens)) kept)

    pub turns_on : (due : List Due) → Happens lawful may before (turn_of p due) after → GoesOn lawful may before p [] after
    unfolding asks_of
    turns_on [] happens = steps_on happens
    turns_on (first ∷ due) happens = moves_on refl happens (record {
      closes = closing_does (attempt_in before p);
      lost = gone_does (attempt_in before p);
      driven = driven_does (attempt_in before p);
      turn = let same = turn_does (attempt_in before p) in omega (arith, same);
      meets = λ more. does_meets (lawful before.law) (may before.law) (length before.opening) more (attempt_in before p);
    })

    -- A before-commit body that has its turn is over.
    pub lates_on : Happens lawful may before (Moves p EndsLate) after → GoesOn lawful may before p [] after
    unfolding asks_of May
    lates_on happens = let able = may_now happens in moves_on refl happens (record {
      closes = λ closing. closing_waits (attempt_in before p).stage closing able.0.stands;
      lost = gone_late (attempt_in before p) able.0.stands;
      driven = λ driven. driven_late (attempt_in before p) able.0.stands;
      turn = turn_late (attempt_in before p) able.0.stands;
      meets = λ more. meets_late (lawful before.law) (may before.law) (length before.opening) more (attempt_in before p) able.1 able.0.stands;
    })

    -- ---- what it is asked

    module _ (ask : Ask) (own : (attempt_in before p).turn ≡ 0) (waits : AwaitsAsk (attempt_in before p))
        (asked : Happens lawful may before (Moves p (Takes ask)) after ⊎ Happens lawful may before (Moves p (OutOfMemory ask)) after) where
      pub asks_on : GoesOn lawful may before p (ask ∷ []) after
      unfolding asks_of
      asks_on = elim asked [
        | inl takes ↦ moves_on refl takes (record {
          closes = λ closing. closing_waits (attempt_in before p).stage closing waits.stands;
          lost = gone_takes (attempt_in before p) ask;
          driven = λ driven. driven_takes (attempt_in before p) own ask waits.stands;
          turn = omega (arith, own);
          meets = λ more meets. takes_meets (lawful before.law) (may before.law) (length before.opening) more (attempt_in before p) ask own waits.stands meets;
        })
        | inr refuses ↦ moves_on refl refuses (record {
          closes = λ closing. closing_waits (attempt_in before p).stage closing waits.stands;
          lost = λ gone. gone_refuses (attempt_in before p) ask;
          driven = λ driven. driven_refuses (attempt_in before p) own ask;
          turn = omega (arith, own);
          meets = λ more meets. refuses_meets (lawful before.law) (may before.law) (length before.opening) more (attempt_in before p) ask;
        })
      ]

    -- Who is asked to finish is closing then, or a before-commit body has its turn.
    pub finishes : Happens lawful may before (Moves p (Takes Finish)) after ⊎ Happens lawful may before (Moves p (OutOfMemory Finish)) after → IsEnding (attempt_in after p)
    unfolding May MayRunOut
    finishes (inl takes) =
        subst (λ (t : Attempt). IsEnding t) (sym (attempt_moved takes)) (finish_closing (attempt_in before p) (may_now takes).0.stands)
    finishes (inr lacks) = absurd (may_now lacks).3
