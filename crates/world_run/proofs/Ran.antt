-- A whole attempt of a caller, from its begin to its end.
use Rattle.std.proofs.Common.{◌≡◌, inl, inr, ℕ, Result, Ok, Err, IfOk, IfSome, IsSome, OnOk, List, [], ◌∷◌, ◌++◌, length, Option, Some, None, ap, sym, ◌∙◌, refl, subst}
use Rattle.std.specs.List.{All}
use Rattle.opacity.proofs.Runs.{safe_opaque}
use Rattle.stm_core.specs.Machine.{IsSameAttempt, after_due, next_of, over, standing}
use Rattle.stm_core.specs.declared.next.Next.{Next}
use Rattle.stm_model.specs.Attempt.{Attempt, Due, Ended, Stage, stamp_of}
use Rattle.stm_model.specs.History.{Entry}
use Rattle.stm_model.specs.Moves.{Begins, May, begun, moved}
use Rattle.stm_model.specs.Safe.{HasBegun, IsKept, Opaque, Safe}
use Rattle.stm_model.specs.World.{Event, IsCaller, MayHappen, Moves, World, attempt_of, cells_in, happened, run}
use Rattle.stm_model.specs.declared.access.Ask.{Ask}
use Rattle.stm_model.specs.declared.ending.Ending.{Ending}
use Rattle.world_run.specs.Simulation.{Simulation, Happens, Invariant, IsOver, MayBegin, Shows, attempt_in, terms_in}
use Rattle.world_run.specs.Going.{BodyGoes, BodyMeets, GoesOn, IsDriven, IsOf, MeetsOwedAt, MeetsOwedBy, told_ending}
use Rattle.world_run.specs.Run.{AreAsked, AsksMeetOwed, ClosesOpen, HasEnded, IsOpaque, Leaves, Runs, asks_of}
use Rattle.world_run.proofs.Entries.{leaves}
use Rattle.world_run.proofs.Going.{attempt_moved, leads_by, leads_on}
use Rattle.world_run.proofs.Seats.{caller_then, safe_then}
use Rattle.world_run.proofs.Truths.{ends_truly, shown_history}

-- ---- the ending that is told

if_some : {X : Type 0} {P : X → Type 0} (told : Option X) → ((x : X) → told ≡ Some x → P x) → IfSome told P
if_some None each = tt
if_some (Some x) each = each x refl

-- What is made where a call goes well is this ending, so what holds of each such ending holds of it.
pub if_ok_some : {X E Q : Type 0} {P : X → Type 0} {ending : Option X} (result : Result (Option X) E) → IfOk result (λ made. made ≡ ending) → OnOk result Q
    → (Q → (x : X) → ending ≡ Some x → P x) → IfOk result (λ made. IfSome made P)
if_ok_some (Ok told) is over each = if_some told (λ x some. each over x (sym is ∙ some))
if_ok_some (Err error) is over each = tt

over_told : (ending : Option Ending) → told_ending (over ending) ≡ ending
over_told None = refl
over_told (Some ending) = refl

over_next : (t : Attempt) (due : List Due) (stage : Stage) → due ≡ [] → stage ≡ Ended → after_due due (standing t stage) ≡ over t.ending
unfolding after_due standing
over_next t due stage none ended = rw (none, ended) refl

pub tells_ending : (t : Attempt) → IsOver t → told_ending (next_of t) ≡ t.ending
tells_ending t is = ap (λ (next : Option Next). told_ending next) (over_next t t.due t.stage is.nothing_due is.ended) ∙ over_told t.ending

over_some : (ending : Option Ending) → IsSome (over ending) → IsSome (told_ending (over ending))
over_some None some = cc some
over_some (Some ending) some = refl

-- Where something is told of it, that is its ending.
pub told_some : (t : Attempt) (told : Option Next) → told ≡ next_of t → IsOver t → IsSome told → IsSome (told_ending told)
told_some t told same is some =
    let here : told ≡ over t.ending = same ∙ over_next t t.due t.stage is.nothing_due is.ended in
    subst (λ (next : Option Next). IsSome (told_ending next)) (sym here) (over_some t.ending (subst (λ (next : Option Next). IsSome next) here some))

-- ---- what it has read

begun_over : (stage : Stage) → stage ≡ Ended → HasBegun stage
unfolding HasBegun
begun_over stage over = rw over tt

kept_over : (stage : Stage) (told : Option Ending) (ending : Ending) → stage ≡ Ended → told ≡ Some ending → IsKept stage told
unfolding IsKept
kept_over stage told ending over ends = rw (over, ends) tt

opaque_of : {L : Type 0} (lawful : L → List ℕ → Type 0) (may : L → List ℕ → List ℕ → Type 0) (c : Simulation L) (p : ℕ) → IsCaller (terms_in c) p → (ending : Ending)
    → (attempt_in c p).stage ≡ Ended → (attempt_in c p).ending ≡ Some ending → IsOpaque lawful may c p
opaque_of lawful may c p caller ending over ends = λ w shows.
    let is = shows.attempts p caller in
    let whole = safe_opaque (lawful c.law) (may c.law) (terms_in c) w p shows.safe caller (begun_over (attempt_of w p).stage (ap (λ (t : Attempt). t.stage) is ∙ over))
    (kept_over (attempt_of w p).stage (attempt_of w p).ending ending (ap (λ (t : Attempt). t.stage) is ∙ over) (ap (λ (t : Attempt). t.ending) is ∙ ends)) in
    subst (λ (t : Attempt). Opaque c.opening c.history (w.view p).since t) is
    (subst (λ (history : List Entry). Opaque c.opening history (w.view p).since (attempt_of w p)) (shown_history shows) whole)

-- ---- what begins

module _ {L : Type 0} {lawful : L → List ℕ → Type 0} {may : L → List ℕ → List ℕ → Type 0} {a b : Simulation L} (old : Invariant lawful may a) (p : ℕ) (caller : IsCaller (terms_in a) p)
    (begins : Happens lawful may a (Moves p (Begins a.settings)) b) where
  abbrev event : Event
  event = Moves p (Begins a.settings)

  abbrev first : World
  first = happened old.world event

  first_shown : Shows lawful may b first
  first_shown = begins.shows old.world old.shows

  begun_is : attempt_in b p ≡ begun (attempt_in a p) a.settings
  unfolding moved
  begun_is = attempt_moved p old.world old.shows caller begins

  caller_first : IsCaller (terms_in b) p
  caller_first = caller_then p begins.terms caller

  begun_in : attempt_of first p ≡ begun (attempt_in a p) a.settings
  begun_in = first_shown.attempts p caller_first ∙ begun_is

  -- Who begins leaves the history.
  same_history : b.history ≡ a.history
  unfolding happened
  same_history = sym (shown_history first_shown) ∙ shown_history old.shows

  may_now : May (cells_in (terms_in a)) (terms_in a).limit (attempt_in a p) (Begins a.settings)
  unfolding MayHappen
  may_now = subst (λ (t : Attempt). May (cells_in (terms_in a)) (terms_in a).limit t (Begins a.settings)) (old.shows.attempts p caller) (begins.able old.world old.shows).1

  may_begin : MayBegin a p
  unfolding May
  may_begin = record { over = record { ended = may_now.0; nothing_due = may_now.1 }; serial = may_now.3 }

  -- Its own body asks it.
  pub begun_driven : IsDriven (attempt_in b p)
  begun_driven = rw begun_is (inr (inl refl))

  -- It has written nothing, so it meets what its asks do.
  pub begun_meets : (asks : List Ask) → AsksMeetOwed (lawful a.law) (may a.law) (length a.opening) [] [] asks → ClosesOpen 0 asks → MeetsOwedBy lawful may b p asks
  unfolding MeetsOwedAt BodyMeets
  begun_meets asks owed closes = rw (begins.terms.law, begins.terms.opening, begun_is) (owed, closes)

  -- ---- what follows

  module _ {e : Simulation L} {asks : List Ask} (body : BodyGoes lawful may b p asks e) where
    abbrev goes : GoesOn lawful may b p body.came e
    goes = body.goes

    pub runs : Runs lawful may a p asks e
    unfolding asks_of
    runs = record {
      events = event ∷ goes.events;
      leads = leads_on (leads_by {event = event} refl begins) goes.leads;
      asked = subst (λ (came : List Ask). AreAsked asks came (attempt_in e p).ending) (sym goes.asked) body.asked;
    }

    caller_last : IsCaller (terms_in e) p
    caller_last = caller_then p goes.leads.terms caller_first

    abbrev last : World
    last = run first goes.events

    last_shown : Shows lawful may e last
    last_shown = goes.leads.shows first first_shown

    last_is : attempt_of last p ≡ attempt_in e p
    last_is = last_shown.attempts p caller_last

    kept_first : IsKept (attempt_of first p).stage (attempt_of first p).ending
    unfolding IsKept
    kept_first = rw begun_in tt

    undecided_first : stamp_of (attempt_of first p) ≡ 0
    undecided_first = rw begun_in refl

    same_first : IsSameAttempt (attempt_of first p) (attempt_of last p)
    same_first = rw (first_shown.attempts p caller_first, last_is) goes.same.same

    safe_first : Safe (lawful e.law) (may e.law) (terms_in e) first
    safe_first = safe_then lawful may first goes.leads.terms first_shown.safe

    module _ (over : IsOver (attempt_in e p)) (ending : Ending) (ends : (attempt_in e p).ending ≡ Some ending) where
      grown : last.history ≡ first.history ++ goes.entries
      grown = shown_history last_shown ∙ goes.history ∙ ap (λ (list : List Entry). list ++ goes.entries) (sym (shown_history first_shown))

      own_entries : All (IsOf (attempt_of first p)) goes.entries
      own_entries = subst (λ (t : Attempt). All (IsOf t) goes.entries) (sym (first_shown.attempts p caller_first)) goes.left

      leaves_last : Leaves first.history (attempt_of last p) ending last.history
      leaves_last = leaves p safe_first last_shown.safe caller_last kept_first undecided_first same_first ending
          (ap (λ (t : Attempt). t.stage) last_is ∙ over.ended) (ap (λ (t : Attempt). t.ending) last_is ∙ ends) goes.entries grown own_entries

      leaves_own : Leaves a.history (attempt_in e p) ending e.history
      leaves_own =
          let here = subst (λ (t : Attempt). Leaves first.history t ending last.history) last_is leaves_last in
          let after = subst (λ (history : List Entry). Leaves first.history (attempt_in e p) ending history) (shown_history last_shown) here in
          subst (λ (history : List Entry). Leaves history (attempt_in e p) ending e.history) (shown_history first_shown ∙ same_history) after

      pub has_ended : HasEnded lawful may a p e ending
      has_ended = record {
        began = may_begin;
        own = subst (λ (t : Attempt). t.own ≡ p) last_is (last_shown.safe.attempts p caller_last).sound.own;
        next = goes.same.same.serial ∙ ap (λ (t : Attempt). t.serial) begun_is;
        settings = goes.same.same.settings ∙ ap (λ (t : Attempt). t.settings) begun_is;
        over = over;
        ends = ends;
        history = leaves_own;
        tells = ends_truly last_shown p caller_last ending ends;
        opaque = opaque_of lawful may e p caller_last ending over.ended ends;
      }
