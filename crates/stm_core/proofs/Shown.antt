-- What an attempt shows whatever it is in the middle of: what is due, what it has read and what it has written.
use Rattle.std.proofs.Common.{◌≡◌, ◌<◌, inl, inr, IsSome, List, [], ◌∷◌, length, Option, Some, None, refl, sym, ap, ◌∙◌, subst, arith}
use Rattle.stm_core.proofs.Stands.{Same, stands}
use Rattle.lifecycle.specs.Walk.{walk_runs}
use Rattle.lifecycle.specs.declared.walk.Walk.{Walk}
use Rattle.stm_core.specs.Running.{HasRuns, IsSound, KeepsNumbers, attempt_at, base, due_in, due_with, machine_of, none_due, shown}
use Rattle.stm_core.specs.declared.running.Running.{Running}
use Rattle.stm_core.specs.declared.running.State.TheVariants as in_state
use Rattle.stm_core.specs.Machine.{IsToRun, IsAtRest, IsSameAttempt, Machine}
use Rattle.stm_model.specs.declared.cause.Addr.{Addr}
use Rattle.stm_model.specs.declared.ending.Ending.{Ending}
use Rattle.stm_model.specs.Accesses.{next, next_access, next_at, packed, unless_due}
use Rattle.stm_model.specs.After.{run_all}
use Rattle.stm_model.specs.Attempt.{Attempt, Due, held_at}
use Rattle.stm_model.specs.Handlers.{Handlers}
use Rattle.stm_model.specs.Moves.{AwaitsAsk}

pub shown_alike : (r : Running) → IsSound r → Same (base r) (shown r)
shown_alike r sound = (stands r r.state sound.holds).same

-- ---- what is due comes first

-- Where nothing is due, the access of its stage comes next.
pub next_is : (t : Attempt) → t.due ≡ [] → next t ≡ next_at t t.stage
next_is t nothing = ap (λ d. unless_due d (next_at t t.stage)) nothing

-- Where something is due, it makes no access.
pub makes_none_due : (t : Attempt) (dues : List Due) → t.due ≡ dues → 0 < length dues → next_access t ≡ None
makes_none_due t [] same some = absurd (omega (arith, some))
makes_none_due t (due ∷ dues) same some = ap (λ d. packed (unless_due d (next_at t t.stage))) same

nothing_where : (t : Attempt) (dues : List Due) → t.due ≡ dues → IsSome (next t) → t.due ≡ []
nothing_where t [] same some = same
nothing_where t (due ∷ dues) same some = absurd (cc (subst (λ d. IsSome (unless_due d (next_at t t.stage))) same some))

some_run : (hooks : Handlers) → run_all hooks ≡ [] → 0 < length hooks → ⊥
some_run [] none some = omega (arith, some)
some_run (hook ∷ hooks) none some = cc none

none_of : (ring : Option Addr) (runs : Option Walk) (hooks : Handlers) → HasRuns runs hooks → due_with ring runs hooks ≡ [] → record { ring = ring; runs = runs } ≡ none_due
none_of None None hooks left nothing = refl
none_of None (Some walk) hooks left nothing = absurd (some_run (walk_runs walk hooks) nothing left)
none_of (Some addr) None hooks left nothing = absurd (cc nothing)
none_of (Some addr) (Some walk) hooks left nothing = absurd (cc nothing)

-- Nothing is due where the attempt has nothing due.
pub nothing_due_so : (r : Running) → IsSound r → (shown r).due ≡ [] → r.due ≡ none_due
nothing_due_so r sound nothing = none_of r.due.ring r.due.runs r.handlers.hooks sound.runs (sym (shown_alike r sound).due ∙ nothing)

-- Nor where an access comes next.
pub nothing_due : (r : Running) → IsSound r → IsSome (next (shown r)) → r.due ≡ none_due
nothing_due r sound some = nothing_due_so r sound (nothing_where (shown r) (shown r).due refl some)

pub some_shown : (r : Running) → IsSound r → 0 < length (due_in r.due r.handlers.hooks) → 0 < length (shown r).due
some_shown r sound some = subst (λ (dues : List Due). 0 < length dues) (sym (shown_alike r sound).due) some

pub none_shown : (r : Running) → IsSound r → due_in r.due r.handlers.hooks ≡ [] → (shown r).due ≡ []
none_shown r sound none = (shown_alike r sound).due ∙ none

has_run : (t : Attempt) → t.due ≡ [] → IsToRun t → AwaitsAsk t
unfolding IsToRun
has_run t none (inl some) = absurd (omega (arith, some, ap length none))
has_run t none (inr waits) = waits.0

-- Where nothing is due, who may say that something has run waits to be asked.
pub waits_then : (r : Running) (m : Machine) → IsSound r → machine_of r ≡ m → due_in r.due r.handlers.hooks ≡ [] → IsToRun m.attempt → AwaitsAsk (shown r)
waits_then r m sound is none run = has_run (shown r) (none_shown r sound none) (subst (λ (m : Machine). IsToRun m.attempt) (sym is) run)

-- ---- how it ends

pub at_rest : (r : Running) (ending : Ending) → r.state ≡ in_state.Ended ending → (shown r).due ≡ [] → IsAtRest (shown r) ending
unfolding attempt_at held_at next_at
at_rest r ending is = subst (λ state. (attempt_at (base r) state).due ≡ [] → IsAtRest (attempt_at (base r) state) ending) (sym is) (λ nothing. record {
  stage = refl;
  ends = refl;
  phase = refl;
  holds_none = λ cell. refl;
  nothing_due = nothing;
  makes_none = next_is (attempt_at (base r) (in_state.Ended ending)) nothing;
})

-- Whoever is asked for what it has, has it in its footprint.
pub notes_shown : (r : Running) (m : Machine) → IsSound r → machine_of r ≡ m → r.footprint.reads.notes ≡ m.attempt.notes
notes_shown r m sound is = sym (shown_alike r sound).notes ∙ ap (λ (m : Machine). m.attempt.notes) is

pub writes_shown : (r : Running) (m : Machine) → IsSound r → machine_of r ≡ m → r.footprint.writes.writes ≡ m.attempt.now.writes
writes_shown r m sound is = sym (shown_alike r sound).writes ∙ ap (λ (m : Machine). m.attempt.now.writes) is

-- An attempt stays that of its caller, its number and its settings, as what keeps it does.
pub same_attempt : (r other : Running) (m : Machine) → IsSound r → IsSound other → machine_of r ≡ m → KeepsNumbers r other → IsSameAttempt m.attempt (shown other)
same_attempt r other m sound sound_after is keeps =
    let before = shown_alike r sound in let after = shown_alike other sound_after in
    subst (λ (m : Machine). IsSameAttempt m.attempt (shown other)) is (record { own = after.own ∙ keeps.own ∙ sym before.own; serial = after.serial ∙ keeps.serial ∙ sym before.serial; settings = after.settings ∙ keeps.settings ∙ sym before.settings })
