-- What was due first is done: nothing else changes.
use Rattle.std.proofs.Common.{◌≡◌, ℕ, ◌<◌, IsSome, [], ◌∷◌, ◌++◌, length, Option, Some, None, refl, sym, ap, ◌∙◌, subst, arith}
use Rattle.lifecycle.specs.Walk.{walk_runs}
use Rattle.lifecycle.specs.declared.walk.Walk.{Walk}
use Rattle.stm_core.proofs.Shown.{shown_alike}
use Rattle.stm_core.proofs.Stands.{stands, with_past}
use Rattle.stm_core.specs.Past.{books_in, rings_in, runs_in}
use Rattle.stm_core.specs.Running.{Fits, HasRuns, InvariantAt, IsKept, IsSound, attempt_at, base, due_in, due_with, runs_due, shown}
use Rattle.stm_core.specs.declared.past.Past.{Past}
use Rattle.stm_core.specs.declared.running.Dues.{Dues}
use Rattle.stm_core.specs.declared.running.Running.{Running}
use Rattle.stm_core.specs.declared.running.State.{State}
use Rattle.stm_core.specs.declared.running.State.TheVariants.{Acquire, Commit, Extend, Read, RollBack, Undo, Undone}
use Rattle.stm_model.specs.After.{run_all}
use Rattle.stm_model.specs.Attempt.{Attempt, Run}
use Rattle.stm_model.specs.Handlers.{Handlers}
use Rattle.stm_model.specs.declared.cause.Addr.{Addr}
use Rattle.stm_model.specs.declared.cause.HookPhase.{HookPhase}
use Rattle.stm_model.specs.Moves.{Does, did_first, moved}

-- the same with this due, after this past
abbrev pub done_in : Running → Past → Dues → Running
done_in r past dues = record r { past = past; due = dues }

-- It shows the same but for what is due and was done.
pub shows_done : (r : Running) (past : Past) (dues : Dues) → IsSound r → books_in past ≡ books_in r.past →
    shown (done_in r past dues) ≡ with_past (shown r) (due_in dues r.handlers.hooks) (rings_in past) (runs_in past)
shows_done r past dues sound books =
    ap (λ saved. attempt_at (record (with_past (base r) (due_in dues r.handlers.hooks) (rings_in past) (runs_in past)) { saved = saved }) r.state) books
    ∙ (stands r r.state sound.holds).also (due_in dues r.handlers.hooks) (rings_in past) (runs_in past)

-- In the state of an undone level something is left to run.
abbrev pub RunsIfUndone : State → Option Walk → Type 0
RunsIfUndone state runs = (hooks : ℕ) → state ≡ Undone hooks → IsSome runs

holds_so : (r : Running) (past : Past) (dues : Dues) (state : State) → InvariantAt r state → RunsIfUndone state dues.runs → InvariantAt (done_in r past dues) state
unfolding InvariantAt
holds_so r past dues (Read op) holds runs = (record { made_for = record { own = holds.0.made_for.own; prefix = holds.0.made_for.prefix }; room = holds.0.room }, holds.1)
holds_so r past dues (Extend reading first op) holds runs =
    (record { made_for = record { own = holds.0.made_for.own }; along = holds.0.along; own = holds.0.own; waits = holds.0.waits; room = holds.0.room }, holds.1)
holds_so r past dues (Acquire op value) holds runs = (
  record {
    made_for = record { own = holds.0.made_for.own; policy = holds.0.made_for.policy; noted = holds.0.made_for.noted };
    within = holds.0.within;
    unwritten = holds.0.unwritten;
    room = holds.0.room;
  },
  holds.1,
)
holds_so r past dues (Undo op) holds runs = (record { made_for = record { own = holds.0.made_for.own; serial = holds.0.made_for.serial }; along = holds.0.along; part = holds.0.part; inside = holds.0.inside }, holds.1)
holds_so r past dues (Undone hooks) holds runs = record { within = holds.within; outer = holds.outer; runs = runs hooks refl }
holds_so r past dues (Commit op) holds runs =
    (record { made_for = record { own = holds.0.made_for.own; serial = holds.0.made_for.serial; tries = holds.0.made_for.tries; limit = holds.0.made_for.limit; writes = holds.0.made_for.writes }; along = holds.0.along }, holds.1)
holds_so r past dues (RollBack op ending prepared) holds runs = (record { made_for = record { own = holds.0.made_for.own; serial = holds.0.made_for.serial }; along = holds.0.along; whole = holds.0.whole }, holds.1)
holds_so r past dues _ holds runs = holds

fits_so : (r : Running) (past : Past) → Fits r → books_in past ≡ books_in r.past → Fits (record r { past = past })
fits_so r past fits books = subst (λ saved. IsKept r.own r.serial r.settings r.footprint.writes r.handlers r.levels saved) (sym books) fits

pub sound_done : (r : Running) (past : Past) (dues : Dues) → IsSound r → books_in past ≡ books_in r.past → HasRuns dues.runs r.handlers.hooks → RunsIfUndone r.state dues.runs → IsSound (done_in r past dues)
sound_done r past dues sound books left runs = record { fits = fits_so r past sound.fits books; runs = left; holds = holds_so r past dues r.state sound.holds runs }

-- ---- a ring

-- Where a level was undone, its runs are left.
runs_at : (r : Running) (state : State) → InvariantAt r state → RunsIfUndone state r.due.runs
unfolding InvariantAt
runs_at r state holds hooks is = (subst (InvariantAt r) is holds).runs

pub runs_so : (r : Running) → IsSound r → RunsIfUndone r.state r.due.runs
runs_so r sound = runs_at r r.state sound.holds

rings_first : (t : Attempt) (addr : Addr) (runs : Option Walk) (hooks : Handlers) → t.due ≡ due_with (Some addr) runs hooks → did_first t t.due ≡ record t { rings = t.rings ++ addr.0 ∷ []; due = due_with None runs hooks }
rings_first t addr None hooks is = ap (did_first t) is
rings_first t addr (Some walk) hooks is = ap (did_first t) is

-- The ring that was due is done.
pub rings_one : (r : Running) (addr : Addr) (past : Past) → IsSound r → r.due.ring ≡ Some addr →
    rings_in past ≡ rings_in r.past ++ addr.0 ∷ [] → runs_in past ≡ runs_in r.past → books_in past ≡ books_in r.past →
    shown (done_in r past (record { ring = None; runs = r.due.runs })) ≡ moved (shown r) Does
unfolding moved
rings_one r addr past sound due rung same books =
    let t = shown r in let alike = shown_alike r sound in let hooks = r.handlers.hooks in
    let first : t.due ≡ due_with (Some addr) r.due.runs hooks = alike.due ∙ ap (λ ring. due_with ring r.due.runs hooks) due in
    shows_done r past (record { ring = None; runs = r.due.runs }) sound books
    ∙ ap (λ cells. with_past t (due_with None r.due.runs hooks) cells (runs_in past)) (rung ∙ ap (λ cells. cells ++ addr.0 ∷ []) (sym alike.rings))
    ∙ ap (λ runs. with_past t (due_with None r.due.runs hooks) (t.rings ++ addr.0 ∷ []) runs) (same ∙ sym alike.runs)
    ∙ sym (rings_first t addr r.due.runs hooks first)

pub rings_soundly : (r : Running) (past : Past) → IsSound r → books_in past ≡ books_in r.past → IsSound (done_in r past (record { ring = None; runs = r.due.runs }))
rings_soundly r past sound books = sound_done r past (record { ring = None; runs = r.due.runs }) sound books sound.runs (runs_so r sound)

-- ---- a run

run_due : (walk : Walk) (hooks : Handlers) (phase : HookPhase) (token : ℕ) (rest : Handlers) → walk_runs walk hooks ≡ (phase, token) ∷ rest → due_with None (Some walk) hooks ≡ Run phase token ∷ run_all rest
run_due walk hooks phase token rest is = ap run_all is

-- The first run of a walk is done.
pub runs_one : (r : Running) (walk : Walk) (phase : HookPhase) (token : ℕ) (rest : Handlers) (past : Past) → IsSound r → r.due ≡ record { ring = None; runs = Some walk } →
    walk_runs walk r.handlers.hooks ≡ (phase, token) ∷ rest →
    rings_in past ≡ rings_in r.past → runs_in past ≡ runs_in r.past ++ (phase, token) ∷ [] → books_in past ≡ books_in r.past →
    record (shown (record r { past = past })) { due = run_all rest } ≡ moved (shown r) Does
unfolding moved
runs_one r walk phase token rest past sound due is rings ran books =
    let t = shown r in let alike = shown_alike r sound in let hooks = r.handlers.hooks in
    let first : t.due ≡ Run phase token ∷ run_all rest = alike.due ∙ ap (λ dues. due_in dues hooks) due ∙ run_due walk hooks phase token rest is in
    ap (λ (u : Attempt). record u { due = run_all rest }) (shows_done r past r.due sound books)
    ∙ ap (λ cells. with_past t (run_all rest) cells (runs_in past)) (rings ∙ sym alike.rings)
    ∙ ap (λ runs. with_past t (run_all rest) t.rings runs) (ran ∙ ap (λ runs. runs ++ (phase, token) ∷ []) (sym alike.runs))
    ∙ sym (ap (did_first t) first)

pub runs_soundly : (r : Running) (past : Past) → IsSound r → books_in past ≡ books_in r.past → IsSound (record r { past = past })
runs_soundly r past sound books = sound_done r past r.due sound books sound.runs (runs_so r sound)

due_of_runs : (runs : Option Walk) (hooks : Handlers) → due_with None runs hooks ≡ run_all (runs_due runs hooks)
due_of_runs None hooks = refl
due_of_runs (Some walk) hooks = refl

-- Where other runs are left, the rest is the same.
pub leaves : (r : Running) (runs : Option Walk) (left : Handlers) → IsSound r → r.due.ring ≡ None → runs_due runs r.handlers.hooks ≡ left →
    shown (record r { due = record { ring = r.due.ring; runs = runs } }) ≡ record (shown r) { due = run_all left }
leaves r runs left sound ring is =
    let t = shown r in let alike = shown_alike r sound in let hooks = r.handlers.hooks in
    shows_done r r.past (record { ring = r.due.ring; runs = runs }) sound refl
    ∙ ap (λ dues. with_past t dues (rings_in r.past) (runs_in r.past)) (ap (λ ring. due_with ring runs hooks) ring ∙ due_of_runs runs hooks ∙ ap run_all is)
    ∙ ap (λ cells. with_past t (run_all left) cells (runs_in r.past)) (sym alike.rings)
    ∙ ap (λ runs. with_past t (run_all left) t.rings runs) (sym alike.runs)

pub leaves_soundly : (r : Running) (runs : Option Walk) → IsSound r → HasRuns runs r.handlers.hooks → RunsIfUndone r.state runs → IsSound (record r { due = record { ring = r.due.ring; runs = runs } })
leaves_soundly r runs sound left some = sound_done r r.past (record { ring = r.due.ring; runs = runs }) sound refl left some

-- Something is due, so there is a cell to ring for or a walk.
pub something_due : (r : Running) → IsSound r → 0 < length (shown r).due → r.due.ring ≡ None → r.due.runs ≡ None → ⊥
something_due r sound some ring runs =
    let nothing : (shown r).due ≡ [] = (shown_alike r sound).due ∙ ap (λ ring. due_with ring r.due.runs r.handlers.hooks) ring ∙ ap (λ runs. due_with None runs r.handlers.hooks) runs in
    omega (arith, some, ap length nothing)
