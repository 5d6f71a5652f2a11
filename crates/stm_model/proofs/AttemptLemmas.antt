-- What the definitions of attempts say where an attempt stands.
use Rattle.std.proofs.Common.{Bool, true, false, nat_eq, nat_lt, ◌≡◌, ℕ, ◌<◌, ◌⊎◌, inl, inr, List, [], ◌∷◌, ◌++◌, length, replicate, Some, None, refl, sym, ◌∙◌, arith, append_assoc, subst}
use Rattle.std.proofs.lemmas.List.{append-nil, length-map}
use Rattle.stm_model.specs.declared.access.Ask.{Ask}
use Rattle.stm_model.specs.declared.access.Ask.TheVariants.{Abandon, Enter, Finish, Get, Hook, Keep, Later, Set, Undo}
use Rattle.std.specs.Map.{lookup}
use Rattle.meta_word.specs.Meta.{still_has, same_meta}
use Rattle.meta_word.specs.declared.meta.Meta.{Meta}
use Rattle.stm_model.specs.declared.cause.Addr.{Addr}
use Rattle.stm_model.specs.declared.note.Note.{Note}
use Rattle.stm_model.specs.declared.cause.Cause.{Cause}
use Rattle.stm_model.specs.declared.cause.HookPhase.{HookPhase}
use Rattle.stm_model.specs.Accesses.{Answer, addr_of, next, next_at, unless_due}
use Rattle.stm_model.specs.After.{after_at, answer_with, at, release_level_on, validated, note_of, exchanged, ring_if, rolled, run_all}
use Rattle.stm_model.specs.Attempt.{Attempt, Due, Run, Stage, Ready, Late, Stopped, Ended, cause_at, cells_of}
use Rattle.stm_model.specs.CellsState.{Book, CellsState, late_registered, entered, hooked, kept, level_runs, undone, written}
use Rattle.stm_model.specs.Handlers.{Handlers}
use Rattle.stm_model.specs.Heap.{writes_to}
use Rattle.stm_model.specs.Moves.{AwaitsAskAt, Does, EndsLate, IsCall, Takes, late_over_at, asked_at, asked_going, asked_stopped, moved, moved_on}
use Rattle.stm_model.specs.Refusing.{deepest}

-- ---- who makes no access

stands-at : (t : Attempt) (stage : Stage) → next_at t stage ≡ None → AwaitsAskAt stage ⊎ (stage ≡ Ended)
unfolding next_at AwaitsAskAt
stands-at t (Ready answer) none = inl tt
stands-at t (Late token) none = inl tt
stands-at t (Stopped cause) none = inl tt
stands-at t Ended none = inr refl
stands-at t _ none = cc none

waits-none : (t : Attempt) (stage : Stage) → AwaitsAskAt stage → next_at t stage ≡ None
unfolding next_at AwaitsAskAt
waits-none t (Ready answer) waits = refl
waits-none t (Late token) waits = refl
waits-none t (Stopped cause) waits = refl
waits-none t _ waits = absurd waits

ended-none : (t : Attempt) (stage : Stage) → stage ≡ Ended → next_at t stage ≡ None
unfolding next_at
ended-none t stage ended = rw ended refl

none-stands : (t : Attempt) (dues : List Due) → unless_due dues (next_at t t.stage) ≡ None → (0 < length dues) ⊎ (AwaitsAskAt t.stage ⊎ (t.stage ≡ Ended))
none-stands t [] none = inr (stands-at t t.stage none)
none-stands t (due ∷ dues) none = inl (omega arith)

stands-none : (t : Attempt) (dues : List Due) → (0 < length dues) ⊎ (AwaitsAskAt t.stage ⊎ (t.stage ≡ Ended)) → unless_due dues (next_at t t.stage) ≡ None
stands-none t (due ∷ dues) cases = refl
stands-none t [] (inl some) = absurd (omega arith)
stands-none t [] (inr (inl waits)) = waits-none t t.stage waits
stands-none t [] (inr (inr ended)) = ended-none t t.stage ended

pub next-none : (t : Attempt) → next t ≡ None → (0 < length t.due) ⊎ (AwaitsAskAt t.stage ⊎ (t.stage ≡ Ended))
next-none t = none-stands t t.due

pub none-next : (t : Attempt) → (0 < length t.due) ⊎ (AwaitsAskAt t.stage ⊎ (t.stage ≡ Ended)) → next t ≡ None
none-next t = stands-none t t.due

pub after-ended : (t : Attempt) (stage : Stage) (answer : Answer) → stage ≡ Ended → after_at t stage answer ≡ t
unfolding after_at
after-ended t stage answer ended = rw ended refl

-- ---- asks and calls

-- what an ask makes of an attempt that stands so
abbrev asked : ℕ → Attempt → Stage → Ask → CellsState
asked size t stage ask = cells_of size (asked_at (at t stage) stage ask)

asked-set : (size : ℕ) (t : Attempt) (stage : Stage) (cell : Addr) (value : ℕ) → AwaitsAskAt stage → cause_at stage ≡ None →
    writes_to t.now.writes cell.0 ≡ true → asked size t stage (Set cell value) ≡ written cell.0 value (cells_of size (at t stage))
unfolding AwaitsAskAt asked_at asked_going cause_at
asked-set size t (Ready answer) cell value waits going buffered = rw buffered refl
asked-set size t (Late token) cell value waits going buffered = rw buffered refl
asked-set size t (Stopped cause) cell value waits going buffered = cc going
asked-set size t _ cell value waits going buffered = absurd waits

asked-enter : (size : ℕ) (t : Attempt) (stage : Stage) → AwaitsAskAt stage → cause_at stage ≡ None →
    nat_lt (length t.saved) deepest ≡ true → asked size t stage Enter ≡ entered (cells_of size (at t stage))
unfolding AwaitsAskAt asked_at asked_going cause_at
asked-enter size t (Ready answer) waits going room = rw room refl
asked-enter size t (Late token) waits going room = rw room refl
asked-enter size t (Stopped cause) waits going room = cc going
asked-enter size t _ waits going room = absurd waits

asked-keep : (size : ℕ) (t : Attempt) (stage : Stage) → AwaitsAskAt stage → asked size t stage Keep ≡ kept (cells_of size (at t stage))
unfolding AwaitsAskAt asked_at asked_going asked_stopped cause_at
asked-keep size t (Ready answer) waits = refl
asked-keep size t (Late token) waits = refl
asked-keep size t (Stopped cause) waits = refl
asked-keep size t _ waits = absurd waits

asked-hook : (size : ℕ) (t : Attempt) (stage : Stage) (phase : HookPhase) (token : ℕ) → AwaitsAskAt stage → cause_at stage ≡ None →
    asked size t stage (Hook phase token) ≡ hooked phase token (cells_of size (at t stage))
unfolding AwaitsAskAt asked_at asked_going cause_at
asked-hook size t (Ready answer) phase token waits going = refl
asked-hook size t (Late late) phase token waits going = refl
asked-hook size t (Stopped cause) phase token waits going = cc going
asked-hook size t _ phase token waits going = absurd waits

asked-later : (size : ℕ) (t : Attempt) (stage : Stage) (token : ℕ) → AwaitsAskAt stage → cause_at stage ≡ None →
    asked size t stage (Later token) ≡ late_registered token (cells_of size (at t stage))
unfolding AwaitsAskAt asked_at asked_going cause_at
asked-later size t (Ready answer) token waits going = refl
asked-later size t (Late late) token waits going = refl
asked-later size t (Stopped cause) token waits going = cc going
asked-later size t _ token waits going = absurd waits

asked-written : (t : Attempt) (stage : Stage) (cell : Addr) (value : ℕ) → AwaitsAskAt stage → cause_at stage ≡ None →
    lookup (nat_eq cell.0) t.now.writes ≡ Some value → asked_at t stage (Get cell) ≡ answer_with t value
unfolding AwaitsAskAt asked_at asked_going cause_at
asked-written t (Ready answer) cell value waits going here = rw here refl
asked-written t (Late token) cell value waits going here = rw here refl
asked-written t (Stopped cause) cell value waits going here = cc going
asked-written t _ cell value waits going here = absurd waits

asked-noted : (t : Attempt) (stage : Stage) (cell : Addr) (note : Note) → AwaitsAskAt stage → cause_at stage ≡ None →
    lookup (nat_eq cell.0) t.now.writes ≡ None → note_of t.notes cell.0 ≡ Some note → asked_at t stage (Get cell) ≡ answer_with t note.value
unfolding AwaitsAskAt asked_at asked_going cause_at
asked-noted t (Ready answer) cell note waits going away here = rw away (rw here refl)
asked-noted t (Late token) cell note waits going away here = rw away (rw here refl)
asked-noted t (Stopped cause) cell note waits going away here = cc going
asked-noted t _ cell note waits going away here = absurd waits

module _ (t : Attempt) (cell : Addr) where
  pub get-written : (value : ℕ) → AwaitsAskAt t.stage → cause_at t.stage ≡ None → lookup (nat_eq cell.0) t.now.writes ≡ Some value →
      moved t (Takes (Get cell)) ≡ answer_with t value
  unfolding moved
  get-written value = asked-written t t.stage cell value

  pub get-noted : (note : Note) → AwaitsAskAt t.stage → cause_at t.stage ≡ None → lookup (nat_eq cell.0) t.now.writes ≡ None →
      note_of t.notes cell.0 ≡ Some note → moved t (Takes (Get cell)) ≡ answer_with t note.value
  unfolding moved
  get-noted note = asked-noted t t.stage cell note

-- ---- a first read and a first write

module _ (size : ℕ) (t : Attempt) (cell value left : ℕ) (first : Meta) where
  pub looked-noted : (second : Meta) → cause_at t.stage ≡ None → still_has t.own first.version second ≡ true →
      cells_of size (validated t cell left first value second) ≡
      record (cells_of size t) { reads = t.notes ++ record { addr = addr_of cell; version = first.version; value = value } ∷ [] }
  unfolding validated cause_at
  looked-noted second going still = rw still (rw going refl)

  pub looked-told : (second : Meta) → still_has t.own first.version second ≡ true →
      (validated t cell left first value second).stage ≡ Ready (Some value)
  unfolding validated
  looked-told second still = rw still refl

  pub owned-written : (tried : Bool) (expected : Meta) (again : Bool) (found : Meta) → cause_at t.stage ≡ None → same_meta found expected ≡ true →
      cells_of size (exchanged t cell value left tried first expected again found) ≡ written cell value (cells_of size t)
  unfolding exchanged cause_at
  owned-written tried expected again found going won = rw won (rw going refl)

module _ (size : ℕ) (t : Attempt) where
  pub set-is-written : (cell : Addr) (value : ℕ) → AwaitsAskAt t.stage → cause_at t.stage ≡ None → writes_to t.now.writes cell.0 ≡ true →
      cells_of size (moved t (Takes (Set cell value))) ≡ written cell.0 value (cells_of size t)
  unfolding moved
  set-is-written = asked-set size t t.stage

  pub enter-is-entered : AwaitsAskAt t.stage → cause_at t.stage ≡ None → nat_lt (length t.saved) deepest ≡ true →
      cells_of size (moved t (Takes Enter)) ≡ entered (cells_of size t)
  unfolding moved
  enter-is-entered = asked-enter size t t.stage

  pub keep-is-kept : AwaitsAskAt t.stage → cells_of size (moved t (Takes Keep)) ≡ kept (cells_of size t)
  unfolding moved
  keep-is-kept = asked-keep size t t.stage

  pub hook-is-hooked : (phase : HookPhase) (token : ℕ) → AwaitsAskAt t.stage → cause_at t.stage ≡ None →
      cells_of size (moved t (Takes (Hook phase token))) ≡ hooked phase token (cells_of size t)
  unfolding moved
  hook-is-hooked = asked-hook size t t.stage

  pub later-is-delayed : (token : ℕ) → AwaitsAskAt t.stage → cause_at t.stage ≡ None →
      cells_of size (moved t (Takes (Later token))) ≡ late_registered token (cells_of size t)
  unfolding moved
  later-is-delayed = asked-later size t t.stage

-- ---- a level that is undone

-- All handlers that are due run.
pub runs-due : (size : ℕ) (t : Attempt) (hooks : Handlers) → t.due ≡ run_all hooks →
    cells_of size (moved_on t (replicate (length hooks) Does)) ≡ record (cells_of size t) { now = record t.now { runs = t.now.runs ++ hooks } }
unfolding moved
runs-due size t [] due = rw (append-nil t.now.runs) refl
runs-due size t (hook ∷ hooks) due =
    let next : Attempt = record t { now = record t.now { runs = t.now.runs ++ (hook.0, hook.1) ∷ [] }; due = run_all hooks } in
    rw due (runs-due size next hooks refl ∙ rw (append_assoc t.now.runs (hook ∷ []) hooks) refl)

-- once the cells of a level are released and its handlers have run
abbrev released_level : ℕ → List (ℕ × ℕ) → Attempt → CellsState
released_level size keep t =
    cells_of size (moved_on (release_level_on t keep []) (replicate (length (release_level_on t keep []).due) Does))

undone-here : (size : ℕ) (keep : List (ℕ × ℕ)) (t : Attempt) (former : Book) (books : List Book) (pending : Bool) (cell : ℕ) → cause_at t.stage ≡ None →
    (let level : Attempt = record t { saved = former ∷ books; due = ring_if pending cell } in released_level size keep level ≡ undone (cells_of size level))
unfolding cause_at moved
undone-here size keep t former books false cell going =
    let hooks : Handlers = level_runs (former ∷ books) t.now in
    let after : Attempt = release_level_on (record t { saved = former ∷ books; due = [] }) keep [] in
    rw (length-map hooks (λ hook. Run hook.0 hook.1)) (rw going (runs-due size after hooks refl))
undone-here size keep t former books true cell going =
    let hooks : Handlers = level_runs (former ∷ books) t.now in
    let rung : Attempt = record t { saved = former ∷ books; due = []; rings = t.rings ++ cell ∷ [] } in
    let after : Attempt = release_level_on rung keep [] in
    rw (length-map hooks (λ hook. Run hook.0 hook.1)) (rw going (runs-due size after hooks refl))

undone-level : (size : ℕ) (keep : List (ℕ × ℕ)) (t : Attempt) (saved : List Book) (pending : Bool) (cell : ℕ) → 0 < length saved → cause_at t.stage ≡ None →
    (let level : Attempt = record t { saved = saved; due = ring_if pending cell } in released_level size keep level ≡ undone (cells_of size level))
undone-level size keep t [] pending cell some going = absurd (omega arith)
undone-level size keep t (former ∷ books) pending cell some going = undone-here size keep t former books pending cell going

pub released-is-undone : (size : ℕ) (t : Attempt) (keep : List (ℕ × ℕ)) (pending : Bool) (cell : ℕ) → t.due ≡ ring_if pending cell → 0 < length t.saved →
    cause_at t.stage ≡ None → released_level size keep t ≡ undone (cells_of size t)
released-is-undone size t keep pending cell rings some going =
    subst (λ (due : List Due). released_level size keep (record t { due = due }) ≡ undone (cells_of size (record t { due = due })))
    (sym rings) (undone-level size keep t t.saved pending cell some going)

-- ---- who was refused something

refused : (t : Attempt) (cause : Cause) (ask : Ask) → IsCall ask → asked_stopped t cause ask ≡ t
unfolding IsCall asked_stopped
refused t cause (Get cell) call = refl
refused t cause (Set cell value) call = refl
refused t cause Enter call = refl
refused t cause (Hook phase token) call = refl
refused t cause (Later token) call = refl
refused t cause _ call = absurd call

some_same : (cause former : Cause) → Some cause ≡ Some former → cause ≡ former
some_same cause former is = cc is

asked-refused : (t : Attempt) (stage : Stage) (cause : Cause) (ask : Ask) → cause_at stage ≡ Some cause → IsCall ask → asked_at t stage ask ≡ t
unfolding cause_at asked_at
asked-refused t (Stopped cause) former ask is call = refused t cause ask call
asked-refused t _ former ask is call = cc is

kept-refused : (size : ℕ) (t : Attempt) (stage : Stage) (cause : Cause) → cause_at stage ≡ Some cause →
    asked size t stage Keep ≡ kept (cells_of size (at t stage))
unfolding cause_at asked_at asked_stopped
kept-refused size t (Stopped cause) former is = refl
kept-refused size t _ former is = cc is

undone-refused : (size : ℕ) (t : Attempt) (stage : Stage) (cause : Cause) → cause_at stage ≡ Some cause →
    asked size t stage Undo ≡ undone (cells_of size (at t stage))
unfolding cause_at asked_at asked_stopped
undone-refused size t (Stopped cause) former is = refl
undone-refused size t _ former is = cc is

ended-refused : (t : Attempt) (stage : Stage) (cause : Cause) → cause_at stage ≡ Some cause → asked_at t stage Finish ≡ rolled t cause
unfolding cause_at asked_at asked_stopped
ended-refused t (Stopped cause) former is = rw (some_same cause former is) refl
ended-refused t _ former is = cc is

abandoned-refused : (t : Attempt) (stage : Stage) (cause other : Cause) → cause_at stage ≡ Some cause → asked_at t stage (Abandon other) ≡ rolled t cause
unfolding cause_at asked_at asked_stopped
abandoned-refused t (Stopped cause) former other is = rw (some_same cause former is) refl
abandoned-refused t _ former other is = cc is

late-refused : (t : Attempt) (stage : Stage) (cause : Cause) → cause_at stage ≡ Some cause → late_over_at t stage ≡ rolled t cause
unfolding cause_at late_over_at
late-refused t (Stopped cause) former is = rw (some_same cause former is) refl
late-refused t _ former is = cc is

module _ (t : Attempt) (cause : Cause) (refused : cause_at t.stage ≡ Some cause) where
  pub calls-refused : (ask : Ask) → IsCall ask → moved t (Takes ask) ≡ t
  unfolding moved
  calls-refused ask call = asked-refused t t.stage cause ask refused call

  pub keep-refused : (size : ℕ) → cells_of size (moved t (Takes Keep)) ≡ kept (cells_of size t)
  unfolding moved
  keep-refused size = kept-refused size t t.stage cause refused

  pub undo-refused : (size : ℕ) → cells_of size (moved t (Takes Undo)) ≡ undone (cells_of size t)
  unfolding moved
  undo-refused size = undone-refused size t t.stage cause refused

  pub finish-refused : moved t (Takes Finish) ≡ rolled t cause
  unfolding moved
  finish-refused = ended-refused t t.stage cause refused

  pub abandon-refused : (other : Cause) → moved t (Takes (Abandon other)) ≡ rolled t cause
  unfolding moved
  abandon-refused other = abandoned-refused t t.stage cause other refused

  pub ends-late-refused : moved t EndsLate ≡ rolled t cause
  unfolding moved
  ends-late-refused = late-refused t t.stage cause refused
