-- What an ask of a body makes of what the body sees.
use Rattle.std.proofs.Common.{◌≡◌, ℕ, ◌<◌, ◌≤◌, Bool, true, false, nat_lt, List, [], ◌∷◌, length, if◌then◌else◌, Ok, Option, Some, None, refl, sym, ap, subst, ◌∙◌, inl, inr, ltb-false, ltb-true}
use Rattle.std.specs.Prelude.{IfSome}
use Rattle.stm_core.specs.Machine.{DueAfter}
use Rattle.stm_core.proofs.GoingOn.{due_after}
use Rattle.stm_model.specs.After.{stopped}
use Rattle.stm_model.specs.Attempt.{Attempt, Late, Ready, Stage, Stopped, cause_at, cells_of}
use Rattle.stm_model.specs.CellsState.{undone}
use Rattle.stm_model.specs.HandlerRuns.{Undoes, led, releases, runs_left}
use Rattle.stm_model.specs.Moves.{AwaitsAsk, AwaitsAskAt, MayAsk, Takes, asked_at, asked_going, moved}
use Rattle.stm_model.specs.Refusing.{IsOfCells, RefusesLevel, deepest}
use Rattle.stm_model.specs.Telling.{Refused}
use Rattle.stm_model.specs.declared.access.Ask.{Ask}
use Rattle.stm_model.specs.declared.access.Ask.TheVariants.{Abandon, Enter, Finish, Get, Hook, Keep, Later, Set, Undo}
use Rattle.stm_model.specs.declared.cause.Cause.{Cause}
use Rattle.stm_model.specs.declared.cause.Cause.TheVariants.{TooDeep}
use Rattle.stm_model.proofs.AttemptLemmas.{enter-is-entered, hook-is-hooked, keep-is-kept, later-is-delayed}
use Rattle.stm_model.proofs.HandlerRunsLemmas.{undoes-begins, undoes-led, undone-whole}
use Rattle.txn_drive.specs.Going.{IsAsked}
use Rattle.txn_drive.specs.Paying.{IsLed}
use Rattle.txn_drive.specs.Standing.{Rests}
use Rattle.txn_run.specs.Flights.{IsOfBodies, Tells, told_at}
use Rattle.txn_run.proofs.Awaiting.{IsTold, ready_waits, rests_waits, told_here, told_ready}
use Rattle.txn_run.proofs.Kept.{causes_kept, levels_kept, turn_kept}
use Rattle.txn_run.proofs.Reading.{get_told}
use Rattle.txn_run.proofs.Refused.{refused_before, refused_memory}
use Rattle.txn_run.proofs.Writing.{set_told}

-- What an ask of a body leaves: it told what it made of what the body sees, the attempt waits to be asked again, was refused nothing but what cells refuse with, has no more levels open than may be, and no before-commit body had its turn.
pub record AskEnds (lawful : List ℕ → Type 0) (size : ℕ) (ask : Ask) (t u : Attempt) : Type 0 where
  pub waits : AwaitsAsk u
  pub tells : Tells lawful ask (told_at u.stage) (cells_of size t) (cells_of size u)
  pub refused : IfSome (cause_at t.stage) IsOfCells → IfSome (cause_at u.stage) IsOfCells
  pub deep : length t.saved ≤ deepest → length u.saved ≤ deepest
  pub turn : u.turn ≡ t.turn

-- ---- asks that are answered at once

-- The ask registers something, or keeps a level.
unfoldable IsAtOnce : Ask → Type 0
IsAtOnce Keep = Unit {0}
IsAtOnce (Hook phase token) = Unit {0}
IsAtOnce (Later token) = Unit {0}
IsAtOnce ask = ⊥

once_going : (t : Attempt) (ask : Ask) → IsAtOnce ask → (asked_going t ask).stage ≡ Ready None
unfolding IsAtOnce asked_going
once_going t Keep once = refl
once_going t (Hook phase token) once = refl
once_going t (Later token) once = refl
once_going t ask once = absurd once

once_at : (t : Attempt) (stage : Stage) (ask : Ask) → AwaitsAskAt stage → cause_at stage ≡ None → IsAtOnce ask → (asked_at t stage ask).stage ≡ Ready None
unfolding AwaitsAskAt cause_at asked_at
once_at t (Ready told) ask waits going once = once_going t ask once
once_at t (Late token) ask waits going once = once_going t ask once
once_at t (Stopped cause) ask waits going once = cc going
once_at t stage ask waits going once = absurd waits

-- A level is opened, or is one too many.
enters_at : (t : Attempt) (stage : Stage) (room : Bool) → AwaitsAskAt stage → cause_at stage ≡ None → nat_lt (length t.saved) deepest ≡ room
    → asked_at t stage Enter ≡ (if room then record t { saved = t.now ∷ t.saved; stage = Ready None } else stopped t (TooDeep deepest))
unfolding AwaitsAskAt cause_at asked_at asked_going
enters_at t (Ready told) room waits going is = rw is refl
enters_at t (Late token) room waits going is = rw is refl
enters_at t (Stopped cause) room waits going is = cc going
enters_at t stage room waits going is = absurd waits

module _ (lawful : List ℕ → Type 0) (size : ℕ) (t u : Attempt) (waits : AwaitsAsk t) (going : cause_at t.stage ≡ None) where
  abbrev taken : Ask → Attempt
  taken ask = moved t (Takes ask)

  ready_told : (ask : Ask) → (taken ask).stage ≡ Ready None → (taken ask).due ≡ [] → Tells lawful ask (Ok None) (cells_of size t) (cells_of size (taken ask))
      → IsLed (taken ask) u → IsTold lawful size ask t u
  ready_told ask ready nothing tells leads =
      let here : Tells lawful ask (told_at (taken ask).stage) (cells_of size t) (cells_of size (taken ask)) = rw (told_ready (taken ask).stage None ready) tells in
      told_here lawful size ask t u (taken ask) (record { stands = ready_waits (taken ask).stage None ready; nothing_due = nothing }) here leads

  once_ready : (ask : Ask) → IsAtOnce ask → (taken ask).stage ≡ Ready None
  unfolding moved
  once_ready ask once = once_at t t.stage ask waits.stands going once

  too_deep : deepest ≤ length t.saved → Refused (RefusesLevel (length t.saved)) (TooDeep deepest) (cells_of size t) (cells_of size (stopped t (TooDeep deepest)))
  unfolding cause_at
  too_deep deep = record {
    is = refl;
    again = λ earlier was. let never : None ≡ Some earlier = sym going ∙ was in cc;
    first = λ none. inl (deep, refl);
  }

  enter_told : (room : Bool) → nat_lt (length t.saved) deepest ≡ room → (taken Enter).due ≡ [] → IsLed (taken Enter) u → IsTold lawful size Enter t u
  unfolding Tells told_at AwaitsAskAt moved
  enter_told true is nothing leads =
      ready_told Enter (ap (λ (a : Attempt). a.stage) (enters_at t t.stage true waits.stands going is)) nothing
      (record { going = going; room = ltb-true (length t.saved) deepest is; is = enter-is-entered size t waits.stands going is }) leads
  enter_told false is nothing leads =
      told_here lawful size Enter t u (stopped t (TooDeep deepest)) (record { stands = tt; nothing_due = waits.nothing_due }) (too_deep (ltb-false (length t.saved) deepest is))
      (subst (λ (a : Attempt). IsLed a u) (enters_at t t.stage false waits.stands going is) leads)

  -- ---- a level that is undone

  undoes_rests : Undoes size (cells_of size t) u → Rests u → AwaitsAsk u
  undoes_rests (releases kept behind write is none same) rests = rests_waits u (rw is (λ over. cc over)) rests
  undoes_rests (runs_left is told) rests = rests_waits u (rw is (λ over. cc over)) rests

  undo_told : 0 < length t.saved → IsLed (taken Undo) u → Rests u → IsTold lawful size Undo t u
  unfolding Tells
  undo_told some leads rests =
      let undoes : Undoes size (cells_of size t) u =
      subst (Undoes size (cells_of size t)) leads.reach (undoes-led size (cells_of size t) (taken Undo) leads.steps (undoes-begins size t waits going some)) in
      let rest : AwaitsAsk u = undoes_rests undoes rests in
      let whole : cells_of size (led (taken Undo) leads.steps) ≡ undone (cells_of size t) = undone-whole size t leads.steps waits going some (subst AwaitsAsk (sym leads.reach) rest) in
      record { waits = rest; tells = subst (λ (a : Attempt). cells_of size a ≡ undone (cells_of size t)) leads.reach whole }

  -- ---- an ask that is taken

  due_taken : (ask : Ask) → DueAfter ask (taken ask).due
  due_taken ask = due_after t (taken ask) ask waits.nothing_due (inl refl)

  taken_told : (ask : Ask) → IsOfBodies ask → MayAsk size t ask → IsLed (taken ask) u → Rests u → IsTold lawful size ask t u
  unfolding IsOfBodies MayAsk DueAfter Tells IsAtOnce
  taken_told (Get cell) body able leads rests = get_told lawful size cell t u waits going able (due_taken (Get cell)) leads rests
  taken_told (Set cell word) body able leads rests = set_told lawful size cell word t u waits going (due_taken (Set cell word)) leads rests
  taken_told Enter body able leads rests = enter_told (nat_lt (length t.saved) deepest) refl (due_taken Enter) leads
  taken_told Keep body able leads rests = ready_told Keep (once_ready Keep tt) (due_taken Keep) (keep-is-kept size t waits.stands) leads
  taken_told Undo body able leads rests = undo_told able leads rests
  taken_told (Hook phase token) body able leads rests =
      ready_told (Hook phase token) (once_ready (Hook phase token) tt) (due_taken (Hook phase token))
      (record { going = going; is = hook-is-hooked size t phase token waits.stands going }) leads
  taken_told (Later token) body able leads rests =
      ready_told (Later token) (once_ready (Later token) tt) (due_taken (Later token))
      (record { going = going; is = later-is-delayed size t token waits.stands going }) leads
  taken_told Finish body able leads rests = absurd body
  taken_told (Abandon cause) body able leads rests = absurd body

-- ---- any ask of a body

module _ (lawful : List ℕ → Type 0) (size : ℕ) (ask : Ask) (t u : Attempt) (waits : AwaitsAsk t) (body : IsOfBodies ask) (able : MayAsk size t ask) (rests : Rests u) where
  ask_told : (was : Option Cause) → cause_at t.stage ≡ was → IsAsked t ask u → IsTold lawful size ask t u
  ask_told None is (inl leads) = taken_told lawful size t u waits is ask body able leads rests
  ask_told (Some cause) is (inl leads) = refused_before lawful size t u waits cause is ask body leads
  ask_told was is (inr refused) = refused_memory lawful size t refused.going ask u waits refused

pub ask_ends : (lawful : List ℕ → Type 0) (size : ℕ) (ask : Ask) (t u : Attempt) → AwaitsAsk t → IsOfBodies ask → MayAsk size t ask → IsAsked t ask u → Rests u
    → AskEnds lawful size ask t u
ask_ends lawful size ask t u waits of_body able asked rests =
    let told : IsTold lawful size ask t u = ask_told lawful size ask t u waits of_body able rests (cause_at t.stage) refl asked in
    record {
      waits = told.waits;
      tells = told.tells;
      refused = causes_kept lawful (cells_of size t) (cells_of size u) ask (told_at u.stage) of_body told.tells;
      deep = levels_kept lawful (cells_of size t) (cells_of size u) ask (told_at u.stage) of_body told.tells;
      turn = turn_kept t u ask of_body asked;
    }
