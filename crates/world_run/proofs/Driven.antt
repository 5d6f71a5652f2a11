-- Who asks an attempt that runs by itself: its own body alone, since a before-commit body asks for nothing.
use Rattle.std.proofs.Common.{◌≡◌, inl, inr, IsTrue, ℕ, suc, ◌-◌, ◌<◌, ◌≤◌, Bool, true, false, nat_eq, nat_lt, List, [], ◌∷◌, drop, length, Result, Ok, Err, OnErr, OnOk, Option, Some, None, ◌∙◌, ap, refl, if◌then◌else◌, arith, length-drop}
use Rattle.std.specs.Map.{lookup}
use Rattle.stm_core.specs.Machine.{after_due, next_of, standing}
use Rattle.stm_model.specs.Accesses.{Answer, access_of, next_at}
use Rattle.stm_model.specs.After.{after, after_at, note_of, release_level_on, roll_on, rolled}
use Rattle.stm_model.specs.Attempt.{Attempt, Decide, Due, Ended, Late, Ready, Ring, Run, Stage, Stopped, Write}
use Rattle.stm_model.specs.CellsState.{Book}
use Rattle.stm_model.specs.Heap.{writes_to}
use Rattle.stm_model.specs.Moves.{AwaitsAsk, AwaitsAskAt, Does, EndsLate, OutOfMemory, Takes, asked_at, asked_going, asked_stopped, conclude, did_first, late_over_at, moved, read_buffered, read_noted, turn_to, undo_level}
use Rattle.stm_model.specs.Refusing.{deepest}
use Rattle.stm_model.specs.declared.access.Ask.{Ask}
use Rattle.stm_model.specs.declared.access.Ask.TheVariants.{Abandon, Enter, Finish, Get, Hook, Keep, Later, Set, Undo}
use Rattle.stm_model.specs.declared.cause.Cause.{Cause}
use Rattle.stm_model.specs.declared.ending.Ending.TheVariants.{Rolled}
use Rattle.stm_model.specs.declared.note.Note.{Note}
use Rattle.world_run.specs.Going.{IsClosing, IsDriven, IsEnding, IsLateAt, Pauses}
use Rattle.world_run.specs.Simulation.{IsToDecide, replies}
use Rattle.world_run.proofs.Bounds.{turn_after}
use Rattle.world_run.proofs.Closings.{closing_after, closing_waits, conclude_closing, replies_so, rolled_closing}

-- ---- by itself

late_stays : (t : Attempt) (stage : Stage) (answer : Answer) → t.stage ≡ stage → IsLateAt stage → IsLateAt (after_at t stage answer).stage
unfolding after_at IsLateAt
late_stays t (Late token) answer is late = rw is tt
late_stays t stage answer is late = absurd late

pub driven_after : (t : Attempt) (answer : Answer) → IsDriven t → IsDriven (after t answer)
driven_after t answer (inl closing) = inl (closing_after t answer closing)
driven_after t answer (inr (inl own)) = inr (inl (turn_after t answer ∙ own))
driven_after t answer (inr (inr late)) = inr (inr (late_stays t t.stage answer refl late))

pub driven_does : (t : Attempt) → IsDriven t → IsDriven (moved t Does)
unfolding moved
driven_does t driven = go t.due
  where
    go : (due : List Due) → IsDriven (did_first t due)
    go [] = driven
    go (Run phase token ∷ dues) = driven
    go (Ring cell ∷ dues) = driven

pub turn_does : (t : Attempt) → (moved t Does).turn ≡ t.turn
unfolding moved
turn_does t = go t.due
  where
    go : (due : List Due) → (did_first t due).turn ≡ t.turn
    go [] = refl
    go (Run phase token ∷ dues) = refl
    go (Ring cell ∷ dues) = refl

-- ---- an ask of its body

if_driven : (b : Bool) (t u : Attempt) → IsDriven t → IsDriven u → IsDriven (if b then t else u)
if_driven true t u first second = first
if_driven false t u first second = second

turn_driven : (t : Attempt) (tokens : List ℕ) → IsDriven (turn_to t tokens)
unfolding IsLateAt
turn_driven t [] = inl (conclude_closing t t.now.writes)
turn_driven t (token ∷ tokens) = inr (inr tt)

module _ (t : Attempt) (own : t.turn ≡ 0) where
  noted_driven : (cell : ℕ) (note : Option Note) → IsDriven (read_noted t cell note)
  noted_driven cell None = inr (inl own)
  noted_driven cell (Some note) = inr (inl own)

  buffered_driven : (cell : ℕ) (value : Option ℕ) → IsDriven (read_buffered t cell value)
  buffered_driven cell None = noted_driven cell (note_of t.notes cell)
  buffered_driven cell (Some value) = inr (inl own)

  level_driven : (kept behind : List Write) → IsDriven (release_level_on t kept behind)
  level_driven kept [] = inr (inl own)
  level_driven kept (write ∷ behind) = inr (inl own)

  undo_driven : (levels : List Book) → IsDriven (undo_level t levels)
  undo_driven [] = inr (inl own)
  undo_driven (former ∷ books) = level_driven former.writes (drop (length former.writes) t.now.writes)

  going_driven : (ask : Ask) → IsDriven (asked_going t ask)
  unfolding asked_going
  going_driven (Get cell) = buffered_driven cell.0 (lookup (nat_eq cell.0) t.now.writes)
  going_driven (Set cell value) = if_driven (writes_to t.now.writes cell.0) _ _ (inr (inl own)) (inr (inl own))
  going_driven Enter = if_driven (nat_lt (length t.saved) deepest) _ _ (inr (inl own)) (inr (inl own))
  going_driven Keep = inr (inl own)
  going_driven Undo = undo_driven t.saved
  going_driven (Hook phase token) = inr (inl own)
  going_driven (Later token) = inr (inl own)
  going_driven Finish = turn_driven t (drop t.turn t.now.laters)
  going_driven (Abandon cause) = inl (rolled_closing t cause)

  stopped_driven : (cause : Cause) (ask : Ask) → IsDriven (asked_stopped t cause ask)
  unfolding asked_stopped
  stopped_driven cause Finish = inl (rolled_closing t cause)
  stopped_driven cause (Abandon other) = inl (rolled_closing t cause)
  stopped_driven cause ask = inr (inl own)

  asked_driven : (stage : Stage) (ask : Ask) → AwaitsAskAt stage → IsDriven (asked_at t stage ask)
  unfolding asked_at AwaitsAskAt
  asked_driven (Ready told) ask waits = going_driven ask
  asked_driven (Late token) ask waits = going_driven ask
  asked_driven (Stopped cause) ask waits = stopped_driven cause ask
  asked_driven stage ask waits = absurd waits

  pub driven_takes : (ask : Ask) → AwaitsAskAt t.stage → IsDriven (moved t (Takes ask))
  unfolding moved
  driven_takes ask waits = asked_driven t.stage ask waits

  pub driven_refuses : (ask : Ask) → IsDriven (moved t (OutOfMemory ask))
  unfolding moved
  driven_refuses ask = inr (inl own)

pub turn_refuses : (t : Attempt) (ask : Ask) → (moved t (OutOfMemory ask)).turn ≡ t.turn
unfolding moved
turn_refuses t ask = refl

-- ---- a before-commit body that is over

late_driven : (t : Attempt) (stage : Stage) → AwaitsAskAt stage → IsDriven (late_over_at t stage)
unfolding late_over_at AwaitsAskAt
late_driven t (Ready told) waits = turn_driven t (drop t.turn t.now.laters)
late_driven t (Late token) waits = turn_driven t (drop t.turn t.now.laters)
late_driven t (Stopped cause) waits = inl (rolled_closing t cause)
late_driven t stage waits = absurd waits

pub driven_late : (t : Attempt) → AwaitsAskAt t.stage → IsDriven (moved t EndsLate)
unfolding moved
driven_late t waits = late_driven t t.stage waits

turn_rises : (t : Attempt) (tokens : List ℕ) → t.turn ≤ (turn_to t tokens).turn
turn_rises t [] = conclude_turn t.now.writes
  where
    conclude_turn : (writes : List Write) → t.turn ≤ (conclude t writes).turn
    conclude_turn [] = omega arith
    conclude_turn (write ∷ writes) = omega arith
turn_rises t (token ∷ tokens) = omega arith

late_turn : (t : Attempt) (stage : Stage) → AwaitsAskAt stage → t.turn ≤ (late_over_at t stage).turn
unfolding late_over_at AwaitsAskAt
late_turn t (Ready told) waits = turn_rises t (drop t.turn t.now.laters)
late_turn t (Late token) waits = turn_rises t (drop t.turn t.now.laters)
late_turn t (Stopped cause) waits = roll_turn t.now.writes
  where
    roll_turn : (writes : List Write) → t.turn ≤ (roll_on (record t { ending = Some (Rolled cause t.prefix) }) writes).turn
    roll_turn [] = omega arith
    roll_turn (write ∷ writes) = omega arith
late_turn t stage waits = absurd waits

pub turn_late : (t : Attempt) → AwaitsAskAt t.stage → t.turn ≤ (moved t EndsLate).turn
unfolding moved
turn_late t waits = late_turn t t.stage waits

-- how many before-commit bodies have still to come
abbrev pub lates_left : Attempt → ℕ
lates_left t = length t.now.laters - t.turn

turn_falls : (t : Attempt) (tokens : List ℕ) → drop t.turn t.now.laters ≡ tokens → IsLateAt (turn_to t tokens).stage → lates_left (turn_to t tokens) < lates_left t
unfolding IsLateAt
turn_falls t [] is late = concludes t.now.writes late
  where
    concludes : (writes : List Write) → IsLateAt (conclude t writes).stage → lates_left (conclude t writes) < lates_left t
    concludes [] late = absurd late
    concludes (write ∷ writes) late = absurd late
turn_falls t (token ∷ tokens) is late =
    let some : length (drop t.turn t.now.laters) ≡ suc (length tokens) = ap length is in
    omega (arith, some, length-drop t.turn t.now.laters)

late_falls : (t : Attempt) (stage : Stage) → AwaitsAskAt stage → IsLateAt (late_over_at t stage).stage → lates_left (late_over_at t stage) < lates_left t
unfolding late_over_at AwaitsAskAt IsLateAt
late_falls t (Ready told) waits late = turn_falls t (drop t.turn t.now.laters) refl late
late_falls t (Late token) waits late = turn_falls t (drop t.turn t.now.laters) refl late
late_falls t (Stopped cause) waits late = rolls t.now.writes late
  where
    rolls : (writes : List Write) → IsLateAt (roll_on (record t { ending = Some (Rolled cause t.prefix) }) writes).stage → lates_left (rolled t cause) < lates_left t
    rolls [] late = absurd late
    rolls (write ∷ writes) late = absurd late
late_falls t stage waits late = absurd waits

-- Where another one has its turn then, fewer are left.
pub falls_late : (t : Attempt) → AwaitsAskAt t.stage → IsLateAt (moved t EndsLate).stage → lates_left (moved t EndsLate) < lates_left t
unfolding moved
falls_late t waits late = late_falls t t.stage waits late

-- ---- its end

standing_decides : (t : Attempt) (stage : Stage) → IsToDecide (standing t stage) → IsClosing stage
unfolding IsClosing IsToDecide standing next_at access_of
standing_decides t (Ready None) wants = absurd wants
standing_decides t (Ready (Some value)) wants = absurd wants
standing_decides t Ended wants = tt
standing_decides t (Decide lost clock) wants = tt
standing_decides t stage wants = absurd wants

due_decides : (t : Attempt) (due : List Due) → IsToDecide (after_due due (standing t t.stage)) → IsClosing t.stage
unfolding IsToDecide after_due
due_decides t [] wants = standing_decides t t.stage wants
due_decides t (Run phase token ∷ dues) wants = absurd wants
due_decides t (Ring cell ∷ dues) wants = absurd wants

-- Who is on its way to the end, and has stopped for no before-commit body, is closing.
pub ends_closing : {E : Type 0} (result : Result (Unit {0}) E) (t : Attempt) → IsEnding t → OnOk result (Pauses t) → OnErr result (IsToDecide (next_of t)) → IsClosing t.stage
unfolding IsClosing
ends_closing (Ok done) t (inl closing) pauses wants = closing
ends_closing (Ok done) t (inr late) pauses wants = elim (replies_so t pauses.replies) [
  | inl waits ↦ let none : t.turn ≡ 0 = pauses.own waits in absurd (omega (arith, late, none))
  | inr over ↦ rw over.ended tt
]
ends_closing (Err error) t ending pauses wants = due_decides t t.due wants

-- ---- before-commit bodies, one after another

-- how many turns are left of these, with the one that there is
unfoldable pub bodies_at : Stage → ℕ → ℕ
bodies_at (Late token) more = suc more
bodies_at stage more = 0

abbrev pub bodies_left : Attempt → ℕ
bodies_left t = bodies_at t.stage (lates_left t)

late_bodies : (stage : Stage) (more : ℕ) → IsLateAt stage → bodies_at stage more ≡ suc more
unfolding bodies_at IsLateAt
late_bodies (Late token) more late = refl
late_bodies stage more late = absurd late

closing_bodies : (stage : Stage) (more : ℕ) → IsClosing stage → bodies_at stage more ≡ 0
unfolding bodies_at IsClosing
closing_bodies (Late token) more closing = absurd closing
closing_bodies stage more closing = refl

-- Who is driven, waits and is late is asked by a before-commit body.
pub is_late : (t : Attempt) → IsDriven t → AwaitsAskAt t.stage → 0 < t.turn → IsLateAt t.stage
is_late t (inl closing) waits late = closing_waits t.stage closing waits
is_late t (inr (inl own)) waits late = absurd (omega (arith, own, late))
is_late t (inr (inr here)) waits late = here

late_dues : (t : Attempt) (tokens : List ℕ) → IsLateAt (turn_to t tokens).stage → (turn_to t tokens).due ≡ t.due
unfolding IsLateAt
late_dues t [] late = concludes t.now.writes late
  where
    concludes : (writes : List Write) → IsLateAt (conclude t writes).stage → (conclude t writes).due ≡ t.due
    concludes [] late = absurd late
    concludes (write ∷ writes) late = absurd late
late_dues t (token ∷ tokens) late = refl

over_dues : (t : Attempt) (stage : Stage) → AwaitsAskAt stage → IsLateAt (late_over_at t stage).stage → (late_over_at t stage).due ≡ t.due
unfolding late_over_at AwaitsAskAt IsLateAt
over_dues t (Ready told) waits late = late_dues t (drop t.turn t.now.laters) late
over_dues t (Late token) waits late = late_dues t (drop t.turn t.now.laters) late
over_dues t (Stopped cause) waits late = rolls t.now.writes late
  where
    rolls : (writes : List Write) → IsLateAt (roll_on (record t { ending = Some (Rolled cause t.prefix) }) writes).stage → (rolled t cause).due ≡ t.due
    rolls [] late = absurd late
    rolls (write ∷ writes) late = absurd late
over_dues t stage waits late = absurd waits

late_tells : (t : Attempt) (stage : Stage) → IsLateAt stage → IsTrue (replies (standing t stage))
unfolding standing IsLateAt
late_tells t (Late token) late = refl
late_tells t stage late = absurd late

late_replies : (t : Attempt) (dues : List Due) → t.due ≡ dues → dues ≡ [] → IsLateAt t.stage → IsTrue (replies (after_due dues (standing t t.stage)))
unfolding after_due
late_replies t [] is none late = late_tells t t.stage late
late_replies t (due ∷ dues) is none late = absurd (cc none)

-- The next before-commit body replies at once.
pub replies_late : (t : Attempt) → AwaitsAsk t → IsLateAt (moved t EndsLate).stage → IsTrue (replies (next_of (moved t EndsLate)))
unfolding moved
replies_late t waits late = late_replies (moved t EndsLate) (moved t EndsLate).due refl (over_dues t t.stage waits.stands late ∙ waits.nothing_due) late

-- Fewer are left behind one that is over.
pub bodies_fall : (t u : Attempt) → AwaitsAsk t → IsDriven t → 0 < t.turn → (IsLateAt (moved t EndsLate).stage → u ≡ moved t EndsLate) → (IsClosing (moved t EndsLate).stage → IsClosing u.stage) → bodies_left u < bodies_left t
bodies_fall t u waits driven late stays closes = go (driven_late t waits.stands)
  where
    here : bodies_left t ≡ suc (lates_left t)
    here = late_bodies t.stage (lates_left t) (is_late t driven waits.stands late)

    go : IsDriven (moved t EndsLate) → bodies_left u < bodies_left t
    go (inl closing) = let none = closing_bodies u.stage (lates_left u) (closes closing) in omega (arith, none, here)
    go (inr (inl own)) = let more = turn_late t waits.stands in absurd (omega (arith, own, more, late))
    go (inr (inr next)) =
        let same = ap bodies_left (stays next) in
        let fewer = falls_late t waits.stands next in
        let there = late_bodies (moved t EndsLate).stage (lates_left (moved t EndsLate)) next in
        omega (arith, same, fewer, there, here)
