-- How an ask leaves an attempt: it waits to be asked again, or makes an access, or something is due.
use Rattle.std.proofs.Common.{◌≡◌, ℕ, ◌<◌, ◌^◌, ◌⊎◌, inl, inr, Bool, true, false, if◌then◌else◌, nat_lt, IsSome, List, [], ◌∷◌, ◌++◌, drop, length, Option, Some, None, refl, sym, ap, ◌∙◌, subst, arith}
use Rattle.stm_core.proofs.Shown.{next_is}
use Rattle.stm_core.specs.Machine.{DueAfter, IsOngoing, IsRefused}
use Rattle.stm_model.specs.declared.access.Ask.{Ask}
use Rattle.stm_model.specs.declared.access.Ask.TheVariants.{Abandon, Enter, Finish, Get, Hook, Keep, Later, Set, Undo}
use Rattle.stm_model.specs.declared.cause.Cause.{Cause}
use Rattle.stm_model.specs.declared.ending.Ending.TheVariants.{Rolled}
use Rattle.stm_model.specs.declared.note.Note.{Note}
use Rattle.stm_model.specs.Accesses.{next_at}
use Rattle.stm_model.specs.After.{note_of, release_level_on, roll_on, run_all}
use Rattle.stm_model.specs.Attempt.{Attempt, Due, Late, Ready, Stage, Stopped, Write}
use Rattle.stm_model.specs.CellsState.{Book, level_runs}
use Rattle.stm_model.specs.Handlers.{Handlers, committing, preparing}
use Rattle.stm_model.specs.Heap.{writes_to}
use Rattle.stm_model.specs.Moves.{AwaitsAskAt, EndsLate, MayAsk, Takes, asked_at, asked_going, asked_stopped, conclude, late_over_at, moved, read_buffered, read_noted, turn_to, undo_level}
use Rattle.stm_model.specs.Refusing.{deepest}

-- By its stage it waits to be asked, or makes an access.
abbrev StandsSo : Attempt → Type 0
StandsSo t = AwaitsAskAt t.stage ⊎ IsSome (next_at t t.stage)

rolls_on : (t : Attempt) (writes : List Write) → StandsSo (roll_on t writes)
unfolding next_at
rolls_on t [] = inr refl
rolls_on t (write ∷ behind) = inr refl

concludes_on : (t : Attempt) (writes : List Write) → StandsSo (conclude t writes)
unfolding next_at
concludes_on t [] = inr refl
concludes_on t (write ∷ behind) = inr refl

turns_on : (t : Attempt) (tokens : List ℕ) → StandsSo (turn_to t tokens)
unfolding AwaitsAskAt
turns_on t [] = concludes_on t t.now.writes
turns_on t (token ∷ tokens) = inl tt

reads_on : (t : Attempt) (cell : ℕ) (note : Option Note) → StandsSo (read_noted t cell note)
unfolding AwaitsAskAt next_at
reads_on t cell (Some note) = inl tt
reads_on t cell None = inr refl

gets_on : (t : Attempt) (cell : ℕ) (value : Option ℕ) → StandsSo (read_buffered t cell value)
unfolding AwaitsAskAt
gets_on t cell (Some value) = inl tt
gets_on t cell None = reads_on t cell (note_of t.notes cell)

either_on : (b : Bool) (t u : Attempt) → StandsSo t → StandsSo u → StandsSo (if b then t else u)
either_on true t u first second = first
either_on false t u first second = second

levels_on : (t : Attempt) (kept writes : List Write) → StandsSo (release_level_on t kept writes)
unfolding AwaitsAskAt next_at
levels_on t kept [] = inl tt
levels_on t kept (write ∷ behind) = inr refl

undoes_on : (t : Attempt) (saved : List Book) → 0 < length saved → StandsSo (undo_level t saved)
undoes_on t [] inside = absurd (omega (arith, inside))
undoes_on t (former ∷ books) inside = levels_on t former.writes (drop (length former.writes) t.now.writes)

going_on : (t : Attempt) (ask : Ask) → MayAsk (2 ^ 32) t ask → StandsSo (asked_going t ask)
unfolding MayAsk asked_going AwaitsAskAt next_at
going_on t (Get cell) may = gets_on t cell.0 _
going_on t (Set cell value) may = either_on (writes_to t.now.writes cell.0) _ _ (inl tt) (inr refl)
going_on t Enter may = either_on (nat_lt (length t.saved) deepest) _ _ (inl tt) (inl tt)
going_on t Keep may = inl tt
going_on t Undo may = undoes_on t t.saved may
going_on t (Hook phase token) may = inl tt
going_on t (Later token) may = inl tt
going_on t Finish may = turns_on t (drop t.turn t.now.laters)
going_on t (Abandon cause) may = rolls_on (record t { ending = Some (Rolled cause t.prefix) }) t.now.writes

stopped_on : (t : Attempt) (cause : Cause) (ask : Ask) → t.stage ≡ Stopped cause → StandsSo (asked_stopped t cause ask)
unfolding asked_stopped AwaitsAskAt
stopped_on t cause Finish here = rolls_on (record t { ending = Some (Rolled cause t.prefix) }) t.now.writes
stopped_on t cause (Abandon other) here = rolls_on (record t { ending = Some (Rolled cause t.prefix) }) t.now.writes
stopped_on t cause Keep here = inl (subst AwaitsAskAt (sym here) tt)
stopped_on t cause Undo here = inl (subst AwaitsAskAt (sym here) tt)
stopped_on t cause ask here = inl (subst AwaitsAskAt (sym here) tt)

asked_on : (t : Attempt) (stage : Stage) (ask : Ask) → MayAsk (2 ^ 32) t ask → t.stage ≡ stage → AwaitsAskAt stage → StandsSo (asked_at t stage ask)
unfolding asked_at AwaitsAskAt
asked_on t (Ready told) ask may here waits = going_on t ask may
asked_on t (Late token) ask may here waits = going_on t ask may
asked_on t (Stopped cause) ask may here waits = stopped_on t cause ask here
asked_on t stage ask may here waits = absurd waits

over_on : (t : Attempt) (stage : Stage) → AwaitsAskAt stage → StandsSo (late_over_at t stage)
unfolding late_over_at AwaitsAskAt
over_on t (Ready told) waits = turns_on t (drop t.turn t.now.laters)
over_on t (Late token) waits = turns_on t (drop t.turn t.now.laters)
over_on t (Stopped cause) waits = rolls_on (record t { ending = Some (Rolled cause t.prefix) }) t.now.writes
over_on t stage waits = absurd waits

moves_on : (t after : Attempt) (ask : Ask) → MayAsk (2 ^ 32) t ask → AwaitsAskAt t.stage → (after ≡ moved t (Takes ask)) ⊎ IsRefused t ask after → StandsSo after
unfolding moved AwaitsAskAt
moves_on t after ask may waits (inl takes) = subst StandsSo (sym takes) (asked_on t t.stage ask may refl waits)
moves_on t after ask may waits (inr refused) = subst StandsSo (sym refused.stops) (inl tt)

goes_on : (t : Attempt) (dues : List Due) → t.due ≡ dues → StandsSo t → IsOngoing t
unfolding IsOngoing
goes_on t [] nothing (inl waits) = inl (record { stands = waits; nothing_due = nothing })
goes_on t [] nothing (inr acts) = inr (inl (subst (λ act. IsSome act) (sym (next_is t nothing)) acts))
goes_on t (due ∷ dues) some stands = inr (inr (omega (arith, ap length some)))

pub asked_goes_on : (t after : Attempt) (ask : Ask) → MayAsk (2 ^ 32) t ask → AwaitsAskAt t.stage → (after ≡ moved t (Takes ask)) ⊎ IsRefused t ask after → IsOngoing after
asked_goes_on t after ask may waits moves = goes_on after after.due refl (moves_on t after ask may waits moves)

pub over_goes_on : (t after : Attempt) → AwaitsAskAt t.stage → after ≡ moved t EndsLate → IsOngoing after
unfolding moved
over_goes_on t after waits is = goes_on after after.due refl (subst StandsSo (sym is) (over_on t t.stage waits))

-- ---- what is due afterwards

either_due : (b : Bool) (t u : Attempt) (dues : List Due) → t.due ≡ dues → u.due ≡ dues → (if b then t else u).due ≡ dues
either_due true t u dues first second = first
either_due false t u dues first second = second

rolls_due : (t : Attempt) (writes : List Write) → (roll_on t writes).due ≡ t.due
rolls_due t [] = refl
rolls_due t (write ∷ behind) = refl

noted_due : (t : Attempt) (cell : ℕ) (note : Option Note) → (read_noted t cell note).due ≡ t.due
noted_due t cell (Some note) = refl
noted_due t cell None = refl

buffered_due : (t : Attempt) (cell : ℕ) (value : Option ℕ) → (read_buffered t cell value).due ≡ t.due
buffered_due t cell (Some value) = refl
buffered_due t cell None = noted_due t cell (note_of t.notes cell)

-- Of an attempt with nothing due, handlers alone.
abbrev AreRuns : List Due → Type 0
AreRuns dues = (hooks : Handlers) × (dues ≡ run_all hooks)

no_runs : (dues : List Due) → dues ≡ [] → AreRuns dues
no_runs dues nothing = ([], nothing)

levels_due : (t : Attempt) (kept writes : List Write) → t.due ≡ [] → AreRuns (release_level_on t kept writes).due
levels_due t kept [] nothing = (level_runs t.saved t.now, ap (λ dues. dues ++ run_all (level_runs t.saved t.now)) nothing)
levels_due t kept (write ∷ behind) nothing = no_runs t.due nothing

undo_due : (t : Attempt) (saved : List Book) → t.due ≡ [] → AreRuns (undo_level t saved).due
undo_due t [] nothing = no_runs t.due nothing
undo_due t (former ∷ books) nothing = levels_due t former.writes (drop (length former.writes) t.now.writes) nothing

concludes_due : (t : Attempt) (writes : List Write) → t.due ≡ [] → AreRuns (conclude t writes).due
concludes_due t [] nothing = (preparing t.now.hooks ++ committing t.now.hooks, refl)
concludes_due t (write ∷ writes) nothing = no_runs t.due nothing

turns_due : (t : Attempt) (tokens : List ℕ) → t.due ≡ [] → AreRuns (turn_to t tokens).due
turns_due t [] nothing = concludes_due t t.now.writes nothing
turns_due t (token ∷ tokens) nothing = no_runs t.due nothing

going_due : (t : Attempt) (ask : Ask) → t.due ≡ [] → DueAfter ask (asked_going t ask).due
unfolding DueAfter asked_going
going_due t (Get cell) nothing = buffered_due t cell.0 _ ∙ nothing
going_due t (Set cell value) nothing = either_due (writes_to t.now.writes cell.0) _ _ [] nothing nothing
going_due t Enter nothing = either_due (nat_lt (length t.saved) deepest) _ _ [] nothing nothing
going_due t Keep nothing = nothing
going_due t Undo nothing = undo_due t t.saved nothing
going_due t (Hook phase token) nothing = nothing
going_due t (Later token) nothing = nothing
going_due t Finish nothing = turns_due t (drop t.turn t.now.laters) nothing
going_due t (Abandon cause) nothing = rolls_due (record t { ending = Some (Rolled cause t.prefix) }) t.now.writes ∙ nothing

-- Where nothing is due, that is so after any ask.
none_after : (ask : Ask) (dues : List Due) → dues ≡ [] → DueAfter ask dues
unfolding DueAfter
none_after Undo dues nothing = no_runs dues nothing
none_after Finish dues nothing = no_runs dues nothing
none_after ask dues nothing = nothing

stopped_due : (t : Attempt) (cause : Cause) (ask : Ask) → (asked_stopped t cause ask).due ≡ t.due
unfolding asked_stopped
stopped_due t cause Finish = rolls_due (record t { ending = Some (Rolled cause t.prefix) }) t.now.writes
stopped_due t cause (Abandon other) = rolls_due (record t { ending = Some (Rolled cause t.prefix) }) t.now.writes
stopped_due t cause Keep = refl
stopped_due t cause Undo = refl
stopped_due t cause ask = refl

due_at : (t : Attempt) (stage : Stage) (ask : Ask) → t.due ≡ [] → DueAfter ask (asked_at t stage ask).due
unfolding asked_at
due_at t (Ready told) ask nothing = going_due t ask nothing
due_at t (Late token) ask nothing = going_due t ask nothing
due_at t (Stopped cause) ask nothing = none_after ask _ (stopped_due t cause ask ∙ nothing)
due_at t stage ask nothing = none_after ask t.due nothing

pub due_after : (t after : Attempt) (ask : Ask) → t.due ≡ [] → (after ≡ moved t (Takes ask)) ⊎ IsRefused t ask after → DueAfter ask after.due
unfolding moved
due_after t after ask nothing (inl takes) = subst (λ (u : Attempt). DueAfter ask u.due) (sym takes) (due_at t t.stage ask nothing)
due_after t after ask nothing (inr refused) = subst (λ (u : Attempt). DueAfter ask u.due) (sym refused.stops) (none_after ask t.due nothing)

over_due_at : (t : Attempt) (stage : Stage) → AwaitsAskAt stage → t.due ≡ [] → AreRuns (late_over_at t stage).due
unfolding late_over_at AwaitsAskAt
over_due_at t (Ready told) waits nothing = turns_due t (drop t.turn t.now.laters) nothing
over_due_at t (Late token) waits nothing = turns_due t (drop t.turn t.now.laters) nothing
over_due_at t (Stopped cause) waits nothing = no_runs _ (rolls_due (record t { ending = Some (Rolled cause t.prefix) }) t.now.writes ∙ nothing)
over_due_at t stage waits nothing = absurd waits

pub due_over : (t after : Attempt) → AwaitsAskAt t.stage → t.due ≡ [] → after ≡ moved t EndsLate → DueAfter Finish after.due
unfolding moved DueAfter
due_over t after waits nothing is = subst (λ (u : Attempt). AreRuns u.due) (sym is) (over_due_at t t.stage waits nothing)
