-- An attempt is asked for something.
use Rattle.std.proofs.Common.{◌≡◌, ◌≢◌, ℕ, ◌<◌, ◌⊎◌, Bool, true, false, nat_eq, nat_lt, if◌then◌else◌, drop, List, [], ◌∷◌, length, Option, Some, None, refl, sym, ap, subst, ◌∙◌, ⊎_elim, inl, inr}
use Rattle.ref_table.specs.Seats.{SeatState}
use Rattle.stm_core.proofs.Asking.{closes_open}
use Rattle.stm_core.specs.Machine.{IsRefused}
use Rattle.stm_core.specs.Running.{HasOpen, IsSound, shown}
use Rattle.stm_core.specs.declared.running.Running.{Running}
use Rattle.std.specs.Map.{lookup}
use Rattle.stm_model.specs.Accesses.{Answer}
use Rattle.stm_model.specs.HandlerRuns.{DoesDue, Finds, Step, found_unless_due, led, stepped}
use Rattle.stm_model.specs.After.{after_at, note_of, release_level_on, roll_on}
use Rattle.stm_model.specs.Attempt.{Announce, Attempt, Due, Ended, Late, Ready, Stage, Stopped, Write, cause_at}
use Rattle.stm_model.specs.CellsState.{Book}
use Rattle.stm_model.specs.Heap.{writes_to}
use Rattle.stm_model.specs.Refusing.{deepest}
use Rattle.stm_model.specs.declared.cause.Cause.{Cause}
use Rattle.stm_model.specs.declared.ending.Ending.TheVariants.{Rolled}
use Rattle.stm_model.specs.declared.note.Note.{Note}
use Rattle.stm_model.specs.Handlers.{Handlers}
use Rattle.stm_model.specs.Moves.{AwaitsAsk, AwaitsAskAt, EndsLate, May, MayAsk, Move, OutOfMemory, Takes, asked_at, asked_going, asked_stopped, conclude, did_first, late_over_at, moved, read_buffered, read_noted, turn_to, undo_level}
use Rattle.stm_model.specs.Owes.{Owes}
use Rattle.stm_model.specs.World.{Terms, cells_in}
use Rattle.stm_model.specs.declared.access.Ask.{Ask}
use Rattle.stm_model.specs.declared.access.Ask.TheVariants.{Abandon, Enter, Finish, Get, Hook, Keep, Later, Set, Undo}
use Rattle.txn_drive.specs.Going.{Continues, IsAsked}
use Rattle.txn_drive.specs.Moment.{moment}
use Rattle.txn_drive.specs.Paying.{IsLed, Pays}
use Rattle.txn_drive.specs.Standing.{IsOn}
use Rattle.txn_drive.proofs.Keeping.{KeepsCalls, calls_asked, calls_of, keeps_late, keeps_out}
use Rattle.txn_drive.proofs.Onward.{sees_self}
use Rattle.txn_drive.proofs.Owing.{ask_pays, late_pays, out_pays}
use Rattle.txn_drive.proofs.Settling.{comes_on}
use Rattle.txn_drive.proofs.Told.{calls_same}

-- Who waits hasn't made less than its first access.
waits_begun : (stage : Stage) → AwaitsAskAt stage → stage ≢ Announce
unfolding AwaitsAskAt
waits_begun (Ready told) waits = λ is. cc is
waits_begun (Late token) waits = λ is. cc is
waits_begun (Stopped cause) waits = λ is. cc is
waits_begun stage waits = absurd waits

-- what a local move makes of the moment, where it calls nobody
pub moves_continue : (seat : SeatState) (t u : Attempt) (runs : Option Handlers) (rings : Option (List ℕ)) → KeepsCalls t u → Continues (moment seat t runs rings) (moment seat u runs rings)
moves_continue seat t u runs rings keeps = record {
  same = record { own = keeps.own; serial = keeps.serial; settings = keeps.settings };
  seat = sees_self t.serial seat;
  since = λ started. (refl, keeps.started started);
  runs = calls_same t.now.runs u.now.runs runs runs keeps.runs refl;
  rings = calls_same t.rings u.rings rings rings keeps.rings refl;
}

-- It is on the seat still, unless it is over by that.
moves_stand : (lawful : List ℕ → Type 0) (may : List ℕ → List ℕ → Type 0) (terms : Terms) (seat : SeatState) (t u : Attempt) (move : Move) → IsOn lawful may terms seat t → May (cells_in terms) terms.limit t move → u ≡ moved t move → (u.stage ≡ Ended → ⊥) → IsOn lawful may terms seat u
moves_stand lawful may terms seat t u move on able is going = record {
  comes = comes_on terms seat.view.attempt t u move on.comes able is;
  shown = on.shown;
  safe = on.safe;
  over = λ over. absurd (going over);
}

-- ---- no ask ends it at once

abbrev Going : Attempt → Type 0
Going t = t.stage ≢ Ended

if_going : (b : Bool) (t u : Attempt) → Going t → Going u → Going (if b then t else u)
if_going true t u first second = first
if_going false t u first second = second

rolled_going : (t : Attempt) (behind : List Write) → Going (roll_on t behind)
rolled_going t [] = λ is. cc is
rolled_going t (write ∷ behind) = λ is. cc is

concludes_going : (t : Attempt) (writes : List Write) → Going (conclude t writes)
concludes_going t [] = λ is. cc is
concludes_going t (write ∷ writes) = λ is. cc is

turns_going : (t : Attempt) (tokens : List ℕ) → Going (turn_to t tokens)
turns_going t [] = concludes_going t t.now.writes
turns_going t (token ∷ tokens) = λ is. cc is

reads_going : (t : Attempt) (cell : ℕ) (value : Option ℕ) (note : Option Note) → note_of t.notes cell ≡ note → Going (read_buffered t cell value)
reads_going t cell (Some value) noted is = λ is. cc is
reads_going t cell None (Some note) is = subst (λ (n : Option Note). Going (read_noted t cell n)) (sym is) (λ is. cc is)
reads_going t cell None None is = subst (λ (n : Option Note). Going (read_noted t cell n)) (sym is) (λ is. cc is)

undone_going : (t : Attempt) (kept behind : List Write) → Going (release_level_on t kept behind)
undone_going t kept [] = λ is. cc is
undone_going t kept (write ∷ behind) = λ is. cc is

undo_going : (t : Attempt) (levels : List Book) → Going t → Going (undo_level t levels)
undo_going t [] going = going
undo_going t (former ∷ books) going = undone_going t former.writes (drop (length former.writes) t.now.writes)

ask_going : (t : Attempt) (ask : Ask) → Going t → Going (asked_going t ask)
unfolding asked_going
ask_going t (Get cell) going = reads_going t cell.0 (lookup (nat_eq cell.0) t.now.writes) (note_of t.notes cell.0) refl
ask_going t (Set cell value) going = if_going (writes_to t.now.writes cell.0) _ _ (λ is. cc is) (λ is. cc is)
ask_going t Enter going = if_going (nat_lt (length t.saved) deepest) _ _ (λ is. cc is) (λ is. cc is)
ask_going t Keep going = λ is. cc is
ask_going t Undo going = undo_going t t.saved going
ask_going t (Hook phase token) going = λ is. cc is
ask_going t (Later token) going = λ is. cc is
ask_going t Finish going = turns_going t (drop t.turn t.now.laters)
ask_going t (Abandon cause) going = rolled_going (record t { ending = Some (Rolled cause t.prefix) }) t.now.writes

ask_stopped : (t : Attempt) (cause : Cause) (ask : Ask) → Going t → Going (asked_stopped t cause ask)
unfolding asked_stopped
ask_stopped t cause Keep going = going
ask_stopped t cause Undo going = going
ask_stopped t cause Finish going = rolled_going (record t { ending = Some (Rolled cause t.prefix) }) t.now.writes
ask_stopped t cause (Abandon other) going = rolled_going (record t { ending = Some (Rolled cause t.prefix) }) t.now.writes
ask_stopped t cause ask going = going

asked_goes : (t : Attempt) (stage : Stage) (ask : Ask) → Going t → AwaitsAskAt stage → Going (asked_at t stage ask)
unfolding asked_at AwaitsAskAt
asked_goes t (Ready told) ask going waits = ask_going t ask going
asked_goes t (Late token) ask going waits = ask_going t ask going
asked_goes t (Stopped cause) ask going waits = ask_stopped t cause ask going
asked_goes t stage ask going waits = absurd waits

late_goes : (t : Attempt) (stage : Stage) → AwaitsAskAt stage → Going (late_over_at t stage)
unfolding late_over_at AwaitsAskAt
late_goes t (Ready told) waits = turns_going t (drop t.turn t.now.laters)
late_goes t (Late token) waits = turns_going t (drop t.turn t.now.laters)
late_goes t (Stopped cause) waits = rolled_going (record t { ending = Some (Rolled cause t.prefix) }) t.now.writes
late_goes t stage waits = absurd waits

waits_going : (stage : Stage) → AwaitsAskAt stage → stage ≢ Ended
unfolding AwaitsAskAt
waits_going (Ready told) waits = λ is. cc is
waits_going (Late token) waits = λ is. cc is
waits_going (Stopped cause) waits = λ is. cc is
waits_going stage waits = absurd waits

-- ---- what the driver finds behind an ask

-- It stands on the seat, pays what it owes, and goes on from the moment before.
pub record IsPut (lawful : List ℕ → Type 0) (may : List ℕ → List ℕ → Type 0) (terms : Terms) (seat : SeatState) (runs : Option Handlers) (rings : Option (List ℕ)) (t u : Attempt) : Type 0 where
  pub on : IsOn lawful may terms seat u
  pub pays : Pays lawful may (cells_in terms) u
  pub continues : Continues (moment seat t runs rings) (moment seat u runs rings)

module _ (lawful : List ℕ → Type 0) (may : List ℕ → List ℕ → Type 0) (terms : Terms) (seat : SeatState) (runs : Option Handlers) (rings : Option (List ℕ)) (t u : Attempt)
    (on : IsOn lawful may terms seat t) (waits : AwaitsAsk t) where
  put_ask : (ask : Ask) → MayAsk (cells_in terms) t ask → (ask ≡ Finish → cause_at t.stage ≡ None → Owes lawful may (cells_in terms) t.notes t.now.writes)
      → u ≡ moved t (Takes ask) → IsPut lawful may terms seat runs rings t u
  unfolding May moved
  put_ask ask able owes is = record {
    on = moves_stand lawful may terms seat t u (Takes ask) on (waits, able) is (subst Going (sym is) (asked_goes t t.stage ask (waits_going t.stage waits.stands) waits.stands));
    pays = subst (Pays lawful may (cells_in terms)) (sym is) (ask_pays lawful may (cells_in terms) t ask waits.stands owes);
    continues = moves_continue seat t u runs rings (subst (KeepsCalls t) (sym is) (calls_asked t ask));
  }

  put_out : (ask : Ask) → MayAsk (cells_in terms) t ask → IsRefused t ask u → IsPut lawful may terms seat runs rings t u
  unfolding May moved
  put_out ask able refused = record {
    on = moves_stand lawful may terms seat t u (OutOfMemory ask) on (waits, refused.going, able, refused.wants) refused.stops (subst Going (sym refused.stops) (λ is. cc is));
    pays = subst (Pays lawful may (cells_in terms)) (sym refused.stops) (out_pays lawful may (cells_in terms) t ask);
    continues = moves_continue seat t u runs rings (subst (KeepsCalls t) (sym refused.stops) (calls_of t (moved t (OutOfMemory ask)) (keeps_out t ask)));
  }

  -- The ask was taken, or refused out of memory.
  pub put_so : (ask : Ask) → MayAsk (cells_in terms) t ask → (ask ≡ Finish → cause_at t.stage ≡ None → Owes lawful may (cells_in terms) t.notes t.now.writes)
      → (u ≡ moved t (Takes ask)) ⊎ IsRefused t ask u → IsPut lawful may terms seat runs rings t u
  put_so ask able owes put = ⊎_elim (put_ask ask able owes) (put_out ask able) put

  -- A before-commit body is over.
  pub put_late : 0 < t.turn → (cause_at t.stage ≡ None → Owes lawful may (cells_in terms) t.notes t.now.writes) → u ≡ moved t EndsLate → IsPut lawful may terms seat runs rings t u
  unfolding May moved
  put_late turn owes is = record {
    on = moves_stand lawful may terms seat t u EndsLate on (waits, turn) is (subst Going (sym is) (late_goes t t.stage waits.stands));
    pays = subst (Pays lawful may (cells_in terms)) (sym is) (late_pays lawful may (cells_in terms) t waits.stands owes);
    continues = moves_continue seat t u runs rings (subst (KeepsCalls t) (sym is) (keeps_late t));
  }

-- An ask that was taken was led on, and one that was refused is refused still.
pub asked_so : (t u v : Attempt) (ask : Ask) → (u ≡ moved t (Takes ask)) ⊎ IsRefused t ask u → IsLed u v → (IsRefused t ask u → v ≡ u) → IsAsked t ask v
asked_so t u v ask put led stays = ⊎_elim
    (λ (taken : u ≡ moved t (Takes ask)). inl (subst (λ (a : Attempt). IsLed a v) taken led))
    (λ (refused : IsRefused t ask u). inr (subst (IsRefused t ask) (sym (stays refused)) refused)) put

pub waits_after : (t : Attempt) (stage : Stage) (answer : Answer) → AwaitsAskAt stage → after_at t stage answer ≡ t
unfolding after_at AwaitsAskAt
waits_after t (Ready told) answer waits = refl
waits_after t (Late token) answer waits = refl
waits_after t (Stopped cause) answer waits = refl
waits_after t stage answer waits = absurd waits

waits_step : (t : Attempt) (step : Step) → AwaitsAsk t → stepped t step ≡ t
unfolding stepped
waits_step t (Finds answer) waits = ap (λ (due : List Due). found_unless_due t due answer) waits.nothing_due ∙ waits_after t t.stage answer waits.stands
waits_step t DoesDue waits = ap (did_first t) waits.nothing_due

-- Who waits is led nowhere.
pub waits_led : (t : Attempt) (steps : List Step) → AwaitsAsk t → led t steps ≡ t
waits_led t [] waits = refl
waits_led t (step ∷ steps) waits =
    let same : stepped t step ≡ t = waits_step t step waits in
    ap (λ (a : Attempt). led a steps) same ∙ waits_led t steps waits

-- Who was refused something stays so.
pub refused_rests : (t u v : Attempt) (ask : Ask) → AwaitsAsk t → IsRefused t ask u → IsLed u v → v ≡ u
unfolding moved AwaitsAskAt
refused_rests t u v ask waits refused led =
    sym led.reach ∙ waits_led u led.steps (subst AwaitsAsk (sym refused.stops) (record { stands = tt; nothing_due = waits.nothing_due }))

-- ---- a level is open where the ask closes one

pub has_open : (size : ℕ) (r : Running) (ask : Ask) → IsSound r → MayAsk size (shown r) ask → HasOpen ask r.levels
unfolding MayAsk HasOpen
has_open size r Keep sound able = closes_open r Keep sound able
has_open size r Undo sound able = closes_open r Undo sound able
has_open size r ask sound able = tt
