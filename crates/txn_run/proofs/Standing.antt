-- How an attempt stands to its seat after it has begun, and after it was asked.
use Rattle.std.proofs.Common.{◌≡◌, ◌≢◌, ℕ, ◌≤◌, List, length, Option, None, Result, sym, ap, subst, ◌∙◌, ⊎_elim, inl, arith}
use Rattle.std.specs.Prelude.{IfSome}
use Rattle.ref_table.specs.Seats.{SeatState, StmState, terms_in}
use Rattle.stm_model.specs.declared.cause.Cause.{Cause}
use Rattle.stm_model.specs.Attempt.{Attempt, Ended, Late, Ready, Stage, Stopped, cause_at}
use Rattle.stm_model.specs.Moves.{AwaitsAsk, AwaitsAskAt, MayAsk}
use Rattle.stm_model.specs.Refusing.{IsOfCells, deepest}
use Rattle.stm_model.specs.World.{Terms, cells_in}
use Rattle.stm_model.specs.declared.access.Ask.{Ask}
use Rattle.stm_model.specs.declared.access.Ask.TheVariants.{Abandon, Enter, Finish, Get, Hook, Keep, Later, Set, Undo}
use Rattle.stm_model.specs.declared.settings.Settings.{Settings}
use Rattle.txn_drive.specs.Begun.{IsBegun}
use Rattle.txn_drive.specs.Going.{IsAsked}
use Rattle.stm_model.specs.Handlers.{Handlers}
use Rattle.txn_drive.specs.Moment.{Moment, moment}
use Rattle.txn_drive.specs.Standing.{IsOn, IsOver, Rests}
use Rattle.txn_run.specs.Flights.{FlightState, IsHere, IsOfBodies, Knows, MayBeAsked, Stands, Tells, Went, cells_in_stm, state_on, told_at}
use Rattle.txn_run.proofs.Calling.{AskEnds, ask_ends}
use Rattle.txn_run.proofs.Finishing.{FinishEnds, abandon_ends, concluded, finish_ends, late, rolled_back}
use Rattle.txn_run.proofs.Known.{witness_here, words_here}

ready_waits : (stage : Stage) → stage ≡ Ready None → AwaitsAskAt stage
unfolding AwaitsAskAt
ready_waits stage is = rw is tt

ready_going : (stage : Stage) → stage ≡ Ready None → IfSome (cause_at stage) IsOfCells
unfolding cause_at
ready_going stage is = rw is tt

pub begun_stands : (lawful : List ℕ → Type 0) (may : List ℕ → List ℕ → Type 0) (terms : Terms) (settings : Settings) (before after : SeatState) (t : Attempt)
    → IsBegun lawful may terms settings before after t → Stands lawful may terms after t
begun_stands lawful may terms settings before after t begun =
    let ready : t.stage ≡ Ready None = ap (λ (a : Attempt). a.stage) begun.is in record {
      on = begun.on;
      rests = inl (record { stands = ready_waits t.stage ready; nothing_due = ap (λ (a : Attempt). a.due) begun.is });
      refused = ready_going t.stage ready;
      deep = λ going. let none : length t.saved ≡ 0 = ap (λ (a : Attempt). length a.saved) begun.is in omega (arith, none);
    }

-- It was refused nothing but what cells refuse with, and unless it is over, no more levels are open than may be.
pub record IsKept (t : Attempt) : Type 0 where
  pub refused : IfSome (cause_at t.stage) IsOfCells
  pub deep : t.stage ≢ Ended → length t.saved ≤ deepest

over_going : (stage : Stage) → stage ≡ Ended → IfSome (cause_at stage) IsOfCells
unfolding cause_at
over_going stage is = rw is tt

over_kept : (u : Attempt) → IsOver u → IsKept u
over_kept u over = record { refused = over_going u.stage over.stage; deep = λ going. absurd (going over.stage) }

late_going : (stage : Stage) (token : ℕ) → stage ≡ Late token → IfSome (cause_at stage) IsOfCells
unfolding cause_at
late_going stage token is = rw is tt

waits_flies : (stage : Stage) → AwaitsAskAt stage → stage ≢ Ended
unfolding AwaitsAskAt
waits_flies (Ready told) waits = λ is. cc is
waits_flies (Late token) waits = λ is. cc is
waits_flies (Stopped cause) waits = λ is. cc is
waits_flies stage waits = absurd waits

pub finish_kept : (t u : Attempt) → AwaitsAsk t → IsKept t → FinishEnds t u → IsKept u
finish_kept t u waits kept ends = elim ends [
  | late token tokens going is here ↦ record {
    refused = late_going u.stage token (ap (λ (a : Attempt). a.stage) here);
    deep = λ flies. subst (λ (a : Attempt). length a.saved ≤ deepest) (sym here) (kept.deep (waits_flies t.stage waits.stands));
  }
  | concluded going none led over ↦ over_kept u over
  | rolled_back cause is led over ↦ over_kept u over
]

calls_kept : (size : ℕ) (ask : Ask) (t u : Attempt) → AwaitsAsk t → IsOfBodies ask → MayAsk size t ask → IsAsked t ask u → Rests u → IsKept t → IsKept u
calls_kept size ask t u waits of_body able asked rests kept =
    let ends = ask_ends (λ heap. Unit {0}) size ask t u waits of_body able asked rests in record {
      refused = ends.refused kept.refused;
      deep = λ flies. ends.deep (kept.deep (waits_flies t.stage waits.stands));
    }

pub asked_kept : (size : ℕ) (ask : Ask) (t u : Attempt) → AwaitsAsk t → MayAsk size t ask → IsAsked t ask u → Rests u → IsKept t → IsKept u
unfolding IsOfBodies
asked_kept size Finish t u waits able asked rests kept = finish_kept t u waits kept (finish_ends t u waits asked rests)
asked_kept size (Abandon cause) t u waits able asked rests kept = over_kept u (abandon_ends cause t u waits asked rests).over
asked_kept size (Get addr) t u waits able asked rests kept = calls_kept size (Get addr) t u waits tt able asked rests kept
asked_kept size (Set addr value) t u waits able asked rests kept = calls_kept size (Set addr value) t u waits tt able asked rests kept
asked_kept size Enter t u waits able asked rests kept = calls_kept size Enter t u waits tt able asked rests kept
asked_kept size Keep t u waits able asked rests kept = calls_kept size Keep t u waits tt able asked rests kept
asked_kept size Undo t u waits able asked rests kept = calls_kept size Undo t u waits tt able asked rests kept
asked_kept size (Hook phase token) t u waits able asked rests kept = calls_kept size (Hook phase token) t u waits tt able asked rests kept
asked_kept size (Later token) t u waits able asked rests kept = calls_kept size (Later token) t u waits tt able asked rests kept

pub kept_of : (lawful : List ℕ → Type 0) (may : List ℕ → List ℕ → Type 0) (terms : Terms) (seat : SeatState) (t : Attempt) → Stands lawful may terms seat t → IsKept t
kept_of lawful may terms seat t stands = record { refused = stands.refused; deep = stands.deep }

pub stands_of : (lawful : List ℕ → Type 0) (may : List ℕ → List ℕ → Type 0) (terms : Terms) (seat : SeatState) (t : Attempt) → IsOn lawful may terms seat t → Rests t → IsKept t → Stands lawful may terms seat t
stands_of lawful may terms seat t on rests kept = record { on = on; rests = rests; refused = kept.refused; deep = kept.deep }

-- ---- the cells of an attempt

-- An attempt in flight that rests waits to be asked.
pub rests_waits : (t : Attempt) → Rests t → t.stage ≢ Ended → AwaitsAsk t
rests_waits t rests going = ⊎_elim (λ waits. waits) (λ (over : IsOver t). absurd (going over.stage)) rests

module _ {S : Type 0} (lawful : List ℕ → Type 0) (may : List ℕ → List ℕ → Type 0) (stm : StmState S) (t : Attempt) (rests : Rests t) (going : t.stage ≢ Ended)
    (ask : Ask) (of_body : IsOfBodies ask) (able : MayAsk (cells_in_stm stm) t ask) where
  no_finish : ask ≡ Finish → ⊥
  unfolding IsOfBodies
  no_finish is = rw is at of_body

  pub may_be_asked : MayBeAsked lawful may (terms_in stm) t ask
  may_be_asked = record { waits = rests_waits t rests going; able = able; owes = λ is. absurd (no_finish is) }

  module _ (u : Attempt) (asked : IsAsked t ask u) (then_rests : Rests u) where
    ends : AskEnds lawful (cells_in_stm stm) ask t u
    ends = ask_ends lawful (cells_in_stm stm) ask t u (rests_waits t rests going) of_body able asked then_rests

    pub asked_tells : (told : Result (Option ℕ) Cause) → told ≡ told_at u.stage → Tells lawful ask told (state_on stm t) (state_on stm u)
    asked_tells told is = rw is ends.tells

    pub asked_going : u.stage ≢ Ended
    asked_going = waits_flies u.stage ends.waits.stands

    pub asked_turn : u.turn ≡ t.turn
    asked_turn = ends.turn

pub knows_here : (lawful : List ℕ → Type 0) (may : List ℕ → List ℕ → Type 0) (terms : Terms) (seat : SeatState) (t : Attempt) → t.stage ≢ Ended → Stands lawful may terms seat t → Knows lawful (cells_in terms) t
knows_here lawful may terms seat t going stands = record {
  witness = witness_here lawful may terms seat t stands.on;
  words = words_here lawful may terms seat t stands.on;
  answered = stands.refused;
  deep = stands.deep going;
}

-- What is known of a flight is known of the table and the seat that it is on.
pub stands_here : {S : Type 0} (lawful : S → List ℕ → Type 0) (may : S → List ℕ → List ℕ → Type 0) (stm : StmState S) (seat : SeatState) (flight : FlightState S) → IsHere stm seat flight
    → Stands (lawful flight.stm.law) (may flight.stm.law) (terms_in flight.stm) flight.seat flight.attempt → Stands (lawful stm.law) (may stm.law) (terms_in stm) seat flight.attempt
stands_here lawful may stm seat flight here stands =
    subst (λ (s : SeatState). Stands (lawful stm.law) (may stm.law) (terms_in stm) s flight.attempt) here.knows
    (subst (λ (s : StmState _). Stands (lawful s.law) (may s.law) (terms_in s) flight.seat flight.attempt) here.table stands)

pub here_so : {S : Type 0} (stm stm_then : StmState S) (seat seat_then : SeatState) (flight flight_then : FlightState S) → IsHere stm seat flight → stm ≡ stm_then → seat ≡ seat_then → flight ≡ flight_then → IsHere stm_then seat_then flight_then
here_so stm stm_then seat seat_then flight flight_then here one two three = record {
  table = sym (ap (λ (f : FlightState _). f.stm) three) ∙ (here.table ∙ one);
  knows = sym (ap (λ (f : FlightState _). f.seat) three) ∙ (here.knows ∙ two);
}

pub went_so : (m : Moment) (seat seat_then : SeatState) (t u : Attempt) (runs runs_then : Option Handlers) (rings rings_then : Option (List ℕ)) → Went m (moment seat t runs rings)
    → seat ≡ seat_then → t ≡ u → runs ≡ runs_then → rings ≡ rings_then → Went m (moment seat_then u runs_then rings_then)
went_so m seat seat_then t u runs runs_then rings rings_then went one two three four = subst (Went m) (λ i. moment (one i) (two i) (three i) (four i)) went
