-- Cells of a caller between two attempts, and those of the attempt under way.
use Rattle.std.proofs.Common.{◌≡◌, ◌≢◌, ◌∙◌, ℕ, List, [], Some, None, Option, Err, refl, sym, ap, arith}
use Rattle.std.proofs.lemmas.List.Elements.{All-nil}
use Rattle.ref_table.specs.Seats.{SeatState, StmState, terms_in}
use Rattle.stm_model.specs.Refusing.{RefusesLevel, RefusesRead, RefusesRegistration, RefusesWrite}
use Rattle.stm_model.specs.Telling.{Refused, Witness}
use Rattle.stm_model.specs.declared.access.Ask.{Ask}
use Rattle.stm_model.specs.declared.access.Ask.TheVariants.{Abandon, Enter, Finish, Get, Hook, Keep, Later, Set, Undo}
use Rattle.stm_model.specs.declared.cause.Cause.{Cause}
use Rattle.stm_model.specs.declared.cause.Cause.TheVariants.{Memory}
use Rattle.txn_run.specs.Callers.{MayBegin}
use Rattle.txn_run.specs.Flights.{FlightState, IsHere, IsOfBodies, Knows, Tells, cells_in_stm}
use Rattle.txn_run.specs.Runners.{fresh_cells, resting, state_by}
use Rattle.stm_model.specs.Attempt.{Attempt, Ended, Ready, Stage, cause_at, cells_of}
use Rattle.stm_model.specs.World.{Terms, cells_in}
use Rattle.stm_model.specs.declared.settings.Settings.{Settings}
use Rattle.txn_drive.specs.Begun.{IsBegun}
use Rattle.txn_run.proofs.Standing.{begun_stands, knows_here}
use Rattle.txn_run.proofs.Possible.{possible_at}

refused_at_rest : (size : ℕ) (fresh : Cause → Type 0) → Refused fresh Memory (resting size) (resting size)
refused_at_rest size fresh = record {
  is = refl;
  again = λ earlier is. cc is;
  first = λ none. cc none;
}

pub rest_tells : (lawful : List ℕ → Type 0) (size : ℕ) (ask : Ask) → IsOfBodies ask → Tells lawful ask (Err Memory) (resting size) (resting size)
unfolding IsOfBodies Tells
rest_tells lawful size (Get addr) body = refused_at_rest size (RefusesRead (resting size) addr.0)
rest_tells lawful size (Set addr value) body = refused_at_rest size (RefusesWrite (resting size) addr.0)
rest_tells lawful size Enter body = refused_at_rest size (RefusesLevel 0)
rest_tells lawful size Keep body = refl
rest_tells lawful size Undo body = refl
rest_tells lawful size (Hook phase token) body = refused_at_rest size RefusesRegistration
rest_tells lawful size (Later token) body = refused_at_rest size RefusesRegistration
rest_tells lawful size Finish body = absurd body
rest_tells lawful size (Abandon cause) body = absurd body

pub placed_here : {S : Type 0} (stm : StmState S) (seat : SeatState) (flight : FlightState S) → IsHere stm seat flight
    → Some (record { stm = stm; seat = seat; attempt = flight.attempt }) ≡ Some flight
placed_here stm seat flight here = ap Some (λ i. record { stm = sym here.table i; seat = sym here.knows i; attempt = flight.attempt })

pub here_placed : {S : Type 0} (stm : StmState S) (seat : SeatState) (flight : FlightState S) → Some (record { stm = stm; seat = seat; attempt = flight.attempt }) ≡ Some flight
    → IsHere stm seat flight
here_placed stm seat flight is =
    let same : record { stm = stm; seat = seat; attempt = flight.attempt } ≡ flight = cc is in record {
      table = sym (ap (λ (f : FlightState _). f.stm) same);
      knows = sym (ap (λ (f : FlightState _). f.seat) same);
    }

-- Some heap is always possible by no notes.
pub rest_witness : {S : Type 0} (lawful : List ℕ → Type 0) (may : List ℕ → List ℕ → Type 0) (stm : StmState S) (seat : SeatState) → MayBegin lawful may stm seat → Witness lawful (cells_in_stm stm) []
rest_witness lawful may stm seat able = (_, possible_at lawful may (terms_in stm) seat able.safe 0 [] (omega arith) (All-nil _))

same_size : {S : Type 0} (stm : StmState S) (under_way : Option (FlightState S)) → (state_by stm under_way).size ≡ cells_in_stm stm
same_size stm None = refl
same_size stm (Some flight) = refl

-- What is possible by some notes is possible by none.
pub less_witness : {S : Type 0} (lawful : List ℕ → Type 0) (stm : StmState S) (under_way : Option (FlightState S))
    → Witness lawful (state_by stm under_way).size (state_by stm under_way).reads → Witness lawful (cells_in_stm stm) []
less_witness lawful stm under_way witness =
    (witness.0, record { cells = witness.1.cells ∙ same_size stm under_way; words = witness.1.words; keeps_law = witness.1.keeps_law; agrees = All-nil _ })

-- ---- an attempt that has just begun

module _ (lawful : List ℕ → Type 0) (may : List ℕ → List ℕ → Type 0) (terms : Terms) (settings : Settings) (before after : SeatState) (t : Attempt)
    (begun : IsBegun lawful may terms settings before after t) where
  pub begun_going : t.stage ≢ Ended
  begun_going ended = let ready : t.stage ≡ Ready None = ap (λ (a : Attempt). a.stage) begun.is in cc (sym ready ∙ ended)

  pub begun_knows : Knows lawful (cells_in terms) t
  begun_knows = knows_here lawful may terms after t begun_going (begun_stands lawful may terms settings before after t begun)

  begun_cause : (stage : Stage) → stage ≡ Ready None → cause_at stage ≡ None
  unfolding cause_at
  begun_cause stage is = rw is refl

  pub begun_fresh : (size : ℕ) → cells_of size t ≡ fresh_cells size
  begun_fresh size = λ i. record {
    size = size;
    reads = ap (λ (a : Attempt). a.notes) begun.is i;
    now = ap (λ (a : Attempt). a.now) begun.is i;
    saved = ap (λ (a : Attempt). a.saved) begun.is i;
    cause = begun_cause t.stage (ap (λ (a : Attempt). a.stage) begun.is) i;
  }
