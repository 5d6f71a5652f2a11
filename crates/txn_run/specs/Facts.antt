-- Private: what ghost fields of the cells of an attempt rest on.
use Rattle.std.proofs.Common.{ℕ, List, Option, Some, None, refl, ◌∙◌}
use Rattle.std.specs.Prelude.{IfSome}
use Rattle.std.specs.Coded.{Unit-prop}
use denote.Struct.Props.{props}
use Rattle.stm_model.specs.declared.cause.Cause.{Cause}
use Rattle.stm_model.specs.Heap.{AreWords}
use Rattle.stm_model.specs.Telling.{Witness}
use Rattle.stm_model.specs.declared.note.Note.{Note}
use Rattle.stm_model.specs.Refusing.{IsOfCells}
use Rattle.stm_model.proofs.CellsLemmas.{IsOfCells-prop}
use Rattle.txn_drive.specs.Moment.{Moment}
use Rattle.txn_drive.proofs.Onward.{continues_on, continues_self}
use Rattle.txn_drive.specs.Moment.{moment}
use Rattle.ref_table.specs.Seats.{SeatState, StmState}
use Rattle.txn_run.specs.Flights.{FlightState, Went}
use Rattle.txn_run.specs.Runners.{BegunBy, IsGoing, WentBy}

pub AreWords-prop : (heap : List ℕ) → IsProp (AreWords heap)
AreWords-prop heap = hlevel props

pub IsAnswer-prop : (cause : Option Cause) → IsProp (IfSome cause IsOfCells)
IsAnswer-prop None = Unit-prop
IsAnswer-prop (Some cause) = IsOfCells-prop cause

pub went_self : (m : Moment) → Went m m
went_self m = record { continues = continues_self m; turn = refl }

pub went_on : (a b c : Moment) → Went a b → Went b c → Went a c
went_on a b c one two = record { continues = continues_on a b c one.continues two.continues; turn = two.turn ∙ one.turn }

-- what is possible under one law is so under another that says no more
pub witness_map : (heaps lawful : List ℕ → Type 0) (size : ℕ) (reads : List Note) → ((heap : List ℕ) → heaps heap → lawful heap) → Witness heaps size reads → Witness lawful size reads
witness_map heaps lawful size reads same witness =
    (witness.0, record { cells = witness.1.cells; words = witness.1.words; keeps_law = same witness.0 witness.1.keeps_law; agrees = witness.1.agrees })

pub IsGoing-prop : {S : Type 0} (flight : Option (FlightState S)) → IsProp (IsGoing flight)
IsGoing-prop None = Unit-prop
IsGoing-prop (Some flight) = hlevel props

pub went_by_self : {S : Type 0} (flight : Option (FlightState S)) (seat : SeatState) (rings : Option (List ℕ)) → WentBy flight seat rings flight seat rings
went_by_self None seat rings = (refl, refl)
went_by_self (Some flight) seat rings = went_self (moment seat flight.attempt None rings)

pub went_by_on : {S : Type 0} (a b c : Option (FlightState S)) (seat seat_then seat_last : SeatState) (rings rings_then rings_last : Option (List ℕ))
    → WentBy a seat rings b seat_then rings_then → WentBy b seat_then rings_then c seat_last rings_last → WentBy a seat rings c seat_last rings_last
went_by_on None None None seat seat_then seat_last rings rings_then rings_last one two = (two.0 ∙ one.0, two.1 ∙ one.1)
went_by_on (Some f) (Some g) (Some h) seat seat_then seat_last rings rings_then rings_last one two =
    went_on (moment seat f.attempt None rings) (moment seat_then g.attempt None rings_then) (moment seat_last h.attempt None rings_last) one two
went_by_on None None (Some h) seat seat_then seat_last rings rings_then rings_last one two = absurd two
went_by_on None (Some g) c seat seat_then seat_last rings rings_then rings_last one two = absurd one
went_by_on (Some f) None c seat seat_then seat_last rings rings_then rings_last one two = absurd one
went_by_on (Some f) (Some g) None seat seat_then seat_last rings rings_then rings_last one two = absurd two

-- An attempt that goes on began where it began.
pub begun_later : {S : Type 0} (lawful : List ℕ → Type 0) (may : List ℕ → List ℕ → Type 0) (stm : StmState S) (before : SeatState) (rings : Option (List ℕ)) (a b : Option (FlightState S))
    (seat seat_then : SeatState) (rings_now rings_then : Option (List ℕ)) → BegunBy lawful may stm before rings seat a rings_now → WentBy a seat rings_now b seat_then rings_then
    → BegunBy lawful may stm before rings seat_then b rings_then
begun_later lawful may stm before rings (Some f) (Some g) seat seat_then rings_now rings_then begun went = record {
  lent = begun.lent;
  same = begun.same;
  able = begun.able;
  more = begun.more;
  start = begun.start;
  first = begun.first;
  begun = begun.begun;
  continues = continues_on _ _ _ begun.continues went.continues;
  turn = went.turn ∙ begun.turn;
}
begun_later lawful may stm before rings (Some f) None seat seat_then rings_now rings_then begun went = absurd went
begun_later lawful may stm before rings None b seat seat_then rings_now rings_then begun went = absurd begun
