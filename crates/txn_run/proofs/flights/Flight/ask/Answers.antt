use Rattle.std.proofs.Common.{◌≡◌, ◌∙◌, ap, sym, subst}
use Rattle.ref_table.specs.Seats.{SeatState, StmState, terms_in}
use Rattle.stm_core.specs.Running.{shown}
use Rattle.stm_model.specs.Attempt.{Attempt}
use Rattle.stm_model.specs.Moves.{AwaitsAsk, MayAsk}
use Rattle.stm_model.specs.World.{cells_in}
use Rattle.txn_run.specs.Flights.{FlightState}
use Rattle.txn_run.proofs.Standing.{asked_kept, kept_of, stands_of}
use Rattle.txn_run.proofs.flights.Flight.ask.Goals as goal

pub invariant_of-self : goal.invariant_of-self
invariant_of-self g c =
    let stm = c.args.stm.now in
    let lawful = g.L.Law.lawful stm.law in
    let may = g.L.Law.may stm.law in
    let t = shown c.self.inside.running in
    let u = shown c.ask.new.running in
    let was : t ≡ c.args.self.now.attempt = ap (λ (flight : FlightState _). flight.attempt) c.self.view_is in
    let table : c.self.inside.stm.value ≡ stm = ap (λ (flight : FlightState _). flight.stm) c.self.view_is ∙ c.requires.here.table in
    let kept = kept_of _ _ _ _ t c.self.invariant.stands in
    let waits = subst AwaitsAsk (sym was) c.requires.asks.waits in
    let able = subst (λ (a : Attempt). MayAsk (cells_in (terms_in stm)) a c.args.ask) (sym was) c.requires.asks.able in
    let knows : c.self.inside.seat.value ≡ c.args.seat.now = ap (λ (flight : FlightState _). flight.seat) c.self.view_is ∙ c.requires.here.knows in
    let owned : c.args.seat.now.table ≡ stm.table = ap (λ (seat : SeatState). seat.table) (sym knows) ∙ (c.self.invariant.own ∙ ap (λ (s : StmState _). s.table) table) in
    rw (table, c.of.ensures) (record {
      own = c.ask.ensures.continues.seat.same.table ∙ owned;
      sound = c.ask.ensures.sound;
      stands = stands_of lawful may (terms_in stm) c.ask.new.seat u c.ask.ensures.on c.ask.ensures.rests
          (asked_kept (cells_in (terms_in stm)) c.args.ask t u waits able c.ask.ensures.asked c.ask.ensures.rests kept);
    })

pub returns-clause-stands : goal.returns-clause-stands
returns-clause-stands g c =
    let stm = c.args.stm.now in
    let lawful = g.L.Law.lawful stm.law in
    let may = g.L.Law.may stm.law in
    let t = shown c.self.inside.running in
    let u = shown c.ask.new.running in
    let was : t ≡ c.args.self.now.attempt = ap (λ (flight : FlightState _). flight.attempt) c.self.view_is in
    let table : c.self.inside.stm.value ≡ stm = ap (λ (flight : FlightState _). flight.stm) c.self.view_is ∙ c.requires.here.table in
    let kept = kept_of _ _ _ _ t c.self.invariant.stands in
    let waits = subst AwaitsAsk (sym was) c.requires.asks.waits in
    let able = subst (λ (a : Attempt). MayAsk (cells_in (terms_in stm)) a c.args.ask) (sym was) c.requires.asks.able in
    stands_of lawful may (terms_in stm) c.ask.new.seat u c.ask.ensures.on c.ask.ensures.rests
    (asked_kept (cells_in (terms_in stm)) c.args.ask t u waits able c.ask.ensures.asked c.ask.ensures.rests kept)
