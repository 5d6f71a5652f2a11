use Rattle.std.proofs.Common.{subst, sym}
use Rattle.atomic_table.specs.Seated.{TableId}
use Rattle.ref_table.specs.Keyed.{seat_of}
use Rattle.ref_table.specs.Performs.{IsStepOfWorld, Performs}
use Rattle.ref_table.specs.Seats.{terms_in}
use Rattle.ref_table.specs.Seen.{SafeSeat}
use Rattle.ref_table.proofs.Performing.{own_told, seat_holds, whose_own}
use Rattle.ref_table.proofs.Stepping.{allows}
use Rattle.ref_table.proofs.seat.Seat.perform.Goals as goal

pub step-found-requires-clause-own : goal.step-found-requires-clause-own
step-found-requires-clause-own g c = rw (← c.self.view_is) at c.requires.own

pub step-found-requires-clause-allows : goal.step-found-requires-clause-allows
step-found-requires-clause-allows g c =
    let stm = c.args.stm.now in
    allows (g.L.Law.lawful stm.law) (g.L.Law.may stm.law) (terms_in stm) stm.settings _ _ _ c.self.inside.seat.me c.args.access (g.V.Shown.shows c.args.shown.now)
    (whose_own _ c.self.inside.seat.me.0.whose c.self.invariant.whose) (rw (← c.self.view_is) at c.requires.may) c.brings.ensures

pub invariant_of-self : goal.invariant_of-self
invariant_of-self g c =
    let stm = c.args.stm.now in
    let seat = c.self.inside in
    seat_holds (g.L.Law.lawful stm.law) (g.L.Law.may stm.law) (terms_in stm) seat.seat.table_id seat.number seat.serial seat.clock c.args.access (g.V.Shown.shows c.args.shown.now) c.step-found.result
    seat.seat.me c.step-found.new.seat.me c.self.invariant c.step-found.ensures.told seat.lists c.serial_after-self-inside.result c.clock_after-self-inside.result
    c.serial_after-self-inside.ensures c.clock_after-self-inside.ensures (rw (← c.self.view_is) at c.requires.may) c.step-found.ensures.same.1

pub returns-clause-performs : goal.returns-clause-performs
returns-clause-performs g c =
    let stm = c.args.stm.now in
    let seat = c.self.inside in
    let told = own_told (g.L.Law.lawful stm.law) (g.L.Law.may stm.law) (terms_in stm) seat.seat.table_id seat.number seat.serial seat.clock c.args.access (g.V.Shown.shows c.args.shown.now) c.step-found.result
    seat.seat.me c.step-found.new.seat.me c.self.invariant c.step-found.ensures.told in
    rw (← c.self.view_is) (subst (λ (table : TableId). Performs c.args.access c.step-found.result (seat_of seat.seat.table_id seat.number seat.lists seat.seat.me.0) (seat_of table seat.number seat.lists c.step-found.new.seat.me.0) (g.V.Shown.shows c.args.shown.now))
    (sym c.step-found.ensures.same.0) (told.performs seat.lists))

pub returns-clause-safe : goal.returns-clause-safe
returns-clause-safe g c =
    let stm = c.args.stm.now in
    let seat = c.self.inside in
    let told = own_told (g.L.Law.lawful stm.law) (g.L.Law.may stm.law) (terms_in stm) seat.seat.table_id seat.number seat.serial seat.clock c.args.access (g.V.Shown.shows c.args.shown.now) c.step-found.result
    seat.seat.me c.step-found.new.seat.me c.self.invariant c.step-found.ensures.told in
    subst (λ (table : TableId). SafeSeat (g.L.Law.lawful stm.law) (g.L.Law.may stm.law) (terms_in stm) (seat_of table seat.number seat.lists c.step-found.new.seat.me.0))
    (sym c.step-found.ensures.same.0) (told.safe_seat seat.lists)

pub returns-clause-steps : goal.returns-clause-steps
returns-clause-steps g c =
    let stm = c.args.stm.now in
    let seat = c.self.inside in
    let told = own_told (g.L.Law.lawful stm.law) (g.L.Law.may stm.law) (terms_in stm) seat.seat.table_id seat.number seat.serial seat.clock c.args.access (g.V.Shown.shows c.args.shown.now) c.step-found.result
    seat.seat.me c.step-found.new.seat.me c.self.invariant c.step-found.ensures.told in
    rw (← c.self.view_is) (subst (λ (table : TableId). IsStepOfWorld (g.L.Law.lawful stm.law) (g.L.Law.may stm.law) (terms_in stm) c.args.access c.step-found.result (seat_of seat.seat.table_id seat.number seat.lists seat.seat.me.0) (seat_of table seat.number seat.lists c.step-found.new.seat.me.0) (g.V.Shown.shows c.args.shown.now))
    (sym c.step-found.ensures.same.0) (told.steps seat.lists))
