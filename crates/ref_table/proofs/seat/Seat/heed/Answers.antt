use Rattle.std.proofs.Common.{ℕ, ap, arith, subst, sym, ◌∙◌}
use Rattle.atomic_table.specs.Seated.{TableId}
use Rattle.atomic_table.specs.Table.{Me}
use Rattle.ref_table.specs.Knowledge.{Knowledge}
use Rattle.ref_table.specs.Parts.{number_of}
use Rattle.ref_table.specs.Seen.{SafeSeat}
use Rattle.ref_table.specs.Keyed.{seat_of, stm_of}
use Rattle.ref_table.specs.Seats.{terms_in}
use Rattle.ref_table.proofs.Links.{heeds}
use Rattle.ref_table.proofs.seat.Seat.heed.Goals as goal

pub join_seat-requires : goal.join_seat-requires
join_seat-requires g c =
    let shared = c.stm.inside.table.shared in
    let stm = stm_of shared.table_id shared.key in (
      rw (← c.self.view_is, ← c.stm.view_is) at c.requires.own,
      rw (← c.mark.view_is, ← c.stm.view_is) at c.requires.other,
      c.mark.invariant.slots,
      (let words = c.stm.invariant.words in omega arith),
      heeds (g.L.Law.lawful stm.law) (g.L.Law.may stm.law) (terms_in stm) stm.settings _ _ c.self.inside.seat.me.0 c.mark.inside.seat.me.0,
    )

pub returns-clause-safe : goal.returns-clause-safe
returns-clause-safe g c =
    let stm = c.args.stm.now in
    let own = rw (← c.self.view_is) at c.requires.own in
    let table = c.learn.ensures.same.0 ∙ (c.join_seat.ensures.0 ∙ own) in
    let number = ap (λ (me : Me Unit Knowledge). number_of me.0.whose) c.join_seat.ensures.2 ∙ ap number_of c.self.invariant.whose in
    subst (λ (y : TableId × ℕ). SafeSeat (g.L.Law.lawful stm.law) (g.L.Law.may stm.law) (terms_in stm) (seat_of y.0 y.1 c.self.inside.lists c.learn.new.seat.me.0)) (λ i. (sym table i, number i))
    (c.learn.ensures.learns.safe_seat c.self.inside.lists)
