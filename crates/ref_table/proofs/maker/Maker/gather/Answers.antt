use Rattle.std.proofs.Common.{arith, ap, ◌∙◌}
use Rattle.ref_table.specs.Keyed.{stm_of}
use Rattle.ref_table.specs.Seats.{SeatState, terms_in}
use Rattle.ref_table.proofs.Gathering.{is_gathered}
use Rattle.ref_table.proofs.Links.{gathers}
use Rattle.ref_table.proofs.maker.Maker.gather.Goals as goal

pub join_seat-requires : goal.join_seat-requires
join_seat-requires g c =
    let shared = c.stm.inside.table.shared in
    let stm = stm_of shared.table_id shared.key in (
      rw (← c.self.view_is, ← c.stm.view_is) at c.requires.own,
      c.into_base.ensures.table ∙ (rw (← c.stm.view_is) at c.requires.other),
      c.into_base.ensures.holds.1,
      (let words = c.stm.invariant.words in omega arith),
      gathers (g.L.Law.lawful stm.law) (g.L.Law.may stm.law) (terms_in stm) stm.settings _ _ _ _ _ c.self.inside.seat.me.0 c.into_base.result.me.0 c.self.invariant.whose c.into_base.ensures.holds.0
          (ap (λ (s : SeatState). s.view.attempt.stage) c.into_base.ensures.known ∙ c.requires.rests),
    )

pub returns-clause-gathered : goal.returns-clause-gathered
returns-clause-gathered g c =
    rw (← c.self.view_is)
    (is_gathered c.self.inside.seat.table_id c.confirm.new.seat.table_id c.self.inside.given c.self.inside.seat.me.0 c.into_base.result.me.0 c.self.inside.seat.me c.confirm.new.seat.me c.args.seat
    (c.confirm.ensures.same.0 ∙ c.join_seat.ensures.0) (c.confirm.ensures.same.1 ∙ c.join_seat.ensures.2) c.into_base.ensures.holds.0 (ap (λ (s : SeatState). s.seen) c.into_base.ensures.known)
    c.confirm.ensures.confirms.joined)
