use Rattle.std.proofs.Common.{arith}
use Rattle.ref_table.specs.Seats.{terms_in}
use Rattle.ref_table.specs.Keyed.{stm_of}
use Rattle.ref_table.proofs.Links.{copies}
use Rattle.ref_table.proofs.seat.Seat.mark.Goals as goal

pub split_seat-seat-requires : goal.split_seat-seat-requires
split_seat-seat-requires g c =
    let shared = c.stm.inside.table.shared in
    let stm = stm_of shared.table_id shared.key in (
      rw (← c.self.view_is, ← c.stm.view_is) at c.requires.own,
      (let words = c.stm.invariant.words in omega arith),
      copies (g.L.Law.lawful stm.law) (g.L.Law.may stm.law) (terms_in stm) stm.settings _ c.self.inside.seat.me.0,
    )
