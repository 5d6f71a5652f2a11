use Rattle.std.proofs.Common.{◌≡◌, ◌+◌, ◌<◌, arith, ap, refl, ◌∙◌, sym, subst}
use Rattle.atomic_table.specs.Seated.{TableId}
use Rattle.stm_model.specs.declared.settings.Settings.{Settings}
use Rattle.ref_table.specs.Seen.{SafeSeat}
use Rattle.ref_table.proofs.Dealing.{deals_safe_seat}
use Rattle.atomic_table.specs.Table.{Me}
use Rattle.ref_table.specs.Keyed.{seat_of, stm_of}
use Rattle.ref_table.specs.Knowledge.{Knowledge}
use Rattle.ref_table.specs.Parts.{gathered_of}
use Rattle.ref_table.specs.Seats.{terms_in}
use Rattle.ref_table.proofs.Links.{deals}
use Rattle.ref_table.proofs.maker.Maker.caller.Goals as goal

pub split_seat-seat-requires : goal.split_seat-seat-requires
split_seat-seat-requires g c =
    let shared = c.stm.inside.table.shared in
    let stm = stm_of shared.table_id shared.key in
    let whose = ap (λ (me : Me Unit Knowledge). me.0.whose) c.confirm.ensures.same.1 ∙ c.self.invariant.whose in
    let settings = rw (← c.stm.view_is) at c.settings.ensures.settings in
    let at : c.settings.result.callers ≡ stm.settings.callers = ap (λ (s : Settings). s.callers) settings in
    let room : c.self.inside.given < stm.settings.callers = omega (arith, at, c.if-self-settings.false) in (
      c.confirm.ensures.same.0 ∙ (rw (← c.self.view_is, ← c.stm.view_is) at c.requires.own),
      (let words = c.stm.invariant.words in omega arith),
      deals (g.L.Law.lawful stm.law) (g.L.Law.may stm.law) (terms_in stm) stm.settings _ c.self.inside.given (gathered_of c.self.inside.seat.me.0.whose) c.confirm.new.seat.me.0 whose room,
    )

pub returns-clause-safe : goal.returns-clause-safe
returns-clause-safe g c =
    let stm = c.args.stm.now in
    let whose = ap (λ (me : Me Unit Knowledge). me.0.whose) c.confirm.ensures.same.1 ∙ c.self.invariant.whose in
    let at : c.settings.result.callers ≡ stm.settings.callers = ap (λ (s : Settings). s.callers) c.settings.ensures.settings in
    let room : c.self.inside.given < stm.settings.callers = omega (arith, at, c.if-self-settings.false) in
    let own = rw (← c.self.view_is) at c.requires.own in
    let table = c.split_seat-seat.ensures.3 ∙ (c.confirm.ensures.same.0 ∙ own) in
    let known = ap (λ (me : Me Unit Knowledge). me.0) c.split_seat-seat.ensures.4 in
    let safe_seat = deals_safe_seat (g.L.Law.lawful stm.law) (g.L.Law.may stm.law) (terms_in stm) stm.settings stm.table c.confirm.new.seat.me.0 c.self.inside.given (gathered_of c.self.inside.seat.me.0.whose) whose
    c.confirm.ensures.confirms c.new.result room refl in
    subst (λ (y : TableId × Knowledge). SafeSeat (g.L.Law.lawful stm.law) (g.L.Law.may stm.law) (terms_in stm) (seat_of y.0 (c.self.inside.given + 1) c.new.result y.1)) (λ i. (sym table i, sym known i)) safe_seat
