use Rattle.std.proofs.Common.{◌≡◌, length, ap, arith, refl, ◌∙◌}
use Rattle.stm_model.specs.World.{cells_in}
use Rattle.stm_model.specs.declared.settings.Settings.{Settings}
use Rattle.ref_table.specs.Keyed.{stm_of}
use Rattle.ref_table.specs.Seats.{terms_in}
use Rattle.ref_table.proofs.Closing.{EndsAs, clock_read}
use Rattle.ref_table.proofs.Finishing.{all_values, ended, one_longer, one_more}
use Rattle.ref_table.proofs.stm.Stm.close.Goals as goal

pub loop-cell-preserved : goal.loop-cell-preserved
loop-cell-preserved g c =
    let stm = stm_of c.self.inside.table.shared.table_id c.self.inside.table.shared.key in
    let me = c.into_base.result.me in
    let words = c.close_with-closed.result.words.items in
    let ends : EndsAs (terms_in stm) me.0.seen words = ended (g.L.Law.lawful stm.law) (g.L.Law.may stm.law) (terms_in stm) stm.settings _ c.args.maker.given c.args.maker.gathered me words _
    c.into_base.ensures.holds c.into_base.ensures.gathered c.requires.all c.close_with-closed.ensures.values.2 in
    let callers : stm.settings.callers ≡ c.self.inside.settings.callers = ap (λ (s : Settings). s.callers) c.self.invariant.same in
    let cells : cells_in (terms_in stm) ≡ c.self.inside.cells = c.self.invariant.cells in
    record {
      same = refl;
      count = one_longer c.loop-cell.values.items c.push_reserved.new.self.items c.word.result c.loop-cell.cell c.push_reserved.ensures.items c.loop-cell.invariant.count;
      room = let capacity = c.push_reserved.ensures.capacity in let room = c.loop-cell.invariant.room in omega (arith, capacity, room);
      so_far = one_more (terms_in stm) me.0.seen words ends c.args.self.opening c.args.maker.seen (ap (λ s. s.opening) c.self.view_is) c.into_base.ensures.seen c.loop-cell.values.items c.push_reserved.new.self.items
          c.loop-cell.cell _ c.word.result (let test = c.loop-cell-test.true in omega (arith, test, cells)) (omega (arith, callers)) c.word.ensures c.loop-cell.invariant.so_far c.push_reserved.ensures.items;
    }

pub returns-clause-clock : goal.returns-clause-clock
returns-clause-clock g c =
    let stm = stm_of c.self.inside.table.shared.table_id c.self.inside.table.shared.key in
    let me = c.into_base.result.me in
    let words = c.close_with-closed.result.words.items in
    let ends : EndsAs (terms_in stm) me.0.seen words = ended (g.L.Law.lawful stm.law) (g.L.Law.may stm.law) (terms_in stm) stm.settings _ c.args.maker.given c.args.maker.gathered me words _
    c.into_base.ensures.holds c.into_base.ensures.gathered c.requires.all c.close_with-closed.ensures.values.2 in
    clock_read (terms_in stm) me.0.seen words c.word-clock.result ends c.word-clock.ensures ∙ ap length c.into_base.ensures.seen

pub returns-clause-values : goal.returns-clause-values
returns-clause-values g c =
    let stm = stm_of c.self.inside.table.shared.table_id c.self.inside.table.shared.key in
    let me = c.into_base.result.me in
    let words = c.close_with-closed.result.words.items in
    let ends : EndsAs (terms_in stm) me.0.seen words = ended (g.L.Law.lawful stm.law) (g.L.Law.may stm.law) (terms_in stm) stm.settings _ c.args.maker.given c.args.maker.gathered me words _
    c.into_base.ensures.holds c.into_base.ensures.gathered c.requires.all c.close_with-closed.ensures.values.2 in
    let cells : cells_in (terms_in stm) ≡ c.self.inside.cells = c.self.invariant.cells in
    all_values (terms_in stm) me.0.seen words ends c.args.self.opening c.args.maker.seen (ap (λ s. s.opening) c.self.view_is) c.into_base.ensures.seen c.loop-cell.values.items c.from.result c.loop-cell.cell
    (let test = c.loop-cell-test.false in let low = c.loop-cell.auto.cell-end in omega (arith, test, low, cells)) c.loop-cell.invariant.so_far c.from.ensures
