use Rattle.std.proofs.Common.{◌≡◌, length, rules, arith, ap}
use Rattle.stm_model.specs.CellsState.{Book}
use Rattle.plain_cells.proofs.Nested.{Nest-empty, WriteWords-empty}
use Rattle.plain_cells.proofs.Notes.{Agrees-empty}
use Rattle.plain_cells.proofs.cells.PlainCells.new.Goals as goal

pub invariant_of-result : goal.invariant_of-result
invariant_of-result g c =
    let hooks : length c.new-2.result.hooks.items ≡ 0 = ap (λ (b : Book). length b.hooks) c.new-2.ensures in
    let runs : length c.new-2.result.runs.items ≡ 0 = ap (λ (b : Book). length b.runs) c.new-2.ensures in record {
      short = c.requires.size;
      words = search rules;
      keeps_law = ∣ c.requires.lawful ∣₁;
      agrees = Agrees-empty c.new.result.items c.args.heap.items c.new.ensures.items;
      room = omega arith;
      depth = omega (arith, c.new-3.ensures.len);
      nested = Nest-empty _ c.new-3.result.items c.new-3.ensures.items;
      written = WriteWords-empty c.new-2.result c.new-3.result.items c.new-2.ensures c.new-3.ensures.items;
      answer = tt;
    }
