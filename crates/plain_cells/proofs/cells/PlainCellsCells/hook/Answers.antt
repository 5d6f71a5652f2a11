use Rattle.std.proofs.Common.{◌≡◌, ◌+◌, ◌∷◌, [], length, arith, ap, ◌∙◌, length-append}
use Rattle.stm_model.specs.CellsState.{Book}
use Rattle.plain_cells.proofs.Nested.{Nest-more, WriteWords-same}
use Rattle.plain_cells.proofs.cells.PlainCellsCells.hook.Goals as goal

pub invariant_of-self : goal.invariant_of-self
invariant_of-self g c = let cells = c.args.self.now in
    let same : length c.add_hook.new.book.hooks.items ≡ length cells.book.hooks.items = ap (λ (b : Book). length b.hooks) c.in-Err.ensures.err in record {
      short = cells.short;
      words = cells.words;
      keeps_law = cells.keeps_law;
      agrees = cells.agrees;
      room = c.in-Err.ensures.room;
      depth = cells.depth;
      nested = Nest-more _ _ cells.saved.items (omega arith) cells.nested;
      written = WriteWords-same cells.book c.add_hook.new.book cells.saved.items (ap (λ (b : Book). b.writes) c.in-Err.ensures.err) cells.written;
      answer = rw c.refuse.ensures.kept tt;
    }

pub invariant_of-self-in_default-add_hook : goal.invariant_of-self-in_default-add_hook
invariant_of-self-in_default-add_hook g c = let cells = c.args.self.now in
    let more : length c.add_hook.new.book.hooks.items ≡ length cells.book.hooks.items + 1 =
    ap (λ (b : Book). length b.hooks) c.in_default-add_hook.ensures.ok ∙ length-append cells.book.hooks.items ((c.args.phase, c.args.token) ∷ []) in record {
      short = cells.short;
      words = cells.words;
      keeps_law = cells.keeps_law;
      agrees = cells.agrees;
      room = c.in_default-add_hook.ensures.room;
      depth = cells.depth;
      nested = Nest-more _ _ cells.saved.items (omega (arith, more)) cells.nested;
      written = WriteWords-same cells.book c.add_hook.new.book cells.saved.items (ap (λ (b : Book). b.writes) c.in_default-add_hook.ensures.ok) cells.written;
      answer = cells.answer;
    }
