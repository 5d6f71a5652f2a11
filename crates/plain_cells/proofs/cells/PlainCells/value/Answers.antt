use Rattle.std.proofs.Common.{◌≡◌, None, Some, is_some, nat_eq, rules, sym, ap, ◌∙◌}
use Rattle.std.specs.Map.{lookup}
use Rattle.std.proofs.lemmas.List.{get_or_read}
use Rattle.stm_model.proofs.HeapLemmas.{over_found, over_other, writes_to-lookup}
use Rattle.plain_cells.proofs.cells.PlainCells.value.Goals as goal

pub returns-in-Some : goal.returns-in-Some
returns-in-Some g c =
    let is : lookup (nat_eq c.args.addr.0) c.args.self.now.book.writes.items ≡ Some c.in-Some.value = search rules in
    sym (over_found _ _ _ _ c.requires is)

pub returns-in-None : goal.returns-in-None
returns-in-None g c =
    let writes = c.args.self.now.book.writes.items in
    let is : lookup (nat_eq c.args.addr.0) writes ≡ None = search rules in
    get_or_read c.args.self.now.heap.items _ _ c.requires c.index.ensures 0
    ∙ sym (over_other c.args.self.now.heap.items _ _ (writes_to-lookup writes c.args.addr.0 ∙ ap is_some is))
