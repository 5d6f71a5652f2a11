use Rattle.std.proofs.Common.{◌≡◌, ◌+◌, ◌%◌, ◌<◌, length, ap, ◌∙◌, arith}
use Rattle.std.proofs.Math.Nat.{mod-lt}
use Rattle.std.proofs.lemmas.Grind.{get_or_default_zero}
use Rattle.cell_index.specs.Cells.{Cells}
use Rattle.cell_index.proofs.Chains.{IsChained_push}
use Rattle.cell_index.proofs.Room.{has_heads}
use Rattle.cell_index.proofs.index.CellIndex.push.Goals as goal

pub invariant_of-self : goal.invariant_of-self
invariant_of-self c =
    let heads : length c.self.inside.heads.items ≡ 256 = has_heads _ _ _ _ (ap (λ (i : Cells). i.room) c.self.view_is) c.requires in
    let chain : c.args.address % 256 < 256 = mod-lt c.args.address (omega arith) in
    let within : c.args.address % 256 < length c.self.inside.heads.items = omega arith in
    let count : c.len.result ≡ length c.self.inside.entries.items + 1 = omega arith in
    rw (c.push_reserved.ensures.items, count)
    (IsChained_push c.self.inside.heads.items c.self.inside.entries.items c.args.address c.index-older.result.now c.self.invariant within
    (c.index-older.ensures ∙ get_or_default_zero _ _ _ within))
