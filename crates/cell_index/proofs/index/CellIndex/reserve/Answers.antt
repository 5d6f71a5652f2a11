use Rattle.std.proofs.Common.{length, refl, ◌∙◌, sym, inl, inr, arith}
use Rattle.std.proofs.lemmas.Bool.{cases_lt}
use Rattle.std.proofs.lemmas.List.{get_or_past}
use Rattle.cell_index.proofs.Chains.{IsChained_same}
use Rattle.cell_index.proofs.index.CellIndex.reserve.Goals as goal

pub invariant_of-self-in-Continue-branch-2 : goal.invariant_of-self-in-Continue-branch-2
invariant_of-self-in-Continue-branch-2 c =
    rw c.in_ok-reserve.ensures.items
    (IsChained_same c.self.inside.heads.items c.resize.new.self.items c.self.inside.entries.items
    (λ chain below. elim (cases_lt chain (length c.self.inside.heads.items)) [
      | inl less ↦ c.in_ok-resize.ensures.by_index.0 chain 0 below (omega arith)
      | inr past ↦ c.in_ok-resize.ensures.by_index.1 chain 0 refl (omega arith) below ∙ sym (get_or_past c.self.inside.heads.items chain 0 past)
    ]) c.self.invariant)
