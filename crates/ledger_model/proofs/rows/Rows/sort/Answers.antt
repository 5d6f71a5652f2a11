use Rattle.std.proofs.Common.{rules, not}
use Rattle.std.proofs.lemmas.List.Sorted.{answers_always}
use Rattle.ledger_model.proofs.RowOrder.{stands_before_by_parts}
use Rattle.ledger_model.proofs.rows.Rows.sort.Goals as goal

pub returns-clause-in_order : goal.returns-clause-in_order
returns-clause-in_order c k d low high =
    rw stands_before_by_parts (c.sort_unstable_by_key.ensures.sorted (λ row. (row.position, not row.writer, row.worker, row.number)) (answers_always _ _ _ (λ f a r g called. search rules)) k d low high)
