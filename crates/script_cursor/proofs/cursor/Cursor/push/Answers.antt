use Rattle.std.proofs.Common.{refl, arith}
use Rattle.script_cursor.proofs.NextLemmas.{next_push}
use Rattle.script_cursor.proofs.WorkLemmas.{frames_push}
use Rattle.script_cursor.proofs.cursor.Cursor.push.Goals as goal

pub returns-clause-next : goal.returns-clause-next
returns-clause-next c = rw (c.in_ok-push.ensures.items, next_push) refl

pub returns-clause-work : goal.returns-clause-work
returns-clause-work c = rw (c.in_ok-push.ensures.items, frames_push) (omega arith)
