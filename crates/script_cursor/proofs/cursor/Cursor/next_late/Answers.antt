use Rattle.std.proofs.lemmas.Option.{IfSome_then}
use Rattle.script_cursor.proofs.LateLemmas.{next_body, next_work, no_body, no_turn, none_then}
use Rattle.std.proofs.Common.{arith}
use Rattle.script_cursor.proofs.cursor.Cursor.next_late.Goals as goal

pub returns-in-Ok-clause-none : goal.returns-in-Ok-clause-none
returns-in-Ok-clause-none c =
    let h = c.in-Ok.ensures in
    none_then c.late.result _ _ (rw h.1 at c.late.ensures.none) (no_body c.args.self.now.begun c.args.self.now.own h.0)

pub returns-in-Ok-clause-some : goal.returns-in-Ok-clause-some
returns-in-Ok-clause-some c =
    let h = c.in-Ok.ensures in
    IfSome_then c.late.result (rw h.1 at c.late.ensures.some) (λ body is. next_body c.args.self.now.begun c.args.self.now.own body.now h.0 is)

pub returns-in-Ok-clause-work : goal.returns-in-Ok-clause-work
returns-in-Ok-clause-work c =
    let h = c.in-Ok.ensures in
    IfSome_then c.late.result (rw h.1 at c.late.ensures.some) (λ body is. next_work c.args.self.now.begun c.args.self.now.own.lates body.now is)

pub returns-in-Err-clause-none : goal.returns-in-Err-clause-none
returns-in-Err-clause-none c = no_turn c.args.self.now.begun c.args.self.now.own (let no = c.in-Err.ensures in omega (arith, no))
