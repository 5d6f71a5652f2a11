-- A cursor that comes to a talk comes to any that is the same, and with any more left.
use Rattle.std.proofs.Common.{◌≡◌, ℕ, ◌≤◌, Option, Result, Ok, Err, IfOk, ◌∙◌, arith}
use Rattle.ledger_model.specs.Talk.{Talk}
use Rattle.script_cursor.specs.declared.coming.End.{End}
use Rattle.script_cursor.specs.declared.cursor.Cursor.{Cursor}
use Rattle.script_cursor.specs.Steps.{Comes}

pub comes_too : {E : Type 0} (r : Result (Option End) E) (talk to : Talk) (most more : ℕ) (c : Cursor) → IfOk r (λ went. Comes talk most went c)
    → talk ≡ to → most ≤ more → IfOk r (λ went. Comes to more went c)
comes_too (Ok went) talk to most more c h same le = record { comes = h.comes ∙ same; less = let l = h.less in omega (arith, l, le) }
comes_too (Err e) talk to most more c h same le = tt
