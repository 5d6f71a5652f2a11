use Rattle.std.proofs.Common.{◌≡◌, ◌≤◌, Some}
use Rattle.script_cursor.specs.Steps.{left_by, talk_by}
use Rattle.script_cursor.proofs.cursor.Cursor.settle.Given as goal

-- what is still to come stays, and no more is left
abbrev pub invariant-loop-went : goal.invariant-loop-went
invariant-loop-went l = record {
  talk : talk_by l.went l.self ≡ talk_by (Some l.fn.end) l.fn.self;
  left : left_by l.went l.self ≤ left_by (Some l.fn.end) l.fn.self;
}

abbrev pub decreases-loop-went : goal.decreases-loop-went
decreases-loop-went l = left_by l.went l.self
